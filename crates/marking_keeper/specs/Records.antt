-- Which row a record names, and what the calls of a keeper change in records.
use Rattle.std.specs.Prelude.{ℕ, Bool, cond, ◌&&◌, List, [], ◌∷◌, None, Option, ◌==◌, nat_le}
use Rattle.definitions.specs.declared.numbers.DeliveryState.{DeliveryState}
use Rattle.names.specs.Octets.{bytes_in}
use Rattle.rows.specs.Keys.{Key, same_key}
use Rattle.marking_keeper.specs.declared.record.Record.{Record}

-- what the record has of a row
abbrev pub key_in : Record → Key
key_in x = record { link = x.link; tag = bytes_in x.tag }

-- Whether the record names the row: it has the row's link number and the bytes of its tag. A link number above 63,
-- and a tag of more than 32 bytes, are no row's.
abbrev pub naming : Key → Record → Bool
naming k x = nat_le x.link 63 && nat_le x.tag.len 32 && same_key (key_in x) k

-- the record with the mark m, and else as it is
abbrev pub marked : Option DeliveryState → Record → Record
marked m x = record { link = x.link; tag = x.tag; mark = m }

abbrev pub unmarked : Record → Record
unmarked = marked None

-- the list with f x in place of the first x that passes the test, and nothing else changed
abbrev pub changed : {X : Type 0} → (X → Bool) → (X → X) → List X → List X
changed test f [] = []
changed test f (x ∷ xs) = cond (test x) (f x ∷ xs) (x ∷ changed test f xs)

-- the records with the mark m on the first that names the row, and else as they are
abbrev pub remarked : Key → Option DeliveryState → List Record → List Record
remarked k m = changed (naming k) (marked m)

-- the record without its mark if it is of the link l, and else as it is
abbrev pub closed_on : ℕ → Record → Record
closed_on l x = cond (x.link == l) (unmarked x) x
