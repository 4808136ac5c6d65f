-- What row memory holds.
use Rattle.std.specs.Prelude.{◌≡◌, ℕ, ◌+◌, Bool, false, not, ◌&&◌, List, [], ◌∷◌, ◌++◌, length, take, drop, Some, None, vec_items, Option, option_and_then, nat_le, nat_lt, find, reverse}
use Rattle.std.specs.Bool.{then_some}
use Rattle.std.specs.Option.{option_map}
use Rattle.std.specs.Str.{bytes_eq}
use Rattle.frames.specs.declared.session.Payload.{Payload}
use Rattle.rows.specs.declared.row.Row.{Row}
use Rattle.rows.specs.Keys.{Key, key_of, same_key}
use Rattle.outbox.specs.declared.memory.RowMemory.{RowMemory}
use Rattle.outbox.specs.declared.memory.RowValue.{RowValue}

-- the text of all values, one after the other
abbrev pub text_in : RowMemory → List ℕ
text_in m = vec_items m.text

-- which row has which value, the oldest first
abbrev pub values_in : RowMemory → List RowValue
values_in m = vec_items m.values

pub record Empty (m : RowMemory) (size most : ℕ) : Type 0 where
  pub text : text_in m ≡ []
  pub values : values_in m ≡ []
  pub bytes : m.size ≡ size
  pub count : m.most ≡ most

-- whether one more value, of n bytes, has room
abbrev pub fits : RowMemory → ℕ → Bool
fits m n = nat_le (length (text_in m) + n) m.size && nat_lt (length (values_in m)) m.most

-- where a value of n bytes would be written
abbrev pub room_for : RowMemory → ℕ → Option Payload
room_for m n = then_some (fits m n) (record { place = length (text_in m); len = n })

-- the bytes that a payload names in a text, if they are all there
abbrev pub part_of : List ℕ → Payload → Option (List ℕ)
part_of text p = then_some (nat_le (p.place + p.len) (length text)) (take p.len (drop p.place text))

-- where the newest value of the row lies
abbrev pub place_of : Key → List RowValue → Option Payload
place_of k vs = option_map (λ v. v.payload) (find (λ v. same_key (key_of v.row) k) (reverse vs))

-- the row's value
abbrev pub value_of : RowMemory → Key → Option (List ℕ)
value_of m k = option_and_then (part_of (text_in m)) (place_of k (values_in m))

-- whether there is a value, and it is another text
abbrev pub is_other : Option (List ℕ) → List ℕ → Bool
is_other (Some value) text = not (bytes_eq value text)
is_other None text = false

-- n has one value more than m, with its text behind the others.
pub record Wrote (m : RowMemory) (row : Row) (text : List ℕ) (p : Payload) (n : RowMemory) : Type 0 where
  pub texts : text_in n ≡ text_in m ++ text
  pub values : values_in n ≡ values_in m ++ record { row = row; payload = p } ∷ []
  pub size : n.size ≡ m.size
  pub most : n.most ≡ m.most

-- A value is written where it has room; else nothing is.
abbrev pub Written : RowMemory → Row → List ℕ → Option Payload → RowMemory → Type 0
Written m row text (Some p) n = (room_for m (length text) ≡ Some p) × Wrote m row text p n
Written m row text None n = (room_for m (length text) ≡ None) × (n ≡ m)
