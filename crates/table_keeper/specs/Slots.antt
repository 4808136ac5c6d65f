-- The slots of a table: pending rows, each known by its key.
use Rattle.std.specs.Prelude.{ℕ, Bool, not, List, AllPairs, map, filter, find, Option, ◌==◌, ◌≢◌}
use Rattle.std.specs.Option.{option_map}
use Rattle.definitions.specs.declared.numbers.DeliveryState.{DeliveryState}
use Rattle.rows.specs.Keys.{Key, key_of, same_key}
use Rattle.rows.specs.declared.pending.PendingRow.{PendingRow}

abbrev pub key_in : PendingRow → Key
key_in x = key_of x.row

abbrev pub keys_in : List PendingRow → List Key
keys_in xs = map key_in xs

-- No key is in the list twice.
abbrev pub Distinct : List Key → Type 0
Distinct ks = AllPairs (λ j k. j ≢ k) ks

-- whether the slot is of the row k
abbrev pub is_of : Key → PendingRow → Bool
is_of k x = same_key (key_in x) k

-- the state in the slot of the row k
abbrev pub state_in : Key → List PendingRow → Option DeliveryState
state_in k xs = option_map (λ x. x.state) (find (is_of k) xs)

-- the slots that are not of the link l, in their order
abbrev pub off_link : ℕ → List PendingRow → List PendingRow
off_link l xs = filter (λ x. not ((key_in x).link == l)) xs
