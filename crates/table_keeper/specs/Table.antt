-- What a table means as a keeper.
use Rattle.std.specs.Prelude.{◌≡◌, ℕ, ◌+◌, Bool, true, false, List, Some, None, vec_items, vec_len, Option, ◌≢◌, nat_lt}
use Rattle.definitions.specs.declared.numbers.DeliveryState.{DeliveryState}
use Rattle.rows.specs.Keys.{Key}
use Rattle.rows.specs.Meaning.{Stand, pending, free, full}
use Rattle.rows.specs.declared.pending.PendingRow.{PendingRow}
use Rattle.table_keeper.specs.declared.table.TableKeeper.{TableKeeper}
use Rattle.table_keeper.specs.Slots.{state_in}

abbrev pub slots_of : TableKeeper → List PendingRow
slots_of t = vec_items t.slots

-- how many slots the table has
abbrev pub size : TableKeeper → ℕ
size t = vec_len t.slots

-- the state in the slot of the row
abbrev pub held : TableKeeper → Key → Option DeliveryState
held t k = state_in k (slots_of t)

-- A row with a slot is pending; one without has a place, if there is room for one more.
abbrev pub stood : Option DeliveryState → Bool → Stand
stood (Some s) room = pending s
stood None true = free
stood None false = full

-- There is room while fewer than 256 rows have a slot.
abbrev pub stand : TableKeeper → Key → Stand
stand t k = stood (held t k) (nat_lt (size t) 256)

-- The row is one that s has not, and t has one slot more than s, with nothing changed for the other rows.
pub record Pledges (s : TableKeeper) (k : Key) (t : TableKeeper) : Type 0 where
  pub before : held s k ≡ None
  pub others : (j : Key) → (j ≢ k) → held t j ≡ held s j
  pub more : size t ≡ size s + 1

-- A settling is a pledge undone.
abbrev pub Settles : TableKeeper → Key → TableKeeper → Type 0
Settles s k t = Pledges t k s
