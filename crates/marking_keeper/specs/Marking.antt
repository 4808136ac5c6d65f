-- How a row stands with a marking keeper.
use Rattle.std.specs.Prelude.{◌≡◌, ℕ, Bool, true, if◌then◌else◌, List, is_some, slice_get, Some, None, Option, find, position}
use Rattle.definitions.specs.declared.numbers.DeliveryState.{DeliveryState}
use Rattle.definitions.specs.declared.numbers.DeliveryState.TheVariants.{None as NoState}
use Rattle.rows.specs.Keys.{Key}
use Rattle.rows.specs.Meaning.{Stand, pending, free, full}
use Rattle.rows.specs.declared.answers.Standing.{Standing}
use Rattle.rows.specs.declared.answers.Standing.TheVariants.{Pending, Place, Neither}
use Rattle.marking_keeper.specs.declared.record.Record.{Record}
use Rattle.marking_keeper.specs.declared.marking.MarkingKeeper.{MarkingKeeper}
use Rattle.marking_keeper.specs.Records.{naming, remarked}

-- the records as they stand
abbrev pub held : MarkingKeeper → List Record
held m = m.records.now

-- By the mark of the record that may bear one: a mark is a pending row's state, and no mark leaves the place free.
abbrev pub by_mark : Option DeliveryState → Stand
by_mark (Some s) = pending s
by_mark None = free

-- By the first record that names the row; where none does, there is no place.
abbrev pub by_first : Option Record → Stand
by_first (Some x) = by_mark x.mark
by_first None = full

abbrev pub stand : MarkingKeeper → Key → Stand
stand m k = by_first (find (naming k) (held m))

-- The rule of places, by places in the list: a row is pending if the first record that names it bears a mark, has a
-- place if that record bears none, and has neither if no record names it. Just one of the three holds of a row, so each
-- 'if' is an 'exactly if'.
abbrev pub Rule : Key → List Record → Standing → Type 0
Rule k xs Pending = (i : ℕ) × (x : Record) × (position (naming k) xs ≡ Some i) × (slice_get xs i ≡ Some x) × (is_some x.mark ≡ true)
Rule k xs Place = (i : ℕ) × (x : Record) × (position (naming k) xs ≡ Some i) × (slice_get xs i ≡ Some x) × (x.mark ≡ None)
Rule k xs Neither = position (naming k) xs ≡ None

-- A pledge marks the row, which had a place; a settling clears its mark. Nothing else changes.
pub record Pledges (s : MarkingKeeper) (k : Key) (t : MarkingKeeper) : Type 0 where
  pub place : stand s k ≡ free
  pub marks : held t ≡ remarked k (Some NoState) (held s)

abbrev pub Settles : MarkingKeeper → Key → MarkingKeeper → Type 0
Settles s k t = held t ≡ remarked k None (held s)

-- The row gets the mark, or loses it, where the call did something; else nothing changes.
abbrev pub Remarks : Key → Option DeliveryState → Bool → MarkingKeeper → MarkingKeeper → Type 0
Remarks k mark done s t = held t ≡ (if done then remarked k mark (held s) else held s)

-- The records of s and of t are one loan, so their owner knows them after t.
abbrev pub SameLoan : MarkingKeeper → MarkingKeeper → Type 0
SameLoan s t = t.records.ghost_name ≡ s.records.ghost_name
