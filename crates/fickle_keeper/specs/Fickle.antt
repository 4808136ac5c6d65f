-- What the fickle keeper means.
use Rattle.std.specs.Prelude.{◌≡◌, Bool, cond, Some, None, Option}
use Rattle.rows.specs.Keys.{Key, key_of, same_key}
use Rattle.rows.specs.declared.pending.PendingRow.{PendingRow}
use Rattle.rows.specs.Meaning.{Stand, pending, free, full}
use Rattle.fickle_keeper.specs.declared.fickle.FickleKeeper.{FickleKeeper}

-- How a row stands with what is held: the row that is held is pending, and no other has a place then; while
-- nothing is held, every row has a place or none has.
abbrev pub stood : Option PendingRow → Bool → Key → Stand
stood (Some h) shut k = cond (same_key (key_of h.row) k) (pending h.state) full
stood None shut k = cond shut full free

abbrev pub stand : FickleKeeper → Key → Stand
stand t k = stood t.held t.shut k

-- A pledge finds nothing held, and leaves places as they come.
pub record Pledges (s : FickleKeeper) (k : Key) (t : FickleKeeper) : Type 0 where
  pub before : s.held ≡ None
  pub same : t.shut ≡ s.shut

-- A settling is a pledge undone.
abbrev pub Settles : FickleKeeper → Key → FickleKeeper → Type 0
Settles s k t = Pledges t k s
