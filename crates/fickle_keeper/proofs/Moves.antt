-- What a change of the row that is held does to the fickle keeper.
use Rattle.std.proofs.Common.{◌≡◌, ◌≢◌, Bool, true, cond, Some, None, Option, arith}
use Rattle.definitions.specs.declared.numbers.DeliveryState.{DeliveryState}
use Rattle.rows.specs.Keys.{Key, key_of}
use Rattle.rows.specs.declared.pending.PendingRow.{PendingRow}
use Rattle.rows.specs.Meaning.{Stand, pending, free, full, state_of, is_pending, is_free, Put}
use Rattle.rows.proofs.Keys.{same_key_tells}
use Rattle.fickle_keeper.specs.declared.fickle.FickleKeeper.{FickleKeeper}
use Rattle.fickle_keeper.specs.Fickle.{stood, stand, Pledges}

-- With nothing held, no row is pending,
pub none-state : (shut : Bool) (k : Key) → state_of (stood None shut k) ≡ None
none-state shut k = grind arith

-- the row that is held is, with its state,
here_state : (h : PendingRow) (shut : Bool) → state_of (stood (Some h) shut (key_of h.row)) ≡ Some h.state
here_state h shut = grind (arith, same_key_tells (key_of h.row) (key_of h.row))

-- and no other is.
other_state : (h : PendingRow) (shut : Bool) (j : Key) → (j ≢ key_of h.row) → state_of (stood (Some h) shut j) ≡ None
other_state h shut j n = grind (arith, same_key_tells (key_of h.row) j)

-- Where a row has a place, nothing is held.
cond_not_free : (b : Bool) (s : DeliveryState) → is_free (cond b (pending s) full) ≢ true
cond_not_free b s e = grind arith

free-none : (o : Option PendingRow) (shut : Bool) (k : Key) → is_free (stood o shut k) ≡ true → o ≡ None
free-none o shut k e = grind arith

is_free-true : (s : Stand) → is_free s ≡ true → s ≡ free
is_free-true s e = grind arith

-- Where a row is pending, no other is.
cond-pending : (b : Bool) (s : DeliveryState) → is_pending (cond b (pending s) full) ≡ true → b ≡ true
cond-pending b s e = grind arith

no_other : (o : Option PendingRow) (shut : Bool) (k : Key) → is_pending (stood o shut k) ≡ true → (j : Key) → (j ≢ k) → state_of (stood o shut j) ≡ None
no_other (Some h) shut k e j n = grind (arith, same_key_tells (key_of h.row) k, same_key_tells (key_of h.row) j)
no_other None shut k e j n = grind arith

-- One row is held now, and no other was pending.
pub held_now : (s t : FickleKeeper) (h : PendingRow) → t.held ≡ Some h → ((j : Key) → (j ≢ key_of h.row) → state_of (stand s j) ≡ None) → Put stand s (key_of h.row) (Some h.state) t
held_now s t h e none = record {
  here = grind (arith, here_state h t.shut);
  others = λ j n. grind (arith, other_state h t.shut j n, none j n);
}

-- Nothing is held now, and only k was pending.
pub let_go : (s t : FickleKeeper) (k : Key) → is_pending (stand s k) ≡ true → t.held ≡ None → Put stand s k None t
let_go s t k p e = record { here = grind arith; others = λ j n. grind (arith, no_other s.held s.shut k p j n) }

-- a pledge
pub pledged : (s t : FickleKeeper) (h : PendingRow) → is_free (stand s (key_of h.row)) ≡ true → t.held ≡ Some h → t.shut ≡ s.shut → (stand s (key_of h.row) ≡ free) × Put stand s (key_of h.row) (Some h.state) t × Pledges s (key_of h.row) t
pledged s t h f e same =
    let was = free-none s.held s.shut (key_of h.row) f in
    (is_free-true (stand s (key_of h.row)) f, held_now s t h e (λ j n. grind (arith, was)), record { before = was; same = same })

-- a note
pub noted : (s t : FickleKeeper) (h : PendingRow) → is_pending (stand s (key_of h.row)) ≡ true → t.held ≡ Some h → Put stand s (key_of h.row) (Some h.state) t
noted s t h p e = held_now s t h e (no_other s.held s.shut (key_of h.row) p)
