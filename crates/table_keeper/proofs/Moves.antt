-- What a change of its slots does to a table as a keeper.
use Rattle.std.proofs.Common.{◌≡◌, ◌≢◌, ℕ, ◌+◌, ◌<◌, ◌≤◌, Bool, true, false, cond, eqb, List, [], ◌∷◌, ◌++◌, get_or, set, is_some, Some, None, Option, sym, refl, ap, ◌∙◌, arith}
use Rattle.std.specs.List.{position, remove}
use Rattle.std.specs.Set.{is_member}
use Rattle.definitions.specs.declared.numbers.DeliveryState.{DeliveryState}
use Rattle.rows.specs.Keys.{Key, same_key}
use Rattle.rows.specs.Meaning.{free, state_of, is_pending, is_free, is_full, Put, Close}
use Rattle.rows.specs.declared.pending.PendingRow.{PendingRow}
use Rattle.rows.proofs.Keys.{same_key_tells}
use Rattle.rows.proofs.Rows.{Found, found_has, lookup_at, lookup_push, lookup_removed, lookup-set}
use Rattle.table_keeper.specs.declared.table.TableKeeper.{TableKeeper}
use Rattle.table_keeper.specs.Slots.{key_in, keys_in, is_of, state_in, off_link}
use Rattle.table_keeper.specs.Table.{slots_of, held, size, stood, stand, Pledges, Settles}
use Rattle.table_keeper.proofs.Slots.{its_state, none, found, member_is, filtered}

-- The state of a row is what is held of it,
state-stood : (o : Option DeliveryState) (room : Bool) → state_of (stood o room) ≡ o
state-stood (Some v) room = refl
state-stood None true = refl
state-stood None false = refl

pending-stood : (o : Option DeliveryState) (room : Bool) → is_pending (stood o room) ≡ is_some o
pending-stood o room = grind arith

free-stood : (o : Option DeliveryState) (room : Bool) → is_free (stood o room) ≡ true → (stood o room ≡ free) × (o ≡ None) × (room ≡ true)
free-stood o room e = (grind arith, grind arith, grind arith)

state-held : (s : TableKeeper) (k : Key) → state_of (stand s k) ≡ held s k
state-held s k = state-stood (held s k) _

-- that is, what its slot says.
pub state_found : (s : TableKeeper) (k : Key) (i : ℕ) (x : PendingRow) → Found key_in k (slots_of s) i → x ≡ get_or (slots_of s) i x → state_of (stand s k) ≡ Some x.state
state_found s k i x f r = state-held s k ∙ lookup_at key_in its_state k (slots_of s) i x s.apart f r

-- Exactly the rows that are held are pending, and these have a slot.
pub pending-held : (s : TableKeeper) (k : Key) → is_pending (stand s k) ≡ is_some (held s k)
pending-held s k = pending-stood (held s k) _

pub pending-has : (s : TableKeeper) (k : Key) → is_pending (stand s k) ≡ is_member same_key (keys_in (slots_of s)) k
pending-has s k = pending-held s k ∙ sym (member_is k (slots_of s))

pub pending_found : (s : TableKeeper) (k : Key) (i : ℕ) → Found key_in k (slots_of s) i → is_pending (stand s k) ≡ true
pending_found s k i f = pending-has s k ∙ found_has key_in k (slots_of s) i f

pub found_pending : (s : TableKeeper) (k : Key) (i : ℕ) (d : PendingRow) → position (is_of k) (slots_of s) ≡ Some i → is_pending (stand s k) ≡ true
found_pending s k i d e = pending-held s k ∙ ap is_some (found k (slots_of s) i d e).2

-- t holds what s does, but of k, of which it holds v.
abbrev Updated : TableKeeper → Key → Option DeliveryState → TableKeeper → Type 0
Updated s k v t = (j : Key) → held t j ≡ cond (same_key j k) v (held s j)

here : (s t : TableKeeper) (k : Key) (v : Option DeliveryState) → Updated s k v t → held t k ≡ v
here s t k v u = grind (arith, u k, same_key_tells)

others : (s t : TableKeeper) (k : Key) (v : Option DeliveryState) → Updated s k v t → (j : Key) → (j ≢ k) → held t j ≡ held s j
others s t k v u j n = grind (arith, u j, same_key_tells)

put : (s t : TableKeeper) (k : Key) (v : Option DeliveryState) → Updated s k v t → Put stand s k v t
put s t k v u = record {
  here = state-held t k ∙ here s t k v u;
  others = λ j n. state-held t j ∙ others s t k v u j n ∙ sym (state-held s j);
}

-- A row without a slot is not pending. It has a place while there are fewer than 256 slots, and has none when there are as many.
pub not_pending : (s : TableKeeper) (k : Key) → position (is_of k) (slots_of s) ≡ None → is_pending (stand s k) ≡ false
not_pending s k e = pending-held s k ∙ ap is_some (none k (slots_of s) e)

pub free_from : (s : TableKeeper) (k : Key) → held s k ≡ None → size s < 256 → is_free (stand s k) ≡ true
free_from s k e h = grind (arith, e)

pub full_from : (s : TableKeeper) (k : Key) → held s k ≡ None → 256 ≤ size s → is_full (stand s k) ≡ true
full_from s k e h = grind (arith, e)

-- A row that has a place is not held, and there is room.
pub free_parts : (s : TableKeeper) (k : Key) → is_free (stand s k) ≡ true → (stand s k ≡ free) × (held s k ≡ None) × (size s < 256)
free_parts s k e = (grind arith, grind arith, grind arith)

pub free_new : (s : TableKeeper) (k : Key) → is_free (stand s k) ≡ true → is_member same_key (keys_in (slots_of s)) k ≡ false
free_new s k e = member_is k (slots_of s) ∙ ap is_some (free_parts s k e).1

pub free_few : (s : TableKeeper) (k : Key) → is_free (stand s k) ≡ true → size s < 256
free_few s k e = (free_parts s k e).2

-- one slot more, of a row that has a place
pub pledged : (s t : TableKeeper) (x : PendingRow) → is_free (stand s (key_in x)) ≡ true → slots_of t ≡ slots_of s ++ x ∷ [] → size t ≡ size s + 1 → (stand s (key_in x) ≡ free) × Put stand s (key_in x) (Some x.state) t × Pledges s (key_in x) t
pledged s t x e q n =
    let f = free_parts s (key_in x) e in
    let u : Updated s (key_in x) (Some x.state) t = λ j. ap (state_in j) q ∙ lookup_push key_in its_state j (slots_of s) x (free_new s (key_in x) e) in
    (f.0, put s t (key_in x) (Some x.state) u, record { before = f.1; others = others s t (key_in x) (Some x.state) u; more = n })

-- the row's slot less
pub settled : (s t : TableKeeper) (k : Key) (i : ℕ) → Found key_in k (slots_of s) i → slots_of t ≡ remove (slots_of s) i → size t + 1 ≡ size s → (is_pending (stand s k) ≡ true) × Put stand s k None t × Settles s k t
settled s t k i f q n =
    let u : Updated s k None t = λ j. ap (state_in j) q ∙ lookup_removed key_in its_state j k (slots_of s) i s.apart f in
    (pending_found s k i f, put s t k None u, record { before = here s t k None u; others = λ j a. sym (others s t k None u j a); more = sym n })

-- another state in the row's slot
pub noted : (s t : TableKeeper) (k : Key) (i : ℕ) (y : PendingRow) → Found key_in k (slots_of s) i → k ≡ key_in y → slots_of t ≡ set (slots_of s) i y → (is_pending (stand s k) ≡ true) × Put stand s k (Some y.state) t
noted s t k i y f e q =
    let u : Updated s k (Some y.state) t = λ j. ap (state_in j) q ∙ lookup-set key_in its_state j k (slots_of s) i y s.apart f e in
    (pending_found s k i f, put s t k (Some y.state) u)

-- the slots of the other links, as a list and as a table
pub closed : (s : TableKeeper) (l : ℕ) (ys : List PendingRow) (room : Bool) → ys ≡ off_link l (slots_of s) → (j : Key) → state_of (stood (state_in j ys) room) ≡ cond (eqb j.link l) None (state_of (stand s j))
closed s l ys room q j = state-stood (state_in j ys) room ∙ ap (state_in j) q ∙ filtered j l (slots_of s) ∙ ap (cond (eqb j.link l) None) (sym (state-held s j))

pub closed_table : (s t : TableKeeper) (l : ℕ) → slots_of t ≡ off_link l (slots_of s) → Close stand s l t
closed_table s t l q = closed s l (slots_of t) _ q
