-- What an edit of a table's slots does to its rows.
use Rattle.std.proofs.Common.{◌≡◌, ℕ, not, ◌<◌, cond, eqb, List, [], ◌∷◌, ◌++◌, length, get_or, set, Some, None, is_some, sym, ap, ◌∙◌, arith}
use Rattle.std.specs.List.{position, remove}
use Rattle.std.specs.Set.{is_member}
use Rattle.definitions.specs.declared.numbers.DeliveryState.{DeliveryState}
use Rattle.rows.specs.Keys.{Key, same_key}
use Rattle.rows.specs.declared.pending.PendingRow.{PendingRow}
use Rattle.rows.proofs.Finds.{find_nowhere}
use Rattle.rows.proofs.Keys.{same_key-Decides, same_key-laws}
use Rattle.rows.proofs.Rows.{found_first, distinct_push, distinct_removed, distinct-filter, lookup-has, lookup_first, lookup_push, lookup_set_first, lookup_removed, lookup_off_link}
use Rattle.table_keeper.specs.Slots.{key_in, keys_in, Distinct, is_of, state_in, off_link}

-- the state of a slot
abbrev pub its_state : PendingRow → DeliveryState
its_state x = x.state

-- Where no slot is of the row, it has no state.
pub none : (k : Key) (xs : List PendingRow) → position (is_of k) xs ≡ None → state_in k xs ≡ None
none k xs e = grind (arith, find_nowhere (is_of k) xs e)

-- The first slot that is has its state.
pub found : (k : Key) (xs : List PendingRow) (i : ℕ) (d : PendingRow) → position (is_of k) xs ≡ Some i → (i < length xs) × (key_in (get_or xs i d) ≡ k) × (state_in k xs ≡ Some (get_or xs i d).state)
found k xs i d e =
    let f = found_first key_in k xs i e in
    (f.within, sym ((same_key-Decides k (key_in (get_or xs i d))).0 (f.here d)), lookup_first key_in its_state k xs i d e)

-- Exactly the rows that have a slot have a state.
pub member_is : (k : Key) (xs : List PendingRow) → is_member same_key (keys_in xs) k ≡ is_some (state_in k xs)
member_is k xs = sym (lookup-has key_in its_state k xs)

-- one slot more, of a row that had none
pub pushed : (j : Key) (xs : List PendingRow) (x : PendingRow) → state_in (key_in x) xs ≡ None → state_in j (xs ++ x ∷ []) ≡ cond (is_of j x) (Some x.state) (state_in j xs)
pushed j xs x e = lookup_push key_in its_state j xs x (member_is (key_in x) xs ∙ ap is_some e) ∙ ap (λ b. cond b (Some x.state) (state_in j xs)) (same_key-laws.symm j (key_in x))

-- another slot of the same row
pub replaced : (j k : Key) (xs : List PendingRow) (i : ℕ) (y : PendingRow) → position (is_of k) xs ≡ Some i → key_in y ≡ k → state_in j (set xs i y) ≡ cond (same_key k j) (Some y.state) (state_in j xs)
replaced j k xs i y e f = lookup_set_first key_in its_state j k xs i y e (sym f) ∙ ap (λ b. cond b (Some y.state) (state_in j xs)) (same_key-laws.symm j k)

-- one slot less
pub removed : (j k : Key) (xs : List PendingRow) (i : ℕ) (d : PendingRow) → Distinct (keys_in xs) → position (is_of k) xs ≡ Some i → state_in j (remove xs i) ≡ cond (same_key k j) None (state_in j xs)
removed j k xs i d apart e = lookup_removed key_in its_state j k xs i apart (found_first key_in k xs i e) ∙ ap (λ b. cond b None (state_in j xs)) (same_key-laws.symm j k)

pub filtered : (j : Key) (l : ℕ) (xs : List PendingRow) → state_in j (off_link l xs) ≡ cond (eqb j.link l) None (state_in j xs)
filtered j l xs = lookup_off_link key_in its_state j l xs

-- The slots are of different rows after each edit too.
pub apart-push : (xs : List PendingRow) (x : PendingRow) → Distinct (keys_in xs) → state_in (key_in x) xs ≡ None → Distinct (keys_in (xs ++ x ∷ []))
apart-push xs x apart e = distinct_push key_in xs x apart (member_is (key_in x) xs ∙ ap is_some e)

pub apart-remove : (xs : List PendingRow) (i : ℕ) → i < length xs → Distinct (keys_in xs) → Distinct (keys_in (remove xs i))
apart-remove xs i h apart = distinct_removed key_in xs i apart

pub apart-off_link : (l : ℕ) (xs : List PendingRow) → Distinct (keys_in xs) → Distinct (keys_in (off_link l xs))
apart-off_link l xs apart = distinct-filter key_in (λ k. not (eqb k.link l)) xs apart
