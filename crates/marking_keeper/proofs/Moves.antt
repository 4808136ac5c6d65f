-- What a change of the records does to how rows stand.
use Rattle.std.proofs.Common.{◌≡◌, ◌≢◌, ℕ, ◌+◌, ◌<◌, Bool, true, false, cond, eqb, List, ◌++◌, map, length, get_or, take, drop, set, Some, None, Option, is_some, sym, refl, ap, ◌∙◌, arith}
use Rattle.std.specs.List.{find, position, slice_get}
use Rattle.std.specs.Option.{option_map}
use Rattle.std.proofs.lemmas.Bool.{both_ways}
use Rattle.std.proofs.lemmas.Bool.Decides.{nat_tests}
use Rattle.std.proofs.lemmas.Option.{get_or_from_slice_get}
use Rattle.definitions.specs.declared.numbers.DeliveryState.{DeliveryState}
use Rattle.definitions.specs.declared.numbers.DeliveryState.TheVariants.{None as NoState}
use Rattle.rows.specs.Keys.{Key}
use Rattle.rows.specs.Meaning.{free, full, standing, state_of, is_pending, is_free, Put, Settle, Note}
use Rattle.rows.specs.declared.answers.Standing.{Standing}
use Rattle.rows.specs.declared.answers.Standing.TheVariants.{Pending, Place, Neither}
use Rattle.rows.proofs.Finds.{find_nowhere, find_first, find_passes}
use Rattle.marking_keeper.specs.declared.record.Record.{Record}
use Rattle.marking_keeper.specs.declared.marking.MarkingKeeper.{MarkingKeeper}
use Rattle.marking_keeper.specs.Records.{naming, marked, unmarked, remarked, closed_on}
use Rattle.marking_keeper.specs.Marking.{held, by_mark, by_first, stand, Rule, Pledges, Settles}
use Rattle.marking_keeper.specs.Restores.{same_from}
use Rattle.marking_keeper.proofs.Changes.{find-map, find-changed, find_other}
use Rattle.marking_keeper.proofs.Loops.{Over, over_more}
use Rattle.marking_keeper.proofs.Naming.{naming-link, naming_one, naming-closed}

-- A row that is pending, or has a place, is named.
pub pending_named : (o : Option Record) → is_pending (by_first o) ≡ true → (x : Record) × (o ≡ Some x)
pending_named (Some x) e = (x, refl)
pending_named None e = absurd (both_ways false refl e)

pub free_named : (o : Option Record) → is_free (by_first o) ≡ true → (x : Record) × (o ≡ Some x)
free_named (Some x) e = (x, refl)
free_named None e = absurd (both_ways false refl e)

-- Where all marks are cleared nothing is pending.
pub cleared : (xs ys : List Record) → ys ≡ map unmarked xs → (k : Key) → is_pending (by_first (find (naming k) ys)) ≡ false
cleared xs ys e k = grind (arith, find-map (naming k) unmarked (λ x. refl) xs)

-- A row stands by the record that is found first.
pub stand_found : (s : MarkingKeeper) (k : Key) (i : ℕ) → position (naming k) (held s) ≡ Some i → (d : Record) → stand s k ≡ by_mark (get_or (held s) i d).mark
stand_found s k i e d = let (x, g, f) = find_first (naming k) (held s) i e in ap by_first f ∙ ap (λ (y : Record). by_mark y.mark) (sym (get_or_from_slice_get (held s) i x d g))

pub stand_nowhere : (s : MarkingKeeper) (k : Key) → position (naming k) (held s) ≡ None → stand s k ≡ full
stand_nowhere s k e = ap by_first (find_nowhere (naming k) (held s) e)

-- The mark that is read at its place is its mark, and the row's state.
pub mark_found : (xs : List Record) (i : ℕ) (d x : Record) → slice_get xs i ≡ Some x → x.mark ≡ (get_or xs i d).mark
mark_found xs i d x g = ap (λ (y : Record). y.mark) (sym (get_or_from_slice_get xs i x d g))

pub state_found : (s : MarkingKeeper) (k : Key) (i : ℕ) (d : Record) → position (naming k) (held s) ≡ Some i → (get_or (held s) i d).mark ≡ state_of (stand s k)
state_found s k i d e = grind (arith, stand_found s k i e d)

-- The answer that is given at a row's standing is the one by places.
ruled : (s : MarkingKeeper) (k : Key) (o : Option ℕ) → position (naming k) (held s) ≡ o → (r : Standing) → (standing r).given (stand s k) ≡ true → Rule k (held s) r
ruled s k None e Pending h = absurd (grind (arith, stand_nowhere s k e))
ruled s k None e Place h = absurd (grind (arith, stand_nowhere s k e))
ruled s k None e Neither h = e
ruled s k (Some i) e Pending h = let (x, g, f) = find_first (naming k) (held s) i e in (i, x, e, g, grind (arith, f))
ruled s k (Some i) e Place h = let (x, g, f) = find_first (naming k) (held s) i e in (i, x, e, g, grind (arith, f))
ruled s k (Some i) e Neither h = let (x, g, f) = find_first (naming k) (held s) i e in absurd (grind (arith, f))

-- what `ask` ensures of its answer
abbrev pub Told : MarkingKeeper → Key → Standing → Type 0
Told s k r = record { stands : (standing r).given (stand s k) ≡ true; place : Rule k (held s) r }

pub told : (s : MarkingKeeper) (k : Key) (r : Standing) → (standing r).given (stand s k) ≡ true → Told s k r
told s k r h = record { stands = h; place = ruled s k (position (naming k) (held s)) refl r h }

-- A new mark on the first record that names a row is that row's state, and no other's.
put : (s t : MarkingKeeper) (k : Key) (m : Option DeliveryState) → held t ≡ remarked k m (held s) → is_some (find (naming k) (held s)) ≡ true → Put stand s k m t
put s t k m e f = record {
  here = grind (arith, find-changed (naming k) (marked m) (λ y. refl) (held s));
  others = λ j n. grind (arith, find_other (naming k) (naming j) (marked m) (λ y h. (naming_one j k y n h, naming_one j k y n h)) (held s));
}

pub put_from : (s t : MarkingKeeper) (k : Key) (m : Option DeliveryState) (x : Record) → find (naming k) (held s) ≡ Some x → held t ≡ remarked k m (held s) → Put stand s k m t
put_from s t k m x f e = put s t k m e (ap is_some f)

pub pledged : (s t : MarkingKeeper) (k : Key) → stand s k ≡ free → held t ≡ remarked k (Some NoState) (held s) → (stand s k ≡ free) × Put stand s k (Some NoState) t × Pledges s k t
pledged s t k f e = (f, put s t k (Some NoState) e (grind arith), record { place = f; marks = e })

pub settled : (s t : MarkingKeeper) (k : Key) (r : Bool) → r ≡ is_pending (stand s k) → held t ≡ cond r (remarked k None (held s)) (held s) → Settle stand Settles s k r t
settled s t k true p e = (sym p, put s t k None e (grind arith), e)
settled s t k false p e = (sym p, same_from s t e)

pub noted : (s t : MarkingKeeper) (k : Key) (v : DeliveryState) (r : Bool) → r ≡ is_pending (stand s k) → held t ≡ cond r (remarked k (Some v) (held s)) (held s) → Note stand s k v r t
noted s t k v true p e = (sym p, put s t k (Some v) e (grind arith))
noted s t k v false p e = (sym p, same_from s t e)

-- A record of the link loses its mark, and another stays.
pub closes : (l : ℕ) (x : Record) → x.link ≡ l → unmarked x ≡ closed_on l x
closes l x e = grind (arith, nat_tests)

pub stays : (l : ℕ) (x : Record) → (x.link ≢ l) → x ≡ closed_on l x
stays l x n = grind (arith, nat_tests)

-- a loop that clears the marks of a link's records: this record is of the link, or is of another
pub closed-more : (l : ℕ) (xs ys : List Record) (i : ℕ) (d : Record) → i < length xs → i < length ys → (get_or ys i d).link ≡ l → Over (closed_on l) xs ys i → set ys i (unmarked (get_or ys i d)) ≡ map (closed_on l) (take (i + 1) xs) ++ drop (i + 1) xs
closed-more l xs ys i d h n e o = over_more (closed_on l) xs ys i d _ (closes l (get_or ys i d) e) h n o

pub closed_skip : (l : ℕ) (xs ys : List Record) (i : ℕ) (d : Record) → i < length xs → i < length ys → ((get_or ys i d).link ≢ l) → Over (closed_on l) xs ys i → set ys i (get_or ys i d) ≡ map (closed_on l) (take (i + 1) xs) ++ drop (i + 1) xs
closed_skip l xs ys i d h n a o = over_more (closed_on l) xs ys i d _ (stays l (get_or ys i d) a) h n o

closed-found : (j : Key) (l : ℕ) (o : Option Record) → ((x : Record) → o ≡ Some x → naming j x ≡ true) → state_of (by_first (option_map (closed_on l) o)) ≡ cond (eqb j.link l) None (state_of (by_first o))
closed-found j l None h = grind arith
closed-found j l (Some x) h = grind (arith, naming-link j x (h x refl))

-- The rows of a link go with the marks of its records.
pub closed : (l : ℕ) (xs ys : List Record) → ys ≡ map (closed_on l) xs → (j : Key) → state_of (by_first (find (naming j) ys)) ≡ cond (eqb j.link l) None (state_of (by_first (find (naming j) xs)))
closed l xs ys e j =
    ap (λ zs. state_of (by_first (find (naming j) zs))) e
    ∙ ap (λ o. state_of (by_first o)) (find-map (naming j) (closed_on l) (naming-closed j l) xs)
    ∙ closed-found j l (find (naming j) xs) (find_passes (naming j) xs)
