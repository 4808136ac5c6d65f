-- The facts that a handle table keeps, when a handle is given or freed.
use Rattle.std.proofs.Common.{◌≡◌, ◌≢◌, ℕ, ◌+◌, ◌<◌, true, false, cond, List, [], ◌∷◌, ◌++◌, length, set, get_or, option_to_list, Some, None, Option, sym, refl, ap, ◌∙◌, subst, arith, rules}
use Rattle.std.specs.Cmp.{IsEquivalence}
use Rattle.std.specs.Cmp.Rules.{comparing}
use Rattle.std.specs.List.{All, AllPairs, list_any}
use Rattle.std.proofs.lemmas.Bool.{both_ways, false_from_ne_true}
use Rattle.std.proofs.lemmas.List.{length-set, length_push, get_or_append_left, get_or_push, get_or-set_same, get_or-set_other, get_or_past}
use Rattle.std.proofs.lemmas.List.Elements.{All-push}
use Rattle.std.proofs.lemmas.List.Folds.{list_any_at}
use Rattle.std.proofs.lemmas.List.Quantifiers.{all_pairs_push}
use Rattle.std.proofs.lemmas.List.Sums.{sum_by-set}
use Rattle.names.specs.declared.octets.Octets.{Octets}
use Rattle.names.specs.Octets.{same_octets}
use Rattle.definitions.specs.declared.numbers.OutputHandle.{OutputHandle}
use Rattle.links.specs.declared.handle.HandleEntry.{HandleEntry}
use Rattle.links.specs.Handles.{unused, handle_at, in_use, bears_name, used_in, restated, IsVacant, same_name}
use Rattle.links.proofs.Tables.{count_some}

-- No handle is there twice; no name is in use twice.
abbrev pub Once : List OutputHandle → Type 0
Once vs = AllPairs (λ g h. g.0 ≢ h.0) vs

abbrev pub Distinct : List HandleEntry → Type 0
Distinct es = AllPairs (λ e f. same_name e f ≡ false) es

names_equal : IsEquivalence (same_octets {m = 64} {n = 64})
names_equal = search (comparing, rules)

flip_names : (e f : HandleEntry) → same_name e f ≡ same_name f e
flip_names e f = go e.name f.name
  where
    go : (m n : Option (Octets 64)) → same_name (restated m e) (restated n f) ≡ same_name (restated n f) (restated m e)
    go None None = refl
    go None (Some n) = refl
    go (Some m) None = refl
    go (Some m) (Some n) = names_equal.symm n m

-- What was popped stood last.
pub popped : {X : Type 0} (vs us : List X) (o : Option X) (h : X) → vs ≡ us ++ option_to_list o → o ≡ Some h → vs ≡ us ++ h ∷ []
popped vs us o h p q = p ∙ ap (λ x. us ++ option_to_list x) q

pub popped_len : {X : Type 0} (m n : ℕ) (o : Option X) (h : X) → m + length (option_to_list o) ≡ n → o ≡ Some h → m + 1 ≡ n
popped_len m n o h p q = ap (λ x. m + length (option_to_list x)) (sym q) ∙ p

-- A handle in use is one of the table's.
pub used_below : (es : List HandleEntry) (h : ℕ) → length es ≡ 64 → in_use (handle_at es h) ≡ true → h < 64
used_below es h w u = grind (arith, get_or_past es h unused)

-- One handle stands otherwise.
module _ (es : List HandleEntry) (h : OutputHandle) (e : HandleEntry) where
  other_vacant : (g : OutputHandle) → IsVacant es g → g.0 ≢ h.0 → IsVacant (set es h.0 e) g
  other_vacant g v n = (v.0, rw (get_or-set_other es h.0 g.0 e unused n) v.1)

  -- No name is in use twice where the new one was not in use.
  still_distinct : Distinct es → All (λ f. same_name e f ≡ false) es → Distinct (set es h.0 e)
  still_distinct distinct other i j d l m =
      grind (arith, length-set es h.0 e, get_or-set_same es h.0 e d, get_or-set_other es h.0 i e d, get_or-set_other es h.0 j e d, distinct i j d l, other i d, other j d, flip_names e (get_or es i d))

  tally : h.0 < length es → used_in (set es h.0 e) + cond (in_use (handle_at es h.0)) 1 0 ≡ used_in es + cond (in_use e) 1 0
  tally l = sum_by-set (λ x. cond (in_use x) 1 0) es h.0 e unused l

-- The last of the vacant handles is taken, and is not among the others.
module _ (vs us : List OutputHandle) (h : OutputHandle) (was : vs ≡ us ++ h ∷ []) (once : Once vs) where
  kept : (k : ℕ) (d : OutputHandle) → k < length us → get_or vs k d ≡ get_or us k d
  kept k d l = ap (λ ws. get_or ws k d) was ∙ get_or_append_left us (h ∷ []) d k l

  last : (d : OutputHandle) → get_or vs (length us) d ≡ h
  last d = ap (λ ws. get_or ws (length us) d) was ∙ get_or_push us h d (length us) refl

  pub pop_once : Once us
  pop_once i j d l m = rw (← kept i d (omega arith), ← kept j d m) (once i j d l (omega (arith, ap length was, length_push us h)))

  pub pop_other : All (λ g. g.0 ≢ h.0) us
  pop_other k d l = rw (← kept k d l, ← last d) (once k (length us) d l (omega (arith, ap length was, length_push us h)))

-- A name is given a vacant handle.
module _ (es : List HandleEntry) (whole : length es ≡ 64) (h : OutputHandle) (vacant : IsVacant es h) (name : Octets 64) where
  abbrev named : HandleEntry
  named = restated (Some name) (handle_at es h.0)

  pub give_tally : used_in (set es h.0 named) ≡ used_in es + 1
  give_tally = omega (arith, rw vacant.1 at (tally es h named (rw whole vacant.0)))

  pub give_idle : (us : List OutputHandle) → All (IsVacant es) us → All (λ g. g.0 ≢ h.0) us → All (IsVacant (set es h.0 named)) us
  give_idle us idle other k d l = other_vacant es h named (get_or us k d) (idle k d l) (other k d l)

  pub give_distinct : Distinct es → list_any (bears_name name) es ≡ false → Distinct (set es h.0 named)
  give_distinct distinct unnamed =
      still_distinct es h named distinct
      (λ k d l. false_from_ne_true _ (λ t. both_ways (list_any (bears_name name) es) unnamed (list_any_at (bears_name name) es k d l t)))

-- A handle in use is freed, and becomes the last of the vacant ones.
module _ (es : List HandleEntry) (whole : length es ≡ 64) (h : OutputHandle) (used : in_use (handle_at es h.0) ≡ true) where
  abbrev free : HandleEntry
  free = restated None (handle_at es h.0)

  below : h.0 < 64
  below = used_below es h.0 whole used

  pub free_tally : used_in (set es h.0 free) + 1 ≡ used_in es
  free_tally = omega (arith, rw used at (tally es h free (rw whole below)))

  pub free_some : 0 < used_in es
  free_some = count_some in_use es h.0 unused (rw whole below) used

  pub free_distinct : Distinct es → Distinct (set es h.0 free)
  free_distinct distinct = still_distinct es h free distinct (λ k d l. refl)

  module _ (vs : List OutputHandle) (idle : All (IsVacant es) vs) where
    other : All (λ g. g.0 ≢ h.0) vs
    other k d l e = both_ways (in_use (handle_at es h.0)) (subst (λ n. in_use (handle_at es n) ≡ false) e (idle k d l).1) used

    pub free_idle : All (IsVacant (set es h.0 free)) (vs ++ h ∷ [])
    free_idle =
        All-push (IsVacant (set es h.0 free)) vs h
        (λ k d l. other_vacant es h free (get_or vs k d) (idle k d l) (other k d l))
        (below, ap in_use (get_or-set_same es h.0 free unused (rw whole below)))

    pub free_once : Once vs → Once (vs ++ h ∷ [])
    free_once once = all_pairs_push (λ g k. g.0 ≢ k.0) vs h once other
