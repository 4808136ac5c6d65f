-- What is found in a list, and at which place.
use Rattle.std.proofs.Common.{◌≡◌, ℕ, ◌<◌, ◌≤◌, Bool, true, false, List, [], ◌∷◌, length, get_or, Some, None, sym, refl, ap, ◌∙◌, ⊎_elim, arith}
use Rattle.std.specs.List.{All, find, position, position_or_len, slice_get}
use Rattle.std.proofs.lemmas.Bool.{cond-true, lt-ltb}
use Rattle.std.proofs.lemmas.Grind.{common_steps}
use Rattle.std.proofs.lemmas.List.Elements.{All-head, All-tail}
use Rattle.std.proofs.lemmas.List.Folds.{find_at}
use Rattle.std.proofs.lemmas.List.Sums.{fails_before_first, position_or_len_is}
use Rattle.std.proofs.lemmas.Option.{gets, slice_get_cases}

module _ {X : Type 0} (test : X → Bool) where
  pub find_nowhere : (xs : List X) → position test xs ≡ None → find test xs ≡ None
  find_nowhere xs e = grind (arith, common_steps, gets, find_at)

  -- what is found passes
  pub find_passes : (xs : List X) (x : X) → find test xs ≡ Some x → test x ≡ true
  find_passes [] x e = grind arith
  find_passes (y ∷ xs) x e = grind (arith, find_passes xs x)

  pub at_position : (xs : List X) (i : ℕ) → position test xs ≡ Some i → (i ≡ position_or_len test xs) × (i < length xs)
  at_position xs i e = (grind (arith, common_steps), grind (arith, common_steps))

  -- the place that passes, and before which none does
  pub position_is : (xs : List X) (i : ℕ) (d : X) → i < length xs → ((k : ℕ) → k < i → test (get_or xs k d) ≡ false) → test (get_or xs i d) ≡ true → position test xs ≡ Some i
  position_is xs i d h before here =
      let e : position_or_len test xs ≡ i = position_or_len_is test xs i d (omega arith) before (λ _. here) in
      rw e (cond-true _ (Some i) None (lt-ltb i (length xs) h))

  -- the first place that passes holds what is found
  pub find_first : (xs : List X) (i : ℕ) → position test xs ≡ Some i → (x : X) × (slice_get xs i ≡ Some x) × (find test xs ≡ Some x)
  find_first xs i e =
      let p = at_position xs i e in
      ⊎_elim (λ c. (c.0, c.2, find_at test xs ∙ ap (slice_get xs) (sym p.0) ∙ c.2)) (λ c. absurd (omega arith)) (slice_get_cases xs i).1

  -- There is no such place exactly where none passes.
  pub position-None : (xs : List X) → position test xs ≡ None → All (λ x. test x ≡ false) xs
  position-None xs e i d h =
      let beyond : length xs ≤ position_or_len test xs = grind (arith, common_steps) in
      fails_before_first test xs i d (omega arith)

  pub position_none : (xs : List X) → All (λ x. test x ≡ false) xs → position test xs ≡ None
  position_none [] h = refl
  position_none (x ∷ xs) h =
      let e : position_or_len test (x ∷ xs) ≡ length (x ∷ xs) = position_or_len_is test (x ∷ xs) (length (x ∷ xs)) x (omega arith) (λ k l. h k x l) (λ l. absurd (omega arith)) in
      grind (arith, common_steps, e)

  -- Where none passes nothing is found.
  pub find_none : (xs : List X) → All (λ x. test x ≡ false) xs → find test xs ≡ None
  find_none [] h = refl
  find_none (x ∷ xs) h = grind (arith, All-head (λ x. test x ≡ false) x xs h, find_none xs (All-tail (λ x. test x ≡ false) x xs h))
