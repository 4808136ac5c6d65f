-- What one more digit does to the number read so far.
use Rattle.std.proofs.Common.{◌≡◌, ℕ, ◌+◌, ◌-◌, ◌*◌, ◌<◌, ◌≤◌, true, false, cond, leb, List, [], ◌∷◌, length, get_or, drop, Some, None, Option, option_and_then, sym, refl, ap, ◌∙◌, arith}
use Rattle.std.specs.Int.{is_in_range}
use Rattle.std.proofs.lemmas.List.{at_drop_more, at_drop_all}
use Rattle.std.proofs.lemmas.Bool.{leb-false, lt-leb, le-leb, cond-true, cond-false}
use Rattle.std.proofs.lemmas.Bool.Decides.{nat_tests}
use Rattle.digits.specs.Numbers.{decimal_after, up_to}

-- a number that is too large stays so with more digits
too_large : (most : ℕ) (cs : List ℕ) (n : ℕ) → most < n → up_to most (decimal_after n cs) ≡ None
too_large most [] n h = cond-false _ _ _ (lt-leb n most h)
too_large most (c ∷ cs) n h =
    elim (is_in_range 48 57 c) as (λ t. up_to most (cond t (decimal_after (n * 10 + (c - 48)) cs) None) ≡ None)
    [ true ↦ too_large most cs (n * 10 + (c - 48)) (omega arith) | false ↦ refl ]

-- the digits after the first go on from what the first leaves
digit_then : (most n c : ℕ) (cs : List ℕ) → up_to most (decimal_after n (c ∷ cs)) ≡ option_and_then (λ m. up_to most (decimal_after m cs)) (up_to most (decimal_after n (c ∷ [])))
digit_then most n c cs =
    let k = n * 10 + (c - 48) in
    let F = λ (m : ℕ). up_to most (decimal_after m cs) in
    elim (is_in_range 48 57 c) as (λ t. up_to most (cond t (decimal_after k cs) None) ≡ option_and_then F (up_to most (cond t (Some k) None))) [
      | true ↦ elim (leb k most) as (λ t. leb k most ≡ t → F k ≡ option_and_then F (cond t (Some k) None))
          [ true ↦ λ e. refl | false ↦ λ e. too_large most cs k (leb-false k most e) ] refl
      | false ↦ refl
    ]

module _ (most n : ℕ) (text : List ℕ) (i : ℕ) (h : i < length text) where
  step : up_to most (decimal_after n (drop i text)) ≡ option_and_then (λ m. up_to most (decimal_after m (drop (i + 1) text))) (up_to most (decimal_after n (get_or text i 0 ∷ [])))
  step = at_drop_more (λ l. up_to most (decimal_after n l)) text i 0 h ∙ digit_then most n (get_or text i 0) (drop (i + 1) text)

  pub digit_none : None ≡ up_to most (decimal_after n (get_or text i 0 ∷ [])) → up_to most (decimal_after n (drop i text)) ≡ None
  digit_none e = step ∙ ap (option_and_then _) (sym e)

  pub digit_some : (m : ℕ) → Some m ≡ up_to most (decimal_after n (get_or text i 0 ∷ [])) → up_to most (decimal_after n (drop i text)) ≡ up_to most (decimal_after m (drop (i + 1) text))
  digit_some m e = step ∙ ap (option_and_then _) (sym e)

-- a number that is let through is small enough
pub up_to_le : (most m : ℕ) (o : Option ℕ) → Some m ≡ up_to most o → m ≤ most
up_to_le most m None e = let z : ◌≡◌ {A = ℕ} 0 1 = cc in omega arith
up_to_le most m (Some n) e = grind (arith, nat_tests)

-- at the end of the text the number is the one read
pub all_read : (most n : ℕ) (text : List ℕ) (i : ℕ) → length text ≤ i → n ≤ most → up_to most (decimal_after n (drop i text)) ≡ Some n
all_read most n text i end h = at_drop_all (λ l. up_to most (decimal_after n l)) text i end ∙ cond-true _ _ _ (le-leb n most h)
