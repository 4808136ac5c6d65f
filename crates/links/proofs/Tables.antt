-- What a test finds in a list, after an edit of the list: an element that passes, or two that clash.
use Rattle.std.proofs.Common.{◌≡◌, ℕ, ◌<◌, Bool, true, false, cond, ◌||◌, List, [], ◌∷◌, ◌++◌, map, length, get_or, set, count_by, position, is_some, sym, refl, ap, ap₂, ◌∙◌, arith}
use Rattle.std.specs.List.{All, AllPairs, list_any}
use Rattle.std.proofs.lemmas.Bool.{both_ways, false_from_ne_true}
use Rattle.std.proofs.lemmas.Grind.{common_steps}
use Rattle.std.proofs.lemmas.List.{length-set, length_push, get_or_append_left, get_or_push, get_or-set_same, get_or-set_other}
use Rattle.std.proofs.lemmas.List.Elements.{All-set, All-weaker}
use Rattle.std.proofs.lemmas.List.Folds.{list_any_at, list_any_none}
use Rattle.std.proofs.lemmas.List.Quantifiers.{all_pairs_push}
use Rattle.std.proofs.lemmas.List.Sums.{get_or-le-sum_by}

-- Where none fits, each does not.
none_at : {X : Type 0} (fits : X → Bool) (xs : List X) → list_any fits xs ≡ false → All (λ x. fits x ≡ false) xs
none_at fits xs e k d l = false_from_ne_true (fits (get_or xs k d)) (λ t. both_ways (list_any fits xs) e (list_any_at fits xs k d l t))

-- No element fits, with one of them written over by another that does not.
pub none-set : {X : Type 0} (fits : X → Bool) (xs : List X) (i : ℕ) (x : X) → list_any fits xs ≡ false → fits x ≡ false → list_any fits (set xs i x) ≡ false
none-set fits xs i x e f = list_any_none fits (set xs i x) (All-set (λ y. fits y ≡ false) xs i x f (none_at fits xs e))

-- At least one fits where one is seen to.
pub count_some : {X : Type 0} (fits : X → Bool) (xs : List X) (i : ℕ) (d : X) → i < length xs → fits (get_or xs i d) ≡ true → 0 < count_by fits xs
count_some fits xs i d l e = grind (arith, get_or-le-sum_by (λ x. cond (fits x) 1 0) xs i d l)

-- What holds of every element holds still in a weaker form, where the elements are also known to fail a test.
pub every_beside : {X : Type 0} (P Q : X → Type 0) (other : X → Bool) (xs : List X) → ((y : X) → P y → other y ≡ false → Q y) → All P xs → list_any other xs ≡ false → All Q xs
every_beside P Q other xs w e n k d l = w (get_or xs k d) (e k d l) (none_at other xs n k d l)

-- None passes a test that no element of which P holds passes.
pub none_beside : {X : Type 0} (P : X → Type 0) (other : X → Bool) (xs : List X) → ((y : X) → P y → other y ≡ false) → All P xs → list_any other xs ≡ false
none_beside P other xs w e = list_any_none other xs (All-weaker P (λ y. other y ≡ false) w xs e)

-- An element that fits has a place, and none has where none fits.
pub place-any : {X : Type 0} (fits : X → Bool) (xs : List X) → is_some (position fits xs) ≡ list_any fits xs
place-any fits [] = refl
place-any fits (x ∷ xs) = grind (arith, common_steps, place-any fits xs)

-- A test on the image of a list.
pub any-map : {X Y : Type 0} (f : X → Y) (fits : Y → Bool) (xs : List X) → list_any fits (map f xs) ≡ list_any (λ x. fits (f x)) xs
any-map f fits [] = refl
any-map f fits (x ∷ xs) = ap (λ b. fits (f x) || b) (any-map f fits xs)

module _ {X : Type 0} (clash : X → X → Bool) where
  -- no two elements clash
  abbrev pub Apart : List X → Type 0
  Apart xs = AllPairs (λ x y. clash x y ≡ false) xs

  -- One more at the end, with which none clashes.
  pub apart_push : ((x y : X) → clash x y ≡ clash y x) → (xs : List X) (x : X) → Apart xs → list_any (clash x) xs ≡ false → Apart (xs ++ x ∷ [])
  apart_push flip xs x a n = all_pairs_push (λ y z. clash y z ≡ false) xs x a (λ k d l. flip (get_or xs k d) x ∙ none_at (clash x) xs n k d l)

  -- The last taken away clashes with none of the others.
  pub apart_parts : ((x y : X) → clash x y ≡ clash y x) → (xs : List X) (x : X) → Apart (xs ++ x ∷ []) → Apart xs × (list_any (clash x) xs ≡ false)
  apart_parts flip xs x a =
      let long = length_push xs x in
      let kept : (k : ℕ) (d : X) → k < length xs → get_or xs k d ≡ get_or (xs ++ x ∷ []) k d = λ k d l. sym (get_or_append_left xs (x ∷ []) d k l) in
      let last : (d : X) → x ≡ get_or (xs ++ x ∷ []) (length xs) d = λ d. sym (get_or_push xs x d (length xs) refl) in (
        λ i j d l m. ap₂ clash (kept i d (omega arith)) (kept j d m) ∙ a i j d l (omega arith),
        list_any_none (clash x) xs (λ k d l. flip x (get_or xs k d) ∙ ap₂ clash (kept k d l) (last d) ∙ a k (length xs) d l (omega arith)),
      )

  -- One written over by another with which none clashes.
  pub apart-set : ((x y : X) → clash x y ≡ clash y x) → (xs : List X) (h : ℕ) (x : X) → Apart xs → list_any (clash x) xs ≡ false → Apart (set xs h x)
  apart-set flip xs h x a n i j d l m =
      let other : All (λ y. clash x y ≡ false) xs = none_at (clash x) xs n in
      grind (arith, length-set xs h x, get_or-set_same xs h x d, get_or-set_other xs h i x d, get_or-set_other xs h j x d, a i j d l, other i d, other j d, flip x (get_or xs i d))
