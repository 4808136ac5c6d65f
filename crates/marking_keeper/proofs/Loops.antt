-- A loop that writes f x over each element x of a list.
use Rattle.std.proofs.Common.{◌≡◌, ℕ, ◌+◌, ◌<◌, ◌≤◌, List, ◌++◌, map, length, get_or, take, drop, set, ap, ◌∙◌}
use Rattle.std.proofs.lemmas.List.Edits.{map_over_more}
use Rattle.std.proofs.lemmas.List.{append-nil, drop_all, get_or_default, take_all}

module _ {X : Type 0} (f : X → X) (xs ys : List X) where
  -- the first i elements are written over
  abbrev pub Over : ℕ → Type 0
  Over i = ys ≡ map f (take i xs) ++ drop i xs

  -- one more is
  pub over_more : (i : ℕ) (d v : X) → v ≡ f (get_or ys i d) → i < length xs → i < length ys → Over i → set ys i v ≡ map f (take (i + 1) xs) ++ drop (i + 1) xs
  over_more i d v w h l e = ap (set ys i) w ∙ map_over_more f xs ys i (get_or ys i d) h e (get_or_default ys i d (get_or ys i d) l)

  -- all are
  pub over_all : (i : ℕ) → length xs ≤ i → Over i → ys ≡ map f xs
  over_all i h e = e ∙ ap (λ zs. map f zs ++ drop i xs) (take_all i xs h) ∙ ap (λ zs. map f xs ++ zs) (drop_all i xs h) ∙ append-nil (map f xs)
