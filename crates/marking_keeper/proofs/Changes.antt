-- What a change of the first element that passes a test does to what is found.
use Rattle.std.proofs.Common.{◌≡◌, ℕ, ◌<◌, Bool, true, false, List, [], ◌∷◌, length, map, get_or, set, Some, arith}
use Rattle.std.specs.List.{find, position, position_or_len}
use Rattle.std.specs.Option.{option_map}
use Rattle.std.proofs.lemmas.Grind.{common_steps}
use Rattle.rows.proofs.Finds.{at_position}
use Rattle.marking_keeper.specs.Records.{changed}

module _ {X : Type 0} (test : X → Bool) where
  -- the change is a write at the first place
  pub changed_first : (f : X → X) (xs : List X) (i : ℕ) (d : X) → position test xs ≡ Some i → changed test f xs ≡ set xs i (f (get_or xs i d))
  changed_first f xs i d e = let p = at_position test xs i e in rw p.0 (changed_at xs (rw p.0 at p.1)) where
    changed_at : (xs : List X) → position_or_len test xs < length xs → changed test f xs ≡ set xs (position_or_len test xs) (f (get_or xs (position_or_len test xs) d))
    changed_at [] h = grind arith
    changed_at (x ∷ xs) h = grind (arith, common_steps, changed_at xs)

  -- of changed elements that pass as they did, the first is the first, changed
  pub find-map : (f : X → X) → ((x : X) → test (f x) ≡ test x) → (xs : List X) → find test (map f xs) ≡ option_map f (find test xs)
  find-map f kept [] = grind arith
  find-map f kept (x ∷ xs) = grind (arith, kept x, find-map f kept xs)

  pub find-changed : (f : X → X) → ((x : X) → test (f x) ≡ test x) → (xs : List X) → find test (changed test f xs) ≡ option_map f (find test xs)
  find-changed f kept [] = grind arith
  find-changed f kept (x ∷ xs) = grind (arith, kept x, find-changed f kept xs)

  -- the first for another test, which passes nothing that is changed
  pub find_other : (other : X → Bool) (f : X → X) → ((x : X) → test x ≡ true → (other x ≡ false) × (other (f x) ≡ false)) → (xs : List X) → find other (changed test f xs) ≡ find other xs
  find_other other f apart [] = grind arith
  find_other other f apart (x ∷ xs) = grind (arith, apart x, find_other other f apart xs)
