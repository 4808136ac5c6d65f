-- The handles in the order in which a new table gives them, the last first.
use Rattle.std.proofs.Common.{◌≡◌, ℕ, zero, suc, ◌+◌, ◌-◌, ◌<◌, ◌≤◌, List, [], ◌∷◌, ◌++◌, length, get_or, take, replicate, ap, sym, subst, ◌∙◌, le_of_suc-le-suc, not-suc-le-zero, arith}
use Rattle.std.specs.List.{All}
use Rattle.std.proofs.lemmas.List.{append-nil, get_or-replicate, take_more}
use Rattle.definitions.specs.declared.numbers.OutputHandle.{OutputHandle}
use Rattle.links.specs.Handles.{unused, in_use, IsVacant, countdown}
use Rattle.links.proofs.Handles.{Once}

-- The first of them, and the rest.
pub one_fewer : (n : ℕ) → 0 < n → countdown n ≡ record { 0 = n - 1 } ∷ countdown (n - 1)
one_fewer zero h = absurd (not-suc-le-zero h)
one_fewer (suc n) h = ap (λ m. record { 0 = m } ∷ countdown m) (omega arith)

-- The one at a place.
at : (n i : ℕ) (d : OutputHandle) → i < n → (get_or (countdown n) i d).0 ≡ n - 1 - i
at zero i d h = absurd (not-suc-le-zero h)
at (suc n) zero d h = omega arith
at (suc n) (suc i) d h = at n i d (le_of_suc-le-suc h) ∙ omega arith

-- One more of the 64.
pub one_more : (i : ℕ) (h : OutputHandle) → i < 64 → h.0 ≡ 63 - i → take (i + 1) (countdown 64) ≡ take i (countdown 64) ++ h ∷ []
one_more i h l e = take_more (countdown 64) i h l ∙ ap (λ m. take i (countdown 64) ++ record { 0 = m } ∷ []) (at 64 i h l ∙ sym e)

-- Where no handle is in use, each of them is vacant, and none is there twice.
module _ (hs : List OutputHandle) (n : ℕ) (none : n ≤ 0) (all : hs ++ countdown n ≡ countdown 64) where
  whole : hs ≡ countdown 64
  whole =
      let end : n ≡ 0 = omega arith in
      sym (append-nil hs) ∙ subst (λ m. hs ++ countdown m ≡ countdown 64) end all

  place : (k : ℕ) (d : OutputHandle) → k < length hs → (k < 64) × ((get_or hs k d).0 ≡ 63 - k)
  place k d l =
      let below : k < 64 = omega (arith, ap length whole) in
      (below, ap (λ ys. (get_or ys k d).0) whole ∙ at 64 k d below)

  pub fresh_idle : All (IsVacant (replicate 64 unused)) hs
  fresh_idle k d l =
      let p = place k d l in
      let below : (get_or hs k d).0 < 64 = omega arith in
      (below, ap in_use (get_or-replicate 64 (get_or hs k d).0 unused unused below))

  pub fresh_once : Once hs
  fresh_once i j d l m e =
      let p = place i d (omega arith) in
      let q = place j d m in
      omega arith
