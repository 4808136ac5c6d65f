-- Lists of keys with no key twice, and that they can be counted.
use Rattle.std.proofs.Common.{◌≡◌, ◌≢◌, zero, suc, false, List, ◌∷◌, length, get_or, arith}
use Rattle.std.specs.List.{AllPairs}
use Rattle.std.specs.Set.{is_member}
use Rattle.std.proofs.lemmas.Bool.{both_ways}
use Rattle.std.proofs.lemmas.List.Folds.{list_any_at, list_any_none}
use Rattle.std.proofs.lemmas.List.Kept.{AllPairs-cons}
use Rattle.std.proofs.lemmas.Map.Made.{IsDistinct-from_AllPairs, length-from_same_keys}
use Rattle.rows.specs.Keys.{Key, same_key}
use Rattle.rows.proofs.Keys.{same_key-Decides, same_key-laws, apart-false}

-- No key is in the list twice.
abbrev pub Distinct : List Key → Type 0
Distinct ks = AllPairs (λ j k. j ≢ k) ks

-- The first of distinct keys is not among the others, and those are distinct.
pub distinct_parts : (k : Key) (ks : List Key) → Distinct (k ∷ ks) → (is_member same_key ks k ≡ false) × Distinct ks
distinct_parts k ks d = (
  list_any_none (same_key k) ks (λ i e h. apart-false k (get_or ks i e) (d zero (suc i) e (omega arith) (omega arith))),
  λ i j e a b. d (suc i) (suc j) e (omega arith) (omega arith),
)

pub distinct_from : (k : Key) (ks : List Key) → is_member same_key ks k ≡ false → Distinct ks → Distinct (k ∷ ks)
distinct_from k ks e d =
    AllPairs-cons (λ i j. i ≢ j) k ks
    (λ i c h q. both_ways (is_member same_key ks k) e (list_any_at (same_key k) ks i c h ((same_key-Decides k (get_or ks i c)).1 q))) d

-- Two lists of distinct keys that have the same keys have the same length.
pub same_length : (js ks : List Key) → Distinct js → Distinct ks → ((k : Key) → is_member same_key js k ≡ is_member same_key ks k) → length js ≡ length ks
same_length js ks d e =
    length-from_same_keys same_key-laws js ks (IsDistinct-from_AllPairs same_key-Decides js d) (IsDistinct-from_AllPairs same_key-Decides ks e)
