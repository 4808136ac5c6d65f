-- Keys are told apart.
use Rattle.std.proofs.Common.{◌≡◌, ◌≢◌, ℕ, true, false, eqb, ◌⊎◌, inl, inr, List, ap, ◌∙◌, ⊎_elim}
use Rattle.std.specs.Bool.{Decides}
use Rattle.std.specs.Cmp.{IsEquivalence, decided}
use Rattle.std.specs.Str.{bytes_eq}
use Rattle.std.proofs.lemmas.Bool.{cases_Bool, false_from_ne_true}
use Rattle.std.proofs.lemmas.Bool.Decides.{Decides-and, Decides-eqb, Decides-like, not_from_Decides}
use Rattle.std.proofs.lemmas.Slice.Eq.{bytes_eq-Decides}
use Rattle.rows.specs.Keys.{Key, same_key}

abbrev key_at : ℕ → List ℕ → Key
key_at n ns = record { link = n; tag = ns }

pub same_key-Decides : (j k : Key) → Decides (same_key j k) (j ≡ k)
same_key-Decides j k =
    Decides-like (same_key j k)
    (λ p. ap (λ (n : ℕ). key_at n j.tag) p.0 ∙ ap (key_at k.link) p.1)
    (λ e. (ap (λ (i : Key). i.link) e, ap (λ (i : Key). i.tag) e))
    (Decides-and (eqb j.link k.link) (bytes_eq j.tag k.tag) (Decides-eqb j.link k.link) (bytes_eq-Decides j.tag k.tag))

-- what the test tells, for `grind`
pub same_key_tells : (j k : Key) → ((same_key j k ≡ true) × (j ≡ k)) ⊎ ((same_key j k ≡ false) × (j ≢ k))
same_key_tells j k =
    let d = same_key-Decides j k in
    ⊎_elim (λ e. inl (e, d.0 e)) (λ e. inr (e, not_from_Decides (same_key j k) d e)) (cases_Bool (same_key j k))

pub same_key-laws : IsEquivalence same_key
same_key-laws = decided same_key same_key-Decides

-- keys that are not one
pub apart-false : (j k : Key) → (j ≢ k) → same_key j k ≡ false
apart-false j k n = false_from_ne_true (same_key j k) (λ t. n ((same_key-Decides j k).0 t))
