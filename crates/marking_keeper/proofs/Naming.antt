-- Which rows records name.
use Rattle.std.proofs.Common.{◌≡◌, ◌≢◌, ℕ, ◌≤◌, true, false, ◌&&◌, leb, sym, ap, ◌∙◌, ⊎_elim, arith}
use Rattle.std.specs.Str.{bytes_eq}
use Rattle.std.proofs.lemmas.Bool.{and_parts, cases_Bool}
use Rattle.std.proofs.lemmas.Bool.Decides.{nat_tests}
use Rattle.names.specs.Octets.{bytes_in}
use Rattle.rows.specs.Keys.{Key, same_key}
use Rattle.rows.proofs.Keys.{same_key-Decides}
use Rattle.marking_keeper.specs.declared.record.Record.{Record}
use Rattle.marking_keeper.specs.Records.{key_in, naming, closed_on}

-- where all else agrees, the bytes decide
pub naming-bytes : (k : Key) (x : Record) → k.link ≤ 63 → x.tag.len ≤ 32 → x.link ≡ k.link → naming k x ≡ bytes_eq (bytes_in x.tag) k.tag
naming-bytes k x few fits e = grind (arith, nat_tests)

-- a record that names a row has its key
naming_key : (k : Key) (x : Record) → naming k x ≡ true → key_in x ≡ k
naming_key k x e = (same_key-Decides (key_in x) k).0 (and_parts (leb x.link 63 && leb x.tag.len 32) (same_key (key_in x) k) e).1

pub naming-link : (k : Key) (x : Record) → naming k x ≡ true → x.link ≡ k.link
naming-link k x e = ap (λ (j : Key). j.link) (naming_key k x e)

-- no record names two rows
pub naming_one : (j k : Key) (x : Record) → (j ≢ k) → naming k x ≡ true → naming j x ≡ false
naming_one j k x n e = ⊎_elim (λ t. absurd (n (sym (naming_key j x t) ∙ naming_key k x e))) (λ f. f) (cases_Bool (naming j x))

-- a record whose mark is cleared names what it named
pub naming-closed : (k : Key) (l : ℕ) (x : Record) → naming k (closed_on l x) ≡ naming k x
naming-closed k l x = grind arith
