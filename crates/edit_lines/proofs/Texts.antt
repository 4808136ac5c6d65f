-- Laws of the texts in an edit's line.
use Rattle.std.proofs.Common.{◌≡◌, ℕ, ◌+◌, ◌-◌, ◌<◌, ◌≤◌, ◌&&◌, List, [], ◌∷◌, length, get_or, take, drop, Some, None, Option, unwrap_or, option_map, sym, ap, ◌∙◌, refl, le_of_suc-le-suc, not-suc-le-zero, arith, length-take}
use Rattle.std.proofs.lemmas.List.{drop_more}
use Rattle.std.proofs.lemmas.Bool.{le-leb, lt-leb, cond-true, cond-false}
use Rattle.std.proofs.lemmas.Option.{none-some, same_Some}
use Rattle.digits.specs.Numbers.{laid}
use Rattle.names.specs.Octets.{kept}
use Rattle.edit_lines.specs.Reading.{all_printable, printable, short}

-- the next byte, and those after it
pub printable-more : (xs : List ℕ) (i : ℕ) → i < length xs → all_printable (drop i xs) ≡ (printable (get_or xs i 0) && all_printable (drop (i + 1) xs))
printable-more xs i h = ap all_printable (drop_more xs i 0 h)

-- bytes that fit are found where they were written
pub take-laid : (bytes held : List ℕ) → length bytes ≤ length held → take (length bytes) (laid bytes held) ≡ bytes
take-laid [] held h = refl
take-laid (b ∷ bytes) [] h = absurd (not-suc-le-zero h)
take-laid (b ∷ bytes) (x ∷ held) h = ap (λ bs. b ∷ bs) (take-laid bytes held (le_of_suc-le-suc h))

-- bytes that were not read
pub short_none : (bytes : Option (List ℕ)) → None ≡ option_map length bytes → short 32 bytes ≡ None
short_none None e = refl
short_none (Some bs) e = absurd (none-some (length bs) e)

-- more bytes than a tag has room for
pub short-long : (bytes : Option (List ℕ)) (n : ℕ) → Some n ≡ option_map length bytes → 32 < n → short 32 bytes ≡ None
short-long None n e h = refl
short-long (Some bs) n e h = cond-false _ (Some bs) None (lt-leb (length bs) 32 (omega (arith, same_Some _ _ e)))

-- bytes that a tag has room for, as it keeps them
pub short-fits : (bytes : Option (List ℕ)) (n : ℕ) (held : List ℕ) → Some n ≡ option_map length bytes → n ≤ 32 → length held ≡ 32 → Some (kept 32 (take (n - 0) (laid (unwrap_or bytes []) held))) ≡ short 32 bytes
short-fits None n held e h r = absurd (none-some n (sym e))
short-fits (Some bs) n held e h r =
    let l : n - 0 ≡ length bs = omega (arith, same_Some _ _ e) in
    let fits = le-leb (length bs) 32 (omega (arith, l)) in
    ap (λ m. Some (kept 32 (take m (laid bs held)))) l
    ∙ ap (λ xs. Some (kept 32 xs)) (take-laid bs held (omega (arith, l)))
    ∙ ap Some (cond-true _ bs [] fits)
    ∙ sym (cond-true _ (Some bs) None fits)

-- the first n bytes of a buffer, where a tag has room for n
pub first_few : (n : ℕ) (held : List ℕ) → n ≤ 32 → length (take (n - 0) held) ≤ 32
first_few n held h = omega (arith, length-take (n - 0) held)

-- a tag holds them all
pub kept_few : (n : ℕ) (held : List ℕ) → n ≤ 32 → kept 32 (take (n - 0) held) ≡ take n held
kept_few n held h =
    let e : n - 0 ≡ n = omega arith in
    cond-true _ (take (n - 0) held) [] (le-leb _ 32 (first_few n held h)) ∙ ap (λ m. take m held) e

-- bytes that a tag has room for, as they were written
pub short-written : (bytes : Option (List ℕ)) (n : ℕ) (held : List ℕ) → Some n ≡ option_map length bytes → n ≤ 32 → length held ≡ 32 → Some (take n (laid (unwrap_or bytes []) held)) ≡ short 32 bytes
short-written bytes n held e h r = sym (ap Some (kept_few n (laid (unwrap_or bytes []) held) h)) ∙ short-fits bytes n held e h r
