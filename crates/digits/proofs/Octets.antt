-- The bytes of a text of hexadecimal digits, by its pairs.
use Rattle.std.proofs.Common.{◌≡◌, ℕ, suc, ◌+◌, ◌-◌, ◌/◌, ◌%◌, ◌<◌, ◌≤◌, min, true, false, ◌&&◌, cond, eqb, List, [], ◌∷◌, ◌++◌, length, map, get_or, take, drop, set, is_some, Some, None, Option, unwrap_or, sym, refl, ap, ◌∙◌, arith, option_map, ⊎_elim, append_assoc, append-nil, take-append-drop, drop-set-lt}
use Rattle.std.specs.Int.{is_in_range}
use Rattle.std.specs.Simd.{first_chunks}
use Rattle.std.specs.Option.{option_zip}
use Rattle.std.specs.List.{list_all}
use Rattle.std.proofs.lemmas.List.{drop_more, drop_all, take_all, take_more_set}
use Rattle.std.proofs.lemmas.Bool.{cases_lt, cond-true, cond-false, eq-eqb, ne_eqb}
use Rattle.std.proofs.lemmas.Bool.Decides.{nat_tests}
use Rattle.digits.specs.Numbers.{nibble, octet, octet_of, byte_of, hexadecimal, laid}

-- a digit is in one of three ranges
pub nibble-ranges : (c : ℕ) → nibble c ≡ cond (is_in_range 48 57 c) (Some (c - 48)) (cond (is_in_range 65 70 c) (Some (c - 65 + 10)) (cond (is_in_range 97 102 c) (Some (c - 97 + 10)) None))
nibble-ranges c = grind (arith, nat_tests)

-- the bytes of pairs, where each writes one
abbrev pub octets : List (List ℕ) → Option (List ℕ)
octets pairs = cond (list_all (λ pair. is_some (octet_of pair)) pairs) (Some (map byte_of pairs)) None

abbrev pub join : Option ℕ → Option (List ℕ) → Option (List ℕ)
join b bs = option_map (λ p. p.0 ∷ p.1) (option_zip b bs)

join-none : (b : Option ℕ) → join b None ≡ None
join-none None = refl
join-none (Some b) = refl

octets-cons : (pair : List ℕ) (pairs : List (List ℕ)) → join (octet_of pair) (octets pairs) ≡ octets (pair ∷ pairs)
octets-cons pair pairs =
    elim (octet_of pair) as (λ o. join o (octets pairs) ≡ cond (is_some o && list_all (λ p. is_some (octet_of p)) pairs) (Some (unwrap_or o 0 ∷ map byte_of pairs)) None) [
      | None ↦ refl
      | (Some b) ↦ elim (list_all (λ p. is_some (octet_of p)) pairs) as (λ t. join (Some b) (cond t (Some (map byte_of pairs)) None) ≡ cond t (Some (b ∷ map byte_of pairs)) None) [ true ↦ refl | false ↦ refl ]
    ]

-- a text of pairs is read pair by pair, and one digit more makes it none
hexadecimal-pairs : (text : List ℕ) → hexadecimal text ≡ cond (eqb (length text % 2) 0) (octets (first_chunks 2 (length text / 2) text)) None
hexadecimal-pairs [] = refl
hexadecimal-pairs (c ∷ []) = refl
hexadecimal-pairs (c ∷ d ∷ cs) =
    let n = length cs in
    let half : suc (suc n) / 2 ≡ suc (n / 2) = omega arith in
    let odd : suc (suc n) % 2 ≡ n % 2 = omega arith in
    let pairs = first_chunks 2 (n / 2) cs in
    ap (join (octet c d)) (hexadecimal-pairs cs)
    ∙ elim (eqb (n % 2) 0) as (λ t. join (octet c d) (cond t (octets pairs) None) ≡ cond t (octets ((c ∷ d ∷ []) ∷ pairs)) None) [ true ↦ octets-cons (c ∷ d ∷ []) pairs | false ↦ join-none (octet c d) ]
    ∙ sym (ap (λ k. cond (eqb k 0) (octets (first_chunks 2 (suc (suc n) / 2) (c ∷ d ∷ cs))) None) odd ∙ ap (λ k. cond (eqb (n % 2) 0) (octets (first_chunks 2 k (c ∷ d ∷ cs))) None) half)

pub hexadecimal-even : (text : List ℕ) → length text % 2 ≡ 0 → hexadecimal text ≡ octets (first_chunks 2 (length text / 2) text)
hexadecimal-even text h = hexadecimal-pairs text ∙ cond-true _ _ _ (eq-eqb _ _ h)

pub hexadecimal-odd : (text : List ℕ) → 1 ≤ length text % 2 → hexadecimal text ≡ None
hexadecimal-odd text h = hexadecimal-pairs text ∙ cond-false _ _ _ (ne_eqb (length text % 2) 0 (λ e. omega arith))

-- the bytes of the first i pairs are written to out, and with the others it will hold last
abbrev pub Laying : List (List ℕ) → List ℕ → List ℕ → ℕ → Type 0
Laying pairs last out i = take i out ++ laid (map byte_of (drop i pairs)) (drop i out) ≡ last

pub lay_more : (pairs : List (List ℕ)) (last out : List ℕ) (i b : ℕ) → i < length pairs → i < length out → octet_of (get_or pairs i []) ≡ Some b → Laying pairs last out i → Laying pairs last (set out i b) (i + 1)
lay_more pairs last out i b h inside e l =
    let here = drop_more pairs i [] h in
    let byte : byte_of (get_or pairs i []) ≡ b = ap (λ o. unwrap_or o 0) e in
    let place = drop_more out i 0 inside in
    let front = take_more_set out i b inside in
    let back : drop (i + 1) (set out i b) ≡ drop (i + 1) out = drop-set-lt (i + 1) out i b (omega arith) in
    let joined = append_assoc (take i out) (b ∷ []) (laid (map byte_of (drop (i + 1) pairs)) (drop (i + 1) out)) in
    let there : laid (map byte_of (drop i pairs)) (drop i out) ≡ b ∷ laid (map byte_of (drop (i + 1) pairs)) (drop (i + 1) out) =
    ap (λ ps. laid (map byte_of ps) (drop i out)) here ∙ ap (laid (map byte_of (get_or pairs i [] ∷ drop (i + 1) pairs))) place ∙ ap (λ x. x ∷ laid (map byte_of (drop (i + 1) pairs)) (drop (i + 1) out)) byte in
    cc

pub laid_nowhere : (bs : List ℕ) → laid bs [] ≡ []
laid_nowhere [] = refl
laid_nowhere (b ∷ bs) = refl

-- the buffer is full, or the pairs are spent
pub lay_all : (pairs : List (List ℕ)) (last out : List ℕ) (i : ℕ) → min (length out) (length pairs) ≤ i → Laying pairs last out i → out ≡ last
lay_all pairs last out i h l =
    ⊎_elim
    (λ lt. sym (take-append-drop i out) ∙ ap (λ ps. take i out ++ laid (map byte_of ps) (drop i out)) (sym (drop_all i pairs (omega arith))) ∙ l)
    (λ le.
    let front = take_all i out le in
    let back = drop_all i out le in
    let none = laid_nowhere (map byte_of (drop i pairs)) in
    let whole = append-nil out in
    cc)
    (cases_lt i (length out))
