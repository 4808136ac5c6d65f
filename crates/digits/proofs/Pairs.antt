-- What one more pair of hexadecimal digits of a text does to the bytes read so far.
use Rattle.std.proofs.Common.{◌≡◌, ℕ, ◌+◌, ◌*◌, ◌/◌, ◌%◌, ◌<◌, ◌≤◌, min, true, false, ◌&&◌, eqb, List, [], ◌∷◌, ◌++◌, length, get_or, take, drop, set, is_some, Some, None, Option, unwrap_or, option_map, sym, refl, ap, ◌∙◌, ⊎_elim, append_assoc, append-nil, arith, length-drop, take-append-drop, drop-set-lt}
use Rattle.std.proofs.lemmas.List.{drop_more, drop_all, take_all, take_more_set}
use Rattle.std.proofs.lemmas.Bool.{eq-eqb, ne_eqb, and_parts, false≢true, cases_lt}
use Rattle.digits.specs.Numbers.{octet, hexadecimal, laid}
use Rattle.digits.proofs.Octets.{join, laid_nowhere}

-- what stands from the pair i on
abbrev pub pairs : List ℕ → ℕ → List ℕ
pairs text i = drop (2 * i) text

-- the byte that the pair i writes
abbrev pub octet_at : List ℕ → ℕ → Option ℕ
octet_at text i = octet (get_or text (2 * i) 0) (get_or text (2 * i + 1) 0)

pub pair-more : (text : List ℕ) (i : ℕ) → 2 * i + 1 < length text → hexadecimal (pairs text i) ≡ join (octet_at text i) (hexadecimal (pairs text (i + 1)))
pair-more text i h =
    let high = drop_more text (2 * i) 0 (omega arith) in
    let low = drop_more text (2 * i + 1) 0 h in
    let next : 2 * i + 1 + 1 ≡ 2 * (i + 1) = omega arith in
    let rest = ap (λ n. drop n text) next in
    let both : pairs text i ≡ get_or text (2 * i) 0 ∷ get_or text (2 * i + 1) 0 ∷ pairs text (i + 1) = cc in
    ap hexadecimal both

join_test : (b : Option ℕ) (bs : Option (List ℕ)) → is_some (join b bs) ≡ (is_some b && is_some bs)
join_test None bs = refl
join_test (Some x) None = refl
join_test (Some x) (Some xs) = refl

module _ (text : List ℕ) (i : ℕ) (h : 2 * i + 1 < length text) where
  pair_test : is_some (hexadecimal (pairs text i)) ≡ (is_some (octet_at text i) && is_some (hexadecimal (pairs text (i + 1))))
  pair_test = ap is_some (pair-more text i h) ∙ join_test (octet_at text i) (hexadecimal (pairs text (i + 1)))

  -- a pair of digits leaves the answer to those after it
  pub pair_some : is_some (octet_at text i) ≡ true → is_some (hexadecimal (pairs text i)) ≡ is_some (hexadecimal (pairs text (i + 1)))
  pair_some e = pair_test ∙ ap (λ t. t && is_some (hexadecimal (pairs text (i + 1)))) e

  -- a pair with another byte settles it
  pub pair-none : is_some (octet_at text i) ≡ false → is_some (hexadecimal (pairs text i)) ≡ false
  pair-none e = pair_test ∙ ap (λ t. t && is_some (hexadecimal (pairs text (i + 1)))) e

  -- in a text of pairs each is a byte
  pub pair_read : is_some (hexadecimal (pairs text i)) ≡ true → is_some (octet_at text i) ≡ true
  pair_read e = (and_parts _ _ (sym pair_test ∙ e)).0

under_two : (rest : List ℕ) (n : ℕ) → length rest ≡ n → n < 2 → is_some (hexadecimal rest) ≡ eqb n 0
under_two [] n e h = sym (eq-eqb n 0 (sym e))
under_two (c ∷ []) n e h = sym (ne_eqb n 0 (λ z. omega arith))
under_two (c ∷ d ∷ cs) n e h = absurd (omega arith)

-- past the last pair there may be one digit more
pub after_pairs : (text : List ℕ) (i : ℕ) → i ≡ length text / 2 → is_some (hexadecimal (pairs text i)) ≡ eqb (length text % 2) 0
after_pairs text i h = under_two (pairs text i) (length text % 2) (simp length-drop (omega arith)) (omega arith)

join_count : (b : Option ℕ) (bs : Option (List ℕ)) (n : ℕ) → is_some (join b bs) ≡ true → Some n ≡ option_map length bs → Some (n + 1) ≡ option_map length (join b bs)
join_count None bs n e h = absurd (false≢true e)
join_count (Some x) None n e h = absurd (false≢true e)
join_count (Some x) (Some xs) n e h = let same : n ≡ length xs = cc in ap Some (omega arith)

-- the text gives as many bytes as it has pairs
pub count_is : (text : List ℕ) → is_some (hexadecimal text) ≡ true → Some (length text / 2) ≡ option_map length (hexadecimal text)
count_is [] e = refl
count_is (c ∷ []) e = absurd (false≢true e)
count_is (c ∷ d ∷ cs) e =
    let half : length (c ∷ d ∷ cs) / 2 ≡ length cs / 2 + 1 = omega arith in
    let rest : Some (length cs / 2) ≡ option_map length (hexadecimal cs) = count_is cs (and_parts _ _ (sym (join_test (octet c d) (hexadecimal cs)) ∙ e)).1 in
    ap Some half ∙ join_count (octet c d) (hexadecimal cs) (length cs / 2) e rest

-- the bytes from the pair i on
abbrev bytes : List ℕ → ℕ → List ℕ
bytes text i = unwrap_or (hexadecimal (pairs text i)) []

-- i bytes are written to out, and with those of the pairs from i on it will hold last
pub record LayingText (text last out : List ℕ) (i : ℕ) : Type 0 where
  pub readable : is_some (hexadecimal (pairs text i)) ≡ true
  pub ends : take i out ++ laid (bytes text i) (drop i out) ≡ last

join_bytes : (b : ℕ) (bs : Option (List ℕ)) → is_some (join (Some b) bs) ≡ true → unwrap_or (join (Some b) bs) [] ≡ b ∷ unwrap_or bs []
join_bytes b None e = absurd (false≢true e)
join_bytes b (Some xs) e = refl

pub lay_text_more : (text last out : List ℕ) (i b : ℕ) → 2 * i + 1 < length text → i < length out → octet_at text i ≡ Some b → LayingText text last out i → LayingText text last (set out i b) (i + 1)
lay_text_more text last out i b h inside e l =
    let more = pair-more text i h ∙ ap (λ o. join o (hexadecimal (pairs text (i + 1)))) e in
    let here : bytes text i ≡ b ∷ bytes text (i + 1) =
    ap (λ o. unwrap_or o []) more ∙ join_bytes b (hexadecimal (pairs text (i + 1))) (sym (ap is_some more) ∙ l.readable) in
    let place = drop_more out i 0 inside in
    let there : laid (bytes text i) (drop i out) ≡ b ∷ laid (bytes text (i + 1)) (drop (i + 1) out) =
    ap (λ bs. laid bs (drop i out)) here ∙ ap (laid (b ∷ bytes text (i + 1))) place in
    let front = take_more_set out i b inside in
    let back : drop (i + 1) (set out i b) ≡ drop (i + 1) out = drop-set-lt (i + 1) out i b (omega arith) in
    let joined = append_assoc (take i out) (b ∷ []) (laid (bytes text (i + 1)) (drop (i + 1) out)) in
    record { readable = sym (pair_some text i h (ap is_some e)) ∙ l.readable; ends = cc }

no_bytes : (rest : List ℕ) → length rest < 2 → is_some (hexadecimal rest) ≡ true → unwrap_or (hexadecimal rest) [] ≡ []
no_bytes [] h e = refl
no_bytes (c ∷ []) h e = refl
no_bytes (c ∷ d ∷ cs) h e = absurd (omega arith)

full : (text last out : List ℕ) (i : ℕ) → length out ≤ i → LayingText text last out i → out ≡ last
full text last out i h l =
    let front = take_all i out h in
    let back = drop_all i out h in
    let none = laid_nowhere (bytes text i) in
    let whole = append-nil out in
    cc

spent : (text last out : List ℕ) (i : ℕ) → length text / 2 ≤ i → LayingText text last out i → out ≡ last
spent text last out i h l =
    let none = no_bytes (pairs text i) (simp length-drop (omega arith)) l.readable in
    sym (take-append-drop i out) ∙ ap (λ bs. take i out ++ laid bs (drop i out)) (sym none) ∙ l.ends

-- the buffer is full, or the text is spent
pub lay_text_all : (text last out : List ℕ) (i : ℕ) → min (length out) (length text / 2) ≤ i → LayingText text last out i → out ≡ last
lay_text_all text last out i h l =
    ⊎_elim (λ lt. spent text last out i (omega arith) l) (λ le. full text last out i le l) (cases_lt i (length out))
