-- Laws of the input's lines.
use Rattle.std.proofs.Common.{◌≡◌, ◌≢◌, ℕ, zero, suc, ◌+◌, ◌-◌, ◌<◌, ◌≤◌, true, false, eqb, List, [], ◌∷◌, ◌++◌, length, get_or, take, drop, sym, refl, ap, subst, ◌∙◌, arith}
use Rattle.std.proofs.lemmas.List.{append-nil, append_assoc, length-drop, at_drop_more, at_drop_all, take_more, take_all, take_rest}
use Rattle.std.proofs.lemmas.Bool.{cond-true, cond-false, ne_eqb}
use Rattle.salfjung.specs.Input.{first_line, other_lines, lines_of}

-- A line that begins with the bytes before i, and goes on with those from i on.
pub record Upto (text : List ℕ) (i : ℕ) : Type 0 where
  pub line : first_line text ≡ take i text ++ first_line (drop i text)
  pub rest : other_lines text ≡ other_lines (drop i text)

-- its end is at i
pub line_ends : (text : List ℕ) (i : ℕ) → Upto text i → i < length text → eqb (get_or text i 0) 10 ≡ true → (take i text ≡ first_line text) × (drop (i + 1) text ≡ other_lines text)
line_ends text i u h e =
    let c = get_or text i 0 in
    let more = drop (i + 1) text in
    let l : first_line (drop i text) ≡ [] = at_drop_more first_line text i 0 h ∙ cond-true (eqb c 10) [] (c ∷ first_line more) e in
    let r : other_lines (drop i text) ≡ more = at_drop_more other_lines text i 0 h ∙ cond-true (eqb c 10) more (other_lines more) e in
    (sym (u.line ∙ ap (λ xs. take i text ++ xs) l ∙ append-nil (take i text)), sym (u.rest ∙ r))

-- the byte at i is of the line too
pub line_goes_on : (text : List ℕ) (i : ℕ) → Upto text i → i < length text → eqb (get_or text i 0) 10 ≡ false → Upto text (i + 1)
line_goes_on text i u h e =
    let c = get_or text i 0 in
    let more = drop (i + 1) text in
    let l : first_line (drop i text) ≡ c ∷ first_line more = at_drop_more first_line text i 0 h ∙ cond-false (eqb c 10) [] (c ∷ first_line more) e in
    let r : other_lines (drop i text) ≡ other_lines more = at_drop_more other_lines text i 0 h ∙ cond-false (eqb c 10) more (other_lines more) e in
    record {
      line =
          u.line ∙ ap (λ xs. take i text ++ xs) l
          ∙ sym (ap (λ xs. xs ++ first_line more) (take_more text i 0 h) ∙ append_assoc (take i text) (c ∷ []) (first_line more));
      rest = u.rest ∙ r;
    }

-- the text ends with it
pub line_is_all : (text : List ℕ) (i : ℕ) → Upto text i → length text ≤ i → (text ≡ first_line text) × ([] ≡ other_lines text)
line_is_all text i u h =
    (sym (u.line ∙ ap (λ xs. take i text ++ xs) (at_drop_all first_line text i h) ∙ append-nil (take i text) ∙ take_all i text h), sym (u.rest ∙ at_drop_all other_lines text i h))

-- A line goes up to i where no byte before i is 10.
pub upto_from : (text : List ℕ) (i : ℕ) → i ≤ length text → ((k : ℕ) → k < i → get_or text k 0 ≢ 10) → Upto text i
upto_from text zero h before = record { line = refl; rest = refl }
upto_from text (suc i) h before =
    let on : i + 1 ≡ suc i = omega arith in
    subst (Upto text) on
    (line_goes_on text i (upto_from text i (omega arith) (λ k l. before k (omega arith))) (omega arith) (ne_eqb (get_or text i 0) 10 (before i (omega arith))))

-- the part of a text from n on
pub part_from : (n : ℕ) (text : List ℕ) → take (length text - n) (drop n text) ≡ drop n text
part_from n text = take_rest text n

-- is shorter, where the text is not empty and n is not 0
pub part_shorter : (n : ℕ) (text : List ℕ) → 0 < n → 0 < length text → length (take (length text - n) (drop n text)) < length text
part_shorter n text h k = omega (arith, ap length (part_from n text), length-drop n text)

-- A text with bytes has its first line, and the lines of what follows it.
pub first_and_others : (text : List ℕ) → 0 < length text → lines_of text ≡ first_line text ∷ lines_of (other_lines text)
first_and_others [] h = absurd (omega arith)
first_and_others (c ∷ []) h = grind arith
first_and_others (c ∷ d ∷ cs) h = grind (arith, first_and_others (d ∷ cs) (omega arith))

-- A text has no more lines than bytes.
pub lines_few : (text : List ℕ) → length (lines_of text) ≤ length text
lines_few [] = omega arith
lines_few (c ∷ cs) = grind (arith, lines_few cs)
