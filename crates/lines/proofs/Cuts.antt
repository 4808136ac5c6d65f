-- What a cut of a text keeps of its words.
use Rattle.std.proofs.Common.{◌≡◌, ℕ, suc, ◌+◌, ◌<◌, ◌≤◌, true, false, cond, not, eqb, List, [], ◌∷◌, length, get_or, take, drop, refl, ap, sym, ◌∙◌, one-add, arith, length-drop}
use Rattle.std.specs.List.{position_or_len}
use Rattle.std.proofs.lemmas.List.{at_drop_more, at_drop_all}
use Rattle.std.proofs.lemmas.Bool.{ne_eqb, eq-eqb, cond-true, cond-false}
use Rattle.lines.specs.Words.{first_word, from_space, later_words, words}

-- the place of the first b, or the length of a text that has none
abbrev pub place_of : ℕ → List ℕ → ℕ
place_of b text = position_or_len (λ c. eqb c b) text

pub place_of-nil : (b : ℕ) → place_of b [] ≡ 0
place_of-nil b = refl

pub place_of-cons : (b c : ℕ) (cs : List ℕ) → place_of b (c ∷ cs) ≡ cond (eqb c b) 0 (suc (place_of b cs))
place_of-cons b c cs =
    let e = one-add (place_of b cs) in
    elim (eqb c b) as (λ t. cond (not t) (1 + place_of b cs) 0 ≡ cond t 0 (suc (place_of b cs))) [ true ↦ refl | false ↦ e ]

-- the first b is not below i
abbrev pub Past : ℕ → List ℕ → ℕ → Type 0
Past b text i = place_of b text ≡ i + place_of b (drop i text)

pub past_more : (b : ℕ) (text : List ℕ) (i : ℕ) → i < length text → (get_or text i 0 ≡ b → ⊥) → Past b text i → Past b text (i + 1)
past_more b text i h ne p =
    let on : place_of b (drop i text) ≡ suc (place_of b (drop (i + 1) text)) = at_drop_more (place_of b) text i 0 h ∙ place_of-cons _ _ _ ∙ cond-false _ _ _ (ne_eqb _ _ ne) in
    omega arith

pub past_found : (b : ℕ) (text : List ℕ) (i : ℕ) → i < length text → get_or text i 0 ≡ b → Past b text i → i ≡ place_of b text
past_found b text i h e p =
    let on : place_of b (drop i text) ≡ 0 = at_drop_more (place_of b) text i 0 h ∙ place_of-cons _ _ _ ∙ cond-true _ _ _ (eq-eqb _ _ e) in
    omega arith

pub past_none : (b : ℕ) (text : List ℕ) (i : ℕ) → length text ≤ i → Past b text i → i ≡ place_of b text
past_none b text i e p =
    let on : place_of b (drop i text) ≡ 0 = at_drop_all (place_of b) text i e in
    omega arith

-- the first word ends at the first space
pub take-place : (text : List ℕ) → take (place_of 32 text) text ≡ first_word text
take-place text = refl

pub drop-place : (text : List ℕ) → drop (place_of 32 text) text ≡ from_space text
drop-place text = refl

pub first_word-nil : first_word [] ≡ []
first_word-nil = refl

pub first_word-cons : (c : ℕ) (cs : List ℕ) → first_word (c ∷ cs) ≡ cond (eqb c 32) [] (c ∷ first_word cs)
first_word-cons c cs =
    ap (λ n. take n (c ∷ cs)) (place_of-cons 32 c cs)
    ∙ elim (eqb c 32) as (λ t. take (cond t 0 (suc (place_of 32 cs))) (c ∷ cs) ≡ cond t [] (c ∷ first_word cs)) [ true ↦ refl | false ↦ refl ]

pub from_space-nil : from_space [] ≡ []
from_space-nil = refl

pub from_space-cons : (c : ℕ) (cs : List ℕ) → from_space (c ∷ cs) ≡ cond (eqb c 32) (c ∷ cs) (from_space cs)
from_space-cons c cs =
    ap (λ n. drop n (c ∷ cs)) (place_of-cons 32 c cs)
    ∙ elim (eqb c 32) as (λ t. drop (cond t 0 (suc (place_of 32 cs))) (c ∷ cs) ≡ cond t (c ∷ cs) (from_space cs)) [ true ↦ refl | false ↦ refl ]

-- the words of a text that is empty or begins with a space
abbrev after_space : List ℕ → List (List ℕ)
after_space [] = []
after_space (c ∷ cs) = words cs

-- the later words begin at the first space
at_space : (text : List ℕ) → later_words text ≡ after_space (from_space text)
at_space [] = refl
at_space (c ∷ cs) =
    elim (eqb c 32) as (λ t. cond t (words cs) (later_words cs) ≡ after_space (cond t (c ∷ cs) (from_space cs))) [ true ↦ refl | false ↦ at_space cs ]
    ∙ ap after_space (sym (from_space-cons c cs))

pub later-none : (text : List ℕ) → from_space text ≡ [] → later_words text ≡ []
later-none text e = at_space text ∙ ap after_space e

-- and are the words of what stands after that space
pub later_some : (text after : List ℕ) (c : ℕ) → from_space text ≡ c ∷ after → later_words text ≡ words after
later_some text after c e = at_space text ∙ ap after_space e

-- and are those of the text from there on
pub later_from : (text : List ℕ) → later_words (from_space text) ≡ later_words text
later_from [] = refl
later_from (c ∷ cs) =
    ap later_words (from_space-cons c cs)
    ∙ elim (eqb c 32) as (λ t. eqb c 32 ≡ t → later_words (cond t (c ∷ cs) (from_space cs)) ≡ cond t (words cs) (later_words cs))
    [ true ↦ λ e. cond-true _ _ _ e | false ↦ λ e. later_from cs ] refl

pub later-some : (text after : List ℕ) (c : ℕ) → from_space text ≡ c ∷ after → later_words text ≡ first_word after ∷ later_words (from_space after)
later-some text after c e = at_space text ∙ ap after_space e ∙ ap (λ ws. first_word after ∷ ws) (sym (later_from after))

pub from_shorter : (text : List ℕ) → length (from_space text) ≤ length text
from_shorter text = omega (arith, length-drop (place_of 32 text) text)

-- the first of the later words of a text is word, and the others are those of rest
pub record Next (text word rest : List ℕ) : Type 0 where
  pub splits : later_words text ≡ word ∷ later_words rest
  pub shorter : length rest < length text

pub next_cut : (text after word rest : List ℕ) (c : ℕ) → from_space text ≡ c ∷ after → word ≡ first_word after → rest ≡ from_space after → Next text word rest
next_cut text after word rest c e w r =
    let split = later-some text after c e in
    record { splits = cc; shorter = omega (arith, ap length e, ap length r, from_shorter after, from_shorter text) }
