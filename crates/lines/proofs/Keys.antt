-- How a word is read by its '='.
use Rattle.std.proofs.Common.{◌≡◌, ℕ, suc, ◌+◌, ◌≤◌, true, false, ◌&&◌, ◌||◌, cond, eqb, List, [], ◌∷◌, ◌++◌, length, take, drop, Some, None, Option, sym, refl, ap, ◌∙◌, arith, Bor, MatchOption, option_map}
use Rattle.std.specs.Cmp.Lexicographic.{pointwise}
use Rattle.std.specs.Option.{option_and_then}
use Rattle.std.specs.Str.{bytes_eq}
use Rattle.std.proofs.lemmas.List.{append_cancel_left, take_all}
use Rattle.std.proofs.lemmas.Bool.{eq-eqb, ne_eqb, eqb-true, cond-true, cond-false}
use Rattle.lines.specs.Words.{value_of, among, label, labelled}
use Rattle.lines.proofs.Cuts.{place_of, place_of-cons}

-- the label ends with the first '='
pub label_cut : (word : List ℕ) (n : ℕ) → n ≡ place_of 61 word + 1 → take n word ≡ label word
label_cut word n e = ap (λ k. take k word) e

-- or is the word where there is none
pub label_whole : (word : List ℕ) → length word ≤ place_of 61 word → word ≡ label word
label_whole word h = sym (take_all (place_of 61 word + 1) word (omega arith))

pub label-nil : label [] ≡ []
label-nil = refl

pub label-cons : (c : ℕ) (cs : List ℕ) → label (c ∷ cs) ≡ c ∷ cond (eqb c 61) [] (label cs)
label-cons c cs =
    let more : suc (place_of 61 cs) + 1 ≡ suc (place_of 61 cs + 1) = omega arith in
    ap (λ n. take (n + 1) (c ∷ cs)) (place_of-cons 61 c cs)
    ∙ elim (eqb c 61) as (λ t. take (cond t 0 (suc (place_of 61 cs)) + 1) (c ∷ cs) ≡ c ∷ cond t [] (label cs)) [ true ↦ refl | false ↦ ap (λ n. take n (c ∷ cs)) more ]

-- a word is among no words, and among others by the first or by those after it
pub among-nil : (w : List ℕ) → among w [] ≡ false
among-nil w = refl

pub among-cons : (w v : List ℕ) (vs : List (List ℕ)) → among w (v ∷ vs) ≡ (bytes_eq w v || among w vs)
among-cons w v vs = refl

-- and so is its label
pub labelled-nil : (w : List ℕ) → labelled w [] ≡ false
labelled-nil w = refl

pub labelled-cons : (w v : List ℕ) (vs : List (List ℕ)) → labelled w (v ∷ vs) ≡ (bytes_eq (label w) (label v) || labelled w vs)
labelled-cons w v vs = refl

-- a text without the prefix that it begins with
abbrev pub stripped : List ℕ → List ℕ → Option (List ℕ)
stripped prefix text = cond (pointwise eqb (take (length prefix) text) prefix) (Some (drop (length prefix) text)) None

-- a key's value stands behind the key and '='
pub value_of-strips : (key word : List ℕ) → value_of key word ≡ option_and_then (stripped (61 ∷ [])) (stripped key word)
value_of-strips [] [] = refl
value_of-strips [] (c ∷ cs) = elim (eqb c 61) as (λ t. cond t (Some cs) None ≡ cond (t && true) (Some cs) None) [ true ↦ refl | false ↦ refl ]
value_of-strips (k ∷ key) [] = refl
value_of-strips (k ∷ key) (c ∷ cs) =
    elim (eqb c k) as (λ t. cond t (value_of key cs) None ≡ option_and_then (stripped (61 ∷ [])) (cond (t && pointwise eqb (take (length key) cs) key) (Some (drop (length key) cs)) None))
    [ true ↦ value_of-strips key cs | false ↦ refl ]

-- a word of the key, '=' and a value gives the key that value
pub value_some : (key value : List ℕ) → value_of key (key ++ 61 ∷ value) ≡ Some value
value_some [] value = refl
value_some (k ∷ key) value = cond-true _ _ _ (eq-eqb k k refl) ∙ value_some key value

-- no other word gives it one
pub value_none : (key word : List ℕ) → ((value : List ℕ) → word ≡ key ++ 61 ∷ value → ⊥) → value_of key word ≡ None
value_none [] [] h = refl
value_none [] (c ∷ cs) h = cond-false _ _ _ (ne_eqb c 61 (λ e. h cs (ap (λ b. b ∷ cs) e)))
value_none (k ∷ key) [] h = refl
value_none (k ∷ key) (c ∷ cs) h =
    elim (eqb c k) as (λ t. eqb c k ≡ t → cond t (value_of key cs) None ≡ None)
    [ true ↦ λ e. value_none key cs (λ value same. let first = eqb-true c k e in h value cc) | false ↦ λ e. refl ] refl

-- once the key is off the word, what follows '=' is the value
pub value_off : (key word rest : List ℕ) (r : Option (Bor (List ℕ))) → word ≡ key ++ rest → MatchOption r ((value : List ℕ) → rest ≡ (61 ∷ []) ++ value → ⊥) (λ x. rest ≡ (61 ∷ []) ++ x.now) → option_map (λ x. x.now) r ≡ value_of key word
value_off key word rest None e h = sym (value_none key word (λ value same. h value (append_cancel_left key _ _ (sym e ∙ same))))
value_off key word rest (Some x) e h = sym (ap (value_of key) (e ∙ ap (λ l. key ++ l) h) ∙ value_some key x.now)
