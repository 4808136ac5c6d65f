-- How a line is read as words: a verb, and after it values by key and flags. A space is the byte 32, and '=' is 61.
use Rattle.std.specs.Prelude.{ℕ, ◌+◌, Bool, cond, not, ◌&&◌, List, [], ◌∷◌, Some, None, Option, ◌==◌, take, drop}
use Rattle.std.specs.List.{before_first, list_any, position_or_len}
use Rattle.std.specs.Option.{option_or}
use Rattle.std.specs.Str.{bytes_eq}
use Rattle.lines.specs.declared.Line.{Line}
use Rattle.lines.specs.declared.words.Words.{Words}

-- the first word of a text: what stands before its first space
abbrev pub first_word : List ℕ → List ℕ
first_word text = before_first (λ c. c == 32) text

-- what stands from the first space on
abbrev pub from_space : List ℕ → List ℕ
from_space text = drop (position_or_len (λ c. c == 32) text) text

-- the other words: each space begins one, an empty one where another space or the end follows
abbrev pub later_words : List ℕ → List (List ℕ)
later_words [] = []
later_words (c ∷ cs) = cond (c == 32) (first_word cs ∷ later_words cs) (later_words cs)

abbrev pub text_of : Line → List ℕ
text_of line = line.text.now

-- the words of a line after its verb
abbrev pub words_after : Line → List (List ℕ)
words_after line = later_words (text_of line)

-- the words that are still to come
abbrev pub words_left : Words → List (List ℕ)
words_left s = later_words s.rest.now

-- all words: the pieces between the spaces
abbrev pub words : List ℕ → List (List ℕ)
words text = first_word text ∷ later_words text

-- the value that a word gives a key: the word is the key, '=' and the value
abbrev pub value_of : List ℕ → List ℕ → Option (List ℕ)
value_of [] [] = None
value_of [] (c ∷ cs) = cond (c == 61) (Some cs) None
value_of (k ∷ key) [] = None
value_of (k ∷ key) (c ∷ cs) = cond (c == k) (value_of key cs) None

-- the value that the first of the words with that key gives it
abbrev pub value_in : List ℕ → List (List ℕ) → Option (List ℕ)
value_in key [] = None
value_in key (w ∷ ws) = option_or (value_of key w) (value_in key ws)

-- whether w is one of the words
abbrev pub among : List ℕ → List (List ℕ) → Bool
among w ws = list_any (bytes_eq w) ws

-- what of a word says which key or which flag it is: a key up to its '=', with it, or the whole flag
abbrev pub label : List ℕ → List ℕ
label word = take (position_or_len (λ c. c == 61) word + 1) word

-- whether one of the words has the label of w
abbrev pub labelled : List ℕ → List (List ℕ) → Bool
labelled w ws = list_any (λ v. bytes_eq (label w) (label v)) ws

-- the first word with a label that the form's words lack, or that a later word has again
abbrev pub stray : List (List ℕ) → List (List ℕ) → Option (List ℕ)
stray form [] = None
stray form (w ∷ ws) = cond (labelled w form && not (labelled w ws)) (stray form ws) (Some w)
