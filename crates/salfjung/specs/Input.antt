-- How the input is cut into lines. The end of a line is the byte 10, and '#' is 35.
use Rattle.std.specs.Prelude.{ℕ, Bool, true, cond, List, [], ◌∷◌, ◌==◌}
use Rattle.std.specs.List.{onto_first}
use Rattle.salfjung.specs.declared.input.Lines.{Lines}

-- the first line, without its end
abbrev pub first_line : List ℕ → List ℕ
first_line [] = []
first_line (c ∷ cs) = cond (c == 10) [] (c ∷ first_line cs)

-- what follows the end of the first line
abbrev pub other_lines : List ℕ → List ℕ
other_lines [] = []
other_lines (c ∷ cs) = cond (c == 10) cs (other_lines cs)

-- the lines of a text, told byte by byte: without bytes none; else its first line, and the lines of what follows it
abbrev pub lines_of : List ℕ → List (List ℕ)
lines_of [] = []
lines_of (c ∷ cs) = cond (c == 10) ([] ∷ lines_of cs) (onto_first c (lines_of cs))

-- the lines that are still to come
abbrev pub lines_left : Lines → List (List ℕ)
lines_left s = lines_of s.rest.now

-- whether a line is blank or a comment
abbrev pub says_nothing : List ℕ → Bool
says_nothing [] = true
says_nothing (c ∷ cs) = c == 35
