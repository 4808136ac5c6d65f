-- The numbers and bytes that a text writes in digits.
use Rattle.std.specs.Prelude.{ℕ, ◌+◌, ◌-◌, ◌*◌, cond, List, [], ◌∷◌, Some, None, Option, nat_lt, nat_le, slice_index, unwrap_or}
use Rattle.std.specs.Char.{digit_value}
use Rattle.std.specs.Option.{option_map, option_zip}
use Rattle.std.specs.Int.{is_in_range}

-- the number that the digits '0' to '9' write after those of n; none where another byte stands among them
abbrev pub decimal_after : ℕ → List ℕ → Option ℕ
decimal_after n [] = Some n
decimal_after n (c ∷ cs) = cond (is_in_range 48 57 c) (decimal_after (n * 10 + (c - 48)) cs) None

-- the number that a text of one digit or more writes
abbrev pub decimal : List ℕ → Option ℕ
decimal [] = None
decimal (c ∷ cs) = decimal_after 0 (c ∷ cs)

-- a number, where it is at most the given one
abbrev pub up_to : ℕ → Option ℕ → Option ℕ
up_to most None = None
up_to most (Some n) = cond (nat_le n most) (Some n) None

-- the number of a hexadecimal digit: '0' to '9', 'A' to 'F' or 'a' to 'f'
abbrev pub nibble : ℕ → Option ℕ
nibble c = cond (nat_lt (digit_value c) 16) (Some (digit_value c)) None

-- the byte that two such digits write
abbrev pub octet : ℕ → ℕ → Option ℕ
octet high low = option_map (λ p. p.0 * 16 + p.1) (option_zip (nibble high) (nibble low))

-- the byte that a pair of digits writes
abbrev pub octet_of : List ℕ → Option ℕ
octet_of pair = octet (slice_index pair 0) (slice_index pair 1)

-- the same, and 0 where the pair writes none
abbrev pub byte_of : List ℕ → ℕ
byte_of pair = unwrap_or (octet_of pair) 0

-- the bytes that a text of such pairs writes
abbrev pub hexadecimal : List ℕ → Option (List ℕ)
hexadecimal [] = Some []
hexadecimal (c ∷ []) = None
hexadecimal (c ∷ d ∷ cs) = option_map (λ p. p.0 ∷ p.1) (option_zip (octet c d) (hexadecimal cs))

-- what a buffer holds once bytes are written from its front on, as many as fit
abbrev pub laid : List ℕ → List ℕ → List ℕ
laid [] held = held
laid (b ∷ bytes) [] = []
laid (b ∷ bytes) (h ∷ held) = b ∷ laid bytes held
