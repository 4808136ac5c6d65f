-- What a short byte string stands for.
use Rattle.std.specs.Prelude.{ℕ, Bool, cond, ◌&&◌, List, [], length, take, ◌==◌, nat_le}
use Rattle.std.specs.Str.{bytes_eq}
use Rattle.names.specs.declared.octets.Octets.{Octets}

-- What is held of a text where n bytes have room: all of it, or nothing of one that is longer.
abbrev pub kept : ℕ → List ℕ → List ℕ
kept n text = cond (nat_le (length text) n) text []

-- the bytes that are held
abbrev pub bytes_in : {n : ℕ} → Octets n → List ℕ
bytes_in {n} b = cond (nat_le b.len n) (take b.len b.bytes) []

-- whether two byte strings are one: as long, and with the same bytes
abbrev pub same_octets : {m n : ℕ} → Octets m → Octets n → Bool
same_octets a b = a.len == b.len && bytes_eq (bytes_in a) (bytes_in b)
