-- How the output handles stand: a list with a place for each handle, and the handles that are not in use.
use Rattle.std.specs.Prelude.{◌≡◌, ℕ, zero, suc, ◌<◌, Bool, false, ◌&&◌, List, [], ◌∷◌, Some, None, Option, is_some, slice_index_or, count_by}
use Rattle.std.specs.Option.{option_eq}
use Rattle.names.specs.declared.octets.Octets.{Octets}
use Rattle.names.specs.Octets.{same_octets}
use Rattle.definitions.specs.declared.numbers.OutputHandle.{OutputHandle}
use Rattle.links.specs.declared.handle.HandleEntry.{HandleEntry}

-- a handle that was never given
abbrev pub unused : HandleEntry
unused = record { name = None; awaited = false }

-- How a handle stands. A handle beyond the table was never given.
abbrev pub handle_at : List HandleEntry → ℕ → HandleEntry
handle_at entries h = slice_index_or entries h unused

-- whether the handle is in use
abbrev pub in_use : HandleEntry → Bool
in_use e = is_some e.name

-- whether the handle is in use by the name
abbrev pub bears_name : Octets 64 → HandleEntry → Bool
bears_name n e = option_eq same_octets e.name (Some n)

-- how many handles are in use
abbrev pub used_in : List HandleEntry → ℕ
used_in entries = count_by in_use entries

-- an entry with another name, or with none
abbrev pub restated : Option (Octets 64) → HandleEntry → HandleEntry
restated n e = record { name = n; awaited = e.awaited }

-- a handle of the table that is not in use
abbrev pub IsVacant : List HandleEntry → OutputHandle → Type 0
IsVacant entries h = (h.0 < 64) × (in_use (handle_at entries h.0) ≡ false)

-- whether two handles are in use by one name
abbrev pub same_name : HandleEntry → HandleEntry → Bool
same_name e f = is_some e.name && option_eq same_octets f.name e.name

-- The handles n − 1 down to 0.
abbrev pub countdown : ℕ → List OutputHandle
countdown zero = []
countdown (suc n) = record { 0 = n } ∷ countdown n
