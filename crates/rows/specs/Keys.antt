-- Which rows are one row.
use Rattle.std.specs.Prelude.{ℕ, Bool, ◌&&◌, List, ◌==◌}
use Rattle.std.specs.Str.{bytes_eq}
use Rattle.definitions.specs.LinkNumbers.{number_of}
use Rattle.names.specs.Octets.{bytes_in}
use Rattle.rows.specs.declared.row.Row.{Row}

-- What a row is known by: its link's number and the bytes of its tag. Rows with one key are one row.
pub record Key : Type 0 where
  pub link : ℕ
  pub tag : List ℕ

abbrev pub key_of : Row → Key
key_of r = record { link = number_of r.link; tag = bytes_in r.tag }

-- whether two keys are one
abbrev pub same_key : Key → Key → Bool
same_key j k = j.link == k.link && bytes_eq j.tag k.tag
