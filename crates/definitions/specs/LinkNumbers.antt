-- What a link number stands for.
use Rattle.std.specs.Prelude.{ℕ}
use Rattle.definitions.specs.declared.link_number.LinkNumber.{LinkNumber}

abbrev pub number_of : LinkNumber → ℕ
number_of l = l.number
