use Rattle.std.proofs.Common.{rules}
use Rattle.digits.proofs.Octets.{hexadecimal-even, hexadecimal-odd}
use Rattle.digits.proofs.numbers.digit_pairs.Goals as goal
use Rattle.digits.proofs.numbers.digit_pairs.Goals.{in_default-via-in_default-empty+else-are_octets, in_default-via-else-as_chunks-lt1}

pub returns-in_default-empty-clause-bytes : goal.returns-in_default-empty-clause-bytes
returns-in_default-empty-clause-bytes c = search (rules, hexadecimal-even)

pub returns-in_default-clause-bytes : goal.returns-in_default-clause-bytes
returns-in_default-clause-bytes c =
    elim c.in_default.branch [
      | in_default-via-in_default-empty+else-are_octets w ↦ search (rules, hexadecimal-even)
      | in_default-via-else-as_chunks-lt1 w ↦ search (rules, hexadecimal-odd)
    ]
