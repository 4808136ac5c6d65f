use Rattle.std.proofs.Common.{map}
use Rattle.digits.specs.Numbers.{byte_of, laid}
use Rattle.digits.proofs.Octets.{Laying}
use Rattle.digits.proofs.numbers.lay.Given as goal

abbrev pub invariant-loop-i : goal.invariant-loop-i
invariant-loop-i l = Laying l.pairs (laid (map byte_of l.pairs) l.initial.out) l.out l.i
