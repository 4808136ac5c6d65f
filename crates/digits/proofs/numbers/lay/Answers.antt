use Rattle.std.proofs.Common.{rules, arith}
use Rattle.digits.proofs.Octets.{lay_more, lay_all}
use Rattle.digits.proofs.numbers.lay.Goals as goal

pub loop-i-preserved : goal.loop-i-preserved
loop-i-preserved c = search (rules, lay_more)

pub returns : goal.returns
returns c = lay_all c.args.pairs.now _ c.loop-i.out c.loop-i.i (omega arith) c.loop-i.invariant
