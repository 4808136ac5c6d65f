-- The two ways of the test are the two cases of the remainder.
use Rattle.std.proofs.Common.{sym, arith}
use Rattle.queue.proofs.Rings.{slot_ahead, slot_wrapped}
use Rattle.queue.proofs.ends.slot_after.Goals as goal

pub returns-then-n-ahead : goal.returns-then-n-ahead
returns-then-n-ahead c = sym (slot_ahead c.args.from c.args.n c.args.count (omega arith))

pub returns-else-n-ahead : goal.returns-else-n-ahead
returns-else-n-ahead c = sym (slot_wrapped c.args.from c.args.n c.args.count (omega arith) (omega arith) (omega arith))
