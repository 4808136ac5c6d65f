-- The list is as long as `used` says.
use Rattle.std.proofs.Common.{sym}
use Rattle.queue.proofs.Rings.{length-around}
use Rattle.queue.proofs.Queue.len.Goals as goal

pub returns : goal.returns
returns g c = let q = c.args.self.now in sym (length-around q.slots.now q.head q.used q.within)
