-- No more elements wait than there are slots.
use Rattle.std.proofs.Common.{arith}
use Rattle.queue.proofs.Rings.{length-around}
use Rattle.queue.proofs.Queue.free.Goals as goal

pub overflow_sub-result : goal.overflow_sub-result
overflow_sub-result g c =
    let q = c.args.self.now in
    let long = length-around q.slots.now q.head q.used q.within in
    omega arith

pub returns : goal.returns
returns g c =
    let q = c.args.self.now in
    let long = length-around q.slots.now q.head q.used q.within in
    record { left = omega arith; whole = omega arith }
