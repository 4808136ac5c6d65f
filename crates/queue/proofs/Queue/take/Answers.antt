-- The list was what stood in the slot at its head, and then what is left.
use Rattle.std.proofs.Common.{◌-◌, ◌<◌, ◌≤◌, length, refl, arith}
use Rattle.queue.specs.Contents.{places}
use Rattle.queue.proofs.Rings.{length-around, take-around}
use Rattle.queue.proofs.Queue.take.Goals as goal

pub returns : goal.returns
returns g c =
    let q = c.args.self.now in
    let xs = q.slots.now in
    let next = c.slot_after.result in
    let some : 0 < q.used = omega arith in
    let head : q.head < length xs = omega arith in
    let fewer : q.used - 1 ≤ length xs = omega arith in
    let was = length-around xs q.head q.used q.within in
    let left = length-around xs next (q.used - 1) fewer in
    record {
      taken = take-around xs q.head q.used next _ head some q.within c.slot_after.ensures;
      count = omega arith;
      room = refl {a = places q};
    }
