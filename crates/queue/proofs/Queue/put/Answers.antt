-- A refusal comes only where every slot is in use, and changes nothing; else the list has one more at its end.
use Rattle.std.proofs.Common.{◌<◌, length, refl, ap, ◌∙◌, arith, length-set}
use Rattle.std.proofs.lemmas.List.{length_push}
use Rattle.queue.specs.Contents.{contents, places}
use Rattle.queue.proofs.Rings.{length-around, put_around}
use Rattle.queue.proofs.Queue.put.Goals as goal

pub returns-then-used-count : goal.returns-then-used-count
returns-then-used-count g c =
    let q = c.args.self.now in
    let long = length-around q.slots.now q.head q.used q.within in
    record { put = (refl {a = contents q}, omega arith); count = omega arith; room = refl {a = places q} }

pub returns : goal.returns
returns g c =
    let q = c.args.self.now in
    let xs = q.slots.now in
    let x = c.args.x in
    let at = c.slot_after.result in
    let long = length-around xs q.head q.used q.within in
    let spare : q.used < length xs = omega arith in
    let head : q.head < length xs = omega arith in
    let added = put_around xs c.store.new.slots q.head q.used at x head spare c.slot_after.ensures c.store.ensures in
    record {
      put = (added, omega arith);
      count = ap length added ∙ length_push (contents q) x;
      room = ap length c.store.ensures ∙ length-set xs at x;
    }
