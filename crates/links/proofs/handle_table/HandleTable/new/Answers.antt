use Rattle.std.proofs.Common.{append_assoc, refl, arith}
use Rattle.std.proofs.lemmas.List.{get_or-replicate}
use Rattle.links.specs.Handles.{unused}
use Rattle.links.proofs.Countdown.{one_fewer, fresh_idle, fresh_once}
use Rattle.links.proofs.handle_table.HandleTable.new.Goals as goal

pub loop-h-preserved : goal.loop-h-preserved
loop-h-preserved c =
    let next = one_fewer c.loop-h.h (omega arith) in
    record {
      items = grind (arith, append_assoc);
      len = omega arith;
      reserved = omega arith;
    }

pub invariant_of-result : goal.invariant_of-result
invariant_of-result c =
    record {
      whole = refl;
      reserved = omega arith;
      tally = omega arith;
      idle = fresh_idle c.loop-h.vacant.items c.loop-h.h c.loop-h-test.false c.loop-h.invariant.items;
      once = fresh_once c.loop-h.vacant.items c.loop-h.h c.loop-h-test.false c.loop-h.invariant.items;
      distinct = λ i j d l m. rw (get_or-replicate 64 i unused d (omega arith)) refl;
    }
