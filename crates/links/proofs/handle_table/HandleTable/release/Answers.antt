use Rattle.std.proofs.Common.{vec_items, ◌∙◌, arith}
use Rattle.std.proofs.lemmas.List.{length-set}
use Rattle.links.proofs.Handles.{free_tally, free_idle, free_once, free_distinct}
use Rattle.links.proofs.handle_table.HandleTable.release.Goals as goal

pub invariant_of-self : goal.invariant_of-self
invariant_of-self c =
    let s = c.args.self.now in
    let es = s.entries in
    let vs = vec_items s.vacant in
    let h = c.args.handle in
    record {
      whole = length-set es h.0 _ ∙ s.whole;
      reserved = omega arith;
      tally = omega (arith, free_tally es s.whole h c.requires);
      idle = rw c.push_reserved.ensures.items (free_idle es s.whole h c.requires vs s.idle);
      once = rw c.push_reserved.ensures.items (free_once es s.whole h c.requires vs s.idle s.once);
      distinct = free_distinct es s.whole h c.requires s.distinct;
    }
