use Rattle.std.proofs.Common.{◌≡◌, [], ◌∷◌, ◌++◌, vec_items, ap, ◌∙◌, arith}
use Rattle.std.specs.Option.{option_to_list}
use Rattle.std.proofs.lemmas.List.{length-set}
use Rattle.std.proofs.lemmas.List.Elements.{All-pop}
use Rattle.links.specs.Handles.{IsVacant}
use Rattle.links.proofs.Handles.{give_tally, give_idle, give_distinct, pop_once, pop_other}
use Rattle.links.proofs.handle_table.HandleTable.give.Goals as goal

pub invariant_of-self : goal.invariant_of-self
invariant_of-self c =
    let s = c.args.self.now in
    let es = s.entries in
    let vs = vec_items s.vacant in
    let us = vec_items c.pop.new.self in
    let h = c.unwrap-handle.result in
    let name = c.args.name in
    let was : vs ≡ us ++ h ∷ [] = c.pop.ensures.items ∙ ap (λ o. us ++ option_to_list o) c.unwrap-handle.ensures in
    let idle = All-pop (IsVacant es) vs us c.pop.result c.pop.ensures.items s.idle in
    let last : IsVacant es h = rw c.unwrap-handle.ensures at idle.1 in
    record {
      whole = length-set es h.0 _ ∙ s.whole;
      reserved = omega arith;
      tally = omega (arith, give_tally es s.whole h last name, rw c.unwrap-handle.ensures at c.pop.ensures.len);
      idle = give_idle es s.whole h last name us idle.0 (pop_other vs us h was s.once);
      once = pop_once vs us h was s.once;
      distinct = give_distinct es s.whole h last name s.distinct c.requires.unnamed;
    }
