use Rattle.std.proofs.Common.{arith, get_or}
use Rattle.std.proofs.lemmas.Grind.{common_steps}
use Rattle.std.proofs.lemmas.List.{get_or_default, set-get_or}
use Rattle.std.proofs.lemmas.List.Edits.{map_over_more}
use Rattle.links.specs.declared.link.LinkState.TheVariants.{Idle}
use Rattle.links.specs.Links.{awaits_under, blanked}
use Rattle.links.proofs.link_table.LinkTable.forget.Goals as goal
use Rattle.links.proofs.link_table.LinkTable.forget.Goals.{then-awaits, else-awaits}

pub loop-link-preserved : goal.loop-link-preserved
loop-link-preserved c =
    let links = c.loop-link.link-items in
    let i = c.loop-link.link-index in
    let link = get_or links i Idle in
    let more = map_over_more (blanked (awaits_under c.args.handle.0) Idle) c.args.self.now.links links i link (omega arith) c.loop-link.invariant.0 (get_or_default links i Idle link (omega arith)) in
    let same = set-get_or links i Idle in
    elim c.if-awaits.branch [
      | then-awaits w ↦ grind (arith, common_steps)
      | else-awaits w ↦ grind (arith, common_steps)
    ]
