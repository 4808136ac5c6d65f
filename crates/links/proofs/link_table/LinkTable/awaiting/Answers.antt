use Rattle.std.proofs.Common.{rules, ◌∙◌}
use Rattle.std.proofs.lemmas.Iterator.{YieldsList-from_slice}
use Rattle.std.proofs.lemmas.Iterator.Search.{position_from_yields_List}
use Rattle.links.specs.Links.{awaits_under}
use Rattle.links.proofs.link_table.LinkTable.awaiting.Goals as goal

pub returns : goal.returns
returns c =
    c.numbered.ensures
    ∙ position_from_yields_List (awaits_under c.args.handle.0) _ _ _ c.position.ensures.ran (YieldsList-from_slice c.args.self.now.links cc) (λ x b q k. search rules)
