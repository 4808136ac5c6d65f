use Rattle.std.proofs.Common.{rules, ◌≡◌, ◌∙◌}
use Rattle.std.specs.Option.{option_map}
use Rattle.std.proofs.lemmas.Iterator.{YieldsList-from_slice}
use Rattle.std.proofs.lemmas.Iterator.Search.{position_from_yields_List}
use Rattle.links.specs.Handles.{bears_name}
use Rattle.links.proofs.handle_table.HandleTable.find.Goals as goal

pub returns : goal.returns
returns c =
    let handle : option_map (λ h. h.0) c.map.result ≡ c.position.result = search rules in
    handle ∙ position_from_yields_List (bears_name c.args.name) _ _ _ c.position.ensures.ran (YieldsList-from_slice c.args.self.now.entries cc) (λ x b q k. search rules)
