use Rattle.std.proofs.Common.{rules}
use Rattle.lines.proofs.Values.{value_from_run}
use Rattle.lines.proofs.Line.value.Goals as goal

pub returns : goal.returns
returns c = value_from_run c.args.key.now (λ x r q k. search rules) c.find_map.result _ _ c.find_map.ensures.runs c.new.ensures
