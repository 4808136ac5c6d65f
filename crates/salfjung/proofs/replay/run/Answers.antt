use Rattle.std.proofs.Common.{rules}
use Rattle.salfjung.proofs.Cuts.{lines_few}
use Rattle.salfjung.proofs.replay.run.Goals as goal

pub loop-i-init : goal.loop-i-init
loop-i-init c = search (rules, lines_few)
