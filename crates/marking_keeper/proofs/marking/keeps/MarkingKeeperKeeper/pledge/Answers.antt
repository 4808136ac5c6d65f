use Rattle.std.proofs.Common.{Some, sym, refl, arith}
use Rattle.definitions.specs.declared.numbers.DeliveryState.TheVariants.{None as NoState}
use Rattle.rows.specs.Keys.{key_of}
use Rattle.marking_keeper.specs.Records.{naming, marked}
use Rattle.marking_keeper.specs.Marking.{held}
use Rattle.marking_keeper.proofs.Changes.{changed_first}
use Rattle.marking_keeper.proofs.Moves.{stand_found, stand_nowhere, pledged}
use Rattle.marking_keeper.proofs.marking.keeps.MarkingKeeperKeeper.pledge.Goals as goal

pub returns-in-None-clause-keeps : goal.returns-in-None-clause-keeps
returns-in-None-clause-keeps c = grind (arith, stand_nowhere c.args.self.now (key_of c.args.row))

pub returns-in-Some-clause-keeps : goal.returns-in-Some-clause-keeps
returns-in-Some-clause-keeps c = grind (arith, stand_found c.args.self.now (key_of c.args.row))

pub returns-in-Some-2 : goal.returns-in-Some-2
returns-in-Some-2 c =
    let s = c.args.self.now in
    let k = key_of c.args.row in
    let m = sym (changed_first (naming k) (marked (Some NoState)) (held s) c.in-Some.i _ (sym c.in-Some.ensures)) in
    record { keeps = pledged s _ k (grind (arith, stand_found s k)) m; marks = m; lent = refl }
