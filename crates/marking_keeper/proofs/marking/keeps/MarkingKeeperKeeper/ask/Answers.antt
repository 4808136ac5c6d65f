use Rattle.std.proofs.Common.{arith}
use Rattle.rows.specs.Keys.{key_of}
use Rattle.rows.specs.declared.answers.Standing.TheVariants.{Pending, Place, Neither}
use Rattle.marking_keeper.proofs.Moves.{stand_found, stand_nowhere, told}
use Rattle.marking_keeper.proofs.marking.keeps.MarkingKeeperKeeper.ask.Goals as goal

pub returns-in-Some-Some : goal.returns-in-Some-Some
returns-in-Some-Some c =
    let s = c.args.self.now in
    let k = key_of c.args.row in
    told s k Pending (grind (arith, stand_found s k))

pub returns-in-Some-None : goal.returns-in-Some-None
returns-in-Some-None c =
    let s = c.args.self.now in
    let k = key_of c.args.row in
    told s k Place (grind (arith, stand_found s k))

pub returns-in-None : goal.returns-in-None
returns-in-None c =
    let s = c.args.self.now in
    let k = key_of c.args.row in
    told s k Neither (grind (arith, stand_nowhere s k))
