use Rattle.rows.specs.Keys.{key_of}
use Rattle.marking_keeper.proofs.Moves.{settled}
use Rattle.marking_keeper.proofs.marking.keeps.MarkingKeeperKeeper.settle.Goals as goal

pub returns-clause-keeps : goal.returns-clause-keeps
returns-clause-keeps c = settled c.args.self.now c.remark.new.self (key_of c.args.row) c.remark.result c.remark.ensures.was c.remark.ensures.marks
