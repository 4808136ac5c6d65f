use Rattle.rows.specs.Keys.{key_of}
use Rattle.marking_keeper.proofs.Moves.{noted}
use Rattle.marking_keeper.proofs.marking.keeps.MarkingKeeperKeeper.note.Goals as goal

pub returns-clause-keeps : goal.returns-clause-keeps
returns-clause-keeps c = noted c.args.self.now c.remark.new.self (key_of c.args.row) c.args.state c.remark.result c.remark.ensures.was c.remark.ensures.marks
