use Rattle.std.proofs.Common.{sym, arith}
use Rattle.rows.specs.Keys.{key_of}
use Rattle.marking_keeper.specs.Records.{naming, marked}
use Rattle.marking_keeper.specs.Marking.{held}
use Rattle.marking_keeper.proofs.Changes.{changed_first}
use Rattle.marking_keeper.proofs.Moves.{stand_found, stand_nowhere}
use Rattle.marking_keeper.proofs.marking.MarkingKeeper.remark.Goals as goal

pub returns-in-Some-clause-was : goal.returns-in-Some-clause-was
returns-in-Some-clause-was c = grind (arith, stand_found c.args.self.now (key_of c.args.row))

pub returns-in-Some-clause-marks : goal.returns-in-Some-clause-marks
returns-in-Some-clause-marks c = sym (changed_first (naming (key_of c.args.row)) (marked c.args.mark) (held c.args.self.now) c.in-Some.i _ (sym c.in-Some.ensures))

pub returns-in_default-clause-was : goal.returns-in_default-clause-was
returns-in_default-clause-was c = grind (arith, stand_found c.args.self.now (key_of c.args.row))

pub returns-in_default-2-clause-was : goal.returns-in_default-2-clause-was
returns-in_default-2-clause-was c = grind (arith, stand_nowhere c.args.self.now (key_of c.args.row))
