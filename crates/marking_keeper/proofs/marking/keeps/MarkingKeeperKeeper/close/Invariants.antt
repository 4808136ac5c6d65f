use Rattle.marking_keeper.specs.Records.{closed_on}
use Rattle.marking_keeper.proofs.Loops.{Over}
use Rattle.marking_keeper.proofs.marking.keeps.MarkingKeeperKeeper.close.Given as goal

-- The records of the link before this one have lost their marks.
abbrev pub invariant-loop-record : goal.invariant-loop-record
invariant-loop-record l = Over (closed_on l.number) l.initial.record-items l.record-items l.record-index
