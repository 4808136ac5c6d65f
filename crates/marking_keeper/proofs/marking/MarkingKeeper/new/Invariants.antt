use Rattle.marking_keeper.specs.Records.{unmarked}
use Rattle.marking_keeper.proofs.Loops.{Over}
use Rattle.marking_keeper.proofs.marking.MarkingKeeper.new.Given as goal

-- The records before this one have lost their marks.
abbrev pub invariant-loop-record : goal.invariant-loop-record
invariant-loop-record l = Over unmarked l.initial.records l.records l.record-index
