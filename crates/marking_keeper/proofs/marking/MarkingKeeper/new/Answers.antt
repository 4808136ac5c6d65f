use Rattle.std.proofs.Common.{◌≡◌, map, refl, arith}
use Rattle.marking_keeper.specs.Records.{unmarked}
use Rattle.marking_keeper.proofs.Loops.{over_more, over_all}
use Rattle.marking_keeper.proofs.Moves.{cleared}
use Rattle.marking_keeper.proofs.marking.MarkingKeeper.new.Goals as goal

pub loop-record-preserved : goal.loop-record-preserved
loop-record-preserved c = over_more unmarked c.args.records.now c.loop-record.records c.loop-record.record-index _ _ refl (omega arith) (omega arith) c.loop-record.invariant

pub returns : goal.returns
returns c =
    let xs = c.args.records.now in
    let e : c.loop-record.records ≡ map unmarked xs = over_all unmarked xs c.loop-record.records c.loop-record.record-index (omega arith) c.loop-record.invariant in
    record { cleared = e; none = cleared xs _ e; lent = refl }
