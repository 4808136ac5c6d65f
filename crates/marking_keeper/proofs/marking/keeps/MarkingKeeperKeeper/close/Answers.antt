use Rattle.std.proofs.Common.{◌≡◌, map, refl, ap, ◌∙◌, arith}
use Rattle.definitions.specs.LinkNumbers.{number_of}
use Rattle.marking_keeper.specs.Records.{closed_on}
use Rattle.marking_keeper.proofs.Loops.{over_more, over_all}
use Rattle.marking_keeper.proofs.Moves.{closed, closes, stays}
use Rattle.marking_keeper.proofs.marking.keeps.MarkingKeeperKeeper.close.Goals as goal
use Rattle.marking_keeper.proofs.marking.keeps.MarkingKeeperKeeper.close.Goals.{then-record-number, else-record-number}

pub loop-record-preserved : goal.loop-record-preserved
loop-record-preserved c =
    let n = c.from-number.result in
    let xs = c.args.self.now.records.now in
    let ys = c.loop-record.record-items in
    let i = c.loop-record.record-index in
    elim c.if-record-number.branch [
      | then-record-number w ↦ w.record-items-is ∙ over_more (closed_on n) xs ys i _ _ (closes n _ w.if-record-number.true) (omega arith) (omega arith) c.loop-record.invariant
      | else-record-number w ↦ w.record-items-is ∙ over_more (closed_on n) xs ys i _ _ (stays n _ w.if-record-number.false) (omega arith) (omega arith) c.loop-record.invariant
    ]

pub returns : goal.returns
returns c =
    let l = number_of c.args.link in
    let xs = c.args.self.now.records.now in
    let ys = c.loop-record.record-items in
    let e : ys ≡ map (closed_on l) xs = over_all (closed_on c.from-number.result) xs ys c.loop-record.record-index (omega arith) c.loop-record.invariant
    ∙ ap (λ n. map (closed_on n) xs) (c.from-number.ensures ∙ c.get.ensures) in
    record { keeps = closed l xs ys e; marks = e; lent = refl }
