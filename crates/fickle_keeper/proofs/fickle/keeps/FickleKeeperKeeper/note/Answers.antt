use Rattle.std.proofs.Common.{sym, refl}
use Rattle.fickle_keeper.proofs.Moves.{noted}
use Rattle.fickle_keeper.proofs.fickle.keeps.FickleKeeperKeeper.note.Goals as goal

pub returns : goal.returns
returns c =
    let p = sym c.if-not-holds.ensures in
    (p, noted c.args.self.now _ (record { row = c.args.row; state = c.args.state }) p refl)
