use Rattle.std.proofs.Common.{sym, refl}
use Rattle.rows.specs.Keys.{key_of}
use Rattle.fickle_keeper.proofs.Moves.{let_go}
use Rattle.fickle_keeper.proofs.fickle.keeps.FickleKeeperKeeper.settle.Goals as goal

pub returns : goal.returns
returns c =
    let p = sym c.if-not-holds.ensures in
    (p, let_go c.args.self.now _ (key_of c.args.row) p refl, record { before = refl; same = refl })
