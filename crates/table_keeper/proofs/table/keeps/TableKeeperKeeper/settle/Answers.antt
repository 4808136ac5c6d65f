use Rattle.std.proofs.Common.{refl, sym}
use Rattle.rows.specs.Keys.{key_of}
use Rattle.rows.proofs.Rows.{found_first}
use Rattle.table_keeper.specs.Slots.{key_in}
use Rattle.table_keeper.specs.Table.{slots_of}
use Rattle.table_keeper.proofs.Moves.{not_pending, settled}
use Rattle.table_keeper.proofs.Slots.{found, apart-remove}
use Rattle.table_keeper.proofs.table.keeps.TableKeeperKeeper.settle.Goals as goal

pub returns-in_default : goal.returns-in_default
returns-in_default c = (not_pending c.args.self.now (key_of c.args.row) (sym c.in_default.ensures), λ _. refl)

pub invariant_of-self-clause-apart : goal.invariant_of-self-clause-apart
invariant_of-self-clause-apart c =
    let s = c.args.self.now in
    let i = c.in-Some.i in
    rw c.remove.ensures.items (apart-remove (slots_of s) i (found (key_of c.args.row) (slots_of s) i c.remove.result (sym c.in-Some.ensures)).0 s.apart)

pub returns : goal.returns
returns c =
    let s = c.args.self.now in
    let k = key_of c.args.row in
    let i = c.in-Some.i in
    settled s _ k i (found_first key_in k (slots_of s) i (sym c.in-Some.ensures)) c.remove.ensures.items c.remove.ensures.len
