use Rattle.std.proofs.Common.{refl, sym, ap}
use Rattle.std.proofs.Math.Seq.{map-set_same}
use Rattle.rows.specs.Keys.{key_of}
use Rattle.rows.proofs.Rows.{found_first, found_key}
use Rattle.table_keeper.specs.Slots.{key_in}
use Rattle.table_keeper.specs.Table.{slots_of}
use Rattle.table_keeper.proofs.Moves.{not_pending, noted}
use Rattle.table_keeper.proofs.table.keeps.TableKeeperKeeper.note.Goals as goal

pub returns-in_default : goal.returns-in_default
returns-in_default c = (not_pending c.args.self.now (key_of c.args.row) (sym c.in_default.ensures), λ _. refl)

pub invariant_of-self-clause-apart : goal.invariant_of-self-clause-apart
invariant_of-self-clause-apart c =
    let s = c.args.self.now in
    let x = c.index_mut.result.now in
    rw (map-set_same key_in (slots_of s) c.in-Some.i (record { row = x.row; state = c.args.state }) x (ap key_in c.index_mut.ensures.value)) s.apart

pub returns : goal.returns
returns c =
    let s = c.args.self.now in
    let k = key_of c.args.row in
    let x = c.index_mut.result.now in
    let i = c.in-Some.i in
    let f = found_first key_in k (slots_of s) i (sym c.in-Some.ensures) in
    noted s _ k i (record { row = x.row; state = c.args.state }) f (found_key key_in k (slots_of s) i x f c.index_mut.ensures.value) refl
