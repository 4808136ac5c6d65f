use Rattle.std.proofs.Common.{◌≡◌, rules}
use Rattle.std.proofs.lemmas.Fn.{filter_same}
use Rattle.definitions.specs.LinkNumbers.{number_of}
use Rattle.table_keeper.specs.Slots.{off_link}
use Rattle.table_keeper.specs.Table.{slots_of}
use Rattle.table_keeper.proofs.Moves.{closed}
use Rattle.table_keeper.proofs.Slots.{apart-off_link}
use Rattle.table_keeper.proofs.table.keeps.TableKeeperKeeper.close.Goals as goal

pub invariant_of-self-clause-apart : goal.invariant_of-self-clause-apart
invariant_of-self-clause-apart c =
    let s = c.args.self.now in
    let l = number_of c.args.link in
    let kept : c.retain.new.self.items ≡ off_link l (slots_of s) = filter_same _ _ _ (λ x b f' k. search rules) _ _ c.retain.ensures.filtered in
    rw kept (apart-off_link l (slots_of s) s.apart)

pub returns : goal.returns
returns c =
    let s = c.args.self.now in
    let l = number_of c.args.link in
    closed s l c.retain.new.self.items _ (filter_same _ _ _ (λ x b f' k. search rules) _ _ c.retain.ensures.filtered)
