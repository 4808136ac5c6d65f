use Rattle.std.proofs.Common.{◌≡◌, true, subst, arith}
use Rattle.definitions.specs.declared.numbers.DeliveryState.TheVariants.{None}
use Rattle.rows.specs.Keys.{key_of}
use Rattle.rows.specs.Meaning.{standing}
use Rattle.table_keeper.specs.Table.{slots_of, stand}
use Rattle.table_keeper.proofs.Moves.{free_parts, pledged}
use Rattle.table_keeper.proofs.Slots.{apart-push}
use Rattle.table_keeper.proofs.table.keeps.TableKeeperKeeper.pledge.Goals as goal

pub invariant_of-self-clause-few : goal.invariant_of-self-clause-few
invariant_of-self-clause-few c =
    let s = c.args.self.now in
    let k = key_of c.args.row in
    omega (arith, c.push_reserved.ensures.len, (free_parts s k (subst (λ w. (standing w).given (stand s k) ≡ true) c.in_ok-admit.ensures c.ask.ensures.stands)).2)

pub invariant_of-self-clause-apart : goal.invariant_of-self-clause-apart
invariant_of-self-clause-apart c =
    let s = c.args.self.now in
    let k = key_of c.args.row in
    let free = free_parts s k (subst (λ w. (standing w).given (stand s k) ≡ true) c.in_ok-admit.ensures c.ask.ensures.stands) in
    rw c.push_reserved.ensures.items (apart-push (slots_of s) (record { row = c.args.row; state = None }) s.apart free.1)

pub returns : goal.returns
returns c =
    let s = c.args.self.now in
    let k = key_of c.args.row in
    let free = subst (λ w. (standing w).given (stand s k) ≡ true) c.in_ok-admit.ensures c.ask.ensures.stands in
    pledged s _ (record { row = c.args.row; state = None }) free c.push_reserved.ensures.items c.push_reserved.ensures.len
