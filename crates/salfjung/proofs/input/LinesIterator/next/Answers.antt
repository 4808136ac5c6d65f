use Rattle.std.proofs.Common.{length, ap, arith, rules}
use Rattle.salfjung.specs.Input.{lines_of}
use Rattle.salfjung.proofs.Cuts.{first_and_others}
use Rattle.salfjung.proofs.input.LinesIterator.next.Goals as goal

pub returns-clause-steps : goal.returns-clause-steps
returns-clause-steps c = search (rules, first_and_others)

pub returns-clause-goes : goal.returns-clause-goes
returns-clause-goes c =
    let step = first_and_others c.args.self.now.rest.now (search rules) in
    record { on = λ _. (tt, tt, omega (arith, ap length step, ap (λ text. length (lines_of text)) c.next_line.ensures.rest)); keeps = tt; rests = λ _. tt }
