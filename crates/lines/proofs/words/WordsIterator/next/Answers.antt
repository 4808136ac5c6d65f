use Rattle.std.proofs.Common.{rules}
use Rattle.std.proofs.lemmas.List.{nil_from_length}
use Rattle.lines.proofs.Cuts.{later-none, later-some}
use Rattle.lines.proofs.words.WordsIterator.next.Goals as goal

pub returns-in_err-after-clause-steps : goal.returns-in_err-after-clause-steps
returns-in_err-after-clause-steps c = search (rules, later-none, nil_from_length)

pub returns-clause-steps : goal.returns-clause-steps
returns-clause-steps c = search (rules, later-some)

pub returns-clause-goes : goal.returns-clause-goes
returns-clause-goes c = search (rules, later-some)
