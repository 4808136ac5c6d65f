use Rattle.std.proofs.Common.{rules}
use Rattle.lines.proofs.Keys.{value_of-strips}
use Rattle.lines.proofs.words.value_of.Goals as goal

pub returns-in_err-strip_prefix : goal.returns-in_err-strip_prefix
returns-in_err-strip_prefix c = search (rules, value_of-strips)

pub returns : goal.returns
returns c = search (rules, value_of-strips)
