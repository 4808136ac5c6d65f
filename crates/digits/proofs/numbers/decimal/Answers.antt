use Rattle.std.proofs.Common.{rules}
use Rattle.digits.proofs.Digits.{digit_none, digit_some, up_to_le, all_read}
use Rattle.digits.proofs.numbers.decimal.Goals as goal

pub loop-digit-preserved : goal.loop-digit-preserved
loop-digit-preserved c = search (rules, up_to_le, digit_some)

pub returns-in_err-n : goal.returns-in_err-n
returns-in_err-n c = search (rules, digit_none)

pub returns : goal.returns
returns c = search (rules, all_read)
