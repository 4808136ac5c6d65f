use Rattle.std.proofs.Common.{◌≡◌, ◌≤◌, drop}
use Rattle.digits.specs.Numbers.{decimal_after, decimal, up_to}
use Rattle.digits.proofs.numbers.decimal.Given as goal

abbrev pub invariant-loop-digit : goal.invariant-loop-digit
invariant-loop-digit l = (l.n ≤ l.most) × (up_to l.most (decimal_after l.n (drop l.digit-index l.text)) ≡ up_to l.most (decimal l.text))
