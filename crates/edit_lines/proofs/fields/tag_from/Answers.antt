use Rattle.std.proofs.Common.{◌-◌, take, replicate, Some, refl, ap, ◌∙◌, arith, rules}
use Rattle.digits.specs.Numbers.{hexadecimal}
use Rattle.names.specs.Octets.{kept}
use Rattle.edit_lines.proofs.Texts.{short-fits, short-long}
use Rattle.edit_lines.proofs.fields.tag_from.Goals as goal

pub returns-in_err-bytes-clause-tag : goal.returns-in_err-bytes-clause-tag
returns-in_err-bytes-clause-tag c = search (rules, short-long)

pub returns-clause-tag : goal.returns-clause-tag
returns-clause-tag c =
    let n = c.in_ok-len.len in
    let got = c.in_ok-bytes.ensures.lookup.0 in
    ap Some (c.new.ensures.bytes ∙ ap (kept 32) (got.2 ∙ ap (take (n - 0)) c.hexadecimal.ensures.written))
    ∙ short-fits (hexadecimal c.args.text.now) n (replicate 32 0) c.in_ok-len.ensures.count (omega (arith, got.1, c.hexadecimal.auto.out)) refl
