use Rattle.std.proofs.Common.{◌+◌, ◌∙◌, length, get_or, arith, rules}
use Rattle.std.proofs.lemmas.Bool.{eq-eqb}
use Rattle.salfjung.proofs.Cuts.{line_ends, line_is_all, part_from, part_shorter, upto_from}
use Rattle.salfjung.proofs.input.next_line.Goals as goal

pub returns-in-Some : goal.returns-in-Some
returns-in-Some c =
    let text = c.args.text.now in
    let end = c.in-Some.end in
    let cut = line_ends text end (upto_from text end (search rules) (search rules)) (search rules) (eq-eqb (get_or text end 0) 10 (search rules)) in
    record { line = cut.0; rest = part_from (end + 1) text ∙ cut.1; less = λ some. part_shorter (end + 1) text (omega arith) some }

pub returns-in-None : goal.returns-in-None
returns-in-None c =
    let text = c.args.text.now in
    let all = line_is_all text (length text) (upto_from text (length text) (omega arith) (search rules)) (omega arith) in
    record { line = all.0; rest = all.1; less = λ some. some }
