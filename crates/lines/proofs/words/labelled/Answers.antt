use Rattle.std.proofs.Common.{rules, tests, refl}
use Rattle.std.specs.Str.{bytes_eq}
use Rattle.std.proofs.lemmas.Iterator.Consumers.{YieldsList-from_first}
use Rattle.std.proofs.lemmas.Iterator.Search.{any_from_yields_List}
use Rattle.lines.specs.Words.{words_left, label}
use Rattle.lines.proofs.words.labelled.Goals as goal

pub returns : goal.returns
returns c =
    any_from_yields_List (λ w. bytes_eq (label c.args.word.now) (label w)) c.any.new.self _ _ c.any.ensures.ran
    (YieldsList-from_first (λ x. x.now) words_left _ refl) (λ x b q k. search (rules, tests))
