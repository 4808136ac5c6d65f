use Rattle.std.proofs.Common.{rules, tests}
use Rattle.std.specs.Str.{bytes_eq}
use Rattle.std.proofs.lemmas.Iterator.Consumers.{YieldsList-from_first}
use Rattle.std.proofs.lemmas.Iterator.Search.{any_from_yields_List}
use Rattle.lines.specs.Words.{words_left}
use Rattle.lines.proofs.Line.flag.Goals as goal

pub returns : goal.returns
returns c =
    any_from_yields_List (bytes_eq c.args.word.now) c.any.new.self _ _ c.any.ensures.ran
    (YieldsList-from_first (λ x. x.now) words_left _ c.new.ensures) (λ x b q k. search (rules, tests))
