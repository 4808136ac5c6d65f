use Rattle.std.proofs.Common.{◌≡◌, length}
use Rattle.lines.specs.Words.{later_words, words_after, stray, words_left}
use Rattle.lines.proofs.Line.stray.Given as goal

abbrev pub invariant-loop-word : goal.invariant-loop-word
invariant-loop-word l = stray (later_words l.form) (words_left l.words) ≡ stray (later_words l.form) (words_after l.self)

abbrev pub decreases-loop-word : goal.decreases-loop-word
decreases-loop-word l = length (words_left l.words)
