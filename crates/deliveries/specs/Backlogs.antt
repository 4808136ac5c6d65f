-- The transfers that wait.
use Rattle.std.specs.Prelude.{ℕ, Bool, List, None, Option, is_some, count_by}
use Rattle.deliveries.specs.declared.backlog.Part.{Part}
use Rattle.deliveries.specs.declared.backlog.Part.TheVariants.{First, Continuation}
use Rattle.deliveries.specs.declared.backlog.Waiting.{Waiting}
use Rattle.deliveries.specs.declared.book.BookEntry.{BookEntry}

-- what is to be booked when a part goes out
abbrev pub mark_of : Part → Option BookEntry
mark_of (First mark) = mark
mark_of Continuation = None

-- whether something is to be booked when the transfer goes out
abbrev pub is_marked : Waiting → Bool
is_marked w = is_some (mark_of w.part)

-- how many of them are to be booked
abbrev pub marked : List Waiting → ℕ
marked ws = count_by is_marked ws
