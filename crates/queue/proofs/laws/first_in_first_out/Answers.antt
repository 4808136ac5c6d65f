-- The law is the run from the empty list.
use Rattle.std.proofs.Common.{[]}
use Rattle.queue.proofs.Order.{in_order}
use Rattle.queue.proofs.laws.first_in_first_out.Goals as goal

pub returns : goal.returns
returns g c = λ room calls is run. in_order room [] calls is run
