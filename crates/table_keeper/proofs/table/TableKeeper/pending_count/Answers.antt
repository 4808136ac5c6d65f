use Rattle.table_keeper.proofs.Counting.{counted}
use Rattle.table_keeper.proofs.table.TableKeeper.pending_count.Goals as goal

pub returns : goal.returns
returns c = rw c.len.ensures (counted c.args.self.now)
