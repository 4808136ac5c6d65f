use Rattle.std.proofs.Common.{arith}
use Rattle.rows.specs.Keys.{key_of}
use Rattle.rows.specs.declared.answers.Standing.TheVariants.{Place, Neither}
use Rattle.table_keeper.proofs.Counting.{told}
use Rattle.table_keeper.proofs.Moves.{free_from, full_from}
use Rattle.table_keeper.proofs.table.keeps.TableKeeperKeeper.ask.Goals as goal

pub returns-in-None : goal.returns-in-None
returns-in-None c = told c.args.self.now (key_of c.args.row) Place (grind (arith, free_from))

pub returns-in-None-2 : goal.returns-in-None-2
returns-in-None-2 c = told c.args.self.now (key_of c.args.row) Neither (grind (arith, full_from))
