use Rattle.std.proofs.Common.{length}
use Rattle.queue.specs.Contents.{contents}
use Rattle.salfjung.proofs.replay.Replay.print_wire.Given as goal

abbrev pub decreases-loop-frame : goal.decreases-loop-frame
decreases-loop-frame l = length (contents l.self.wire)
