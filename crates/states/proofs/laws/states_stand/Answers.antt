use Rattle.states.proofs.Runs.{mapped_by_both_begins, stopped_is_final, discarding_until_peer_end}
use Rattle.states.proofs.laws.states_stand.Goals as goal

pub returns : goal.returns
returns c = record { mapped = mapped_by_both_begins; stopped = stopped_is_final; discarding = discarding_until_peer_end }
