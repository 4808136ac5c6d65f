-- The numbers of the states.
use Rattle.std.specs.Prelude.{ℕ}
use Rattle.states.specs.declared.state.SessionState.{SessionState}
use Rattle.states.specs.declared.state.SessionState.TheVariants.{Unmapped, BeginSent, BeginReceived, Mapped, EndSent, Discarding, Stopped}

abbrev pub state_number : SessionState → ℕ
state_number Unmapped = 0
state_number BeginSent = 1
state_number BeginReceived = 2
state_number Mapped = 3
state_number EndSent = 4
state_number Discarding = 5
state_number Stopped = 6
