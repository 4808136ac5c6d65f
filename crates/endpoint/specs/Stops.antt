-- Why a session stopped.
use Rattle.std.specs.Prelude.{ℕ, Some, None, Option}
use Rattle.endpoint.specs.declared.answers.SessionStopReason.{SessionStopReason}
use Rattle.endpoint.specs.declared.answers.SessionStopReason.TheVariants.{Ended, RemoteEnded}

-- 1 after our end, else 2
abbrev pub reason_of : SessionStopReason → ℕ
reason_of (Ended c) = 1
reason_of (RemoteEnded c) = 2

-- the condition of the peer's end
abbrev pub condition_of : SessionStopReason → ℕ
condition_of (Ended c) = c
condition_of (RemoteEnded c) = c

-- both numbers, 0 before the session has stopped
abbrev pub stop_pair : Option SessionStopReason → ℕ × ℕ
stop_pair None = (0, 0)
stop_pair (Some r) = (reason_of r, condition_of r)
