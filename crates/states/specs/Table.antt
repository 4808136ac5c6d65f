-- What each event means in each state.
use Rattle.std.specs.Prelude.{ℕ, Bool, cond, ◌==◌}
use Rattle.states.specs.declared.state.SessionState.{SessionState}
use Rattle.states.specs.declared.state.SessionState.TheVariants.{Unmapped, BeginSent, BeginReceived, Mapped, EndSent, Discarding, Stopped}
use Rattle.states.specs.declared.event.SessionEvent.{SessionEvent}
use Rattle.states.specs.declared.event.SessionEvent.TheVariants.{OurBegin, OurEnd, PeerBegin, PeerEnd, PeerFrame, OurFrame}
use Rattle.states.specs.declared.event.Verdict.{Verdict}
use Rattle.states.specs.declared.event.Verdict.TheVariants.{No, To, Runs, Mute, Drop}

-- A side begins once: we begin where we have not, the peer where it has not.
abbrev pub our_begin : SessionState → Verdict
our_begin Unmapped = To BeginSent
our_begin BeginSent = No
our_begin BeginReceived = To Mapped
our_begin Mapped = No
our_begin EndSent = No
our_begin Discarding = No
our_begin Stopped = No

abbrev pub peer_begin : SessionState → Verdict
peer_begin Unmapped = To BeginReceived
peer_begin BeginSent = To Mapped
peer_begin BeginReceived = No
peer_begin Mapped = No
peer_begin EndSent = No
peer_begin Discarding = No
peer_begin Stopped = No

-- We end a mapped session, and none else.
abbrev pub our_end : SessionState → Verdict
our_end Unmapped = No
our_end BeginSent = No
our_end BeginReceived = No
our_end Mapped = To EndSent
our_end EndSent = No
our_end Discarding = No
our_end Stopped = No

-- The peer's end stops a session that either side has begun.
abbrev pub peer_end : SessionState → Verdict
peer_end Unmapped = No
peer_end BeginSent = To Stopped
peer_end BeginReceived = To Stopped
peer_end Mapped = To Stopped
peer_end EndSent = To Stopped
peer_end Discarding = To Stopped
peer_end Stopped = No

-- The peer's other frames run from a begin of either side on. After our end they run without a frame of ours, and
-- after our end with an error they are passed over.
abbrev pub peer_frame : SessionState → Verdict
peer_frame Unmapped = No
peer_frame BeginSent = Runs
peer_frame BeginReceived = Runs
peer_frame Mapped = Runs
peer_frame EndSent = Mute
peer_frame Discarding = Drop
peer_frame Stopped = No

-- Our other frames go out in a mapped session, and in none else.
abbrev pub our_frame : SessionState → Verdict
our_frame Unmapped = No
our_frame BeginSent = No
our_frame BeginReceived = No
our_frame Mapped = Runs
our_frame EndSent = No
our_frame Discarding = No
our_frame Stopped = No

abbrev pub verdict : SessionState → SessionEvent → Verdict
verdict s OurBegin = our_begin s
verdict s OurEnd = our_end s
verdict s PeerBegin = peer_begin s
verdict s PeerEnd = peer_end s
verdict s PeerFrame = peer_frame s
verdict s OurFrame = our_frame s

-- Our end leads to EndSent where it has no error, else to Discarding.
abbrev pub ended : Bool → SessionState → SessionState
ended plain Unmapped = Unmapped
ended plain BeginSent = BeginSent
ended plain BeginReceived = BeginReceived
ended plain Mapped = Mapped
ended plain EndSent = cond plain EndSent Discarding
ended plain Discarding = Discarding
ended plain Stopped = Stopped

abbrev pub led : SessionState → Bool → Verdict → SessionState
led s plain No = s
led s plain (To t) = ended plain t
led s plain Runs = s
led s plain Mute = s
led s plain Drop = s

-- the state after an event; the condition is that of our end, 0 for no error
abbrev pub next : SessionState → SessionEvent → ℕ → SessionState
next s e condition = led s (condition == 0) (verdict s e)
