-- Which calls the state of a session lets run.
use Rattle.states.specs.declared.state.SessionState.{SessionState}
use Rattle.states.specs.declared.state.SessionState.TheVariants.{Unmapped, BeginSent, BeginReceived, Mapped, EndSent, Discarding, Stopped}
use Rattle.states.specs.declared.event.SessionEvent.TheVariants.{OurBegin, OurEnd, PeerBegin, PeerEnd, PeerFrame, OurFrame}
use Rattle.states.specs.declared.event.Verdict.{Verdict}
use Rattle.states.specs.declared.event.Verdict.TheVariants.{No, To, Runs, Mute, Drop}
use Rattle.states.specs.Table.{verdict}
use Rattle.refusals.specs.declared.errors.SessionStateError.{SessionStateError}
use Rattle.refusals.specs.declared.errors.SessionStateError.TheVariants.{Stopped as HasStopped, IllegalState, SessionNotMapped}
use Rattle.endpoint.specs.Calls.{Call, our_begin, our_end, allocate, deallocate, our_attach, peer_begin, peer_end, peer_attach}

-- A call runs, is passed over, or is barred.
pub data Ruling : Type 0 where
  runs : Ruling
  drops : Ruling
  bars : SessionStateError → Ruling

-- where the table says no
abbrev pub barred : SessionState → SessionStateError
barred Unmapped = IllegalState Unmapped
barred BeginSent = IllegalState BeginSent
barred BeginReceived = IllegalState BeginReceived
barred Mapped = IllegalState Mapped
barred EndSent = IllegalState EndSent
barred Discarding = IllegalState Discarding
barred Stopped = HasStopped Stopped

-- what the table's word means for a call
abbrev pub ruled : SessionState → Verdict → Ruling
ruled s No = bars (barred s)
ruled s (To t) = runs
ruled s Runs = runs
ruled s Mute = runs
ruled s Drop = drops

-- A link is allocated in a mapped session.
abbrev pub allocating : SessionState → Ruling
allocating Unmapped = bars (SessionNotMapped Unmapped)
allocating BeginSent = bars (SessionNotMapped BeginSent)
allocating BeginReceived = bars (SessionNotMapped BeginReceived)
allocating Mapped = runs
allocating EndSent = bars (HasStopped EndSent)
allocating Discarding = bars (HasStopped Discarding)
allocating Stopped = bars (HasStopped Stopped)

-- A link is deallocated in every state but Stopped.
abbrev pub deallocating : SessionState → Ruling
deallocating Unmapped = runs
deallocating BeginSent = runs
deallocating BeginReceived = runs
deallocating Mapped = runs
deallocating EndSent = runs
deallocating Discarding = runs
deallocating Stopped = bars (HasStopped Stopped)

abbrev pub ruling : SessionState → Call → Ruling
ruling s our_begin = ruled s (verdict s OurBegin)
ruling s (our_end n) = ruled s (verdict s OurEnd)
ruling s (allocate n l) = allocating s
ruling s (deallocate h) = deallocating s
ruling s (our_attach x) = ruled s (verdict s OurFrame)
ruling s (peer_begin c b) = ruled s (verdict s PeerBegin)
ruling s (peer_end n) = ruled s (verdict s PeerEnd)
ruling s (peer_attach x) = ruled s (verdict s PeerFrame)
