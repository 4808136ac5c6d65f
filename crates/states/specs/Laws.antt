-- What the table comes to, in the words of Part 2, sections 2.5.1 to 2.5.5.
use Rattle.std.specs.Prelude.{◌≡◌, ℕ, Bool, true, false, not, ◌&&◌, ◌||◌, List, [], ◌∷◌, ◌≢◌}
use Rattle.states.specs.declared.state.SessionState.{SessionState}
use Rattle.states.specs.declared.state.SessionState.TheVariants.{Unmapped, BeginSent, BeginReceived, Mapped, EndSent, Discarding, Stopped}
use Rattle.states.specs.declared.event.SessionEvent.{SessionEvent}
use Rattle.states.specs.declared.event.SessionEvent.TheVariants.{OurBegin, OurEnd, PeerBegin, PeerEnd, PeerFrame, OurFrame}
use Rattle.states.specs.declared.event.Verdict.TheVariants.{No, To}
use Rattle.states.specs.Table.{verdict, next}

-- an event with the condition of our end, which only our end has
pub record Happening : Type 0 where
  pub event : SessionEvent
  pub condition : ℕ

-- The events happen one after the other, the latest first in the list, and lead from a new session to the state.
pub data Reached : List Happening → SessionState → Type 0 where
  new : Reached [] Unmapped
  more : {es : List Happening} {s : SessionState} (e : Happening) → Reached es s → (verdict s e.event ≢ No) → Reached (e ∷ es) (next s e.event e.condition)

abbrev pub is_our_begin : SessionEvent → Bool
is_our_begin OurBegin = true
is_our_begin OurEnd = false
is_our_begin PeerBegin = false
is_our_begin PeerEnd = false
is_our_begin PeerFrame = false
is_our_begin OurFrame = false

abbrev pub is_peer_begin : SessionEvent → Bool
is_peer_begin OurBegin = false
is_peer_begin OurEnd = false
is_peer_begin PeerBegin = true
is_peer_begin PeerEnd = false
is_peer_begin PeerFrame = false
is_peer_begin OurFrame = false

abbrev pub is_end : SessionEvent → Bool
is_end OurBegin = false
is_end OurEnd = true
is_end PeerBegin = false
is_end PeerEnd = true
is_end PeerFrame = false
is_end OurFrame = false

-- whether such an event happened
abbrev pub happened : (SessionEvent → Bool) → List Happening → Bool
happened p [] = false
happened p (e ∷ es) = p e.event || happened p es

abbrev pub is_mapped : SessionState → Bool
is_mapped Unmapped = false
is_mapped BeginSent = false
is_mapped BeginReceived = false
is_mapped Mapped = true
is_mapped EndSent = false
is_mapped Discarding = false
is_mapped Stopped = false

-- A session is mapped exactly when both sides have begun and neither has ended.
abbrev pub MappedByBothBegins : Type 0
MappedByBothBegins = (es : List Happening) (s : SessionState) → Reached es s → is_mapped s ≡ (happened is_our_begin es && (happened is_peer_begin es && not (happened is_end es)))

-- Nothing happens to a session that has stopped.
abbrev pub StoppedIsFinal : Type 0
StoppedIsFinal = (e : SessionEvent) → verdict Stopped e ≡ No

-- A session that discards the peer's frames does so until the peer's end, which stops it.
abbrev pub DiscardingUntilPeerEnd : Type 0
DiscardingUntilPeerEnd = (e : SessionEvent) (t : SessionState) → verdict Discarding e ≡ To t → (e ≡ PeerEnd) × (t ≡ Stopped)
