-- A test that holds at every state and every event, which antt computes, holds at each.
use Rattle.std.proofs.Common.{◌≡◌, Bool, true, false, ◌&&◌}
use Rattle.std.proofs.lemmas.Bool.{and_parts}
use Rattle.states.specs.declared.state.SessionState.{SessionState}
use Rattle.states.specs.declared.state.SessionState.TheVariants.{Unmapped, BeginSent, BeginReceived, Mapped, EndSent, Discarding, Stopped}
use Rattle.states.specs.declared.event.SessionEvent.{SessionEvent}
use Rattle.states.specs.declared.event.SessionEvent.TheVariants.{OurBegin, OurEnd, PeerBegin, PeerEnd, PeerFrame, OurFrame}

abbrev pub every_bool : (Bool → Bool) → Bool
every_bool f = f true && f false

abbrev pub every_state : (SessionState → Bool) → Bool
every_state f = f Unmapped && (f BeginSent && (f BeginReceived && (f Mapped && (f EndSent && (f Discarding && f Stopped)))))

abbrev pub every_event : (SessionEvent → Bool) → Bool
every_event f = f OurBegin && (f OurEnd && (f PeerBegin && (f PeerEnd && (f PeerFrame && f OurFrame))))

first : (a b : Bool) → (a && b) ≡ true → a ≡ true
first a b t = (and_parts a b t).0

rest : (a b : Bool) → (a && b) ≡ true → b ≡ true
rest a b t = (and_parts a b t).1

pub at_bool : (f : Bool → Bool) → every_bool f ≡ true → (b : Bool) → f b ≡ true
at_bool f t true = first (f true) (f false) t
at_bool f t false = rest (f true) (f false) t

pub at_state : (f : SessionState → Bool) → every_state f ≡ true → (s : SessionState) → f s ≡ true
at_state f t =
    let a = rest (f Unmapped) _ t in
    let b = rest (f BeginSent) _ a in
    let c = rest (f BeginReceived) _ b in
    let d = rest (f Mapped) _ c in
    let e = rest (f EndSent) _ d in λ s.
    elim s as (λ x. f x ≡ true) [
      | Unmapped ↦ first (f Unmapped) _ t
      | BeginSent ↦ first (f BeginSent) _ a
      | BeginReceived ↦ first (f BeginReceived) _ b
      | Mapped ↦ first (f Mapped) _ c
      | EndSent ↦ first (f EndSent) _ d
      | Discarding ↦ first (f Discarding) _ e
      | Stopped ↦ rest (f Discarding) (f Stopped) e
    ]

pub at_event : (f : SessionEvent → Bool) → every_event f ≡ true → (e : SessionEvent) → f e ≡ true
at_event f t =
    let a = rest (f OurBegin) _ t in
    let b = rest (f OurEnd) _ a in
    let c = rest (f PeerBegin) _ b in
    let d = rest (f PeerEnd) _ c in λ e.
    elim e as (λ x. f x ≡ true) [
      | OurBegin ↦ first (f OurBegin) _ t
      | OurEnd ↦ first (f OurEnd) _ a
      | PeerBegin ↦ first (f PeerBegin) _ b
      | PeerEnd ↦ first (f PeerEnd) _ c
      | PeerFrame ↦ first (f PeerFrame) _ d
      | OurFrame ↦ rest (f PeerFrame) (f OurFrame) d
    ]
