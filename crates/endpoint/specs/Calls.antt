-- The calls on a session, what they answer, and what becomes of one.
use Rattle.std.specs.Prelude.{ℕ, Bool, Ok, Err, Result}
use Rattle.names.specs.declared.octets.Octets.{Octets}
use Rattle.definitions.specs.declared.numbers.IncomingChannel.{IncomingChannel}
use Rattle.definitions.specs.declared.numbers.OutputHandle.{OutputHandle}
use Rattle.frames.specs.declared.performatives.Attach.{Attach}
use Rattle.frames.specs.declared.performatives.Begin.{Begin}
use Rattle.refusals.specs.declared.errors.Error.{Error}
use Rattle.endpoint.specs.declared.answers.Received.{Received}
use Rattle.endpoint.specs.declared.answers.Received.TheVariants.{Handled, Dropped}

-- A call with what it is given. A begin of the peer's comes on a channel; an end has a condition, 0 for none.
pub data Call : Type 0 where
  our_begin : Call
  our_end : ℕ → Call
  allocate : Octets 64 → ℕ → Call
  deallocate : OutputHandle → Call
  our_attach : Attach → Call
  peer_begin : IncomingChannel → Begin → Call
  peer_end : ℕ → Call
  peer_attach : Attach → Call

-- What a call answers that runs: nothing more, the handle that was given, or whether a handle was in use.
pub data Answer : Type 0 where
  done : Answer
  gave : OutputHandle → Answer
  was_used : Bool → Answer

-- What becomes of a call: it runs and answers, is refused, or is passed over.
pub data Outcome : Type 0 where
  ran : Answer → Outcome
  refused : Error → Outcome
  dropped : Outcome

-- the outcome that a call's result tells
abbrev pub told : {X : Type 0} → (X → Outcome) → Result X Error → Outcome
told ok (Ok x) = ok x
told ok (Err e) = refused e

abbrev pub received : Received → Outcome
received Handled = ran done
received Dropped = dropped
