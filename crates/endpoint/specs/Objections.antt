-- What stands against a call that the state lets run.
use Rattle.std.specs.Prelude.{ℕ, Bool, true, false, cond, ◌||◌, Some, None, Option, ◌==◌, nat_lt}
use Rattle.std.specs.Option.{option_map, option_or}
use Rattle.names.specs.declared.octets.Octets.{Octets}
use Rattle.definitions.specs.declared.numbers.InputHandle.{InputHandle}
use Rattle.states.specs.declared.state.SessionState.{SessionState}
use Rattle.states.specs.declared.state.SessionState.TheVariants.{Unmapped, BeginSent, BeginReceived, Mapped, EndSent, Discarding, Stopped}
use Rattle.refusals.specs.declared.errors.SessionInnerError.{SessionInnerError}
use Rattle.refusals.specs.declared.errors.SessionInnerError.TheVariants.{BadLength, Alloc, WireShort, LinkShort}
use Rattle.frames.specs.declared.performatives.Attach.{Attach}
use Rattle.links.specs.Sessions.{allocation_bar, attach_bar}
use Rattle.endpoint.specs.Endpoint.{Endpoint}
use Rattle.endpoint.specs.Calls.{Call, our_begin, our_end, allocate, deallocate, our_attach, peer_begin, peer_end, peer_attach}

-- the free slots of the two queues before a call
pub record Room : Type 0 where
  pub wire : ℕ
  pub links : ℕ

-- A name has 1 to 64 bytes.
abbrev pub name_fits : Octets 64 → Option SessionInnerError
name_fits n = cond (n.len == 0 || nat_lt 64 n.len) (Some (BadLength n.len)) None

-- So many slots of the wire queue are free; a slot of the link queue is.
abbrev pub wire_for : Room → ℕ → Option SessionInnerError
wire_for room n = cond (nat_lt room.wire n) (Some (WireShort n)) None

abbrev pub link_for : Room → Option SessionInnerError
link_for room = cond (nat_lt room.links 1) (Some LinkShort) None

-- whether our end went out
abbrev pub ended_by_us : SessionState → Bool
ended_by_us Unmapped = false
ended_by_us BeginSent = false
ended_by_us BeginReceived = false
ended_by_us Mapped = false
ended_by_us EndSent = true
ended_by_us Discarding = true
ended_by_us Stopped = false

abbrev pub input_of : Attach → InputHandle
input_of a = record { 0 = a.handle.0 }

-- What stands against the call, if anything does: the first that applies.
abbrev pub objection : Endpoint → Room → Call → Option SessionInnerError
objection e room our_begin = wire_for room 1
objection e room (our_end n) = wire_for room 1
objection e room (allocate n l) = option_or (name_fits n) (option_map Alloc (allocation_bar e.tables n l))
objection e room (deallocate h) = None
objection e room (our_attach a) = option_or (name_fits a.name) (wire_for room 1)
objection e room (peer_begin c b) = None
objection e room (peer_end n) = cond (ended_by_us e.state) None (wire_for room 1)
objection e room (peer_attach a) = option_or (name_fits a.name) (option_or (attach_bar e.tables a.name (input_of a)) (link_for room))
