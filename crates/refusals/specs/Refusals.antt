-- The refusals: for each its number, the layer that refuses, what it is about, and which values that may be.
use Rattle.std.specs.Prelude.{Bool, ◌&&◌, ◌||◌, ℕ, ◌^◌, ◌==◌, nat_le, nat_lt}
use Rattle.definitions.specs.LinkNumbers.{number_of}
use Rattle.rows.specs.declared.answers.KeeperError.{KeeperError}
use Rattle.rows.specs.declared.answers.KeeperError.TheVariants.{RowOpen as KeptOpen, NoPlace}
use Rattle.states.specs.Numbers.{state_number}
use Rattle.refusals.specs.declared.errors.AllocLinkError.{AllocLinkError}
use Rattle.refusals.specs.declared.errors.AllocLinkError.TheVariants.{DuplicatedLinkName, HandlesFull, LinkNumber}
use Rattle.refusals.specs.declared.errors.LinkRelayError.{LinkRelayError}
use Rattle.refusals.specs.declared.errors.LinkRelayError.TheVariants.{UnattachedHandle, TransferFrameToSender}
use Rattle.refusals.specs.declared.errors.SessionInnerError.{SessionInnerError}
use Rattle.refusals.specs.declared.errors.SessionInnerError.TheVariants.{BadLength, Alloc, RemoteAttachingLinkNameNotFound, HandleInUse, Relay, UntaggedFirst, BacklogFull, RowOpen, IdOpen, BookFull, Keeper, WireShort, LinkShort}
use Rattle.refusals.specs.declared.errors.SessionStateError.{SessionStateError}
use Rattle.refusals.specs.declared.errors.SessionStateError.TheVariants.{Stopped, IllegalState, SessionNotMapped}
use Rattle.refusals.specs.declared.errors.Error.{Error}
use Rattle.refusals.specs.declared.errors.Error.TheVariants.{State, Session}
use Rattle.refusals.specs.declared.layer.Layer.{Layer}
use Rattle.refusals.specs.declared.layer.Layer.TheVariants.{Keeper as InKeeper, Session as InSession, Engine as InEngine}

-- One refusal: its number, its layer, its subject, and the set of values that its subject may have.
pub record Refusal : Type 0 where
  pub number : ℕ
  pub layer : Layer
  pub subject : ℕ
  pub subjects : ℕ → Bool

-- The sets: numbers of 32 bits, link numbers, and no subject.
abbrev pub any : ℕ → Bool
any n = nat_lt n (2 ^ 32)

abbrev pub a_link : ℕ → Bool
a_link n = nat_le n 63

abbrev pub none : ℕ → Bool
none n = n == 0

-- Engine: the state's number.
abbrev pub of_state : SessionStateError → Refusal
of_state (Stopped s) = record { number = 1; layer = InEngine; subject = state_number s; subjects = λ n. nat_le 4 n && nat_le n 6 }
of_state (IllegalState s) = record { number = 2; layer = InEngine; subject = state_number s; subjects = λ n. nat_le n 5 }
of_state (SessionNotMapped s) = record { number = 3; layer = InEngine; subject = state_number s; subjects = λ n. nat_le n 2 }

-- Allocation of a link: the link number that was handed in.
abbrev pub of_alloc : AllocLinkError → Refusal
of_alloc (DuplicatedLinkName l) = record { number = 5; layer = InSession; subject = l; subjects = any }
of_alloc HandlesFull = record { number = 6; layer = InSession; subject = 0; subjects = none }
of_alloc (LinkNumber l) = record { number = 7; layer = InSession; subject = l; subjects = any }

-- Links under input handles: the handle.
abbrev pub of_relay : LinkRelayError → Refusal
of_relay (UnattachedHandle h) = record { number = 10; layer = InSession; subject = h.0; subjects = any }
of_relay (TransferFrameToSender h) = record { number = 11; layer = InSession; subject = h.0; subjects = any }

-- Keeper: the number of the row's link.
abbrev pub of_keeper : KeeperError → Refusal
of_keeper (KeptOpen l) = record { number = 14; layer = InKeeper; subject = number_of l; subjects = a_link }
of_keeper (NoPlace l) = record { number = 17; layer = InKeeper; subject = number_of l; subjects = a_link }

-- Session: a length that is wrong for a name or for a tag, an input handle, a link number, a delivery id, a count of slots.
abbrev pub of_session : SessionInnerError → Refusal
of_session (BadLength n) = record { number = 4; layer = InSession; subject = n; subjects = λ k. k == 0 || nat_lt 32 k }
of_session (Alloc e) = of_alloc e
of_session (RemoteAttachingLinkNameNotFound h) = record { number = 8; layer = InSession; subject = h.0; subjects = any }
of_session (HandleInUse h) = record { number = 9; layer = InSession; subject = h.0; subjects = any }
of_session (Relay e) = of_relay e
of_session (UntaggedFirst h) = record { number = 12; layer = InSession; subject = h.0; subjects = any }
of_session BacklogFull = record { number = 13; layer = InSession; subject = 0; subjects = none }
of_session (RowOpen l) = record { number = 14; layer = InSession; subject = number_of l; subjects = a_link }
of_session (IdOpen i) = record { number = 15; layer = InSession; subject = i; subjects = any }
of_session BookFull = record { number = 16; layer = InSession; subject = 0; subjects = none }
of_session (Keeper e) = of_keeper e
of_session (WireShort n) = record { number = 18; layer = InSession; subject = n; subjects = λ k. nat_le 1 k && nat_le k 257 }
of_session LinkShort = record { number = 19; layer = InSession; subject = 0; subjects = none }

abbrev pub refusal : Error → Refusal
refusal (State e) = of_state e
refusal (Session e) = of_session e
