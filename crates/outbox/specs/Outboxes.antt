-- What sending an edit does to an outbox and to the wire queue.
use Rattle.std.specs.Prelude.{◌≡◌, ℕ, ◌+◌, ◌-◌, ◌%◌, ◌^◌, List, [], ◌∷◌, ◌++◌, length, Some, None, Ok, Err, Option, Result}
use Rattle.definitions.specs.declared.numbers.DeliveryState.TheVariants.{None as NoState}
use Rattle.frames.specs.declared.session.Payload.{Payload}
use Rattle.frames.specs.declared.session.SessionFrame.{SessionFrame}
use Rattle.queue.specs.declared.Queue.{Queue}
use Rattle.queue.specs.Contents.{contents, places}
use Rattle.rows.specs.Keys.{Key, key_of}
use Rattle.rows.specs.Meaning.{Stand, Put}
use Rattle.outbox.specs.declared.edit.Edit.{Edit}
use Rattle.outbox.specs.declared.edit.EditError.{EditError}
use Rattle.outbox.specs.declared.store.Outbox.{Outbox}
use Rattle.outbox.specs.Memory.{room_for, Wrote}
use Rattle.outbox.specs.Sending.{refusal_of, transfer_of}

-- how many slots of a queue are free
abbrev pub slots_free : {X : Type 0} → Queue X → ℕ
slots_free q = places q - length (contents q)

module _ {K : Type 0} (stands : K → Key → Stand) where
  -- The row is pending, its value is written, and its transfer is at the end of the queue.
  pub record Sent (o : Outbox K) (e : Edit) (q : List SessionFrame) (o' : Outbox K) (q' : List SessionFrame) : Type 0 where
    pub payload : Payload
    pub room : room_for o.memory (length e.becomes.now) ≡ Some payload
    pub written : Wrote o.memory e.row e.becomes.now payload o'.memory
    pub pending : Put stands o.keeper (key_of e.row) (Some NoState) o'.keeper
    pub frames : q' ≡ q ++ transfer_of e.row payload o.next_delivery_id ∷ []
    pub numbered : o'.next_delivery_id ≡ (o.next_delivery_id + 1) % 2 ^ 32

  abbrev pub refusal : Outbox K → Edit → ℕ → Option EditError
  refusal o e room = refusal_of (stands o.keeper (key_of e.row)) o.memory room (key_of e.row) e.was.now e.becomes.now

  -- An edit is sent exactly if nothing stands against it; a refused one changes nothing.
  abbrev pub Answered : Outbox K → Edit → Queue SessionFrame → Result (Unit {0}) EditError → Outbox K → Queue SessionFrame → Type 0
  Answered o e q (Ok u) o' q' = (refusal o e (slots_free q) ≡ None) × Sent o e (contents q) o' (contents q') × (places q' ≡ places q)
  Answered o e q (Err why) o' q' = (refusal o e (slots_free q) ≡ Some why) × (o' ≡ o) × (contents q' ≡ contents q) × (places q' ≡ places q)
