-- When an edit is sent, what it sends, and what it changes.
use Rattle.std.specs.Prelude.{ℕ, false, cond, List, length, is_some, Some, None, Option, ◌==◌, codes}
use Rattle.definitions.specs.LinkNumbers.{number_of}
use Rattle.definitions.specs.declared.numbers.DeliveryState.TheVariants.{None as NoState}
use Rattle.frames.specs.declared.session.Payload.{Payload}
use Rattle.frames.specs.declared.session.SessionFrame.{SessionFrame}
use Rattle.frames.specs.declared.session.SessionFrameBody.TheVariants.{Transfer as TransferBody}
use Rattle.rows.specs.declared.row.Row.{Row}
use Rattle.rows.specs.declared.answers.KeeperError.{KeeperError}
use Rattle.rows.specs.declared.answers.KeeperError.TheVariants.{RowOpen as HeldAlready, NoPlace as NowhereToPut}
use Rattle.rows.specs.Keys.{Key}
use Rattle.rows.specs.Meaning.{Stand, is_pending, is_full}
use Rattle.outbox.specs.declared.edit.EditError.{EditError}
use Rattle.outbox.specs.declared.edit.EditError.TheVariants.{ValueDiffers, RowOpen, NoPlace, WireFull, MemoryFull}
use Rattle.outbox.specs.declared.memory.RowMemory.{RowMemory}
use Rattle.outbox.specs.Memory.{is_other, room_for, value_of}

-- what a user is told of a refusal
abbrev pub text_of : EditError → List ℕ
text_of ValueDiffers = codes "the row has another value"
text_of RowOpen = codes "the row is pending"
text_of NoPlace = codes "the keeper has no place for the row"
text_of WireFull = codes "the wire queue is full"
text_of MemoryFull = codes "row memory is full"

-- a keeper's refusal, as an edit's
abbrev pub kept_off : KeeperError → EditError
kept_off (HeldAlready l) = RowOpen
kept_off (NowhereToPut l) = NoPlace

-- Why an edit of the row k is not sent: the first that applies. The wire queue has `room` free slots.
abbrev pub refusal_of : Stand → RowMemory → ℕ → Key → List ℕ → List ℕ → Option EditError
refusal_of stand m room k was text =
    cond (is_other (value_of m k) was) (Some ValueDiffers)
    (cond (is_pending stand) (Some RowOpen)
    (cond (is_full stand) (Some NoPlace)
    (cond (room == 0) (Some WireFull)
    (cond (is_some (room_for m (length text))) None (Some MemoryFull)))))

-- The transfer of a row's value: on channel 0, on the handle that equals the link's number, unsettled and whole.
abbrev pub transfer_of : Row → Payload → ℕ → SessionFrame
transfer_of row payload id = record {
  channel = 0;
  body =
      TransferBody
      (record {
        handle = record { 0 = number_of row.link };
        delivery_id = Some id;
        delivery_tag = Some row.tag;
        message_format = None;
        settled = Some false;
        more = false;
        rcv_settle_mode = None;
        state = NoState;
        resume = false;
        aborted = false;
        batchable = false;
      })
      payload;
}
