-- What a session puts on its queues.
use Rattle.std.specs.Prelude.{ℕ}
use Rattle.std.specs.Option.{option_map}
use Rattle.frames.specs.declared.performatives.Attach.{Attach}
use Rattle.frames.specs.declared.session.SessionFrame.{SessionFrame}
use Rattle.frames.specs.declared.session.SessionFrameBody.{SessionFrameBody}
use Rattle.frames.specs.declared.session.SessionFrameBody.TheVariants.{Begin as BeginBody, Attach as AttachBody, End as EndBody}
use Rattle.endpoint.specs.Endpoint.{Endpoint}

-- a frame on our channel
abbrev pub on_channel : Endpoint → SessionFrameBody → SessionFrame
on_channel e body = record { channel = e.opened.outgoing_channel.0; body = body }

-- Our begin: the peer's channel if its begin came, our next id, windows and handle-max.
abbrev pub begin_body : Endpoint → SessionFrameBody
begin_body e =
    BeginBody
    (record {
      remote_channel = option_map (λ c. c.0) e.incoming_channel;
      next_outgoing_id = e.ids.next_outgoing_id;
      incoming_window = e.opened.incoming_window;
      outgoing_window = e.opened.outgoing_window;
      handle_max = e.opened.handle_max;
    })

abbrev pub begin_frame : Endpoint → SessionFrame
begin_frame e = on_channel e (begin_body e)

abbrev pub end_frame : Endpoint → ℕ → SessionFrame
end_frame e condition = on_channel e (EndBody (record { condition = condition }))

abbrev pub attach_frame : Endpoint → Attach → SessionFrame
attach_frame e a = on_channel e (AttachBody a)
