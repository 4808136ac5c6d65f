-- The reply of a keeper that gives a flow back.
use Rattle.std.specs.Prelude.{false, cond, Some, None, Option}
use Rattle.definitions.specs.declared.numbers.OutputHandle.{OutputHandle}
use Rattle.frames.specs.declared.link.LinkFlow.{LinkFlow}

-- Exactly a flow with echo set is answered: by the same flow, under our handle of the link and with echo unset.
abbrev pub echoed : LinkFlow → OutputHandle → Option LinkFlow
echoed f h =
    cond f.echo
    (Some
    (record {
      handle = record { 0 = h.0 };
      delivery_count = f.delivery_count;
      link_credit = f.link_credit;
      available = f.available;
      drain = f.drain;
      echo = false;
    }))
    None
