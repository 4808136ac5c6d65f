-- What a session holds of a link.
use Rattle.definitions.specs.declared.numbers.OutputHandle.{OutputHandle}
use Rattle.definitions.specs.declared.numbers.ReceiverSettleMode.{ReceiverSettleMode}
use Rattle.links.specs.declared.relay.LinkRelay.{LinkRelay}
use Rattle.links.specs.declared.relay.LinkRelay.TheVariants.{Sender}

abbrev pub sender : OutputHandle → ReceiverSettleMode → LinkRelay OutputHandle
sender h mode = Sender h mode

abbrev pub output_of : {O : Type 0} → LinkRelay O → O
output_of (Sender h mode) = h

abbrev pub mode_of : {O : Type 0} → LinkRelay O → ReceiverSettleMode
mode_of (Sender h mode) = mode
