-- The numbers of the layers.
use Rattle.std.specs.Prelude.{ℕ}
use Rattle.refusals.specs.declared.layer.Layer.{Layer}
use Rattle.refusals.specs.declared.layer.Layer.TheVariants.{Keeper, Session, Engine}

abbrev pub layer_number : Layer → ℕ
layer_number Keeper = 1
layer_number Session = 2
layer_number Engine = 3
