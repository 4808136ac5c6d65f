-- What a user is told of a refusal.
use Rattle.std.specs.Prelude.{ℕ}
use Rattle.refusals.specs.declared.layer.Layer.{Layer}
use Rattle.refusals.specs.declared.told.Told.{Told}
use Rattle.refusals.specs.Refusals.{Refusal}

abbrev pub told : ℕ → Layer → ℕ → Told
told number layer subject = record { number = number; layer = layer; subject = subject }

abbrev pub tells : Refusal → Told
tells r = told r.number r.layer r.subject
