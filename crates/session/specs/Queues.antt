-- What a call does to a queue.
use Rattle.std.specs.Prelude.{◌≡◌, ℕ, ◌-◌, cond, nat_lt, List, [], ◌∷◌, ◌++◌, length, Some, None, Ok, Err, Option, Result}
use Rattle.queue.specs.declared.Queue.{Queue}
use Rattle.queue.specs.Contents.{contents, places}
use Rattle.frames.specs.declared.link.LinkItem.{LinkItem}
use Rattle.frames.specs.declared.session.SessionFrame.{SessionFrame}
use Rattle.refusals.specs.declared.errors.SessionInnerError.{SessionInnerError}
use Rattle.endpoint.specs.Objections.{Room}

-- It holds what it held, and then xs; it has as many slots.
pub record Added {X : Type 0} (q : Queue X) (xs : List X) (p : Queue X) : Type 0 where
  pub contents : contents p ≡ contents q ++ xs
  pub places : places p ≡ places q

-- how many slots are free
abbrev pub free_in : {X : Type 0} → Queue X → ℕ
free_in q = places q - length (contents q)

-- the room that a call finds which uses the wire queue, the link queue, or neither
abbrev pub on_wire : Queue SessionFrame → Room
on_wire q = record { wire = free_in q; links = 0 }

abbrev pub to_links : Queue LinkItem → Room
to_links q = record { wire = 0; links = free_in q }

abbrev pub no_queue : Room
no_queue = record { wire = 0; links = 0 }

-- what stands against one element more, if anything does: no slot is free, for which `full` is told
abbrev pub slot_bar : {X : Type 0} → SessionInnerError → Queue X → Option SessionInnerError
slot_bar full q = cond (nat_lt (free_in q) 1) (Some full) None

-- x is added at the end, or refused and nothing is added.
abbrev pub PutOr : {X : Type 0} → SessionInnerError → Queue X → X → Result (Unit {0}) SessionInnerError → Queue X → Type 0
PutOr full q x (Ok u) p = (slot_bar full q ≡ None) × Added q (x ∷ []) p
PutOr full q x (Err e) p = (slot_bar full q ≡ Some e) × Added q [] p

-- An objection is told, or there is none.
abbrev pub Fits : Option SessionInnerError → Result (Unit {0}) SessionInnerError → Type 0
Fits o (Ok u) = o ≡ None
Fits o (Err e) = o ≡ Some e
