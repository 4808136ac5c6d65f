-- How the links of the link numbers stand: a list with a place for each number.
use Rattle.std.specs.Prelude.{ℕ, Bool, true, false, cond, List, replicate, ◌==◌, slice_index_or}
use Rattle.links.specs.declared.link.LinkState.{LinkState}
use Rattle.links.specs.declared.link.LinkState.TheVariants.{Idle, Awaiting, Attached}
use Rattle.links.specs.Relays.{output_of}

abbrev pub is_idle : LinkState → Bool
is_idle Idle = true
is_idle (Awaiting r) = false
is_idle (Attached i r) = false

-- whether the link waits for its attach, with that output handle
abbrev pub awaits_under : ℕ → LinkState → Bool
awaits_under h Idle = false
awaits_under h (Awaiting r) = (output_of r).0 == h
awaits_under h (Attached i r) = false

-- whether the link is attached under that input handle
abbrev pub attached_under : ℕ → LinkState → Bool
attached_under h Idle = false
attached_under h (Awaiting r) = false
attached_under h (Attached i r) = i.0 == h

-- The state of the link of a number; beyond the table there is none.
abbrev pub link_of : List LinkState → ℕ → LinkState
link_of links n = slice_index_or links n Idle

-- no links at all
abbrev pub no_links : List LinkState
no_links = replicate 64 Idle

-- a value, or b in its place where the test holds of it
abbrev pub blanked : {X : Type 0} → (X → Bool) → X → X → X
blanked fits b x = cond (fits x) b x
