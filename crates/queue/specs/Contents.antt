-- What a queue means: the list of what waits in it, the first in front, and the number of its slots.
use Rattle.std.specs.Prelude.{◌≡◌, ℕ, ◌+◌, ◌%◌, ◌<◌, List, [], ◌∷◌, ◌++◌, length, take, drop, Some, None, Ok, Err, Option, Result}
use Rattle.queue.specs.declared.Full.{Full}
use Rattle.queue.specs.declared.Queue.{Queue}

-- n elements of xs in a row from the place h on, where the first comes after the last
abbrev pub around : {X : Type 0} → List X → ℕ → ℕ → List X
around xs h n = take n (drop h xs ++ take h xs)

-- the place that comes n after the place h, of c places in a ring
abbrev pub slot_after : ℕ → ℕ → ℕ → ℕ
slot_after h n c = (h + n) % c

-- what waits in a queue
abbrev pub contents : {X : Type 0} → Queue X → List X
contents q = around q.slots.now q.head q.used

-- how many slots a queue has
abbrev pub places : {X : Type 0} → Queue X → ℕ
places q = length q.slots.now

-- A put of x into a queue of `room` slots: where one is free, x is added at the end; where none is, x is refused and nothing changes.
abbrev pub Put : {X : Type 0} → List X → X → ℕ → Result (Unit {0}) Full → List X → Type 0
Put was x room (Ok u) is = (is ≡ was ++ (x ∷ [])) × (length was < room)
Put was x room (Err full) is = (is ≡ was) × (length was ≡ room)

-- A take: the first comes out and the others stay in their order; where nothing waits, nothing comes and nothing changes.
abbrev pub Taken : {X : Type 0} → List X → Option X → List X → Type 0
Taken was (Some x) is = was ≡ x ∷ is
Taken was None is = (was ≡ []) × (is ≡ [])
