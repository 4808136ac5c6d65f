-- What holds of a queue over whole runs of calls.
use Rattle.std.specs.Prelude.{◌≡◌, ℕ, List, [], ◌∷◌, ◌++◌, Some, None, Ok, Err, Option, Result}
use Rattle.queue.specs.declared.Full.{Full}
use Rattle.queue.specs.Contents.{Put, Taken}

-- a call on a queue, with what it was given and what it answered
pub data Call (X : Type 0) : Type 0 where
  puts : X → Result (Unit {0}) Full → Call X
  takes : Option X → Call X

-- what the call's contract says of the list before it and the list after it
abbrev pub Step : {X : Type 0} → ℕ → List X → Call X → List X → Type 0
Step room was (puts x answer) is = Put was x room answer is
Step room was (takes answer) is = Taken was answer is

-- the calls, one after the other, lead from the one list to the other
abbrev pub Run : {X : Type 0} → ℕ → List X → List (Call X) → List X → Type 0
Run room was [] is = is ≡ was
Run {X} room was (call ∷ calls) is = (mid : List X) × Step room was call mid × Run room mid calls is

-- what was put and not refused, in order
abbrev pub accepted : {X : Type 0} → List (Call X) → List X
accepted [] = []
accepted (puts x (Ok u) ∷ calls) = x ∷ accepted calls
accepted (puts x (Err full) ∷ calls) = accepted calls
accepted (takes answer ∷ calls) = accepted calls

-- what was taken, in order
abbrev pub taken : {X : Type 0} → List (Call X) → List X
taken [] = []
taken (puts x answer ∷ calls) = taken calls
taken (takes (Some x) ∷ calls) = x ∷ taken calls
taken (takes None ∷ calls) = taken calls

-- From an empty queue on: what was taken, and then what still waits, is what was accepted. So nothing is lost, nothing
-- comes twice, nothing comes that was not put, and everything comes in the order in which it was put.
abbrev pub FirstInFirstOut : Type 0 → Type 0
FirstInFirstOut X = (room : ℕ) (calls : List (Call X)) (is : List X) → Run room [] calls is → taken calls ++ is ≡ accepted calls
