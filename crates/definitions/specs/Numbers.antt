-- The numbers of the delivery states.
use Rattle.std.specs.Prelude.{ℕ, Bool, nat_le}
use Rattle.definitions.specs.declared.numbers.DeliveryState.{DeliveryState}
use Rattle.definitions.specs.declared.numbers.DeliveryState.TheVariants.{None, Received, Accepted, Rejected, Released, Modified}

-- The states of Part 3, section 3.4, in its order of their codes; 0 is the absence of one.
abbrev pub state_number : DeliveryState → ℕ
state_number None = 0
state_number Received = 1
state_number Accepted = 2
state_number Rejected = 3
state_number Released = 4
state_number Modified = 5

-- A terminal state is an outcome: the receiver's work on the delivery is over.
abbrev pub terminal : DeliveryState → Bool
terminal s = nat_le 2 (state_number s)
