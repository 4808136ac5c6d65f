-- What a keeper means, and what each of its calls does to that meaning.
use Rattle.std.specs.Prelude.{◌≡◌, ℕ, Bool, true, false, cond, Some, None, Ok, Err, Option, Result, ◌==◌, ◌≢◌}
use Rattle.definitions.specs.LinkNumbers.{number_of}
use Rattle.definitions.specs.declared.numbers.DeliveryState.{DeliveryState}
use Rattle.definitions.specs.declared.numbers.DeliveryState.TheVariants.{None as NoState}
use Rattle.rows.specs.declared.answers.Standing.{Standing}
use Rattle.rows.specs.declared.answers.Standing.TheVariants.{Pending, Place, Neither}
use Rattle.rows.specs.declared.answers.KeeperError.{KeeperError}
use Rattle.rows.specs.declared.answers.KeeperError.TheVariants.{RowOpen, NoPlace}
use Rattle.rows.specs.Keys.{Key}

-- How a row stands: pending, with its delivery state, or not pending, with a place or without one.
pub data Stand : Type 0 where
  pending : DeliveryState → Stand
  free : Stand
  full : Stand

-- the delivery state of a pending row
abbrev pub state_of : Stand → Option DeliveryState
state_of (pending s) = Some s
state_of free = None
state_of full = None

abbrev pub is_pending : Stand → Bool
is_pending (pending s) = true
is_pending free = false
is_pending full = false

abbrev pub is_free : Stand → Bool
is_free (pending s) = false
is_free free = true
is_free full = false

abbrev pub is_full : Stand → Bool
is_full (pending s) = false
is_full free = false
is_full full = true

-- One case of an answer: its number, and the set of standings at which it is given.
pub record Case : Type 0 where
  pub number : ℕ
  pub given : Stand → Bool

-- the three answers of `ask`
abbrev pub standing : Standing → Case
standing Pending = record { number = 0; given = is_pending }
standing Place = record { number = 1; given = is_free }
standing Neither = record { number = 2; given = is_full }

-- the two refusals of `pledge`, by the numbers under which a session tells them
abbrev pub refusal : KeeperError → Case
refusal (RowOpen l) = record { number = 14; given = is_pending }
refusal (NoPlace l) = record { number = 17; given = is_full }

-- the link that a refusal names
abbrev pub subject : KeeperError → ℕ
subject (RowOpen l) = number_of l
subject (NoPlace l) = number_of l

-- A standing lets a row of the link in where it is a place. Another refuses it: at the same standings, and with the link.
abbrev pub Admitted : Standing → ℕ → Result (Unit {0}) KeeperError → Type 0
Admitted w l (Ok u) = w ≡ Place
Admitted w l (Err e) = ((refusal e).given ≡ (standing w).given) × (subject e ≡ l)

module _ {S : Type 0} (stands : S → Key → Stand) where
  -- t has the rows and the places of s.
  abbrev pub Same : S → S → Type 0
  Same s t = (k : Key) → stands t k ≡ stands s k

  -- t has the rows of s, but at k, where it has v. Places may have changed.
  pub record Put (s : S) (k : Key) (v : Option DeliveryState) (t : S) : Type 0 where
    pub here : state_of (stands t k) ≡ v
    pub others : (j : Key) → (j ≢ k) → state_of (stands t j) ≡ state_of (stands s j)

  -- A row that has a place becomes pending, with no delivery state; any other is refused.
  abbrev pub Pledge : (S → Key → S → Type 0) → S → Key → Result (Unit {0}) KeeperError → S → Type 0
  Pledge pledges s k (Ok u) t = (stands s k ≡ free) × Put s k (Some NoState) t × pledges s k t
  Pledge pledges s k (Err e) t = ((refusal e).given (stands s k) ≡ true) × (subject e ≡ k.link) × Same s t

  -- A pending row goes; of another the answer is no.
  abbrev pub Settle : (S → Key → S → Type 0) → S → Key → Bool → S → Type 0
  Settle settles s k true t = (is_pending (stands s k) ≡ true) × Put s k None t × settles s k t
  Settle settles s k false t = (is_pending (stands s k) ≡ false) × Same s t

  -- A pending row gets the state; of another the answer is no.
  abbrev pub Note : S → Key → DeliveryState → Bool → S → Type 0
  Note s k v true t = (is_pending (stands s k) ≡ true) × Put s k (Some v) t
  Note s k v false t = (is_pending (stands s k) ≡ false) × Same s t

  -- The rows of the link go; all others stay.
  abbrev pub Close : S → ℕ → S → Type 0
  Close s l t = (j : Key) → state_of (stands t j) ≡ cond (j.link == l) None (state_of (stands s j))

-- Pledges that are each settled again, one after the other and within one another.
pub data Pairs {S : Type 0} (pledges settles : S → Key → S → Type 0) : S → S → Type 0 where
  none : {s : S} → Pairs pledges settles s s
  pair : {s a b c t : S} (k : Key) → pledges s k a → Pairs pledges settles a b → settles b k c → Pairs pledges settles c t → Pairs pledges settles s t
