-- What a session holds.
use Rattle.std.specs.Prelude.{ℕ, List, [], None, Option}
use Rattle.definitions.specs.declared.numbers.IncomingChannel.{IncomingChannel}
use Rattle.states.specs.declared.state.SessionState.{SessionState}
use Rattle.states.specs.declared.state.SessionState.TheVariants.{Unmapped}
use Rattle.links.specs.Sessions.{LinkTables, none_yet}
use Rattle.deliveries.specs.declared.book.Booked.{Booked}
use Rattle.deliveries.specs.declared.backlog.Waiting.{Waiting}
use Rattle.endpoint.specs.declared.opening.Opening.{Opening}
use Rattle.endpoint.specs.declared.answers.SessionStopReason.{SessionStopReason}

-- The numbers of Part 2, section 2.5.6, that change, and the id of the next delivery.
pub record Ids : Type 0 where
  pub next_outgoing_id : ℕ
  pub next_delivery_id : ℕ
  pub next_incoming_id : ℕ
  pub remote_incoming_window : ℕ

-- All but the keeper: what it was opened with, the channel of the peer's begin, the state, why it stopped, the numbers, the links, the unsettled deliveries and the transfers that wait.
pub record Endpoint : Type 0 where
  pub opened : Opening
  pub incoming_channel : Option IncomingChannel
  pub state : SessionState
  pub stop : Option SessionStopReason
  pub ids : Ids
  pub tables : LinkTables
  pub book : List Booked
  pub backlog : List Waiting

pub record View (K : Type 0) : Type 0 where
  pub keeper : K
  pub endpoint : Endpoint

abbrev pub ids : ℕ → ℕ → ℕ → ℕ → Ids
ids outgoing delivery incoming window = record { next_outgoing_id = outgoing; next_delivery_id = delivery; next_incoming_id = incoming; remote_incoming_window = window }

-- A session as it is opened.
abbrev pub fresh : Opening → Endpoint
fresh o = record {
  opened = o;
  incoming_channel = None;
  state = Unmapped;
  stop = None;
  ids = ids o.initial_outgoing_id o.initial_delivery_id 0 0;
  tables = none_yet;
  book = [];
  backlog = [];
}

-- The session in another state, with other links.
abbrev pub restated : SessionState → Endpoint → Endpoint
restated s e = record {
  opened = e.opened;
  incoming_channel = e.incoming_channel;
  state = s;
  stop = e.stop;
  ids = e.ids;
  tables = e.tables;
  book = e.book;
  backlog = e.backlog;
}

abbrev pub relinked : LinkTables → Endpoint → Endpoint
relinked t e = record {
  opened = e.opened;
  incoming_channel = e.incoming_channel;
  state = e.state;
  stop = e.stop;
  ids = e.ids;
  tables = t;
  book = e.book;
  backlog = e.backlog;
}
