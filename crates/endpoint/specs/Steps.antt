-- What a call does.
use Rattle.std.specs.Prelude.{◌≡◌, ℕ, cond, List, [], ◌∷◌, Some, None, Ok, Err, Result}
use Rattle.names.specs.declared.octets.Octets.{Octets}
use Rattle.definitions.specs.declared.link_number.LinkNumber.{LinkNumber}
use Rattle.definitions.specs.declared.numbers.IncomingChannel.{IncomingChannel}
use Rattle.definitions.specs.declared.numbers.OutputHandle.{OutputHandle}
use Rattle.definitions.specs.declared.numbers.ReceiverSettleMode.TheVariants.{First}
use Rattle.definitions.specs.LinkNumbers.{number_of}
use Rattle.states.specs.declared.event.SessionEvent.TheVariants.{OurBegin, OurEnd, PeerBegin, PeerEnd}
use Rattle.states.specs.Table.{next}
use Rattle.frames.specs.declared.performatives.Attach.{Attach}
use Rattle.frames.specs.declared.performatives.Begin.{Begin}
use Rattle.frames.specs.declared.session.SessionFrame.{SessionFrame}
use Rattle.frames.specs.declared.link.LinkItem.{LinkItem}
use Rattle.frames.specs.declared.link.LinkFrame.TheVariants.{Attach as AttachItem}
use Rattle.refusals.specs.declared.errors.Error.TheVariants.{State, Session}
use Rattle.refusals.specs.declared.errors.SessionInnerError.{SessionInnerError}
use Rattle.rows.specs.Meaning.{Same}
use Rattle.rows.specs.declared.keeper.Keeper.{Ghosts}
use Rattle.links.specs.Sessions.{LinkTables, Allocated, is_used, freed, awaiting_by, attached}
use Rattle.endpoint.specs.declared.answers.SessionStopReason.TheVariants.{Ended, RemoteEnded}
use Rattle.endpoint.specs.Endpoint.{Endpoint, View, ids, restated, relinked}
use Rattle.endpoint.specs.Calls.{Call, our_begin, our_end, allocate, deallocate, our_attach, peer_begin, peer_end, peer_attach, Answer, done, gave, was_used, Outcome, ran, refused, dropped}
use Rattle.endpoint.specs.Rulings.{ruling, runs, drops, bars}
use Rattle.endpoint.specs.Objections.{Room, objection, ended_by_us, input_of}
use Rattle.endpoint.specs.Frames.{begin_frame, end_frame, attach_frame}

-- The peer's begin tells its channel, its next outgoing id and its incoming window.
abbrev pub peer_begun : IncomingChannel → Begin → Endpoint → Endpoint
peer_begun channel b e = record {
  opened = e.opened;
  incoming_channel = Some channel;
  state = next e.state PeerBegin 0;
  stop = e.stop;
  ids = ids e.ids.next_outgoing_id e.ids.next_delivery_id b.next_outgoing_id b.incoming_window;
  tables = e.tables;
  book = e.book;
  backlog = e.backlog;
}

-- The peer's end stops the session: Ended after our end, else RemoteEnded.
abbrev pub stopped : ℕ → Endpoint → Endpoint
stopped condition e = record {
  opened = e.opened;
  incoming_channel = e.incoming_channel;
  state = next e.state PeerEnd 0;
  stop = Some (cond (ended_by_us e.state) (Ended condition) (RemoteEnded condition));
  ids = e.ids;
  tables = e.tables;
  book = e.book;
  backlog = e.backlog;
}

module _ {K : Type 0} where
  -- A call that touches no row leads to a session, and adds frames and link items.
  pub record Leads (v : View K) (after : Endpoint) (frames : List SessionFrame) (items : List LinkItem) (fs : List SessionFrame) (is : List LinkItem) (w : View K) : Type 0 where
    pub keeper : w.keeper ≡ v.keeper
    pub endpoint : w.endpoint ≡ after
    pub added : fs ≡ frames
    pub told : is ≡ items

  -- A link is allocated: it gets a handle, and settles first until the peer's attach says otherwise.
  pub record Allocates (v : View K) (name : Octets 64) (number : ℕ) (a : Answer) (fs : List SessionFrame) (is : List LinkItem) (w : View K) : Type 0 where
    pub handle : OutputHandle
    pub tables : LinkTables
    pub answer : a ≡ gave handle
    pub given : Allocated v.endpoint.tables name number First handle tables
    pub leads : Leads v (relinked tables v.endpoint) [] [] fs is w

  -- The peer's attach finds its link by its name, puts it under its handle with its settle mode, and the link is told.
  pub record Attaches (v : View K) (x : Attach) (a : Answer) (fs : List SessionFrame) (is : List LinkItem) (w : View K) : Type 0 where
    pub link : LinkNumber
    pub by_name : awaiting_by v.endpoint.tables x.name ≡ Some (number_of link)
    pub answer : a ≡ done
    pub leads : Leads v (relinked (attached v.endpoint.tables (number_of link) (input_of x) x.rcv_settle_mode) v.endpoint) [] (record { link = link; frame = AttachItem x } ∷ []) fs is w

  -- What a call does that runs.
  abbrev pub Runs : View K → Call → Answer → List SessionFrame → List LinkItem → View K → Type 0
  Runs v our_begin a fs is w = (a ≡ done) × Leads v (restated (next v.endpoint.state OurBegin 0) v.endpoint) (begin_frame v.endpoint ∷ []) [] fs is w
  Runs v (our_end n) a fs is w = (a ≡ done) × Leads v (restated (next v.endpoint.state OurEnd n) v.endpoint) (end_frame v.endpoint n ∷ []) [] fs is w
  Runs v (allocate n l) a fs is w = Allocates v n l a fs is w
  Runs v (deallocate h) a fs is w = (a ≡ was_used (is_used v.endpoint.tables h)) × Leads v (relinked (cond (is_used v.endpoint.tables h) (freed v.endpoint.tables h) v.endpoint.tables) v.endpoint) [] [] fs is w
  Runs v (our_attach x) a fs is w = (a ≡ done) × Leads v v.endpoint (attach_frame v.endpoint x ∷ []) [] fs is w
  Runs v (peer_begin c b) a fs is w = (a ≡ done) × Leads v (peer_begun c b v.endpoint) [] [] fs is w
  Runs v (peer_end n) a fs is w = (a ≡ done) × Leads v (stopped n v.endpoint) (cond (ended_by_us v.endpoint.state) [] (end_frame v.endpoint 0 ∷ [])) [] fs is w
  Runs v (peer_attach x) a fs is w = Attaches v x a fs is w

  module _ (G : Ghosts K) where
    -- A call that is refused or passed over adds nothing, and changes neither session nor rows nor places.
    pub record Still (v : View K) (fs : List SessionFrame) (is : List LinkItem) (w : View K) : Type 0 where
      pub rows : Same G.stands v.keeper w.keeper
      pub endpoint : w.endpoint ≡ v.endpoint
      pub added : fs ≡ []
      pub told : is ≡ []

    -- A call that the state lets run: exactly if nothing stands against it, it does what it does; else it is refused for that.
    abbrev pub Tried : View K → Room → Call → Result Answer SessionInnerError → List SessionFrame → List LinkItem → View K → Type 0
    Tried v room c (Ok a) fs is w = (objection v.endpoint room c ≡ None) × Runs v c a fs is w
    Tried v room c (Err e) fs is w = (objection v.endpoint room c ≡ Some e) × Still v fs is w

    -- A call with what becomes of it. This is what the contract of a call says; the outcome is decided by state, objections and nothing else.
    abbrev pub Called : View K → Room → Call → Outcome → List SessionFrame → List LinkItem → View K → Type 0
    Called v room c (ran a) fs is w = (ruling v.endpoint.state c ≡ runs) × Tried v room c (Ok a) fs is w
    Called v room c (refused (Session e)) fs is w = (ruling v.endpoint.state c ≡ runs) × Tried v room c (Err e) fs is w
    Called v room c (refused (State e)) fs is w = (ruling v.endpoint.state c ≡ bars e) × Still v fs is w
    Called v room c dropped fs is w = (ruling v.endpoint.state c ≡ drops) × Still v fs is w
