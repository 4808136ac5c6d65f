-- What a session stands for.
use Rattle.std.specs.Prelude.{List, [], Ok, Err, vec_items, Result}
use Rattle.queue.specs.declared.Queue.{Queue}
use Rattle.frames.specs.declared.link.LinkItem.{LinkItem}
use Rattle.frames.specs.declared.session.SessionFrame.{SessionFrame}
use Rattle.refusals.specs.declared.errors.SessionInnerError.{SessionInnerError}
use Rattle.rows.specs.declared.keeper.Keeper.{Ghosts}
use Rattle.links.specs.Sessions.{tables_of}
use Rattle.endpoint.specs.Endpoint.{Endpoint, View, ids}
use Rattle.endpoint.specs.Calls.{Call, Answer}
use Rattle.endpoint.specs.Steps.{Tried}
use Rattle.session.specs.declared.session.Session.{Session}
use Rattle.session.specs.Queues.{Added, on_wire, to_links}

abbrev pub endpoint_of : {K : Type 0} → Session K → Endpoint
endpoint_of s = record {
  opened = s.opening;
  incoming_channel = s.incoming_channel;
  state = s.local_state;
  stop = s.session_stop_reason;
  ids = ids s.next_outgoing_id s.next_outgoing_delivery_id s.next_incoming_id s.remote_incoming_window;
  tables = tables_of s.links;
  book = vec_items s.delivery_tag_by_id;
  backlog = vec_items s.remote_incoming_window_exhausted_buffer.waiting;
}

abbrev pub view : {K : Type 0} → Session K → View K
view s = record { keeper = s.keeper; endpoint = endpoint_of s }

-- what the session's half of a call answers
abbrev pub answered : {X : Type 0} → (X → Answer) → Result X SessionInnerError → Result Answer SessionInnerError
answered ok (Ok x) = Ok (ok x)
answered ok (Err e) = Err e

-- the session's half of a call that may put frames on the wire queue
pub record OnWire {K : Type 0} (G : Ghosts K) (v : View K) (q : Queue SessionFrame) (c : Call) (r : Result Answer SessionInnerError) (w : View K) (p : Queue SessionFrame) : Type 0 where
  pub frames : List SessionFrame
  pub added : Added q frames p
  pub tried : Tried G v (on_wire q) c r frames [] w

-- the session's half of a call that may put an item on the link queue
pub record ToLinks {K : Type 0} (G : Ghosts K) (v : View K) (q : Queue LinkItem) (c : Call) (r : Result Answer SessionInnerError) (w : View K) (p : Queue LinkItem) : Type 0 where
  pub items : List LinkItem
  pub added : Added q items p
  pub tried : Tried G v (to_links q) c r [] items w
