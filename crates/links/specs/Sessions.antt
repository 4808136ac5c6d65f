-- What a session knows of its links, and what the calls on them do.
use Rattle.std.specs.Prelude.{◌≡◌, ℕ, Bool, cond, not, ◌||◌, List, [], ◌∷◌, ◌++◌, map, replicate, Some, None, Ok, Err, Option, Result, nat_le, nat_lt, slice_set, position}
use Rattle.std.specs.List.{list_any}
use Rattle.std.specs.Option.{option_and_then}
use Rattle.names.specs.declared.octets.Octets.{Octets}
use Rattle.definitions.specs.declared.link_number.LinkNumber.{LinkNumber}
use Rattle.definitions.specs.declared.numbers.InputHandle.{InputHandle}
use Rattle.definitions.specs.declared.numbers.OutputHandle.{OutputHandle}
use Rattle.definitions.specs.declared.numbers.ReceiverSettleMode.{ReceiverSettleMode}
use Rattle.definitions.specs.LinkNumbers.{number_of}
use Rattle.refusals.specs.declared.errors.AllocLinkError.{AllocLinkError}
use Rattle.refusals.specs.declared.errors.AllocLinkError.TheVariants.{DuplicatedLinkName, HandlesFull, LinkNumber as BadNumber}
use Rattle.refusals.specs.declared.errors.SessionInnerError.{SessionInnerError}
use Rattle.refusals.specs.declared.errors.SessionInnerError.TheVariants.{RemoteAttachingLinkNameNotFound, HandleInUse}
use Rattle.links.specs.declared.handle.HandleEntry.{HandleEntry}
use Rattle.links.specs.declared.link.LinkState.{LinkState}
use Rattle.links.specs.declared.link.LinkState.TheVariants.{Idle, Awaiting, Attached}
use Rattle.links.specs.declared.links.Links.{Links}
use Rattle.links.specs.Relays.{sender, output_of}
use Rattle.links.specs.Handles.{unused, handle_at, in_use, bears_name, used_in, restated, countdown}
use Rattle.links.specs.HandleTables.{entries_of, vacant_of}
use Rattle.links.specs.Links.{is_idle, awaits_under, attached_under, link_of, no_links, blanked}
use Rattle.links.specs.LinkTables.{links_in}

-- How each output handle stands; the handles that are not in use, the next to be given last; and how the link of each number stands.
pub record LinkTables : Type 0 where
  pub entries : List HandleEntry
  pub vacant : List OutputHandle
  pub links : List LinkState

abbrev pub tables : List HandleEntry → List OutputHandle → List LinkState → LinkTables
tables es vs ls = record { entries = es; vacant = vs; links = ls }

abbrev pub tables_of : Links → LinkTables
tables_of l = tables (entries_of l.handles) (vacant_of l.handles) (links_in l.table)

-- before any link is allocated
abbrev pub none_yet : LinkTables
none_yet = tables (replicate 64 unused) (countdown 64) no_links

-- Allocation

-- Why a link of that name and number is not allocated, if it is not; the first that applies.
abbrev pub allocation_bar : LinkTables → Octets 64 → ℕ → Option AllocLinkError
allocation_bar t name l =
    cond (list_any (bears_name name) t.entries) (Some (DuplicatedLinkName l))
    (cond (nat_le 64 (used_in t.entries)) (Some HandlesFull)
    (cond (nat_lt 63 l || not (is_idle (link_of t.links l))) (Some (BadNumber l)) None))

-- The name gets the handle that is to be given next, and the link waits for its attach.
pub record Allocated (t : LinkTables) (name : Octets 64) (l : ℕ) (mode : ReceiverSettleMode) (h : OutputHandle) (u : LinkTables) : Type 0 where
  pub vacant : t.vacant ≡ u.vacant ++ h ∷ []
  pub entries : u.entries ≡ slice_set t.entries h.0 (restated (Some name) (handle_at t.entries h.0))
  pub links : u.links ≡ slice_set t.links l (Awaiting (sender h mode))

abbrev pub Allocatable : LinkTables → Octets 64 → ℕ → Result LinkNumber AllocLinkError → Type 0
Allocatable t name l (Ok n) = (allocation_bar t name l ≡ None) × (number_of n ≡ l)
Allocatable t name l (Err e) = allocation_bar t name l ≡ Some e

abbrev pub Allocates : LinkTables → Octets 64 → ℕ → ReceiverSettleMode → Result OutputHandle AllocLinkError → LinkTables → Type 0
Allocates t name l mode (Ok h) u = (allocation_bar t name l ≡ None) × Allocated t name l mode h u
Allocates t name l mode (Err e) u = (allocation_bar t name l ≡ Some e) × (u ≡ t)

-- Deallocation

abbrev pub is_used : LinkTables → OutputHandle → Bool
is_used t h = in_use (handle_at t.entries h.0)

-- The handle is free and the next to be given, and no link waits for its attach with it.
abbrev pub freed : LinkTables → OutputHandle → LinkTables
freed t h = tables (slice_set t.entries h.0 (restated None (handle_at t.entries h.0))) (t.vacant ++ h ∷ []) (map (blanked (awaits_under h.0) Idle) t.links)

abbrev pub Deallocates : LinkTables → OutputHandle → Bool → LinkTables → Type 0
Deallocates t h used u = (used ≡ is_used t h) × (u ≡ cond used (freed t h) t)

-- The peer's attach

-- the number of the link that has the name and waits for its attach
abbrev pub awaiting_by : LinkTables → Octets 64 → Option ℕ
awaiting_by t name = option_and_then (λ h. position (awaits_under h) t.links) (position (bears_name name) t.entries)

-- Why an attach of that name and input handle is refused, if it is: no handle is in use by the name; no link waits for its attach with that handle, or the input handle is taken.
abbrev pub taken_bar : LinkTables → InputHandle → Option ℕ → Option SessionInnerError
taken_bar t i None = Some (HandleInUse i)
taken_bar t i (Some n) = cond (list_any (attached_under i.0) t.links) (Some (HandleInUse i)) None

abbrev pub name_bar : LinkTables → InputHandle → Option ℕ → Option SessionInnerError
name_bar t i None = Some (RemoteAttachingLinkNameNotFound i)
name_bar t i (Some h) = taken_bar t i (position (awaits_under h) t.links)

abbrev pub attach_bar : LinkTables → Octets 64 → InputHandle → Option SessionInnerError
attach_bar t name i = name_bar t i (position (bears_name name) t.entries)

abbrev pub Attachable : LinkTables → Octets 64 → InputHandle → Result LinkNumber SessionInnerError → Type 0
Attachable t name i (Ok n) = (attach_bar t name i ≡ None) × (awaiting_by t name ≡ Some (number_of n))
Attachable t name i (Err e) = attach_bar t name i ≡ Some e

-- a link that waits for its attach is under the handle, with the mode; any other stands as it did
abbrev pub attached_as : InputHandle → ReceiverSettleMode → LinkState → LinkState
attached_as i mode Idle = Idle
attached_as i mode (Awaiting r) = Attached i (sender (output_of r) mode)
attached_as i mode (Attached j r) = Attached j r

abbrev pub attached : LinkTables → ℕ → InputHandle → ReceiverSettleMode → LinkTables
attached t n i mode = tables t.entries t.vacant (slice_set t.links n (attached_as i mode (link_of t.links n)))
