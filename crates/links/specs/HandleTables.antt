-- What the calls on a handle table do.
use Rattle.std.specs.Prelude.{◌≡◌, List, [], ◌∷◌, ◌++◌, replicate, Some, None, vec_items, slice_set}
use Rattle.names.specs.declared.octets.Octets.{Octets}
use Rattle.definitions.specs.declared.numbers.OutputHandle.{OutputHandle}
use Rattle.links.specs.declared.handle.HandleEntry.{HandleEntry}
use Rattle.links.specs.declared.handle_table.HandleTable.{HandleTable}
use Rattle.links.specs.Handles.{handle_at, restated, unused, countdown}

-- how each handle stands
abbrev pub entries_of : HandleTable → List HandleEntry
entries_of t = t.entries

-- The handles that are not in use. The one to be given next is at the end: the one freed last, else the smallest that was never given.
abbrev pub vacant_of : HandleTable → List OutputHandle
vacant_of t = vec_items t.vacant

-- no handle was given yet
pub record Fresh (t : HandleTable) : Type 0 where
  pub entries : entries_of t ≡ replicate 64 unused
  pub vacant : vacant_of t ≡ countdown 64

-- The name gets the handle that is to be given next.
pub record Gave (t : HandleTable) (name : Octets 64) (h : OutputHandle) (u : HandleTable) : Type 0 where
  pub vacant : vacant_of t ≡ vacant_of u ++ h ∷ []
  pub entries : entries_of u ≡ slice_set (entries_of t) h.0 (restated (Some name) (handle_at (entries_of t) h.0))

-- A handle in use is freed with its name, and is the one to be given next.
pub record Freed (t : HandleTable) (h : OutputHandle) (u : HandleTable) : Type 0 where
  pub vacant : vacant_of u ≡ vacant_of t ++ h ∷ []
  pub entries : entries_of u ≡ slice_set (entries_of t) h.0 (restated None (handle_at (entries_of t) h.0))
