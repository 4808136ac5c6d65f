use Rattle.std.proofs.Common.{◌≡◌, ◌+◌, ◌≤◌, ◌++◌, vec_items, vec_len, vec_capacity}
use Rattle.links.specs.Handles.{countdown}
use Rattle.links.proofs.handle_table.HandleTable.new.Given as goal

-- The handles from h on are there, the last one first.
abbrev pub invariant-loop-h : goal.invariant-loop-h
invariant-loop-h l = record {
  items : vec_items l.vacant ++ countdown l.h ≡ countdown 64;
  len : vec_len l.vacant + l.h ≡ 64;
  reserved : 64 ≤ vec_capacity l.vacant;
}
