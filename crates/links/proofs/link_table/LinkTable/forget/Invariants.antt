use Rattle.std.proofs.Common.{◌≡◌, ◌++◌, length, map, take, drop}
use Rattle.links.specs.declared.link.LinkState.TheVariants.{Idle}
use Rattle.links.specs.Links.{awaits_under, blanked}
use Rattle.links.proofs.link_table.LinkTable.forget.Given as goal

-- The links before this one are taken away where they wait.
abbrev pub invariant-loop-link : goal.invariant-loop-link
invariant-loop-link l =
    let forgotten = blanked (awaits_under l.fn.handle.0) Idle in
    (l.link-items ≡ map forgotten (take l.link-index l.initial.link-items) ++ drop l.link-index l.initial.link-items)
    × (length l.link-items ≡ 64)
