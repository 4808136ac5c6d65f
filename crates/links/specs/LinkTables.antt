-- What a link table holds.
use Rattle.std.specs.Prelude.{List}
use Rattle.links.specs.declared.link.LinkState.{LinkState}
use Rattle.links.specs.declared.link_table.LinkTable.{LinkTable}

-- how the link of each number stands
abbrev pub links_in : LinkTable → List LinkState
links_in t = t.links
