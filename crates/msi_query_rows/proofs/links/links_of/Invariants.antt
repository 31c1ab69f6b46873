use Rattle.std.proofs.Common.{◌≡◌, take}
use Rattle.std.specs.List.{flat_map}
use Rattle.msi_query_rows.specs.Combinations.{widths_of}
use Rattle.msi_query_rows.specs.Links.{links_between}
use Rattle.msi_query_rows.proofs.links.links_of.Given as goal

abbrev pub invariant-loop-equation : goal.invariant-loop-equation
invariant-loop-equation l = record {
  links : l.links.items ≡ flat_map (links_between (widths_of l.relations)) (take l.equation-index l.equation-items);
}
