use Rattle.std.proofs.Common.{◌≡◌, drop}
use Rattle.msi_query_rows.specs.Combinations.{located, widths_of}
use Rattle.msi_query_rows.proofs.WalkLemmas.{shifted}
use Rattle.msi_query_rows.proofs.links.column_at.Given as goal

abbrev pub invariant-loop-i : goal.invariant-loop-i
invariant-loop-i l = record {
  place : located (widths_of l.relations) l.place ≡ shifted l.i (located (drop l.i (widths_of l.relations)) l.rest);
}
