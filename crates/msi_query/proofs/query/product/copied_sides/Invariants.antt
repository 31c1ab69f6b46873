use Rattle.std.proofs.Common.{◌≡◌, take}
use Rattle.msi_query.proofs.query.product.copied_sides.Given as goal

abbrev pub invariant-loop-side : goal.invariant-loop-side
invariant-loop-side l = record {
  copies : l.copies.items ≡ take l.side-index l.sides;
}
