use Rattle.std.proofs.Common.{◌≡◌}
use Rattle.std.specs.FinMap.{entries}
use Rattle.msi_transform_applying.specs.AnewInHand.{anew_in_hand}
use Rattle.msi_transform_applying.specs.Applying.{with_lengthened}
use Rattle.msi_transform_schema.specs.TablesInHand.{named}
use Rattle.msi_transform_applying.proofs.lengthening.lengthen_tables.Given as goal

-- what the tables to come leave is what all leave
abbrev pub invariant-loop-name : goal.invariant-loop-name
invariant-loop-name l = record {
  far : with_lengthened l.change (named l.name-iterator) (anew_in_hand l.hand) ≡ with_lengthened l.change (entries l.told) (anew_in_hand l.fn.hand);
  page : l.hand.pool.pool.page ≡ l.fn.hand.pool.pool.page;
  long : l.hand.pool.pool.long ≡ l.fn.hand.pool.pool.long;
}
