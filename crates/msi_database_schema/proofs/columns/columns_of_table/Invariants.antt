use Rattle.std.proofs.Common.{◌≡◌, Some, vec_len}
use Rattle.msi_base.specs.Lists.{all_present, tabulated}
use Rattle.msi_database_schema.specs.RowOrders.{describing}
use Rattle.msi_database_schema.proofs.TablesLemmas.{numbered}
use Rattle.msi_database_schema.proofs.columns.columns_of_table.Given as goal

abbrev pub invariant-loop-i : goal.invariant-loop-i
invariant-loop-i l = record {
  read : all_present (tabulated l.i (numbered (describing l.columns l.validation) l.table)) ≡ Some l.read.items;
  many : vec_len l.read ≡ l.i;
}
