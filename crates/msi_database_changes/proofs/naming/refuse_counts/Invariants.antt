use Rattle.std.proofs.Common.{◌≡◌, drop}
use Rattle.msi_base.specs.Refusals.{first_refusal}
use Rattle.msi_database_changes.specs.Insert.{count_refusals}
use Rattle.msi_database_changes.proofs.naming.refuse_counts.Given as goal

abbrev pub invariant-loop-row : goal.invariant-loop-row
invariant-loop-row l = record {
  passed : first_refusal (count_refusals l.names (drop l.row-index l.rows)) ≡ first_refusal (count_refusals l.names l.rows);
}
