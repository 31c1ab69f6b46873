use Rattle.std.proofs.Common.{◌≡◌, map, drop}
use Rattle.msi_base.specs.Refusals.{first_refusal}
use Rattle.msi_database_changes.specs.Insert.{misfit_refusals, whole_row}
use Rattle.msi_database_changes.proofs.naming.refuse_named_misfits.Given as goal

abbrev pub invariant-loop-row : goal.invariant-loop-row
invariant-loop-row l = record {
  passed : first_refusal (misfit_refusals l.columns (map (whole_row l.columns l.names) (drop l.row-index l.rows)))
      ≡ first_refusal (misfit_refusals l.columns (map (whole_row l.columns l.names) l.rows));
}
