use Rattle.std.proofs.Common.{◌≡◌, map, not, drop}
use Rattle.msi_base.specs.declared.errors.ErrorKind.TheVariants.{InvalidInput}
use Rattle.msi_base.specs.Refusals.{first_refusal}
use Rattle.msi_database_changes.specs.Insert.{row_fits}
use Rattle.msi_database_changes.proofs.insert.refuse_new_misfits.Given as goal

abbrev pub invariant-loop-row : goal.invariant-loop-row
invariant-loop-row l = record {
  passed : first_refusal (map (λ row. (not (row_fits l.columns row), InvalidInput)) (drop l.row-index l.rows))
      ≡ first_refusal (map (λ row. (not (row_fits l.columns row), InvalidInput)) l.rows);
}
