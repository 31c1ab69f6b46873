use Rattle.std.proofs.Common.{◌∷◌, [], not, ◌∙◌}
use Rattle.msi_base.specs.declared.errors.ErrorKind.TheVariants.{AlreadyExists, InvalidData, NotFound}
use Rattle.msi_database_schema.specs.System.{validation_name}
use Rattle.msi_database_changes.specs.Create.{new_table_refusals}
use Rattle.msi_database_changes.specs.Database.{has_table, is_sound}
use Rattle.msi_database.proofs.table_changes.CreatingLemmas.{error_passed, refused_behind_sound}
use Rattle.msi_database.proofs.database.Database.refuse_create.Goals as goal

pub returns-in_err-refuse_table-clause-value : goal.returns-in_err-refuse_table-clause-value
returns-in_err-refuse_table-clause-value c = let d = c.args.self.now.database in let name = c.args.name.now in
    error_passed c.from_residual-in_err-refuse_table.result c.in_err-refuse_table.field-0.0 c.from_residual-in_err-refuse_table.ensures.1
    ∙ refused_behind_sound (is_sound d) InvalidData (new_table_refusals name c.args.columns.now) ((has_table name d, AlreadyExists) ∷ (not (has_table validation_name d), NotFound) ∷ []) c.in_err-refuse_table.field-0.0
    c.in_ok-check_sound.field-0 c.in_ok-check_sound.ensures c.in_err-refuse_table.ensures.value
