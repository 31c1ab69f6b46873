use Rattle.std.proofs.Common.{◌∙◌, ap, bytes_eq, List, ℕ, Option, option_and_then, position, slice_get, unwrap_or}
use Rattle.msi_table_values.specs.declared.value.Value.{Value}
use Rattle.msi_table_values.specs.declared.value.Value.TheVariants.{Null}
use Rattle.msi_table_values.specs.ValidValues.{is_valid_value}
use Rattle.msi_database_changes.proofs.naming.takes_value.Goals as goal

pub returns-in-Some : goal.returns-in-Some
returns-in-Some c = c.is_valid_value.ensures ∙ ap (λ (o : Option Value). is_valid_value c.args.column.now (unwrap_or o Null))
    (c.in-Some.ensures ∙ ap (λ (name : List ℕ). option_and_then (slice_get c.args.row.now) (position (λ n. bytes_eq n name) c.args.names.now)) c.name.ensures)
