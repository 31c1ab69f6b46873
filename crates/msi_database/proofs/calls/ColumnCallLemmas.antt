-- Adding a column, step by step: what passed makes the change, and what a step refuses, the call refuses.
use Rattle.std.proofs.Common.{◌≡◌, ℕ, List, [], ◌∷◌, None, Some, Ok, Result, sym, ap, ◌∙◌}
use Rattle.msi_base.specs.declared.errors.ErrorKind.{ErrorKind}
use Rattle.msi_base.specs.declared.errors.ErrorKind.TheVariants.{NotFound}
use Rattle.msi_base.specs.Refusals.{IsRefusal, first_refusal, or_refused, unless_refused, ◌>>=◌}
use Rattle.msi_base.proofs.RefusalLemmas.{goes_on-Err}
use Rattle.msi_table_values.specs.Columns.{ColumnDef}
use Rattle.msi_table_cells.specs.TableCells.{TableCells}
use Rattle.msi_database_schema.specs.System.{columns_name, validation_name}
use Rattle.msi_database_changes.specs.Database.{Database, table_at}
use Rattle.msi_database_changes.specs.Changes.{Change, no_change}
use Rattle.msi_database_changes.specs.Insert.{rows_inserted}
use Rattle.msi_database_changes.specs.AddColumn.{add_column_at_width, column_inserted, early_column_refusals, with_new_column}
use Rattle.msi_database_changes.proofs.table_changes.ColumnAddedLemmas.{column_values, validation_values}
use Rattle.msi_database.proofs.calls.AcceptedCallLemmas.{found, goes_on}
use Rattle.msi_database.proofs.calls.RefusedCallLemmas.{becomes, step_refuses}

module _ (d : Database) (name : List ℕ) (column : ColumnDef) where
  abbrev of_table : Change → Result Change ErrorKind
  of_table c = or_refused NotFound (table_at name d) >>= λ t. column_inserted name column t c

  pub column_barred : (k : ErrorKind) → IsRefusal {A = Unit {0}} (unless_refused (early_column_refusals d name column) tt) k → IsRefusal (add_column_at_width d name column) k
  column_barred k h = step_refuses (early_column_refusals d name column) (no_change d) tt of_table k h

  module _ (t : TableCells) (passed : first_refusal (early_column_refusals d name column) ≡ None) (at : table_at name d ≡ Some t) where
    abbrev describes : Result Change ErrorKind
    describes = rows_inserted columns_name (column_values name t column) (no_change d)

    abbrev validates : Change → Result Change ErrorKind
    validates c = rows_inserted validation_name (validation_values name column) c

    abbrev lengthens : Change → Result Change ErrorKind
    lengthens c = Ok (with_new_column name column t c)

    column_at_last : add_column_at_width d name column ≡ (describes >>= validates >>= lengthens)
    column_at_last = goes_on (early_column_refusals d name column) (no_change d) of_table passed
        ∙ found NotFound (table_at name d) t (λ t. column_inserted name column t (no_change d)) at

    pub column_made : (first second : Change) → rows_inserted columns_name (column_values name t column) (no_change d) ≡ Ok first → rows_inserted validation_name (validation_values name column) first ≡ Ok second
        → add_column_at_width d name column ≡ Ok (with_new_column name column t second)
    column_made first second one two = column_at_last ∙ ap (λ (r : Result Change ErrorKind). r >>= validates >>= lengthens) one ∙ ap (λ (r : Result Change ErrorKind). r >>= lengthens) two

    pub column_first_refused : (k : ErrorKind) → IsRefusal (rows_inserted columns_name (column_values name t column) (no_change d)) k → IsRefusal (add_column_at_width d name column) k
    column_first_refused k h = becomes (add_column_at_width d name column) (describes >>= validates >>= lengthens) k column_at_last
        (goes_on-Err (describes >>= validates) lengthens k (goes_on-Err describes validates k h))

    pub column_second_refused : (k : ErrorKind) (first : Change) → rows_inserted columns_name (column_values name t column) (no_change d) ≡ Ok first
        → IsRefusal (rows_inserted validation_name (validation_values name column) first) k → IsRefusal (add_column_at_width d name column) k
    column_second_refused k first first_is h = becomes (add_column_at_width d name column) (validates first >>= lengthens) k
        (column_at_last ∙ ap (λ (r : Result Change ErrorKind). r >>= validates >>= lengthens) first_is) (goes_on-Err (validates first) lengthens k h)
