-- The rows that a call makes to add a column, table by table.
use Rattle.std.proofs.Common.{◌≡◌, ◌∙◌, ℕ, ◌+◌, List, [], ◌∷◌, Some, length, Result, Ok, inl, inr, sym, ap, subst}
use Rattle.msi_base.specs.declared.errors.ErrorKind.{ErrorKind}
use Rattle.msi_base.specs.declared.errors.ErrorKind.TheVariants.{NotFound}
use Rattle.msi_base.specs.Refusals.{IsRefusal, ◌>>=◌}
use Rattle.msi_base.proofs.RefusalLemmas.{goes_on-Err}
use Rattle.msi_table_values.specs.declared.value.Value.{Value}
use Rattle.msi_table_cells.specs.declared.cell.ValueRef.{ValueRef}
use Rattle.msi_table_values.specs.Columns.{ColumnDef}
use Rattle.msi_table.specs.Tables.{TableDef}
use Rattle.msi_table_cells.specs.TableCells.{TableCells}
use Rattle.msi_database_schema.specs.Description.{column_row, validation_row}
use Rattle.msi_database_schema.specs.System.{columns_name, validation_name}
use Rattle.msi_database_changes.specs.AddColumn.{ColumnRows, with_nulls}
use Rattle.msi_database_changes.specs.Database.{Database, table_at}
use Rattle.msi_database_changes.specs.Insert.{table_with}
use Rattle.msi_database_changes.specs.Texts.{PoolInUse}
use Rattle.msi_database_changes.proofs.table_changes.ColumnAddedLemmas.{column_values, validation_values}
use Rattle.msi_database.specs.AddingColumn.{rows_for_column, rows_lengthened}
use Rattle.msi_database.specs.Creating.{rows_with}
use Rattle.msi_database.proofs.calls.AcceptedCallLemmas.{found}

module _ (d : Database) (t : TableDef) (column : ColumnDef) (pool : PoolInUse) (held : List (List ValueRef)) (at : table_at t.name d ≡ Some (table_with t.columns held)) where
  abbrev there : TableCells
  there = table_with t.columns held

  abbrev Rows : Type 0
  Rows = List (List ValueRef) × PoolInUse

  abbrev of_columns : Result Rows ErrorKind
  of_columns = rows_with d columns_name (column_values t.name there column) pool

  abbrev of_validation : PoolInUse → Result Rows ErrorKind
  of_validation p = rows_with d validation_name (validation_values t.name column) p

  abbrev last : List (List ValueRef) → Rows → Result (ColumnRows × PoolInUse) ErrorKind
  last c v = Ok (record { columns = c; validation = v.0; own = with_nulls held }, v.1)

  abbrev second : Rows → Result (ColumnRows × PoolInUse) ErrorKind
  second c = of_validation c.1 >>= last c.0

  rows_are : rows_lengthened d t.name column pool ≡ (of_columns >>= second)
  rows_are = found NotFound (table_at t.name d) there (rows_for_column d t.name column pool) at

  module _ (cs : List (List Value)) (cs_is : cs ≡ column_values t.name there column) where
    pub columns_refuse : (k : ErrorKind) → IsRefusal (rows_with d columns_name cs pool) k → IsRefusal (rows_lengthened d t.name column pool) k
    columns_refuse k h = subst (λ (r : Result (ColumnRows × PoolInUse) ErrorKind). IsRefusal r k) (sym rows_are)
        (goes_on-Err of_columns second k (subst (λ (rows : List (List Value)). IsRefusal (rows_with d columns_name rows pool) k) cs_is h))

    module _ (a : List (List ValueRef)) (p : PoolInUse) (a_is : rows_with d columns_name cs pool ≡ Ok (a, p)) (vs : List (List Value)) (vs_is : vs ≡ validation_values t.name column) where
      first_is : (of_columns >>= second) ≡ second (a, p)
      first_is = ap (λ (r : Result Rows ErrorKind). r >>= second) (ap (λ (rows : List (List Value)). rows_with d columns_name rows pool) (sym cs_is) ∙ a_is)

      pub validation_refuses : (k : ErrorKind) → IsRefusal (rows_with d validation_name vs p) k → IsRefusal (rows_lengthened d t.name column pool) k
      validation_refuses k h = subst (λ (r : Result (ColumnRows × PoolInUse) ErrorKind). IsRefusal r k) (sym (rows_are ∙ first_is))
          (goes_on-Err (of_validation p) (last a) k (subst (λ (rows : List (List Value)). IsRefusal (rows_with d validation_name rows p) k) vs_is h))

      pub lengthened_given : (b : List (List ValueRef)) (q : PoolInUse) → rows_with d validation_name vs p ≡ Ok (b, q) → (own : List (List ValueRef)) → own ≡ with_nulls held
          → rows_lengthened d t.name column pool ≡ Ok (record { columns = a; validation = b; own = own }, q)
      lengthened_given b q b_is own own_is = rows_are ∙ first_is
          ∙ ap (λ (r : Result Rows ErrorKind). r >>= last a) (ap (λ (rows : List (List Value)). rows_with d validation_name rows p) (sym vs_is) ∙ b_is)
          ∙ ap (λ (rows : List (List ValueRef)). Ok (record { columns = a; validation = b; own = rows }, q)) (sym own_is)
