-- Rows keep their kinds.
use Rattle.std.proofs.Common.{ℕ, List}
use Rattle.std.specs.Prelude.{IsPermutation}
use Rattle.std.specs.List.{AllByRecursion}
use Rattle.std.proofs.lemmas.List.Sorted.{IsPermutation-sym}
use Rattle.msi_table_values.specs.Columns.{ColumnDef}
use Rattle.msi_database_schema.specs.Description.{validation_rows}
use Rattle.msi_database_schema.specs.Schema.{SchemaRows}
use Rattle.msi_base.proofs.ListLemmas.{In_permuted, all_at, all_from, all_joined, all_kept}
use Rattle.msi_database_schema.proofs.OrderlessLemmas.{HasKinds, IsColumnRow, IsReordered, IsValidationRow}
use Rattle.msi_database_schema.proofs.AddedRowsLemmas.{added, rows_from}
use Rattle.msi_database_schema.proofs.AddedLemmas.{rows_kinds, validation_kinds}
use Rattle.msi_database_changes.proofs.table_changes.DroppedLemmas.{dropped, stays}
use Rattle.msi_database_changes.proofs.table_changes.UnlistedLemmas.{unlisting}

pub all_permuted : {X : Type 0} (P : X → Type 0) (xs ys : List X) → IsPermutation xs ys → AllByRecursion P xs → AllByRecursion P ys
all_permuted P xs ys h a = all_from P ys (λ y i. all_at P xs y a (In_permuted ys xs y (IsPermutation-sym xs ys h) i))

pub kinds_reordered : (s u : SchemaRows) → IsReordered s u → HasKinds s → HasKinds u
kinds_reordered s u same k = record {
  columns = all_permuted IsColumnRow s.columns u.columns same.columns k.columns;
  validation = all_permuted IsValidationRow s.validation u.validation same.validation k.validation;
}

pub kinds_added : (s : SchemaRows) (name : List ℕ) (columns : List ColumnDef) → HasKinds s → HasKinds (added s name columns)
kinds_added s name columns k = record {
  columns = all_joined IsColumnRow (rows_from name 1 columns) s.columns (rows_kinds name 1 columns) k.columns;
  validation = all_joined IsValidationRow (validation_rows name columns) s.validation (validation_kinds name columns) k.validation;
}

pub kinds_dropped : (s : SchemaRows) (name : List ℕ) → HasKinds s → HasKinds (dropped s name)
kinds_dropped s name k = record { columns = all_kept IsColumnRow (stays name) s.columns k.columns; validation = all_kept IsValidationRow (stays name) s.validation k.validation }

pub kinds_unlisting : (s : SchemaRows) (name : List ℕ) → HasKinds s → HasKinds (unlisting s name)
kinds_unlisting s name k = record { columns = all_kept IsColumnRow (stays name) s.columns k.columns; validation = k.validation }
