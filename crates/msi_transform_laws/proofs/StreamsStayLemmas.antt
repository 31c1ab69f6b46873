-- Records of `_Tables` and `_Columns` that say nothing of streams.
use Rattle.std.proofs.Common.{◌≡◌, ℕ, ℤ, Bool, true, false, not, List, [], ◌∷◌, length, map, Ok, refl, ap, ◌∙◌}
use Rattle.std.specs.Prelude.{if◌then◌else◌}
use Rattle.msi_base.specs.declared.errors.ErrorKind.TheVariants.{AlreadyExists, InvalidData, InvalidInput, NotFound}
use Rattle.msi_base.specs.Refusals.{or_refused, unless_refused, ◌>>=◌}
use Rattle.msi_table_cells.specs.declared.cell.ValueRef.{ValueRef}
use Rattle.msi_table_values.specs.declared.value.Value.{Value}
use Rattle.msi_table_values.specs.declared.value.Value.TheVariants.{Str}
use Rattle.msi_table_values.specs.Columns.{ColumnDef}
use Rattle.msi_database_schema.specs.Schema.{value_at}
use Rattle.msi_database_changes.specs.Texts.{PoolInUse, cell_put, in_turn}
use Rattle.msi_database_changes.proofs.describing.ShownTablesLemmas.{ok_first}
use Rattle.msi_database_changes.proofs.steps.RefusedLemmas.{not_refused, same_Ok}
use Rattle.msi_transform_records.specs.RecordCells.{added_cells}
use Rattle.msi_transform_records.specs.declared.action.Action.{Action}
use Rattle.msi_transform_records.specs.declared.action.Action.TheVariants.{Add, Remove, Change}
use Rattle.msi_transform_records.specs.declared.records.Record.{Record}
use Rattle.msi_transform_records.specs.declared.shape.Shape.{Shape}
use Rattle.msi_transform.specs.Transforms.{record_key, value_in}
use Rattle.msi_transform_schema.specs.SchemaChanges.{SchemaChange, SchemaInHand, TableInHand, column_added, column_put, column_row_added, column_told, columns_in_hand, counted_on, describing_applied, describing_row, has_number, is_gone, is_unlisted, new_column_refusals, number_told, numbered_column_added, old_column_refusals, table_in_hand, table_put, text_told, was_dropped, with_column, with_table, with_table_added, with_table_found}

-- RECORDS THAT SAY NOTHING OF STREAMS

-- the streams stay
abbrev pub StreamsStay : SchemaInHand → SchemaInHand → Type 0
StreamsStay s t = s.streams ≡ t.streams

stay_as : (s u t : SchemaInHand) → StreamsStay s u → u ≡ t → StreamsStay s t
stay_as s u t h e = h ∙ ap (λ (x : SchemaInHand). x.streams) e

module _ (change : SchemaChange) where
  put_stays : (s t : SchemaInHand) (name : List ℕ) → table_put change name s ≡ Ok t → StreamsStay s t
  put_stays s t name is =
      let (u, unrefused, rest) = ok_first (unless_refused ((is_unlisted change.database name, InvalidInput) ∷ []) s)
      (λ (u : SchemaInHand). or_refused InvalidInput (in_turn (cell_put true) u.pool (Str name ∷ [])) >>= λ (r : List ValueRef × PoolInUse). Ok (with_table_added name u r)) t is in
      let (r, _, made) = ok_first (or_refused InvalidInput (in_turn (cell_put true) u.pool (Str name ∷ []))) (λ (r : List ValueRef × PoolInUse). Ok (with_table_added name u r)) t rest in
      let before : StreamsStay s u = stay_as s s u refl (not_refused ((is_unlisted change.database name, InvalidInput) ∷ []) s u unrefused).1 in
      before ∙ ap (λ (x : SchemaInHand). x.streams) (same_Ok (with_table_added name u r) t made)

  pub come_by : (b : Bool) (s t : SchemaInHand) (name : List ℕ) (table : TableInHand)
      → (if b then table_put change name s else unless_refused ((not change.passing.added_table_exists, AlreadyExists) ∷ []) (with_table_found name table s)) ≡ Ok t → StreamsStay s t
  come_by true s t name table is = put_stays s t name is
  come_by false s t name table is = ap (λ (x : SchemaInHand). x.streams) (not_refused ((not change.passing.added_table_exists, AlreadyExists) ∷ []) (with_table_found name table s) t is).1

  column_put_stays : (name : List ℕ) (table : TableInHand) (columns : List ColumnDef) (column : ColumnDef) (number : ℤ) (row : List Value) (s t : SchemaInHand)
      → column_put name table columns column number row s ≡ Ok t → StreamsStay s t
  column_put_stays name table columns column number row s t is =
      let (u, unrefused, rest) = ok_first (unless_refused (new_column_refusals table.standing columns number column) s)
      (λ (u : SchemaInHand). or_refused InvalidInput (in_turn (cell_put true) u.pool row) >>= λ (r : List ValueRef × PoolInUse). Ok (with_column name table column number u r)) t is in
      let (r, _, made) = ok_first (or_refused InvalidInput (in_turn (cell_put true) u.pool row)) (λ (r : List ValueRef × PoolInUse). Ok (with_column name table column number u r)) t rest in
      let before : StreamsStay s u = stay_as s s u refl (not_refused (new_column_refusals table.standing columns number column) s u unrefused).1 in
      before ∙ ap (λ (x : SchemaInHand). x.streams) (same_Ok (with_column name table column number u r) t made)

  numbered_by : (b described : Bool) (name : List ℕ) (table : TableInHand) (columns : List ColumnDef) (column : ColumnDef) (number : ℤ) (row : List Value) (s t : SchemaInHand)
      → (if b then unless_refused (old_column_refusals change described) (with_table name table s) else column_put name table columns column number row s) ≡ Ok t → StreamsStay s t
  numbered_by true described name table columns column number row s t is = ap (λ (x : SchemaInHand). x.streams) (not_refused (old_column_refusals change described) (with_table name table s) t is).1
  numbered_by false described name table columns column number row s t is = column_put_stays name table columns column number row s t is

  numbered_stays : (name : List ℕ) (table : TableInHand) (column : ColumnDef) (number : ℤ) (row : List Value) (s t : SchemaInHand)
      → numbered_column_added change name table column number row s ≡ Ok t → StreamsStay s t
  numbered_stays name table column number row s t is =
      numbered_by (has_number (length (columns_in_hand change.database name table)) number) _ name table (columns_in_hand change.database name table) column number row s t is

  column_stays : (row : List Value) (s t : SchemaInHand) (name : List ℕ) → column_added change row s name ≡ Ok t → StreamsStay s t
  column_stays row s t name is =
      let table = table_in_hand change.database s.tables name in
      let number = number_told table.standing (length (columns_in_hand change.database name table)) (value_at 1 row) in
      let numbered : TableInHand = record { standing = counted_on (value_at 1 row) table.standing; added = table.added } in
      let (u, unrefused, rest) = ok_first (unless_refused ((is_gone table.standing, NotFound) ∷ []) s)
      (λ (u : SchemaInHand). or_refused InvalidData (column_told (value_at 2 row) (value_at 3 row)) >>= λ (column : ColumnDef).
      numbered_column_added change name numbered column number (describing_row name number (value_at 2 row) (value_at 3 row)) u) t is in
      let (column, _, made) = ok_first (or_refused InvalidData (column_told (value_at 2 row) (value_at 3 row)))
      (λ (column : ColumnDef). numbered_column_added change name numbered column number (describing_row name number (value_at 2 row) (value_at 3 row)) u) t rest in
      stay_as s s u refl (not_refused ((is_gone table.standing, NotFound) ∷ []) s u unrefused).1
      ∙ numbered_stays name numbered column number (describing_row name number (value_at 2 row) (value_at 3 row)) u t made

  column_row_stays : (row : List Value) (s t : SchemaInHand) → column_row_added change row s ≡ Ok t → StreamsStay s t
  column_row_stays row s t is =
      let (name, _, made) = ok_first (or_refused NotFound (text_told (value_at 0 row))) (column_added change row s) t is in
      column_stays row s t name made

  pub describing_by : (shapes : List Shape) (s t : SchemaInHand) (r : Record) (action : Action) → describing_applied change shapes s r action ≡ Ok t → StreamsStay s t
  describing_by shapes s t r Remove is = ap (λ (x : SchemaInHand). x.streams) (not_refused ((not (was_dropped s (value_at 0 (record_key change.by shapes r))), InvalidInput) ∷ []) s t is).1
  describing_by shapes s t r (Change m) is = absurd cc
  describing_by shapes s t r (Add k) is = column_row_stays (map (value_in change.by) (added_cells shapes r)) s t is
