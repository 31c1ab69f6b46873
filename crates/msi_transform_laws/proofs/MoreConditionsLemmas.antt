-- A transform that is applied where more errors are ignored.
use Rattle.std.proofs.Common.{◌≡◌, ℕ, ◌+◌, Bool, true, false, not, ◌&&◌, List, [], ◌∷◌, Result, Ok, Err, refl, ap, ◌∙◌}
use Rattle.msi_base.specs.declared.errors.ErrorKind.{ErrorKind}
use Rattle.msi_base.specs.declared.errors.ErrorKind.TheVariants.{InvalidInput}
use Rattle.msi_base.specs.Refusals.{unless_refused}
use Rattle.msi_database_schema.specs.System.{columns_columns, columns_name, is_schema_table, tables_columns, tables_name}
use Rattle.msi_database_storage.specs.Kept.{Kept}
use Rattle.msi_table_values.specs.Columns.{ColumnDef}
use Rattle.msi_transform_records.specs.declared.records.Record.{Record}
use Rattle.msi_transform_records.specs.declared.shape.Shape.{Shape}
use Rattle.msi_transform.specs.Transforms.{TransformDef, records_for, shapes_of}
use Rattle.msi_transform.specs.declared.conditions.ErrorConditions.{ErrorConditions}
use Rattle.msi_transform_rows.specs.RecordRefusals.{◌>>=◌, Refusal, at_record, in_turn_from, nowhere}
use Rattle.msi_transform_rows.specs.RowChanges.{RowsInHand, record_applied}
use Rattle.msi_transform_rows.specs.TableRecords.{all_applied, changes_schema, number_of, read_for}
use Rattle.msi_transform_schema.specs.SchemaApplying.{complete_refusals, is_other_page, page_refusals, records_applied, schema_applied, schema_begun, schema_changed, schema_refusals, schema_untouched}
use Rattle.msi_transform_schema.specs.SchemaChanges.{SchemaChange, SchemaInHand, TablesTold, column_record_applied, columns_in_hand, table_in_hand, table_record_applied}
use Rattle.msi_transform_applying.specs.Applying.{TablesInHand, applied, change_of, change_with, changed_with, finished, rows_applied, rows_changed, rows_in_hand, table_applied, table_or_schema, table_refusals, tables_begun, tables_changed, tables_in_turn, with_anew, with_lengthened}
use Rattle.msi_transform_laws.specs.MoreConditions.{IgnoresAll, MoreConditionsLeaveTheSame}
use Rattle.msi_transform_laws.proofs.IgnoredRecordsLemmas.{Follows, column_record_follows, either, found, row_record_follows, same, table_record_follows}

onward : {A B : Type 0} (r s : Result A Refusal) (f g : A → Result B Refusal) → Follows r s → ((x : A) → Follows (f x) (g x)) → Follows (r >>= f) (s >>= g)
onward (Ok x) s f g h next y e = ap (λ r. r >>= g) (h x refl) ∙ next x y e
onward (Err refusal) s f g h next y e = absurd cc

placed : {A : Type 0} (table n : ℕ) (r s : Result A ErrorKind) → Follows r s → Follows (at_record table n r) (at_record table n s)
placed table n (Ok x) s h y e = ap (at_record table n) (h x refl) ∙ e
placed table n (Err kind) s h y e = absurd cc

abbrev given : {A : Type 0} → A → Result A Refusal
given x = Ok x

-- RECORDS IN TURN

in_turn : {S : Type 0} (table : ℕ) (f g : S → Record → Result S ErrorKind) → ((s : S) (r : Record) → Follows (f s r) (g s r)) → (n : ℕ) (s : S) (rs : List Record) → Follows (in_turn_from table f n s rs) (in_turn_from table g n s rs)
in_turn table f g h n s [] = λ y e. e
in_turn table f g h n s (r ∷ rs) =
    onward (at_record table n (f s r)) (at_record table n (g s r)) (λ s. in_turn_from table f (n + 1) s rs) (λ s. in_turn_from table g (n + 1) s rs)
    (placed table n (f s r) (g s r) (h s r)) (λ s. in_turn table f g h (n + 1) s rs)

all : {S : Type 0} (table : ℕ) (t : TransformDef) (shapes : List Shape) (bytes : List ℕ) (f g : S → Record → Result S ErrorKind) → ((s : S) (r : Record) → Follows (f s r) (g s r)) → (s : S)
    → Follows (all_applied table t shapes bytes f s) (all_applied table t shapes bytes g s)
all table t shapes bytes f g h s = let records = read_for table t shapes bytes in
    onward records records (in_turn_from table f 0 s) (in_turn_from table g 0 s) (same records) (in_turn table f g h 0 s)

-- a page that may differ
page_follows : {A : Type 0} (b p q : Bool) (x y : SchemaChange) (f : SchemaChange → Result A Refusal) → (p ≡ true → q ≡ true) → Follows (f x) (f y)
    → Follows (nowhere (unless_refused ((b && not p, InvalidInput) ∷ []) x) >>= f) (nowhere (unless_refused ((b && not q, InvalidInput) ∷ []) y) >>= f)
page_follows false p q x y f h k = k
page_follows true true q x y f h k = rw (h refl) k
page_follows true false q x y f h k = λ z e. absurd cc

module _ (k : Kept) (t : TransformDef) (more fewer : ErrorConditions) (ignores : IgnoresAll more fewer) where
  abbrev before : SchemaChange
  before = change_with k t fewer

  abbrev after : SchemaChange
  after = change_with k t more

  -- THE SCHEMA

  records_follow : (name : List ℕ) (columns : List ColumnDef) (f g : List Shape → SchemaInHand → Record → Result SchemaInHand ErrorKind)
      → ((shapes : List Shape) (s : SchemaInHand) (r : Record) → Follows (f shapes s r) (g shapes s r)) → (s : SchemaInHand) → Follows (records_applied t name columns f s) (records_applied t name columns g s)
  records_follow name columns f g h s = let shapes = shapes_of columns in
      found (records_for name t) (λ bytes. all_applied (number_of t name) t shapes bytes (f shapes) s) (λ bytes. all_applied (number_of t name) t shapes bytes (g shapes) s) (Ok s) (Ok s)
      (λ bytes. all (number_of t name) t shapes bytes (f shapes) (g shapes) (h shapes) s) (same (Ok s))

  schema_changes : Follows (schema_changed before) (schema_changed after)
  schema_changes =
      let begun = nowhere (unless_refused (schema_refusals k.database) (schema_begun k.database)) in
      let complete = λ (s : SchemaInHand). nowhere (unless_refused (complete_refusals s) s) in
      let tables = λ (change : SchemaChange). records_applied t tables_name tables_columns (table_record_applied change) in
      let columns = λ (change : SchemaChange). records_applied t columns_name columns_columns (column_record_applied change) in
      onward (begun >>= tables before >>= columns before) (begun >>= tables after >>= columns after) complete complete
      (onward (begun >>= tables before) (begun >>= tables after) (columns before) (columns after)
      (onward begun begun (tables before) (tables after) (same begun)
      (records_follow tables_name tables_columns (table_record_applied before) (table_record_applied after) (table_record_follows k t more fewer ignores)))
      (records_follow columns_name columns_columns (column_record_applied before) (column_record_applied after) (column_record_follows k t more fewer ignores)))
      (λ s. same (complete s))

  schema_follows : Follows (schema_applied before) (schema_applied after)
  schema_follows = either (changes_schema t) (schema_changed before) (schema_changed after) (Ok (schema_untouched k.database)) (Ok (schema_untouched k.database))
      schema_changes (same (Ok (schema_untouched k.database)))

  -- THE ROWS

  table_follows : (known : TablesTold) (number : ℕ) (s : TablesInHand) (e : List ℕ × List ℕ) → Follows (table_applied before known number s e) (table_applied after known number s e)
  table_follows known number s e =
      let now = table_in_hand k.database known e.0 in
      let columns = columns_in_hand k.database e.0 now in
      let begun = at_record number 0 (unless_refused (table_refusals k.database e.0 now) (rows_in_hand k.database e.0 now s)) in
      let rows = λ (change : SchemaChange). all_applied number t (shapes_of columns) e.1 (record_applied (change_of change e.0 now)) in
      let anew = λ (r : RowsInHand). given (with_anew e.0 columns s r) in
      onward (begun >>= rows before) (begun >>= rows after) anew anew
      (onward begun begun (rows before) (rows after) (same begun)
      (all number t (shapes_of columns) e.1 (record_applied (change_of before e.0 now)) (record_applied (change_of after e.0 now)) (row_record_follows e.0 columns t more fewer ignores)))
      (λ r. same (anew r))

  one_follows : (known : TablesTold) (number : ℕ) (s : TablesInHand) (e : List ℕ × List ℕ) → Follows (table_or_schema before known number s e) (table_or_schema after known number s e)
  one_follows known number s e = either (is_schema_table e.0) (Ok s) (Ok s) (table_applied before known number s e) (table_applied after known number s e)
      (same (Ok s)) (table_follows known number s e)

  tables_follow : (known : TablesTold) (n : ℕ) (s : TablesInHand) (es : List (List ℕ × List ℕ)) → Follows (tables_in_turn before known n s es) (tables_in_turn after known n s es)
  tables_follow known n s [] = λ y e. e
  tables_follow known n s (e ∷ es) =
      onward (table_or_schema before known n s e) (table_or_schema after known n s e) (λ s. tables_in_turn before known (n + 1) s es) (λ s. tables_in_turn after known (n + 1) s es)
      (one_follows known n s e) (λ s. tables_follow known (n + 1) s es)

  rows_follow : (schema : SchemaInHand) → Follows (rows_changed before schema) (rows_changed after schema)
  rows_follow schema =
      let lengthened = λ (s : TablesInHand). given (with_lengthened before schema.tables s) in
      let left = λ (tables : TablesInHand). given (changed_with schema.tables tables) in
      onward (rows_applied before schema) (rows_applied after schema) left left
      (onward (tables_in_turn before schema.tables 0 (tables_begun before schema) t.tables) (tables_in_turn after schema.tables 0 (tables_begun before schema) t.tables) lengthened lengthened
      (tables_follow schema.tables 0 (tables_begun before schema) t.tables) (λ s. same (lengthened s)))
      (λ tables. same (left tables))

  changes_follow : (page_id : ℕ) → Follows (tables_changed before page_id) (tables_changed after page_id)
  changes_follow page_id =
      onward (nowhere (unless_refused (page_refusals page_id t fewer) before) >>= schema_applied) (nowhere (unless_refused (page_refusals page_id t more) after) >>= schema_applied) (rows_changed before) (rows_changed after)
      (page_follows (is_other_page page_id t.page_id) fewer.other_page more.other_page before after schema_applied ignores.other_page schema_follows) rows_follow

pub more_conditions_leave_the_same : MoreConditionsLeaveTheSame
more_conditions_leave_the_same k page_id t more fewer left ignores =
    onward (tables_changed (change_with k t fewer) page_id) (tables_changed (change_with k t more) page_id) (finished k t) (finished k t)
    (changes_follow k t more fewer ignores page_id) (λ c. same (finished k t c)) left
