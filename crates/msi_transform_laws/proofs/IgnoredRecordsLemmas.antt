-- Records that are applied where more errors are ignored: each that is applied without them is applied alike with them.
use Rattle.std.proofs.Common.{◌≡◌, ℕ, Bool, true, false, not, List, [], ◌∷◌, Option, Some, None, Result, Ok, Err, refl, sym, ap, ◌∙◌}
use Rattle.std.specs.Prelude.{if◌then◌else◌, nat_lt, option_and_then, length, map, unwrap_or, ℤ}
use Rattle.std.specs.Option.{option_map_or}
use Rattle.std.specs.List.{fold}
use Rattle.msi_base.specs.declared.errors.ErrorKind.{ErrorKind}
use Rattle.msi_base.specs.declared.errors.ErrorKind.TheVariants.{AlreadyExists, InvalidData, InvalidInput, NotFound}
use Rattle.msi_base.specs.Refusals.{◌>>=◌, or_refused, unless_refused}
use Rattle.msi_database_changes.specs.Texts.{PoolInUse, cell_put, cell_released, in_turn}
use Rattle.msi_database_schema.specs.Schema.{value_at}
use Rattle.msi_database_storage.specs.Kept.{Kept}
use Rattle.msi_table_cells.specs.declared.cell.ValueRef.{ValueRef}
use Rattle.msi_table_values.specs.Columns.{ColumnDef}
use Rattle.msi_table_values.specs.declared.value.Value.{Value}
use Rattle.msi_transform_records.specs.declared.action.Action.{Action}
use Rattle.msi_transform_records.specs.declared.action.Action.TheVariants.{Add, Remove, Change}
use Rattle.msi_transform_records.specs.declared.records.Record.{Record}
use Rattle.msi_transform_records.specs.declared.shape.Shape.{Shape}
use Rattle.msi_transform_records.specs.RecordCells.{added_cells, changes_of_record}
use Rattle.msi_transform.specs.Transforms.{TransformDef, record_key, shapes_of, value_in}
use Rattle.msi_transform.specs.declared.conditions.ErrorConditions.{ErrorConditions}
use Rattle.msi_transform_rows.specs.RowChanges.{Rows, RowsInHand, TableChange, action_applied, cell_changed, cells_changed, pool_for, record_applied, row_added, row_at, row_changed, row_removed, values_told, with_changes, with_row, without_row}
use Rattle.msi_transform_rows.specs.RowStreams.{row_stream_stored, told_by_changes, told_by_row}
use Rattle.msi_transform_rows.specs.declared.row.RowInHand.{RowInHand}
use Rattle.msi_transform_rows.specs.declared.row.RowStream.TheVariants.{AsBefore}
use Rattle.msi_transform_schema.specs.SchemaChanges.{SchemaChange, SchemaInHand, TableInHand, column_added, column_put, column_record_applied, column_row_added, column_told, columns_in_hand, counted_on, describing_applied, describing_row, has_number, is_described, is_gone, listing_applied, name_to_list, number_told, numbered_column_added, table_added, table_in_hand, table_put, table_record_applied, table_removed, text_told, with_table, with_table_found, with_table_gone}
use Rattle.msi_transform_applying.specs.Applying.{change_with}
use Rattle.msi_transform_laws.specs.MoreConditions.{IgnoresAll}

-- ANSWERS THAT FOLLOW

-- where the first is an answer, the second is the same
abbrev pub Follows : {A E : Type 0} → Result A E → Result A E → Type 0
Follows {A = A} r s = (x : A) → r ≡ Ok x → s ≡ Ok x

pub same : {A E : Type 0} (r : Result A E) → Follows r r
same r x e = e

joined : {A B : Type 0} (r s : Result A ErrorKind) (f g : A → Result B ErrorKind) → Follows r s → ((x : A) → Follows (f x) (g x)) → Follows (r >>= f) (s >>= g)
joined (Ok x) s f g h next y e = ap (λ r. r >>= g) (h x refl) ∙ next x y e
joined (Err kind) s f g h next y e = absurd cc

pub either : {A E : Type 0} (b : Bool) (r s u v : Result A E) → Follows r s → Follows u v → Follows (if b then r else u) (if b then s else v)
either true r s u v h k = h
either false r s u v h k = k

pub found : {A B E : Type 0} (o : Option A) (f g : A → Result B E) (r s : Result B E) → ((x : A) → Follows (f x) (g x)) → Follows r s → Follows (option_map_or f o r) (option_map_or g o s)
found None f g r s h k = k
found (Some x) f g r s h k = h x

-- an error that is ignored, and one behind another
ignored : {A : Type 0} (p q : Bool) (kind : ErrorKind) (x : A) → (p ≡ true → q ≡ true) → Follows (unless_refused ((not p, kind) ∷ []) x) (unless_refused ((not q, kind) ∷ []) x)
ignored true q kind x h = rw (h refl) (λ y e. e)
ignored false q kind x h = λ y e. absurd cc

ignored_behind : {A : Type 0} (b p q : Bool) (other kind : ErrorKind) (x : A) → (p ≡ true → q ≡ true) → Follows (unless_refused ((b, other) ∷ (not p, kind) ∷ []) x) (unless_refused ((b, other) ∷ (not q, kind) ∷ []) x)
ignored_behind true p q other kind x h = λ y e. e
ignored_behind false p q other kind x h = ignored p q kind x h

-- RECORDS OF ROWS

and_then : {A B : Type 0} (o : Option A) (f g : A → Option B) → ((x : A) → f x ≡ g x) → option_and_then f o ≡ option_and_then g o
and_then None f g h = refl
and_then (Some x) f g h = h x

module _ (name : List ℕ) (columns : List ColumnDef) (t : TransformDef) (more fewer : ErrorConditions) (ignores : IgnoresAll more fewer) where
  abbrev first : TableChange
  first = record { name = name; columns = columns; by = t; passing = fewer }

  abbrev second : TableChange
  second = record { name = name; columns = columns; by = t; passing = more }

  same_cells : (pool : PoolInUse) (cells : List ValueRef) (es : List (ℕ × ValueRef)) → cells_changed first pool cells es ≡ cells_changed second pool cells es
  same_cells pool cells [] = refl
  same_cells pool cells (e ∷ es) =
      and_then (cell_changed first pool cells e) (λ r. cells_changed first r.1 r.0 es) (λ r. cells_changed second r.1 r.0 es) (λ r. same_cells r.1 r.0 es)

  changed_with : (s : RowsInHand) (key : List Value) (cells : List (ℕ × ValueRef)) (row : RowInHand) → Follows (with_changes first key cells s row) (with_changes second key cells s row)
  changed_with s key cells row x e =
      ap (λ (o : Option (List ValueRef × PoolInUse)). row_stream_stored t name key (unwrap_or (told_by_changes columns cells) AsBefore) >>=
      λ stored. or_refused InvalidInput o >>= λ r. Ok (with_row key stored (unwrap_or (told_by_changes columns cells) row.stream) s r))
      (sym (same_cells s.pool row.cells cells)) ∙ e

  removed : (s : RowsInHand) (key : List Value) → Follows (row_removed first s key) (row_removed second s key)
  removed s key =
      found (row_at key s.rows) (λ row. Ok (without_row first key s row)) (λ row. Ok (without_row second key s row))
      (unless_refused ((not fewer.removed_row_missing, NotFound) ∷ []) s) (unless_refused ((not more.removed_row_missing, NotFound) ∷ []) s)
      (λ row. same (Ok (without_row first key s row))) (ignored fewer.removed_row_missing more.removed_row_missing NotFound s ignores.removed_row_missing)

  changed : (s : RowsInHand) (key : List Value) (cells : List (ℕ × ValueRef)) → Follows (row_changed first s key cells) (row_changed second s key cells)
  changed s key cells =
      found (row_at key s.rows) (with_changes first key cells s) (with_changes second key cells s)
      (unless_refused ((not fewer.changed_row_missing, NotFound) ∷ []) s) (unless_refused ((not more.changed_row_missing, NotFound) ∷ []) s)
      (changed_with s key cells) (ignored fewer.changed_row_missing more.changed_row_missing NotFound s ignores.changed_row_missing)

  pool_follows : (rows : Rows) (pool : PoolInUse) (key : List Value) → Follows (pool_for first rows pool key) (pool_for second rows pool key)
  pool_follows rows pool key =
      found (row_at key rows) (λ (row : RowInHand). unless_refused ((not fewer.added_row_exists, AlreadyExists) ∷ []) (fold cell_released pool row.cells))
      (λ (row : RowInHand). unless_refused ((not more.added_row_exists, AlreadyExists) ∷ []) (fold cell_released pool row.cells))
      (unless_refused ((nat_lt 65535 (length rows), InvalidInput) ∷ []) pool) (unless_refused ((nat_lt 65535 (length rows), InvalidInput) ∷ []) pool)
      (λ row. ignored fewer.added_row_exists more.added_row_exists AlreadyExists (fold cell_released pool row.cells) ignores.added_row_exists)
      (same (unless_refused ((nat_lt 65535 (length rows), InvalidInput) ∷ []) pool))

  added : (s : RowsInHand) (key : List Value) (cells : List ValueRef) → Follows (row_added first s key cells) (row_added second s key cells)
  added s key cells = let stream = unwrap_or (told_by_row columns cells) AsBefore in
      joined (pool_for first s.rows s.pool key) (pool_for second s.rows s.pool key)
      (λ pool. row_stream_stored t name key stream >>= λ stored. or_refused InvalidInput (in_turn (cell_put true) pool (values_told first cells)) >>= λ r. Ok (with_row key stored stream s r))
      (λ pool. row_stream_stored t name key stream >>= λ stored. or_refused InvalidInput (in_turn (cell_put true) pool (values_told second cells)) >>= λ r. Ok (with_row key stored stream s r))
      (pool_follows s.rows s.pool key)
      (λ pool. same (row_stream_stored t name key stream >>= λ stored. or_refused InvalidInput (in_turn (cell_put true) pool (values_told first cells)) >>= λ r. Ok (with_row key stored stream s r)))

  acted : (s : RowsInHand) (r : Record) (action : Action) → Follows (action_applied first (shapes_of columns) s r action) (action_applied second (shapes_of columns) s r action)
  acted s r Remove = removed s (record_key t (shapes_of columns) r)
  acted s r (Change m) = changed s (record_key t (shapes_of columns) r) (changes_of_record (shapes_of columns) r)
  acted s r (Add k) = added s (record_key t (shapes_of columns) r) (added_cells (shapes_of columns) r)

  pub row_record_follows : (s : RowsInHand) (r : Record) → Follows (record_applied first s r) (record_applied second s r)
  row_record_follows s r = acted s r r.action

-- RECORDS OF `_Tables` AND OF `_Columns`

module _ (k : Kept) (t : TransformDef) (more fewer : ErrorConditions) (ignores : IgnoresAll more fewer) where
  abbrev before : SchemaChange
  before = change_with k t fewer

  abbrev after : SchemaChange
  after = change_with k t more

  table_goes : (name : List ℕ) (s : SchemaInHand) → Follows (table_removed before name s) (table_removed after name s)
  table_goes name s = let e = table_in_hand k.database s.tables name in
      either (is_gone e.standing) (unless_refused ((not fewer.removed_table_missing, NotFound) ∷ []) s) (unless_refused ((not more.removed_table_missing, NotFound) ∷ []) s)
      (Ok (with_table_gone k.database name e s)) (Ok (with_table_gone k.database name e s))
      (ignored fewer.removed_table_missing more.removed_table_missing NotFound s ignores.removed_table_missing) (same (Ok (with_table_gone k.database name e s)))

  table_comes : (name : List ℕ) (s : SchemaInHand) → Follows (table_added before name s) (table_added after name s)
  table_comes name s = let e = table_in_hand k.database s.tables name in
      either (is_gone e.standing) (table_put before name s) (table_put after name s)
      (unless_refused ((not fewer.added_table_exists, AlreadyExists) ∷ []) (with_table_found name e s)) (unless_refused ((not more.added_table_exists, AlreadyExists) ∷ []) (with_table_found name e s))
      (same (table_put before name s)) (ignored fewer.added_table_exists more.added_table_exists AlreadyExists (with_table_found name e s) ignores.added_table_exists)

  listed : (s : SchemaInHand) (action : Action) (name : List ℕ) → Follows (listing_applied before s action name) (listing_applied after s action name)
  listed s Remove name = table_goes name s
  listed s (Add n) name = table_comes name s
  listed s (Change m) name = λ y e. e

  pub table_record_follows : (shapes : List Shape) (s : SchemaInHand) (r : Record) → Follows (table_record_applied before shapes s r) (table_record_applied after shapes s r)
  table_record_follows shapes s r = let name = or_refused InvalidData (name_to_list (value_at 0 (record_key t shapes r))) in
      joined name name (listing_applied before s r.action) (listing_applied after s r.action) (same name) (listed s r.action)

  numbered : (name : List ℕ) (e : TableInHand) (column : ColumnDef) (number : ℤ) (row : List Value) (s : SchemaInHand)
      → Follows (numbered_column_added before name e column number row s) (numbered_column_added after name e column number row s)
  numbered name e column number row s = let columns = columns_in_hand k.database name e in
      either (has_number (length columns) number)
      (unless_refused ((not (is_described s name number row), InvalidInput) ∷ (not fewer.added_table_exists, AlreadyExists) ∷ []) (with_table name e s))
      (unless_refused ((not (is_described s name number row), InvalidInput) ∷ (not more.added_table_exists, AlreadyExists) ∷ []) (with_table name e s))
      (column_put name e columns column number row s) (column_put name e columns column number row s)
      (ignored_behind (not (is_described s name number row)) fewer.added_table_exists more.added_table_exists InvalidInput AlreadyExists (with_table name e s) ignores.added_table_exists)
      (same (column_put name e columns column number row s))

  column_comes : (row : List Value) (s : SchemaInHand) (name : List ℕ) → Follows (column_added before row s name) (column_added after row s name)
  column_comes row s name =
      let e = table_in_hand k.database s.tables name in
      let number = number_told e.standing (length (columns_in_hand k.database name e)) (value_at 1 row) in
      let there = unless_refused ((is_gone e.standing, NotFound) ∷ []) s in
      let column = or_refused InvalidData (column_told (value_at 2 row) (value_at 3 row)) in
      let counted : TableInHand = record { standing = counted_on (value_at 1 row) e.standing; added = e.added } in
      let cells = describing_row name number (value_at 2 row) (value_at 3 row) in
      joined there there (λ s. column >>= λ c. numbered_column_added before name counted c number cells s) (λ s. column >>= λ c. numbered_column_added after name counted c number cells s) (same there)
      (λ s. joined column column (λ c. numbered_column_added before name counted c number cells s) (λ c. numbered_column_added after name counted c number cells s) (same column)
      (λ c. numbered name counted c number cells s))

  column_row : (row : List Value) (s : SchemaInHand) → Follows (column_row_added before row s) (column_row_added after row s)
  column_row row s = let name = or_refused NotFound (text_told (value_at 0 row)) in
      joined name name (column_added before row s) (column_added after row s) (same name) (column_comes row s)

  described : (shapes : List Shape) (s : SchemaInHand) (r : Record) (action : Action) → Follows (describing_applied before shapes s r action) (describing_applied after shapes s r action)
  described shapes s r Remove = same (describing_applied before shapes s r Remove)
  described shapes s r (Change m) = λ y e. e
  described shapes s r (Add n) = column_row (map (value_in t) (added_cells shapes r)) s

  pub column_record_follows : (shapes : List Shape) (s : SchemaInHand) (r : Record) → Follows (column_record_applied before shapes s r) (column_record_applied after shapes s r)
  column_record_follows shapes s r = described shapes s r r.action
