-- The records of a transform that is made tell of a row's stream where they tell of that row alone.
use Rattle.std.proofs.Common.{◌≡◌, ℕ, ◌||◌, Bool, true, false, not, List, [], ◌∷◌, ◌++◌, length, map, Option, Some, is_some, Ok, refl, sym, ap, subst, ◌∙◌, inl, inr}
use Rattle.std.specs.Prelude.{unwrap_or}
use Rattle.std.specs.FinMap.{find}
use Rattle.std.specs.FinMap.Entries.{is_some-find}
use Rattle.std.specs.List.{AllByRecursion, list_any}
use Rattle.std.specs.Ordering.{eq_by_cmp}
use Rattle.std.proofs.lemmas.Bool.{and_parts}
use Rattle.std.proofs.lemmas.List.{length-map, map-append}
use Rattle.msi_base.specs.Lists.{list_cmp}
use Rattle.msi_base.proofs.BoolLemmas.{by_test}
use Rattle.msi_base.proofs.OptionLemmas.{some_is, some_there}
use Rattle.msi_pool.specs.Pool.{Place}
use Rattle.msi_table_cells.specs.declared.cell.ValueRef.{ValueRef}
use Rattle.msi_table_cells.specs.CellValues.{row_values, value_of_cell}
use Rattle.msi_table_cells.specs.KeyOrder.{key_of}
use Rattle.msi_table_values.specs.declared.value.Value.{Value}
use Rattle.msi_table_values.specs.Columns.{ColumnDef}
use Rattle.msi_database_schema.specs.System.{is_schema_table}
use Rattle.msi_database_changes.specs.Database.{Database, has_table}
use Rattle.msi_database_storage.specs.Streams.{stream_at}
use Rattle.msi_transform_records.specs.Records.{records_in}
use Rattle.msi_transform_records.specs.declared.records.Record.{Record}
use Rattle.msi_transform_records.specs.declared.shape.Shape.{Shape}
use Rattle.msi_transform.specs.Transforms.{TransformDef, record_key, records_for, shapes_of}
use Rattle.msi_transform.specs.declared.conditions.ErrorConditions.{ErrorConditions}
use Rattle.msi_transform_rows.specs.KeyOfRows.{key_cmp}
use Rattle.msi_transform_rows.specs.RowStreams.{has_streams, is_of_streams, row_stream}
use Rattle.msi_transform_schema.specs.SchemaApplying.{system_rows}
use Rattle.msi_transform_schema.specs.SchemaChanges.{TableInHand, TablesTold, columns_in_hand, columns_of_package, rows_of_package, table_in_hand}
use Rattle.msi_transform_schema.specs.declared.schema.Standing.{Standing}
use Rattle.msi_transform_schema.specs.declared.schema.Standing.TheVariants as stands
use Rattle.msi_transform_applying.specs.Applying.{change_with, gains_streams, null_in}
use Rattle.msi_transform_making.specs.Making.{Pair, ToldTable, columns_in_table, made, told_names, told_rows, told_tables}
use Rattle.msi_transform_laws.specs.CarriedOut.{IsTellable}
use Rattle.msi_transform_laws.specs.RowsBegun.{HasNewColumns, StandsAs}
use Rattle.msi_transform_laws.specs.StreamsAgree.{CanNameStreams}
use Rattle.msi_transform_laws.specs.TableApplied.{CanHaveRecords}
use Rattle.msi_transform_laws.specs.TablesChanged.{TableOfRecords}
use Rattle.msi_transform_laws.proofs.KeysOfRecordsLemmas.{IsOfEither, KeysOf, made_keys, rows_there}
use Rattle.msi_transform_laws.proofs.OwnStreamNamesLemmas.{IsNewRow, no_row_gone, one_row}
use Rattle.msi_transform_laws.proofs.RowsBegunLemmas.{key_beside, none_of_key, streams_beside}
use Rattle.msi_transform_laws.proofs.SchemaListsLemmas.{each_passing, not_true}
use Rattle.msi_transform_laws.proofs.SchemaMadeLemmas.{IsNamed, at_name, passes_among}
use Rattle.msi_transform_laws.proofs.TableChangedLemmas.{each_among, of_tables}
use Rattle.msi_transform_laws.proofs.TablesChangedLemmas.{all_in_transform, found_in_transform}
use Rattle.msi_transform_laws.proofs.TurnedStreamsLemmas.{IsAlone, IsFit}

or_true : (b : Bool) → (b || true) ≡ true
or_true true = refl
or_true false = refl

pub streams_shapes : (columns : List ColumnDef) → has_streams columns ≡ list_any (λ (s : Shape). is_of_streams s.coltype) (shapes_of columns)
streams_shapes [] = refl
streams_shapes (c ∷ columns) = ap (λ b. is_of_streams c.coltype || b) (streams_shapes columns)

pub same_streams : (one other : List ColumnDef) → shapes_of one ≡ shapes_of other → has_streams one ≡ has_streams other
same_streams one other same = streams_shapes one ∙ ap (λ (l : List Shape). list_any (λ (s : Shape). is_of_streams s.coltype) l) same ∙ sym (streams_shapes other)

-- the keys of rows stay where columns are added
keys_stay : (places : List Place) (columns added : List ColumnDef) (rows : List (List ValueRef)) → AllByRecursion (λ (row : List ValueRef). length row ≡ length columns) rows → list_any (λ (c : ColumnDef). c.is_primary_key) added ≡ false
    → AllByRecursion (λ (row : List ValueRef). key_of (columns ++ added) (row_values places (row ++ map null_in added)) ≡ key_of columns (row_values places row)) rows
keys_stay places columns added [] whole plain = tt
keys_stay places columns added (row ∷ rows) whole plain = (
  ap (key_of (columns ++ added)) (map-append (value_of_cell places) row (map null_in added))
      ∙ key_beside columns added (row_values places row) (row_values places (map null_in added)) (length-map row (value_of_cell places) ∙ whole.0) plain,
  keys_stay places columns added rows whole.1 plain,
)

module _ (p : Pair) (t : TransformDef) (is : made p ≡ Ok t) (can : CanHaveRecords p) (names : CanNameStreams p) where
  abbrev pub wanted : List ℕ → Option (List ℕ)
  wanted n = stream_at n p.new.streams

  pub plain_name : (name : List ℕ) → IsNamed p name → is_schema_table name ≡ false
  plain_name name among = not_true (is_schema_table name)
      (at_name (λ (m : List ℕ). not (is_schema_table m) ≡ true) name (told_names p.new) (each_passing (λ (m : List ℕ). not (is_schema_table m)) (map (λ t. t.0) p.new.database.tables)) among)

  pub old_among : (name : List ℕ) → is_schema_table name ≡ false → has_table name p.old.database ≡ true → list_any (eq_by_cmp list_cmp name) (told_names p.old) ≡ true
  old_among name plain there =
      passes_among (λ (m : List ℕ). not (is_schema_table m)) name (map (λ t. t.0) p.old.database.tables) (sym (is_some-find list_cmp name p.old.database.tables) ∙ there) (ap not plain)

  pub new_among : (name : List ℕ) → is_schema_table name ≡ false → has_table name p.new.database ≡ true → IsNamed p name
  new_among name plain there =
      passes_among (λ (m : List ℕ). not (is_schema_table m)) name (map (λ t. t.0) p.new.database.tables) (sym (is_some-find list_cmp name p.new.database.tables) ∙ there) (ap not plain)

  module _ (table : List ℕ) (key : List Value) (n : List ℕ) (at : row_stream table key ≡ Some n) (row : IsNewRow p t is names table key n) where
    abbrev Alone : List ℕ → List Value → Type 0
    Alone = IsAlone (wanted n) table key n at

    alone : (other : List ℕ) (k : List Value) → IsNamed p other → has_streams (columns_in_table p.new other) ≡ true → IsOfEither p other k → Alone other k
    alone other k among streams either w found =
        let bytes = unwrap_or (wanted n) [] in
        let here : stream_at n p.new.streams ≡ Some bytes = some_there (wanted n) [] w in
        let as_new = λ (there : is_some (find key_cmp k (told_rows p.new other 0)) ≡ true).
        one_row p t is names n bytes here table other key k row (record { among = among; streams = streams; there = there; at = found }) in
        elim (either) [
          | inl there ↦ as_new there
          | inr old ↦ by_test (is_some (find key_cmp k (told_rows p.new other 0))) as_new
              (λ gone. absurd (no_row_gone p t is names n bytes here table other key k row (old_among other (plain_name other among) old.0)
              (ap (λ b. has_streams (columns_in_table p.old other) || b) streams ∙ or_true (has_streams (columns_in_table p.old other))) old.1 gone found))
        ]

    module _ (told : TablesTold) (has : AllByRecursion (λ name. HasNewColumns p.old p.new name (table_in_hand p.old.database told name)) (told_names p.new)) (passing : ErrorConditions) where
      abbrev d : Database
      d = p.old.database

      module _ (e : TableOfRecords) (among : IsNamed p e.0) (keys : KeysOf p t passing e.0) (there_is : records_for e.0 t ≡ Some e.1) where
        abbrev now : TableInHand
        now = table_in_hand d told e.0

        abbrev columns : List ColumnDef
        columns = columns_in_hand d e.0 now

        has_new : HasNewColumns p.old p.new e.0 now
        has_new = at_name (λ name. HasNewColumns p.old p.new name (table_in_hand d told name)) e.0 (told_names p.new) has among

        tellable : IsTellable p.old p.new e.0
        tellable = at_name (IsTellable p.old p.new) e.0 (told_names p.new) can.tellable among

        streams_are : has_streams columns ≡ has_streams (columns_in_table p.new e.0)
        streams_are = same_streams columns (columns_in_table p.new e.0) has_new.columns

        all_alone : (qs : List Record) → AllByRecursion (λ (q : Record). IsOfEither p e.0 (record_key t (shapes_of (columns_in_table p.new e.0)) q)) qs
            → AllByRecursion (λ (q : Record). has_streams columns ≡ true → Alone e.0 (record_key t (shapes_of columns) q)) qs
        all_alone [] h = tt
        all_alone (q ∷ qs) h = (
          (λ some. alone e.0 (record_key t (shapes_of columns) q) among (sym streams_are ∙ some) (subst (λ (l : List Shape). IsOfEither p e.0 (record_key t l q)) (sym has_new.columns) h.0)),
          all_alone qs h.1,
        )

        records_alone : (rs : List Record) → records_in (shapes_of columns) t.pool e.1 ≡ Some rs → AllByRecursion (λ (q : Record). has_streams columns ≡ true → Alone e.0 (record_key t (shapes_of columns) q)) rs
        records_alone rs found =
            let (bytes, at_bytes, stored, read, are) = keys in
            let bytes_are : bytes ≡ e.1 = some_is bytes e.1 (sym at_bytes ∙ there_is) in
            let same_shapes : shapes_of (columns_in_table p.new e.0) ≡ shapes_of columns = sym has_new.columns in
            let again : records_in (shapes_of (columns_in_table p.new e.0)) t.pool bytes ≡ records_in (shapes_of columns) t.pool e.1 = λ i. records_in (same_shapes i) t.pool (bytes_are i) in
            let stored_are : stored ≡ rs = some_is stored rs (sym read ∙ again ∙ found) in
            subst (AllByRecursion (λ (q : Record). has_streams columns ≡ true → Alone e.0 (record_key t (shapes_of columns) q))) stored_are (all_alone stored are)

        abbrev AloneIn : Standing → List (List ValueRef) → Type 0
        AloneIn standing rows = AllByRecursion (λ (row : List ValueRef). Alone e.0 (key_of (columns_of_package d e.0 standing) (row_values d.pool.places row))) rows

        kept_alone : has_streams (columns_in_table p.new e.0) ≡ true → has_table e.0 d ≡ true → (rows : List (List ValueRef))
            → AllByRecursion (λ (row : List ValueRef). is_some (find key_cmp (key_of (columns_in_table p.old e.0) (row_values d.pool.places row)) (told_rows p.old e.0 0)) ≡ true) rows → AloneIn stands.Kept rows
        kept_alone streams there [] h = tt
        kept_alone streams there (r ∷ rs) h =
            (alone e.0 (key_of (columns_in_table p.old e.0) (row_values d.pool.places r)) among streams (inr (there, h.0)), kept_alone streams there rs h.1)

        begun_alone : has_streams (columns_in_table p.new e.0) ≡ true → (b : Bool) → has_table e.0 d ≡ b → (standing : Standing) → StandsAs b standing → AloneIn standing (rows_of_package d e.0 standing)
        begun_alone streams true there stands.Kept stood = kept_alone streams there (system_rows d e.0) (rows_there p.old e.0 0)
        begun_alone streams true there (stands.Found next) stood = kept_alone streams there (system_rows d e.0) (rows_there p.old e.0 0)
        begun_alone streams true there stands.Added stood = absurd stood
        begun_alone streams true there stands.Gone stood = absurd stood
        begun_alone streams false there stands.Added stood = tt
        begun_alone streams false there stands.Kept stood = absurd stood
        begun_alone streams false there (stands.Found next) stood = absurd stood
        begun_alone streams false there stands.Gone stood = absurd stood

        gains : gains_streams (columns_of_package d e.0 now.standing) now.added ≡ true → has_streams (columns_in_table p.new e.0) ≡ true
        gains g =
            let own_columns = columns_of_package d e.0 now.standing in
            sym streams_are ∙ streams_beside own_columns now.added
            ∙ ap (λ b. has_streams own_columns || b) (and_parts (has_streams now.added) (not (has_streams own_columns)) g).0 ∙ or_true (has_streams own_columns)

        abbrev KeysStay : Standing → List (List ValueRef) → Type 0
        KeysStay standing rows = AllByRecursion (λ (row : List ValueRef). key_of (columns_of_package d e.0 standing ++ now.added) (row_values d.pool.places (row ++ map null_in now.added))
            ≡ key_of (columns_of_package d e.0 standing) (row_values d.pool.places row)) rows

        kept_keys : has_table e.0 d ≡ true → shapes_of (columns_in_table p.old e.0 ++ now.added) ≡ shapes_of (columns_in_table p.new e.0) → KeysStay stands.Kept (system_rows d e.0)
        kept_keys there same =
            let kept = tellable.before there in
            keys_stay d.pool.places (columns_in_table p.old e.0) now.added (system_rows d e.0) kept.0 (none_of_key (columns_in_table p.old e.0) now.added (columns_in_table p.new e.0) same kept.1.plain)

        keys_by : (b : Bool) → has_table e.0 d ≡ b → (standing : Standing) → StandsAs b standing → shapes_of (columns_of_package d e.0 standing ++ now.added) ≡ shapes_of (columns_in_table p.new e.0)
            → KeysStay standing (rows_of_package d e.0 standing)
        keys_by true there stands.Kept stood same = kept_keys there same
        keys_by true there (stands.Found next) stood same = kept_keys there same
        keys_by true there stands.Added stood same = absurd stood
        keys_by true there stands.Gone stood same = absurd stood
        keys_by false there stands.Added stood same = tt
        keys_by false there stands.Kept stood same = absurd stood
        keys_by false there (stands.Found next) stood same = absurd stood
        keys_by false there stands.Gone stood same = absurd stood

        one_fit : IsFit (wanted n) table key n at (change_with p.old t passing) told e
        one_fit = record {
          records = records_alone;
          begun = λ g. begun_alone (gains g) (has_table e.0 d) refl now.standing has_new.stands;
          keys = keys_by (has_table e.0 d) refl now.standing has_new.stands has_new.columns;
          streams = λ name_is. streams_are ∙ ap (λ (m : List ℕ). has_streams (columns_in_table p.new m)) name_is ∙ row.streams;
        }

      abbrev Told : List ℕ → Type 0
      Told name = is_schema_table name ≡ false → IsNamed p name × KeysOf p t passing name

      all_told : (tables : List ToldTable) → AllByRecursion (λ (x : ToldTable). is_schema_table x.name ≡ false → IsNamed p x.name) tables
          → AllByRecursion (λ (x : ToldTable). is_schema_table x.name ≡ false → KeysOf p t passing x.name) tables → AllByRecursion (λ (x : ToldTable). Told x.name) tables
      all_told [] h g = tt
      all_told (x ∷ xs) h g = ((λ plain. (h.0 plain, g.0 plain)), all_told xs h.1 g.1)

      all_fit : (es : List TableOfRecords) → AllByRecursion (λ (e : TableOfRecords). Told e.0) es → AllByRecursion (λ (e : TableOfRecords). records_for e.0 t ≡ Some e.1) es
          → AllByRecursion (λ (e : TableOfRecords). is_schema_table e.0 ≡ false → IsFit (wanted n) table key n at (change_with p.old t passing) told e) es
      all_fit [] h g = tt
      all_fit (e ∷ es) h g = ((λ plain. let q = h.0 plain in one_fit e q.0 q.1 g.0), all_fit es h.1 g.1)

      -- so do those of each table
      pub tables_fit : AllByRecursion (λ (e : TableOfRecords). is_schema_table e.0 ≡ false → IsFit (wanted n) table key n at (change_with p.old t passing) told e) t.tables
      tables_fit = all_fit t.tables
          (all_in_transform p t is Told (all_told (told_tables p.old p.new) (of_tables p (IsNamed p) (each_among (told_names p.new))) (made_keys p t passing is can)))
          (found_in_transform p t is)
