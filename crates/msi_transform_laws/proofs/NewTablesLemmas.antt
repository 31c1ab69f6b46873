-- Applying a transform that is made to the old package: the tables that are stored anew are those of the new package.
use Rattle.std.proofs.Common.{◌≡◌, inl, inr, ℕ, zero, suc, ◌+◌, ◌-◌, ◌<◌, Bool, true, false, not, ◌&&◌, ◌||◌, List, [], ◌∷◌, ◌++◌, length, map, filter, refl, sym, ap, subst, ◌∙◌, arith, append_assoc, length-append}
use Rattle.std.specs.Prelude.{Option, Some, None, Result, Ok, is_none, is_some, unwrap_or, if◌then◌else◌, nat_lt}
use Rattle.std.specs.FinMap.{find, put}
use Rattle.std.specs.FinMap.Entries.{by_order}
use Rattle.std.specs.List.{AllByRecursion}
use Rattle.std.specs.declared.cmp.Ordering.TheVariants.{Less, Equal, Greater}
use Rattle.std.proofs.lemmas.Bool.{and_parts, ltb-true}
use Rattle.msi_base.specs.Lists.{list_cmp}
use Rattle.msi_base.specs.declared.errors.ErrorKind.{ErrorKind}
use Rattle.msi_base.specs.Refusals.{unless}
use Rattle.msi_base.proofs.BoolLemmas.{by_test, yes_is_no}
use Rattle.msi_base.proofs.OptionLemmas.{none_there, some_is}
use Rattle.msi_pool.specs.Pool.{Place}
use Rattle.msi_pool.specs.FirstFitLaws.{text_at, TakenPlacesHoldTheirText, GivenBackTakesOne}
use Rattle.msi_table_cells.specs.declared.cell.ValueRef.{ValueRef}
use Rattle.msi_table_cells.specs.CellValues.{row_values}
use Rattle.msi_table_values.specs.declared.value.Value.{Value}
use Rattle.msi_database_schema.specs.System.{is_schema_table}
use Rattle.msi_database_schema.proofs.AccountLemmas.{Uses, room, room_at}
use Rattle.msi_database_changes.specs.Database.{Database, has_table}
use Rattle.msi_transform_records.specs.declared.shape.Shape.{Shape}
use Rattle.msi_transform.specs.Transforms.{TransformDef, records_for, shapes_of}
use Rattle.msi_transform.specs.declared.conditions.ErrorConditions.{ErrorConditions}
use Rattle.msi_transform_rows.specs.KeyOfRows.{key_cmp}
use Rattle.msi_transform_rows.specs.RecordRefusals.{Refusal, nowhere, ◌>>=◌}
use Rattle.msi_transform_rows.specs.RowChanges.{keyed}
use Rattle.msi_transform_schema.specs.SchemaApplying.{schema_applied, schema_changed, schema_untouched, system_rows}
use Rattle.msi_transform_schema.specs.SchemaChanges.{SchemaInHand, TableInHand, TablesTold, columns_in_hand, columns_of_package, is_added, is_gone, rows_of_package, table_in_hand, untold_table}
use Rattle.msi_transform_schema.specs.declared.schema.Standing.{Standing}
use Rattle.msi_transform_schema.specs.declared.schema.Standing.TheVariants as stands
use Rattle.msi_transform_applying.specs.Applying.{TableAnew, TablesInHand, change_with, changed_with, is_lengthened, lengthened_alone, lengthened_row, rows_changed, systems_anew, table_lengthened, tables_begun, with_lengthened}
use Rattle.msi_transform_making.specs.Making.{Pair, ToldRow, ToldRows, by_keys, columns_before, columns_in_table, told_names, told_row, told_rows, values_in_table}
use Rattle.msi_transform_laws.specs.RowsApplied.{HaveValuesOf}
use Rattle.msi_transform_laws.specs.RowsBegun.{HasNewColumns, HoldsStreams, StandsAs}
use Rattle.msi_transform_laws.specs.NewTables.{MadeTransformsGiveNewTables}
use Rattle.msi_transform_laws.specs.SchemaApplied.{CountsSchema}
use Rattle.msi_transform_laws.specs.TableApplied.{table_change}
use Rattle.msi_transform_laws.specs.TablesChanged.{CountsCellsOf, HasNewRows, IsReady, TableOfRecords, cells_to_change}
use Rattle.msi_transform_laws.proofs.RowsBegunLemmas.{many_shapes}
use Rattle.msi_transform_laws.proofs.SameColumnsLemmas.{page_unrefused}
use Rattle.msi_transform_laws.proofs.SchemaMadeLemmas.{AreNamed, IsKnown, at_name, each_found, whole_schema}
use Rattle.msi_transform_laws.proofs.TableChangedLemmas.{of_tables}
use Rattle.msi_transform_laws.proofs.TablesChangedLemmas.{all_in_transform, made_tables_are_changed_in_turn}
use Rattle.msi_transform_laws.proofs.WithoutRecordsLemmas.{Stays, tables_without_records_stay}

not_true : (b : Bool) → not b ≡ true → b ≡ false
not_true true h = sym h
not_true false h = refl

-- TABLES THAT COME OR GET COLUMNS, AND HAVE NO RECORDS

some_put : (k : List Value) (row : ToldRow) (es : ToldRows) → 0 < length (put key_cmp k row es)
some_put k row [] = omega arith
some_put k row (e ∷ es) = elim (key_cmp k e.0) as (λ o. 0 < length (by_order o ((k, row) ∷ e ∷ es) ((e.0, row) ∷ es) (e ∷ put key_cmp k row es))) [
  | Less ↦ omega arith
  | Equal ↦ omega arith
  | Greater ↦ omega arith
]

none_by_keys : (es : ToldRows) → by_keys es ≡ [] → es ≡ []
none_by_keys [] h = refl
none_by_keys (e ∷ es) h = let long = ap (λ (l : ToldRows). length l) h in absurd (omega (arith, long, some_put e.0 e.1 (by_keys es)))

pub none_mapped : {X Y : Type 0} (f : X → Y) (xs : List X) → map f xs ≡ [] → xs ≡ []
none_mapped f [] h = refl
none_mapped {X} {Y} f (x ∷ xs) h = let long = ap (λ (l : List Y). length l) h in absurd (omega (arith, long))

module _ (p : Pair) (t : TransformDef) (passing : ErrorConditions) (name : List ℕ) (table : TableInHand) (has : HasNewColumns p.old p.new name table) (stays : Stays p t name)
    (none : records_for name t ≡ None) where
  abbrev d : Database
  d = p.old.database

  more_columns : shapes_of (columns_in_table p.old name ++ table.added) ≡ shapes_of (columns_in_table p.new name) → length table.added ≡ length (columns_in_table p.new name) - length (columns_in_table p.old name)
  more_columns same =
      let many : length (columns_in_table p.old name ++ table.added) ≡ length (columns_in_table p.new name) =
      sym (many_shapes (columns_in_table p.old name ++ table.added)) ∙ ap (λ (l : List Shape). length l) same ∙ many_shapes (columns_in_table p.new name) in
      omega (arith, many, length-append (columns_in_table p.old name) table.added)

  gains : shapes_of (columns_in_table p.old name ++ table.added) ≡ shapes_of (columns_in_table p.new name) → nat_lt 0 (length table.added) ≡ true → 0 < length (columns_in_table p.new name) - length (columns_in_table p.old name)
  gains same longer = omega (arith, more_columns same, ltb-true 0 (length table.added) longer)

  pub no_new_rows : (b : Bool) → has_table name d ≡ b → (standing : Standing) → StandsAs b standing → shapes_of (columns_of_package d name standing ++ table.added) ≡ shapes_of (columns_in_table p.new name)
      → (is_added standing || (not (is_gone standing) && nat_lt 0 (length table.added))) ≡ true → told_rows p.new name 0 ≡ []
  no_new_rows true there stands.Kept stood same longer = (stays none).1 (gains same longer)
  no_new_rows true there (stands.Found next) stood same longer = (stays none).1 (gains same longer)
  no_new_rows true there stands.Added stood same longer = absurd stood
  no_new_rows true there stands.Gone stood same longer = absurd stood
  no_new_rows false there stands.Added stood same longer = sym (stays none).0 ∙ (rw there refl)
  no_new_rows false there stands.Kept stood same longer = absurd stood
  no_new_rows false there (stands.Found next) stood same longer = absurd stood
  no_new_rows false there stands.Gone stood same longer = absurd stood

  pub no_old_rows : told_rows p.new name 0 ≡ [] → has_table name d ≡ true → system_rows d name ≡ []
  no_old_rows nothing there =
      let before : told_rows p.old name (length (columns_in_table p.new name) - columns_before d name) ≡ [] = (rw there at ((stays none).0)) ∙ nothing in
      let told = told_row p.old name (columns_in_table p.old name) (length (columns_in_table p.new name) - columns_before d name) in
      none_mapped (row_values d.pool.places) (system_rows d name) (none_mapped told (values_in_table p.old name) (none_by_keys (map told (values_in_table p.old name)) before))

  pub no_rows_begun : told_rows p.new name 0 ≡ [] → (b : Bool) → has_table name d ≡ b → (standing : Standing) → StandsAs b standing → rows_of_package d name standing ≡ []
  no_rows_begun nothing true there stands.Kept stood = no_old_rows nothing there
  no_rows_begun nothing true there (stands.Found next) stood = no_old_rows nothing there
  no_rows_begun nothing true there stands.Added stood = absurd stood
  no_rows_begun nothing true there stands.Gone stood = absurd stood
  no_rows_begun nothing false there stands.Added stood = refl
  no_rows_begun nothing false there stands.Kept stood = absurd stood
  no_rows_begun nothing false there (stands.Found next) stood = absurd stood
  no_rows_begun nothing false there stands.Gone stood = absurd stood

  lengthened_new : (places : List Place) → is_lengthened table ≡ true → HasNewRows p t passing places (table_lengthened d (name, table))
  lengthened_new places longer =
      let nothing = no_new_rows (has_table name d) refl table.standing has.stands has.columns longer in
      let none_begun = no_rows_begun nothing (has_table name d) refl table.standing has.stands in
      let columns = columns_in_hand d name table in (
        has.columns,
        subst (λ (rows : List (List ValueRef)). HaveValuesOf p.old.streams (table_change name columns t passing) places
            (map (keyed columns d.pool.places) (map (lengthened_row (columns_of_package d name table.standing) table.added) rows)) (told_rows p.new name 0)) (sym none_begun)
            (subst (λ (valued : ToldRows). HaveValuesOf p.old.streams (table_change name columns t passing) places [] valued) (sym nothing)
            (record { sorted = tt; sorted_too = tt; many = refl; each = λ key. tt })),
      )

module _ (p : Pair) (t : TransformDef) (passing : ErrorConditions) (places : List Place) (tables : TablesTold) (named : AreNamed p tables tables)
    (columns : AllByRecursion (λ name. HasNewColumns p.old p.new name (table_in_hand p.old.database tables name)) (told_names p.new)) (stays : AllByRecursion (Stays p t) (told_names p.new)) where
  abbrev alone_in : TablesTold → List TableAnew
  alone_in es = map (table_lengthened p.old.database) (filter (λ (e : List ℕ × TableInHand). is_lengthened e.1 && is_none (records_for e.0 t)) es)

  one_alone : (name : List ℕ) (table : TableInHand) → find list_cmp name tables ≡ Some table → is_lengthened table ≡ true → is_none (records_for name t) ≡ true → IsKnown p tables name
      → HasNewRows p t passing places (table_lengthened p.old.database (name, table))
  one_alone name table found longer none (inl is) =
      let at : table_in_hand p.old.database tables name ≡ table = ap (λ (o : Option TableInHand). unwrap_or o (untold_table p.old.database name)) found in
      let has = subst (HasNewColumns p.old p.new name) at (at_name (λ name. HasNewColumns p.old p.new name (table_in_hand p.old.database tables name)) name (told_names p.new) columns is) in
      lengthened_new p t passing name table has (at_name (Stays p t) name (told_names p.new) stays is) (none_there (records_for name t) (not_true (is_some (records_for name t)) none)) places longer
  one_alone name table found longer none (inr gone) =
      let at : record { standing = stands.Gone; added = [] } ≡ table = some_is (record { standing = stands.Gone; added = [] }) table (sym gone ∙ found) in
      yes_is_no (is_lengthened table) longer (ap is_lengthened (sym at))

  pub alone_new : (es : TablesTold) → AllByRecursion (λ (e : List ℕ × TableInHand). IsKnown p tables e.0) es
      → AllByRecursion (λ (e : List ℕ × TableInHand). find list_cmp e.0 tables ≡ Some e.1) es → AllByRecursion (HasNewRows p t passing places) (alone_in es)
  alone_new [] h found = tt
  alone_new (e ∷ es) h found = by_test (is_lengthened e.1 && is_none (records_for e.0 t))
      (λ b. let q = and_parts (is_lengthened e.1) (is_none (records_for e.0 t)) b in
      rw b (one_alone e.0 e.1 found.0 q.0 q.1 h.0, alone_new es h.1 found.1))
      (λ b. rw b (alone_new es h.1 found.1))

-- ALL TABLES

pub all_joined : {X : Type 0} (P : X → Type 0) (xs ys : List X) → AllByRecursion P xs → AllByRecursion P ys → AllByRecursion P (xs ++ ys)
all_joined P [] ys h g = g
all_joined P (x ∷ xs) ys h g = (h.0, all_joined P xs ys h.1 g)

left_by : (cells others : Uses) (schema : SchemaInHand) → CountsSchema (λ n. cells n + others n) schema → (n : ℕ) → 0 < others n → 0 < room schema.pool.places n - cells n
left_by cells others schema counts zero some = omega (arith, some, counts.from_one)
left_by cells others schema counts (suc i) some = omega (arith, some, counts.counts (suc i) (omega arith), room_at schema.pool.places (suc i) (omega arith))

pub texts_ready : (p : Pair) (known : TablesTold) (s : TablesInHand) (es : List TableOfRecords)
    → ((n : ℕ) → 0 < cells_to_change p.old.database es n → text_at s.pool.places n ≡ text_at p.old.database.pool.places n)
    → AllByRecursion (λ (e : TableOfRecords). is_schema_table e.0 ≡ false → HasNewColumns p.old p.new e.0 (table_in_hand p.old.database known e.0) × HoldsStreams p.old e.0) es
    → AllByRecursion (IsReady p known s) es
texts_ready p known s [] stay h = tt
texts_ready p known s (e ∷ es) stay h = (
  (λ b. let is = h.0 b in (is.0, is.1, (λ n some. stay n (rw b (omega (arith, some)))))),
  texts_ready p known s es (λ n some. stay n (omega (arith, some))) h.1,
)

pub both_all : (P Q : List ℕ → Type 0) (xs : List (List ℕ)) → AllByRecursion P xs → AllByRecursion Q xs → AllByRecursion (λ x. P x × Q x) xs
both_all P Q [] h g = tt
both_all P Q (x ∷ xs) h g = ((h.0, g.0), both_all P Q xs h.1 g.1)

pub made_transforms_give_new_tables : TakenPlacesHoldTheirText → GivenBackTakesOne → MadeTransformsGiveNewTables
made_transforms_give_new_tables takes gives p t passing others is can adds changes streams passes counts fits =
    let d = p.old.database in
    let change = change_with p.old t passing in
    let cells = cells_to_change d t.tables in
    let beside : Uses = λ n. cells n + others n in
    let (schema, schema_ran, columns, are, named) = whole_schema p t is can adds takes gives passing beside counts (omega (arith, fits)) in
    let begun = tables_begun change schema in
    let has = both_all (λ name. HasNewColumns p.old p.new name (table_in_hand d schema.tables name)) (HoldsStreams p.old) (told_names p.new) columns streams in
    let in_transform = all_in_transform p t is (λ name. is_schema_table name ≡ false → HasNewColumns p.old p.new name (table_in_hand d schema.tables name) × HoldsStreams p.old name)
    (of_tables p (λ name. HasNewColumns p.old p.new name (table_in_hand d schema.tables name) × HoldsStreams p.old name) has) in
    let ready = texts_ready p schema.tables begun t.tables (λ n some. are.kept n (omega (arith, some))) in_transform in
    let left : Uses = λ n. room schema.pool.places n - cells n in
    let counted : CountsCellsOf cells left schema.pool.places = record {
      counts = λ n one. omega (arith, are.counted.counts n one, room_at schema.pool.places n one);
      from_one = omega (arith, are.counted.from_one);
    } in
    let (after, done, ran, changed) = made_tables_are_changed_in_turn takes gives p t schema.tables passing left begun 0 is can ready counted (omega (arith, fits, are.longer)) in
    let end = with_lengthened change schema.tables after in
    let alone = alone_new p t passing after.pool.places schema.tables named columns (tables_without_records_stay p t is can) schema.tables named.each (each_found schema.tables named.sorted) in
    let some_left : (n : ℕ) → 0 < others n → 0 < left n = left_by cells others schema are.counted in (
      schema,
      end,
      done ++ map (table_lengthened d) (lengthened_alone t schema.tables),
      ap (λ (o : Option ErrorKind). nowhere (unless o change) >>= schema_applied >>= rows_changed change) (page_unrefused p t passing is passes)
          ∙ ap (λ b. (if b then schema_changed change else Ok (schema_untouched d)) >>= rows_changed change) changes
          ∙ ap (λ (r : Result SchemaInHand Refusal). r >>= rows_changed change) schema_ran
          ∙ ap (λ (r : Result TablesInHand Refusal). (r >>= λ s. Ok (with_lengthened change schema.tables s)) >>= λ tables. Ok (changed_with schema.tables tables)) ran,
      record {
        columns = columns;
        tables = ap (λ (l : List TableAnew). l ++ map (table_lengthened d) (lengthened_alone t schema.tables)) changed.tables
            ∙ append_assoc (systems_anew t schema) done (map (table_lengthened d) (lengthened_alone t schema.tables));
        rows = all_joined (HasNewRows p t passing after.pool.places) done (map (table_lengthened d) (lengthened_alone t schema.tables)) changed.rows alone;
        kept = λ n some. changed.kept n (some_left n some) ∙ are.kept n (omega (arith, some));
      },
    )
