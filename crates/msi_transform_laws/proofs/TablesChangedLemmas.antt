-- The tables of the old package changed in turn by a transform that is made of it.
use Rattle.std.proofs.Common.{◌≡◌, ℕ, zero, suc, ◌+◌, ◌<◌, ◌≤◌, Bool, true, false, not, ◌&&◌, ◌||◌, List, [], ◌∷◌, ◌++◌, length, map, filter, refl, sym, ap, subst, ◌∙◌, arith, append-nil, append_assoc, T}
use Rattle.std.specs.Prelude.{Option, Some, Result, Ok, option_map, unwrap_or, if◌then◌else◌}
use Rattle.std.specs.Cmp.{eq_by_cmp_equiv, tied_itself}
use Rattle.std.specs.FinMap.{find, is_sorted, put}
use Rattle.std.specs.FinMap.Entries.{below_all, by_order, find-put, is_some-find, is_sorted-put}
use Rattle.std.specs.List.{AllByRecursion, list_any}
use Rattle.std.specs.Ordering.{eq_by_cmp, is_lt}
use Rattle.std.specs.declared.cmp.Ordering.TheVariants.{Less, Equal, Greater}
use Rattle.std.proofs.lemmas.List.{length-map, map-append}
use Rattle.msi_base.specs.Lists.{has_pair, list_cmp}
use Rattle.msi_base.specs.Refusals.{first_refusal}
use Rattle.msi_base.proofs.BoolLemmas.{T_parts, by_test, yes_is_no}
use Rattle.msi_base.proofs.OptionLemmas.{none_there, some_is}
use Rattle.msi_pool.specs.Pool.{Place}
use Rattle.msi_pool.specs.FirstFit.{is_long_with}
use Rattle.msi_pool.specs.FirstFitLaws.{text_at, TakenPlacesHoldTheirText, GivenBackTakesOne}
use Rattle.msi_table_cells.specs.declared.cell.ValueRef.{ValueRef}
use Rattle.msi_table_cells.specs.CellValues.{row_values, value_of_cell}
use Rattle.msi_table_cells.specs.KeyOrder.{key_of, same_key}
use Rattle.msi_table_values.specs.declared.value.Value.{Value}
use Rattle.msi_table_cells.specs.TableCells.{TableCells}
use Rattle.msi_table_values.specs.Columns.{ColumnDef}
use Rattle.msi_database_schema.specs.System.{is_schema_table}
use Rattle.msi_database_schema.proofs.AccountLemmas.{Uses, room, room_at}
use Rattle.msi_database_changes.specs.Database.{Database, has_table, rows_of, table_at}
use Rattle.msi_database_changes.specs.KeySets.{keys_of_rows}
use Rattle.msi_database_changes.proofs.steps.TurnLemmas.{total-append}
use Rattle.msi_database_changes.proofs.text_counts.CellLemmas.{cell_uses}
use Rattle.msi_database_changes.proofs.text_counts.RowsLemmas.{row_uses, rows_uses}
use Rattle.msi_transform_records.specs.declared.records.Record.{Record}
use Rattle.msi_transform.specs.Transforms.{TransformDef, records_for, shapes_of}
use Rattle.msi_transform_rows.specs.RowStreams.{is_of_streams}
use Rattle.msi_transform.specs.declared.conditions.ErrorConditions.{ErrorConditions}
use Rattle.msi_transform_rows.specs.KeyOfRows.{key_cmp}
use Rattle.msi_transform_rows.specs.RecordRefusals.{Refusal, ◌>>=◌}
use Rattle.msi_transform_rows.specs.RowChanges.{Rows, RowsInHand, by_key, cells_of, keyed}
use Rattle.msi_transform_schema.specs.SchemaApplying.{have_own_keys, system_rows}
use Rattle.msi_transform_schema.specs.SchemaChanges.{SchemaChange, TableInHand, TablesTold, columns_in_hand, columns_of_package, rows_of_package, table_in_hand}
use Rattle.msi_transform_schema.specs.declared.schema.Standing.{Standing}
use Rattle.msi_transform_schema.specs.declared.schema.Standing.TheVariants as stands
use Rattle.msi_transform_applying.specs.Applying.{TableAnew, TablesInHand, change_with, lengthened_row, null_in, rows_in_hand, table_applied, tables_in_turn, with_anew}
use Rattle.msi_transform_making.specs.Making.{Pair, ToldTable, by_names, columns_in_table, made, reasons, records_of_table, table_records, told_rows, told_table, told_tables}
use Rattle.msi_transform_laws.specs.CarriedOut.{IsTellable, is_key_of_streams}
use Rattle.msi_transform_laws.specs.RowsApplied.{CountsCells, cells_naming, texts_of}
use Rattle.msi_transform_laws.specs.RowsBegun.{HasNewColumns, HoldsStreams, StandsAs, TextsOfTableStay}
use Rattle.msi_transform_laws.specs.TableApplied.{LeavesNewRows, table_change}
use Rattle.msi_transform_laws.specs.TableChanged.{TableIsChanged}
use Rattle.msi_transform_laws.specs.TablesChanged.{AreChanged, CountsCellsOf, IsReady, MadeTablesAreChangedInTurn, TableOfRecords, cells_to_change, texts_to_come}
use Rattle.msi_transform_laws.proofs.AlikeRowsLemmas.{alike_later, uses_in, uses_of_rows}
use Rattle.msi_transform_laws.proofs.AppliedRecordsLemmas.{accounts_of, counts_of, naming_cells}
use Rattle.msi_transform_laws.proofs.CarriedOutLemmas.{keys_total, less}
use Rattle.msi_transform_laws.proofs.FitPackagesLemmas.{both_fit}
use Rattle.msi_transform_laws.proofs.KeyedEntriesLemmas.{held, sum_of, sum_of-put}
use Rattle.msi_transform_laws.proofs.MadeRecordsLemmas.{made_by}
use Rattle.msi_transform_laws.proofs.RowsBegunLemmas.{has_key, key_beside, none_of_key}
use Rattle.msi_transform_laws.proofs.StoredRecordsLemmas.{AreStored, Each, all_stored, names_total}
use Rattle.msi_transform_laws.proofs.TableAppliedLemmas.{IsNew, tables_new}
use Rattle.msi_transform_laws.proofs.TableChangedLemmas.{broken_parts, fit_at, made_tables_are_changed, whole}

-- THE CELLS OF A TABLE'S ROWS IN HAND ARE THOSE OF ITS ROWS, since no two rows share a key

pub sorted_by_key : (es : Rows) → T (is_sorted key_cmp (by_key es))
sorted_by_key [] = tt
sorted_by_key (e ∷ es) = is_sorted-put key_cmp keys_total e.0 e.1 (by_key es) (sorted_by_key es)

pub found_by_key : (q : List Value) (es : Rows) → find key_cmp q (by_key es) ≡ find key_cmp q es
found_by_key q [] = refl
found_by_key q (e ∷ es) = find-put key_cmp keys_total q e.0 e.1 (by_key es) ∙ by_test (eq_by_cmp key_cmp q e.0) (λ t. rw t refl) (λ t. rw t (found_by_key q es))

neither : (a b : Bool) → (a || b) ≡ false → (a ≡ false) × (b ≡ false)
neither true b h = yes_is_no true refl h
neither false b h = (refl, h)

pub uses_by_key : (es : Rows) (n : ℕ) → has_pair same_key (map (λ e. e.0) es) ≡ false → sum_of (uses_in n) (by_key es) ≡ sum_of (uses_in n) es
uses_by_key [] n apart = refl
uses_by_key (e ∷ es) n apart =
    let p = neither (list_any (same_key e.0) (map (λ e. e.0) es)) (has_pair same_key (map (λ e. e.0) es)) apart in
    let none = found_by_key e.0 es ∙ none_there (find key_cmp e.0 es) (is_some-find key_cmp e.0 es ∙ p.0) in
    let nothing : held (uses_in n) (find key_cmp e.0 (by_key es)) ≡ 0 = ap (held (uses_in n)) none in
    omega (arith, sum_of-put (uses_in n) e.0 e.1 (by_key es) (sorted_by_key es), nothing, uses_by_key es n p.1)

no_uses : (added : List ColumnDef) (n : ℕ) → row_uses (map null_in added) n ≡ 0
no_uses [] n = refl
no_uses (c ∷ added) n = by_test (is_of_streams c.coltype) (λ s. rw s (omega (arith, no_uses added n))) (λ s. rw s (omega (arith, no_uses added n)))

module _ (places : List Place) (columns added : List ColumnDef) (n : ℕ) where
  abbrev lengthened : List (List ValueRef) → Rows
  lengthened rows = map (keyed (columns ++ added) places) (map (lengthened_row columns added) rows)

  uses_lengthened : (rows : List (List ValueRef)) → sum_of (uses_in n) (lengthened rows) ≡ rows_uses rows n
  uses_lengthened [] = refl
  uses_lengthened (row ∷ rows) = omega (arith, total-append cell_uses row (map null_in added) n, no_uses added n, uses_lengthened rows)

  pub keys_lengthened : (rows : List (List ValueRef)) → AllByRecursion (λ (row : List ValueRef). length row ≡ length columns) rows → has_key added ≡ false
      → map (λ e. e.0) (lengthened rows) ≡ keys_of_rows places columns rows
  keys_lengthened [] whole plain = refl
  keys_lengthened (row ∷ rows) whole plain =
      let first : key_of (columns ++ added) (row_values places (row ++ map null_in added)) ≡ key_of columns (row_values places row) =
      ap (key_of (columns ++ added)) (map-append (value_of_cell places) row (map null_in added))
      ∙ key_beside columns added (row_values places row) (row_values places (map null_in added)) (length-map row (value_of_cell places) ∙ whole.0) plain in
      λ i. first i ∷ keys_lengthened rows whole.1 plain i

not_true : (b : Bool) → not b ≡ true → b ≡ false
not_true true h = sym h
not_true false h = refl

pub no_rows_there : (d : Database) (name : List ℕ) → has_table name d ≡ false → system_rows d name ≡ []
no_rows_there d name none = ap (λ (o : Option TableCells). unwrap_or (option_map rows_of o) []) (none_there (table_at name d) none)

module _ (p : Pair) (name : List ℕ) (added : List ColumnDef) (n : ℕ) (tellable : IsTellable p.old p.new name)
    (own : has_table name p.old.database ≡ true → have_own_keys p.old.database.pool.places (columns_in_table p.old name) (system_rows p.old.database name) ≡ true) where
  abbrev d : Database
  d = p.old.database

  kept_uses : has_table name d ≡ true → shapes_of (columns_in_table p.old name ++ added) ≡ shapes_of (columns_in_table p.new name)
      → rows_uses (cells_of (by_key (lengthened d.pool.places (columns_in_table p.old name) added n (system_rows d name)))) n ≡ rows_uses (system_rows d name) n
  kept_uses there same =
      let columns = columns_in_table p.old name in
      let kept = tellable.before there in
      let rows = lengthened d.pool.places columns added n (system_rows d name) in
      let plain = none_of_key columns added (columns_in_table p.new name) same kept.1.plain in
      let apart : has_pair same_key (map (λ e. e.0) rows) ≡ false =
      ap (λ (l : List (List Value)). has_pair same_key l) (keys_lengthened d.pool.places columns added n (system_rows d name) kept.0 plain)
      ∙ not_true (has_pair same_key (keys_of_rows d.pool.places columns (system_rows d name))) (own there) in
      uses_of_rows (by_key rows) n ∙ uses_by_key rows n apart ∙ uses_lengthened d.pool.places columns added n (system_rows d name)

  begun_by : (b : Bool) → has_table name d ≡ b → (standing : Standing) → StandsAs b standing → shapes_of (columns_of_package d name standing ++ added) ≡ shapes_of (columns_in_table p.new name)
      → rows_uses (cells_of (by_key (lengthened d.pool.places (columns_of_package d name standing) added n (rows_of_package d name standing)))) n ≡ rows_uses (system_rows d name) n
  begun_by true there stands.Kept stood same = kept_uses there same
  begun_by true there (stands.Found next) stood same = kept_uses there same
  begun_by true there stands.Added stood same = absurd stood
  begun_by true there stands.Gone stood same = absurd stood
  begun_by false there stands.Added stood same = ap (λ (rows : List (List ValueRef)). rows_uses rows n) (sym (no_rows_there d name there))
  begun_by false there stands.Kept stood same = absurd stood
  begun_by false there (stands.Found next) stood same = absurd stood
  begun_by false there stands.Gone stood same = absurd stood

accounts_from : (d : Database) (es : List TableOfRecords) (others : Uses) (places : List Place) → CountsCellsOf (cells_to_change d es) others places → (n : ℕ) → room places n ≡ cells_to_change d es n + others n
accounts_from d es others places counts zero = sym counts.from_one
accounts_from d es others places counts (suc i) = room_at places (suc i) (omega arith) ∙ counts.counts (suc i) (omega arith)

-- ONE TABLE AFTER THE OTHER

abbrev Own : Pair → List ℕ → Type 0
Own p name = has_table name p.old.database ≡ true → have_own_keys p.old.database.pool.places (columns_in_table p.old name) (system_rows p.old.database name) ≡ true

abbrev Changeable : Pair → TransformDef → TableOfRecords → Type 0
Changeable p t e = is_schema_table e.0 ≡ false → IsTellable p.old p.new e.0 × Own p e.0 × TableIsChanged p t (told_table p.old p.new e.0)

module _ (p : Pair) (t : TransformDef) (known : TablesTold) (passing : ErrorConditions) where
  abbrev old : Database
  old = p.old.database

  abbrev change : SchemaChange
  change = change_with p.old t passing

  abbrev now : List ℕ → TableInHand
  now name = table_in_hand old known name

  abbrev Counts : Uses → List TableOfRecords → List Place → Type 0
  Counts others es places = (n : ℕ) → room places n ≡ cells_to_change old es n + others n

  abbrev Result_of : Uses → List TableOfRecords → TablesInHand → ℕ → Type 0
  Result_of others es s number = (after : TablesInHand) × (done : List TableAnew) × (tables_in_turn change known number s es ≡ Ok after) × AreChanged p t passing others es s after done

  -- a table that is passed over
  passed_over : (others : Uses) (e : TableOfRecords) (es : List TableOfRecords) (s : TablesInHand) (number : ℕ) → is_schema_table e.0 ≡ true → Result_of others es s (number + 1) → Result_of others (e ∷ es) s number
  passed_over others e es s number b rest =
      let (after, done, ran, are) = rest in (
        after,
        done,
        rw b ran,
        record {
          tables = are.tables;
          names = rw b are.names;
          rows = are.rows;
          counted = are.counted;
          kept = are.kept;
          longer = rw b (omega (arith, are.longer));
        },
      )

  -- the texts of tables that are still to come
  ready_later : (s u : TablesInHand) (es : List TableOfRecords) → ((n : ℕ) → 0 < cells_to_change old es n → text_at u.pool.places n ≡ text_at s.pool.places n)
      → AllByRecursion (IsReady p known s) es → AllByRecursion (IsReady p known u) es
  ready_later s u [] stay h = tt
  ready_later s u (e ∷ es) stay h = (
    (λ b. let is = h.0 b in
        (is.0, is.1, (λ n some. stay n (rw b (omega (arith, some))) ∙ is.2 n some))),
    ready_later s u es (λ n some. stay n (omega (arith, some))) h.1,
  )

  module _ (others : Uses) (e : TableOfRecords) (es : List TableOfRecords) (s : TablesInHand) (number : ℕ) (b : is_schema_table e.0 ≡ false)
      (changeable : IsTellable p.old p.new e.0 × Own p e.0 × TableIsChanged p t (told_table p.old p.new e.0)) (found : records_for e.0 t ≡ Some e.1)
      (ready : HasNewColumns p.old p.new e.0 (now e.0) × HoldsStreams p.old e.0 × TextsOfTableStay p.old e.0 s) (others_ready : AllByRecursion (IsReady p known s) es)
      (counts : Counts others (e ∷ es) s.pool.places) (fits : length s.pool.places + texts_to_come p (e ∷ es) ≤ 16777215) where
    abbrev columns : List ColumnDef
    columns = columns_in_hand old e.0 (now e.0)

    abbrev begun : RowsInHand
    begun = rows_in_hand old e.0 (now e.0) s

    abbrev beside : Uses
    beside n = cells_to_change old es n + others n

    first_cells : (n : ℕ) → cells_to_change old (e ∷ es) n ≡ rows_uses (system_rows old e.0) n + cells_to_change old es n
    first_cells n = rw b (ap (λ (m : ℕ). m + cells_to_change old es n) (naming_cells (system_rows old e.0) n))

    first_texts : texts_to_come p (e ∷ es) ≡ texts_of (records_of_table p.old p.new e.0) + texts_to_come p es
    first_texts = rw b refl

    begun_cells : (n : ℕ) → rows_uses (cells_of begun.rows) n ≡ rows_uses (system_rows old e.0) n
    begun_cells n = begun_by p e.0 (now e.0).added n changeable.0 changeable.1 (has_table e.0 old) refl (now e.0).standing ready.0.stands ready.0.columns

    begun_counts : CountsCells beside s.pool.places begun.rows
    begun_counts = counts_of beside s.pool.places begun.rows (λ n. omega (arith, counts n, first_cells n, begun_cells n))

    abbrev put_behind : RowsInHand → TablesInHand
    put_behind after = with_anew e.0 columns s after

    one_changed : (after : RowsInHand) × (table_applied change known number s e ≡ Ok (put_behind after)) × LeavesNewRows p (table_change e.0 columns t passing) beside (texts_of (records_of_table p.old p.new e.0)) begun after
    one_changed =
        let (bytes, at, after, applied, leaves) = changeable.2 known passing beside s number ready.0 ready.1 ready.2 begun_counts (omega (arith, fits, first_texts)) in
        let same : bytes ≡ e.1 = some_is bytes e.1 (sym at ∙ found) in
        (after, ap (λ (l : List ℕ). table_applied change known number s (e.0, l)) (sym same) ∙ applied, leaves)

    abbrev more : RowsInHand → Uses
    more after n = others n + cells_naming after.rows n

    -- this table, and what is left of the others
    with_rest : (after : RowsInHand) → table_applied change known number s e ≡ Ok (put_behind after)
        → LeavesNewRows p (table_change e.0 columns t passing) beside (texts_of (records_of_table p.old p.new e.0)) begun after
        → Result_of (more after) es (put_behind after) (number + 1) → Result_of others (e ∷ es) s number
    with_rest after applied leaves rest =
        let (end, done, ran, are) = rest in
        let table : TableAnew = record { name = e.0; columns = columns; rows = after.rows } in
        let passed = filter (λ name. not (is_schema_table name)) (map (λ e. e.0) es) in (
          end,
          table ∷ done,
          ap (λ x. (if x then Ok s else table_applied change known number s e) >>= λ v. tables_in_turn change known (number + 1) v es) b
              ∙ ap (λ (r : Result TablesInHand Refusal). r >>= λ v. tables_in_turn change known (number + 1) v es) applied ∙ ran,
          record {
            tables = are.tables ∙ append_assoc s.tables (table ∷ []) done;
            names = ap (λ (l : List (List ℕ)). e.0 ∷ l) are.names ∙ sym (ap (λ x. if not x then e.0 ∷ passed else passed) b);
            rows = (
              (
                ready.0.columns,
                alike_later p.old.streams (table_change e.0 columns t passing) after.pool.places end.pool.places after.rows (told_rows p.new e.0 0) leaves.rows
                    (λ n some. are.kept n (omega (arith, some, naming_cells (cells_of after.rows) n))),
              ),
              are.rows,
            );
            counted = record { counts = λ n one. omega (arith, are.counted.counts n one); from_one = omega (arith, are.counted.from_one) };
            kept = λ n some. are.kept n (omega (arith, some)) ∙ leaves.kept n (omega (arith, some));
            longer = omega (arith, are.longer, leaves.longer, first_texts);
          },
        )

    rest_changed : ((others : Uses) (s : TablesInHand) (number : ℕ) → AllByRecursion (IsReady p known s) es → Counts others es s.pool.places → length s.pool.places + texts_to_come p es ≤ 16777215 → Result_of others es s number)
        → Result_of others (e ∷ es) s number
    rest_changed go =
        let (after, applied, leaves) = one_changed in
        let u = put_behind after in
        let accounts = accounts_of beside after.pool.places after.rows leaves.counted in
        with_rest after applied leaves (go (more after) u (number + 1) (ready_later s u es (λ n some. leaves.kept n (omega (arith, some))) others_ready)
        (λ n. omega (arith, accounts n, naming_cells (cells_of after.rows) n)) (omega (arith, fits, first_texts, leaves.longer)))

  in_turn : (es : List TableOfRecords) → AllByRecursion (Changeable p t) es → AllByRecursion (λ (e : TableOfRecords). records_for e.0 t ≡ Some e.1) es
      → (others : Uses) (s : TablesInHand) (number : ℕ) → AllByRecursion (IsReady p known s) es → Counts others es s.pool.places → length s.pool.places + texts_to_come p es ≤ 16777215 → Result_of others es s number
  in_turn [] changeable found others s number ready counts fits = (
    s,
    [],
    refl,
    record {
      tables = sym (append-nil s.tables);
      names = refl;
      rows = tt;
      counted = record { counts = λ n one. sym (room_at s.pool.places n one) ∙ counts n; from_one = sym (counts 0) };
      kept = λ n some. refl;
      longer = omega arith;
    },
  )
  in_turn (e ∷ es) changeable found others s number ready counts fits = by_test (is_schema_table e.0)
      (λ b. let none : (n : ℕ) → cells_to_change old (e ∷ es) n ≡ cells_to_change old es n = λ n. rw b (omega arith) in
      let no_texts : texts_to_come p (e ∷ es) ≡ texts_to_come p es = rw b (omega arith) in
      passed_over others e es s number b (in_turn es changeable.1 found.1 others s (number + 1) ready.1 (λ n. omega (arith, counts n, none n)) (omega (arith, fits, no_texts))))
      (λ b. rest_changed others e es s number b (changeable.0 b) found.0 (ready.0 b) ready.1 counts fits
      (λ others s number ready counts fits. in_turn es changeable.1 found.1 others s number ready counts fits))

-- THE TABLES OF A TRANSFORM

both : (a b : Bool) → T a → T b → T (a && b)
both true b p q = q
both false b p q = p

module _ (Q : List ℕ → Type 0) where
  abbrev OfName : TableOfRecords → Type 0
  OfName e = Q e.0

  all_put : (name bytes : List ℕ) (es : List TableOfRecords) → Q name → AllByRecursion OfName es → AllByRecursion OfName (put list_cmp name bytes es)
  all_put name bytes [] q h = (q, tt)
  all_put name bytes (e ∷ es) q h =
      elim (list_cmp name e.0) as (λ o. AllByRecursion OfName (by_order o ((name, bytes) ∷ e ∷ es) ((e.0, bytes) ∷ es) (e ∷ put list_cmp name bytes es))) [
        | Less ↦ (q, h)
        | Equal ↦ h
        | Greater ↦ (h.0, all_put name bytes es q h.1)
      ]

  all_by_names : (es : List TableOfRecords) → AllByRecursion OfName es → AllByRecursion OfName (by_names es)
  all_by_names [] h = tt
  all_by_names (e ∷ es) h = all_put e.0 e.1 (by_names es) h.0 (all_by_names es h.1)

  all_stored_names : (places : List Place) (long : Bool) (tables : List ToldTable) (es : List (ToldTable × List Record)) → Each (AreStored places) tables es
      → AllByRecursion (λ (table : ToldTable). Q table.name) tables → AllByRecursion OfName (map (table_records long) es)
  all_stored_names places long [] [] each h = tt
  all_stored_names places long [] (e ∷ es) each h = absurd each
  all_stored_names places long (table ∷ tables) [] each h = absurd each
  all_stored_names places long (table ∷ tables) (e ∷ es) each h =
      (subst (λ (u : ToldTable). Q u.name) (sym each.0.0) h.0, all_stored_names places long tables es each.1 h.1)

pub sorted_by_names : (es : List TableOfRecords) → T (is_sorted list_cmp (by_names es))
sorted_by_names [] = tt
sorted_by_names (e ∷ es) = is_sorted-put list_cmp names_total e.0 e.1 (by_names es) (sorted_by_names es)

found_behind : (e : TableOfRecords) (all es : List TableOfRecords) → T (below_all list_cmp e.0 es) → AllByRecursion (λ (f : TableOfRecords). find list_cmp f.0 all ≡ Some f.1) es
    → AllByRecursion (λ (f : TableOfRecords). find list_cmp f.0 (e ∷ all) ≡ Some f.1) es
found_behind e all [] below h = tt
found_behind e all (f ∷ fs) below h =
    let q = T_parts (is_lt (list_cmp e.0 f.0)) (below_all list_cmp e.0 fs) below in
    let apart : eq_by_cmp list_cmp f.0 e.0 ≡ false = (eq_by_cmp_equiv names_total).symm f.0 e.0 ∙ less (list_cmp e.0 f.0) q.0 in
    (rw apart h.0, found_behind e all fs q.1 h.1)

each_found : (es : List TableOfRecords) → T (is_sorted list_cmp es) → AllByRecursion (λ (e : TableOfRecords). find list_cmp e.0 es ≡ Some e.1) es
each_found [] h = tt
each_found (e ∷ es) h =
    let q = T_parts (below_all list_cmp e.0 es) (is_sorted list_cmp es) h in
    (rw (tied_itself names_total e.0) refl, found_behind e es es q.0 (each_found es q.1))

module _ (p : Pair) (t : TransformDef) where
  abbrev Named : List ℕ → Type 0
  Named name = is_schema_table name ≡ false → IsTellable p.old p.new name × Own p name × TableIsChanged p t (told_table p.old p.new name)

  pub own_keys : made p ≡ Ok t → (name : List ℕ) → is_schema_table name ≡ false → Own p name
  own_keys is name s there =
      let columns = columns_in_table p.old name in
      (broken_parts (has_key columns) (list_any is_key_of_streams columns) (have_own_keys p.old.database.pool.places columns (system_rows p.old.database name))
      (whole p.old name (fit_at p.old name (both_fit p t is).0 s there) there)).2

  all_named : made p ≡ Ok t → (tables : List ToldTable) → AllByRecursion (IsNew p) tables → AllByRecursion (λ (table : ToldTable). is_schema_table table.name ≡ false → TableIsChanged p t table) tables
      → AllByRecursion (λ (table : ToldTable). Named table.name) tables
  all_named is [] new changed = tt
  all_named is (table ∷ tables) new changed = (
    (λ s. let n = new.0 s in (n.1, own_keys is table.name s, subst (TableIsChanged p t) n.0 (changed.0 s))),
    all_named is tables new.1 changed.1,
  )

-- what holds of the names of all tables of which something is told holds of those of the transform
pub all_in_transform : (p : Pair) (t : TransformDef) → made p ≡ Ok t → (Q : List ℕ → Type 0) → AllByRecursion (λ (table : ToldTable). Q table.name) (told_tables p.old p.new)
    → AllByRecursion (λ (e : TableOfRecords). Q e.0) t.tables
all_in_transform p t is Q h =
    let tables = told_tables p.old p.new in
    let s = made_by p.new_page p.new tables t (first_refusal (reasons p)) is in
    let all = all_stored (record { places = []; is_used = false }) s.0.1 tables s.0.0 s.1 in
    let long = is_long_with false s.0.1.places in
    subst (λ (u : TransformDef). AllByRecursion (λ (e : TableOfRecords). Q e.0) u.tables) s.2
    (all_by_names Q (map (table_records long) s.0.0) (all_stored_names Q s.0.1.places long tables s.0.0 all.1 h))

pub sorted_in_transform : (p : Pair) (t : TransformDef) → made p ≡ Ok t → T (is_sorted list_cmp t.tables)
sorted_in_transform p t is =
    let s = made_by p.new_page p.new (told_tables p.old p.new) t (first_refusal (reasons p)) is in
    subst (λ (u : TransformDef). T (is_sorted list_cmp u.tables)) s.2 (sorted_by_names (map (table_records (is_long_with false s.0.1.places)) s.0.0))

pub found_in_transform : (p : Pair) (t : TransformDef) → made p ≡ Ok t → AllByRecursion (λ (e : TableOfRecords). records_for e.0 t ≡ Some e.1) t.tables
found_in_transform p t is =
    let s = made_by p.new_page p.new (told_tables p.old p.new) t (first_refusal (reasons p)) is in
    subst (λ (u : TransformDef). AllByRecursion (λ (e : TableOfRecords). find list_cmp e.0 u.tables ≡ Some e.1) u.tables) s.2
    (each_found (by_names (map (table_records (is_long_with false s.0.1.places)) s.0.0)) (sorted_by_names (map (table_records (is_long_with false s.0.1.places)) s.0.0)))

pub made_tables_are_changed_in_turn : TakenPlacesHoldTheirText → GivenBackTakesOne → MadeTablesAreChangedInTurn
made_tables_are_changed_in_turn takes gives p t known passing others before number is can ready counts fits =
    let named = all_named p t is (told_tables p.old p.new) (tables_new p can) (made_tables_are_changed takes gives p t is can) in
    in_turn p t known passing t.tables (all_in_transform p t is (Named p t) named) (found_in_transform p t is) others before number ready
    (accounts_from p.old.database t.tables others before.pool.places counts) fits
