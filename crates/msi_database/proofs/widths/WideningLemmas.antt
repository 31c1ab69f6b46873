-- A database whose references widen: its tables' streams are spelled anew, and it is kept as before.
use Rattle.std.proofs.Common.{◌≡◌, ◌≢◌, ℕ, suc, ◌+◌, ◌*◌, ◌/◌, ◌%◌, ◌<◌, ◌≤◌, Bool, true, false, cond, ◌==◌, List, [], ◌∷◌, length, fold, Option, Some, None, unwrap_or, is_some, sum, refl, sym, ap, ◌∙◌, subst, arith, lit≤}
use Rattle.std.specs.Prelude.{MatchBool, IfSome, nat_le}
use Rattle.std.specs.List.{AllByRecursion}
use Rattle.std.proofs.lemmas.Bool.{true≢false, ne_eqb}
use Rattle.std.proofs.lemmas.Bool.Decides.{nat_tests}
use Rattle.msi_base.proofs.BoolLemmas.{T_parts}
use Rattle.std.proofs.lemmas.Nat.{div-add-mod', div_below, mod_below}
use Rattle.std.proofs.lemmas.Option.{same_Some, none-some}
use Rattle.msi_base.specs.Lists.{tabulated}
use Rattle.msi_table_cells.specs.declared.cell.ValueRef.{ValueRef}
use Rattle.msi_table_values.specs.declared.column.ColumnType.{ColumnType}
use Rattle.msi_table_values.specs.declared.column.ColumnType.TheVariants as coltype
use Rattle.msi_table_values.specs.Columns.{ColumnDef, types_of}
use Rattle.msi_table_cells.specs.Fitting.{FitsTable}
use Rattle.msi_table.specs.Cells.{row_count, row_in, rows_in, table_bytes, width, widths}
use Rattle.msi_table.specs.Tables.{TableDef}
use Rattle.msi_table.proofs.LongRowsLemmas.{each_fits_long, fits_long}
use Rattle.msi_table.proofs.ReadBackLemmas.{rows_in-table_bytes, sum-widths, width_of_row}
use Rattle.msi_table.proofs.ReadRowsLemmas.{length-tabulated}
use Rattle.msi_table_cells.specs.TableCells.{TableCells}
use Rattle.msi_container_format.specs.Names.{is_name_length}
use Rattle.msi_database_schema.proofs.RowOrderLemmas.{names_total}
use Rattle.msi_database_schema.specs.Keys.{is_table_name, summary_key, table_key}
use Rattle.msi_database_schema.specs.System.{validation_columns, validation_name}
use Rattle.msi_database_changes.specs.Database.{Database, Tables, columns_by_name, has_table, is_sound, rows_of}
use Rattle.msi_database_changes.specs.Widening.{widened}
use Rattle.msi_database_changes.proofs.steps.AtWidthLemmas.{sound_widened}
use Rattle.msi_database_storage.specs.Streams.{Streams, stored_rows, stream_at, with_stream}
use Rattle.msi_database_storage.specs.Kept.{AreAsLong, Kept, kept_widened, schema_listed}
use Rattle.msi_database_storage.specs.Widening.{unlisted_table, with_long_rows}
use Rattle.msi_database_storage.specs.Agreement.{TablesAre, UnlistedIs}
use Rattle.msi_database.specs.Keeping.{AreParts, HasFittingRows, IsKeptDatabase}
use Rattle.msi_database.proofs.keeping.AcceptedChangeLemmas.{describes, regular}
use Rattle.msi_database.proofs.keeping.KeptPartsLemmas.{kept_parts}
use Rattle.msi_database_schema.proofs.KeyLemmas.{table_key_is_name, table_keys_tell_names, table_key≢summary_key, validation_accepted}
use Rattle.msi_database_storage.proofs.MapLemmas as maps
use Rattle.msi_database.proofs.soundness.DescribedLemmas.{schema_after}
use Rattle.msi_database.proofs.soundness.SoundLemmas.{sound_names, sound_rows}
use Rattle.msi_database_storage.proofs.StreamLemmas.{AreSorted, TablesSorted, names_put, sorted_put, list_cmp_exact, stream_at_other_put, stream_at_put}

-- WIDER CELLS

wider : (long : Bool) (type : ColumnType) → width long type ≤ width true type
wider true type = omega arith
wider false coltype.Int16 = lit≤ tt
wider false coltype.Int32 = lit≤ tt
wider false (coltype.Str n) = lit≤ tt
wider false coltype.Binary = lit≤ tt

sums_wider : (long : Bool) (types : List ColumnType) → sum (widths long types) ≤ sum (widths true types)
sums_wider long [] = lit≤ tt
sums_wider long (t ∷ ts) = omega (arith, wider long t, sums_wider long ts, sum-widths long t ts, sum-widths true t ts)

-- bytes that hold no row with narrow cells hold none with wide ones
none_by : (b : Bool) (n : ℕ) (f : ℕ → List ValueRef) → cond b (Some (tabulated n f)) None ≡ Some [] → n ≡ 0
none_by true n f e = sym (length-tabulated n f) ∙ ap length (same_Some (tabulated n f) [] e)
none_by false n f e = absurd (none-some [] e)

below_first : (n k : ℕ) → 0 < k → n / k ≡ 0 → n < k
below_first n k h e =
    let rest : n % k < k = mod_below n k h in
    let whole : n / k * k + n % k ≡ n = div-add-mod' n k in
    let same : 0 * k + n % k ≡ n = ap (λ (q : ℕ). q * k + n % k) (sym e) ∙ whole in
    omega (arith, rest, same)

none_long : (long : Bool) (types : List ColumnType) (bytes : List ℕ) → 0 < length types → rows_in long types bytes ≡ Some [] → rows_in true types bytes ≡ Some []
none_long long types bytes some e =
    let none : length bytes / sum (widths long types) ≡ 0 = none_by (nat_le (row_count long types bytes) 65536) (row_count long types bytes) (row_in long types bytes) e in
    let few : length bytes < sum (widths long types) = below_first (length bytes) (sum (widths long types)) (width_of_row long types some) none in
    let still : length bytes < 1 * sum (widths true types) = omega (arith, few, sums_wider long types) in
    let below : length bytes / sum (widths true types) < 1 = div_below (length bytes) (sum (widths true types)) 1 (width_of_row true types some) still in
    let none_now : length bytes / sum (widths true types) ≡ 0 = omega (arith, below) in
    rw none_now refl

-- ONE TABLE

-- its stream spells the rows, whatever the width was
spelled_long : (long : Bool) (name : List ℕ) (columns : List ColumnDef) (rows : List (List ValueRef)) (streams : Streams) → FitsTable long (types_of columns) rows
    → stored_rows streams long columns name ≡ Some rows → stored_rows (with_long_rows streams (name, record { columns = columns; rows = Some rows })) true columns name ≡ Some rows
spelled_long long name columns [] streams fits e = none_long long (types_of columns) (unwrap_or (stream_at (table_key name) streams) []) fits.some_column e
spelled_long long name columns (row ∷ rows) streams fits e =
    let bytes : List ℕ = table_bytes true (types_of columns) (row ∷ rows) in
    let some : (length (row ∷ rows) == 0) ≡ false = ne_eqb (suc (length rows)) 0 (λ e. omega arith) in
    ap (λ b. stored_rows (cond b streams (with_stream (table_key name) bytes streams)) true columns name) some
    ∙ ap (λ (o : Option (List ℕ)). rows_in true (types_of columns) (unwrap_or o [])) (stream_at_put (table_key name) bytes streams)
    ∙ rows_in-table_bytes true (types_of columns) (row ∷ rows) (fits_long long (types_of columns) (row ∷ rows) fits)

with_or_same : (P : Streams → Type 0) (b : Bool) (streams put : Streams) → P streams → P put → P (cond b streams put)
with_or_same P true streams put same other = same
with_or_same P false streams put same other = other

-- what holds of streams with and without a table's rows put among them
either_long : (P : Streams → Type 0) (streams : Streams) (t : List ℕ × TableCells) → P streams → ((bytes : List ℕ) → P (with_stream (table_key t.0) bytes streams)) → P (with_long_rows streams t)
either_long P streams t same put = with_or_same P (length (rows_of t.1) == 0) streams (with_stream (table_key t.0) (table_bytes true (types_of t.1.columns) (rows_of t.1)) streams) same (put _)

pub other_long : (key : List ℕ) (streams : Streams) (t : List ℕ × TableCells) → key ≢ table_key t.0 → stream_at key (with_long_rows streams t) ≡ stream_at key streams
other_long key streams t apart = either_long (λ s. stream_at key s ≡ stream_at key streams) streams t refl (λ bytes. stream_at_other_put key (table_key t.0) bytes streams apart)

sorted_long : (streams : Streams) (t : List ℕ × TableCells) → AreSorted streams → AreSorted (with_long_rows streams t)
sorted_long streams t h = either_long AreSorted streams t h (λ bytes. sorted_put (table_key t.0) bytes streams h)

names_long : (P : List ℕ → Type 0) (streams : Streams) (t : List ℕ × TableCells) → P (table_key t.0) → AllByRecursion (λ s. P s.0) streams → AllByRecursion (λ s. P s.0) (with_long_rows streams t)
names_long P streams t own h = either_long (AllByRecursion (λ s. P s.0)) streams t h (λ bytes. names_put P (table_key t.0) (Some bytes) streams own h)

rows_long : (long : Bool) (name : List ℕ) (columns : List ColumnDef) (streams : Streams) (t : List ℕ × TableCells) → table_key name ≢ table_key t.0
    → stored_rows (with_long_rows streams t) long columns name ≡ stored_rows streams long columns name
rows_long long name columns streams t apart = ap (λ (o : Option (List ℕ)). rows_in long (types_of columns) (unwrap_or o [])) (other_long (table_key name) streams t apart)

-- ALL TABLES

pub others_long : (key : List ℕ) (ts : Tables) (streams : Streams) → AllByRecursion (λ t. key ≢ table_key t.0) ts → stream_at key (fold with_long_rows streams ts) ≡ stream_at key streams
others_long key [] streams apart = refl
others_long key (t ∷ ts) streams apart = others_long key ts (with_long_rows streams t) apart.1 ∙ other_long key streams t apart.0

all_sorted_long : (ts : Tables) (streams : Streams) → AreSorted streams → AreSorted (fold with_long_rows streams ts)
all_sorted_long [] streams h = h
all_sorted_long (t ∷ ts) streams h = all_sorted_long ts (with_long_rows streams t) (sorted_long streams t h)

all_names_long : (P : List ℕ → Type 0) → ((name : List ℕ) → is_table_name name ≡ true → P (table_key name)) → (ts : Tables) (streams : Streams) → AllByRecursion (λ t. is_table_name t.0 ≡ true) ts
    → AllByRecursion (λ s. P s.0) streams → AllByRecursion (λ s. P s.0) (fold with_long_rows streams ts)
all_names_long P own [] streams are h = h
all_names_long P own (t ∷ ts) streams are h = all_names_long P own ts (with_long_rows streams t) are.1 (names_long P streams t (own t.0 are.0) h)

-- tables stand apart
abbrev AreApart : Tables → Type 0
AreApart [] = Unit {0}
AreApart (t ∷ ts) = AllByRecursion (λ u. table_key t.0 ≢ table_key u.0) ts × AreApart ts

-- the rows as they are found, of tables that are readable
abbrev IsSpelled : Bool → Streams → List ℕ × TableCells → Type 0
IsSpelled long streams t = t.1.rows ≡ stored_rows streams long t.1.columns t.0

stays_spelled : (long : Bool) (streams : Streams) (t : List ℕ × TableCells) (ts : Tables) → AllByRecursion (λ u. table_key t.0 ≢ table_key u.0) ts
    → AllByRecursion (IsSpelled long streams) ts → AllByRecursion (IsSpelled long (with_long_rows streams t)) ts
stays_spelled long streams t [] apart h = tt
stays_spelled long streams t (u ∷ us) apart h = (h.0 ∙ sym (rows_long long u.0 u.1.columns streams t (λ e. apart.0 (sym e))), stays_spelled long streams t us apart.1 h.1)

read_by : (long : Bool) (streams : Streams) (name : List ℕ) (columns : List ColumnDef) (o : Option (List (List ValueRef))) → is_some o ≡ true → IfSome o (FitsTable long (types_of columns))
    → o ≡ stored_rows streams long columns name → o ≡ stored_rows (with_long_rows streams (name, record { columns = columns; rows = o })) true columns name
read_by long streams name columns None read fits e = absurd (true≢false (sym read))
read_by long streams name columns (Some rows) read fits e = sym (spelled_long long name columns rows streams fits (sym e))

later_stay : (t : List ℕ × TableCells) (ts : Tables) (streams : Streams) → AllByRecursion (λ u. table_key t.0 ≢ table_key u.0) ts → IsSpelled true streams t → IsSpelled true (fold with_long_rows streams ts) t
later_stay t ts streams apart h = h ∙ ap (λ (o : Option (List ℕ)). rows_in true (types_of t.1.columns) (unwrap_or o [])) (sym (others_long (table_key t.0) ts streams apart))

all_spelled : (long : Bool) (ts : Tables) (streams : Streams) → AreApart ts → AllByRecursion (λ t. is_some t.1.rows ≡ true) ts → AllByRecursion (λ t. HasFittingRows long t.1) ts
    → AllByRecursion (IsSpelled long streams) ts → AllByRecursion (IsSpelled true (fold with_long_rows streams ts)) ts
all_spelled long [] streams apart read fits h = tt
all_spelled long (t ∷ ts) streams apart read fits h =
    let here : IsSpelled true (with_long_rows streams t) t = read_by long streams t.0 t.1.columns t.1.rows read.0 fits.0 h.0 in
    (later_stay t ts (with_long_rows streams t) apart.0 here, all_spelled long ts (with_long_rows streams t) apart.1 read.1 fits.1 (stays_spelled long streams t ts apart.0 h.1))

-- TABLES OF A SOUND DATABASE

keys_apart : (name : List ℕ) → is_table_name name ≡ true → (ts : Tables) → AllByRecursion (λ t. is_table_name t.0 ≡ true) ts → AllByRecursion (λ t. name ≢ t.0) ts
    → AllByRecursion (λ t. table_key name ≢ table_key t.0) ts
keys_apart name is [] are apart = tt
keys_apart name is (t ∷ ts) are apart = (λ e. apart.0 (table_keys_tell_names name t.0 is are.0 e), keys_apart name is ts are.1 apart.1)

tables_apart : (ts : Tables) → TablesSorted ts → AllByRecursion (λ t. is_table_name t.0 ≡ true) ts → AreApart ts
tables_apart [] sorted are = tt
tables_apart (t ∷ ts) sorted are = (keys_apart t.0 are.0 ts are.1 (maps.head_apart names_total list_cmp_exact t ts sorted), tables_apart ts (T_parts _ _ sorted).1 are.1)

few_by : (b : Bool) (n : ℕ) (f : ℕ → List ValueRef) (rows : List (List ValueRef)) → nat_le n 65536 ≡ b → cond b (Some (tabulated n f)) None ≡ Some rows → length rows ≤ 65536
few_by true n f rows t e =
    let same : length rows ≡ n = ap length (sym (same_Some (tabulated n f) rows e)) ∙ length-tabulated n f in
    grind (arith, nat_tests)
few_by false n f rows t e = absurd (none-some rows e)

some_fit_long : (long : Bool) (t : TableCells) (o : Option (List (List ValueRef))) → IfSome o (FitsTable long (types_of t.columns)) → IfSome o (FitsTable true (types_of t.columns))
some_fit_long long t None h = tt
some_fit_long long t (Some rows) h = fits_long long (types_of t.columns) rows h

all_fit_long : (long : Bool) (ts : Tables) → AllByRecursion (λ t. HasFittingRows long t.1) ts → AllByRecursion (λ t. HasFittingRows true t.1) ts
all_fit_long long [] h = tt
all_fit_long long (t ∷ ts) h = (some_fit_long long t.1 t.1.rows h.0, all_fit_long long ts h.1)

-- A KEPT DATABASE

module _ (k : Kept) (h : IsKeptDatabase k) (sound : is_sound k.database ≡ true) where
  abbrev d : Database
  d = k.database

  abbrev stored : Streams
  stored = fold with_long_rows k.streams d.tables

  abbrev after : Streams
  after = with_long_rows stored (unlisted_table d)

  names : AllByRecursion (λ t. is_table_name t.0 ≡ true) d.tables
  names = sound_names d sound

  spelled_tables : AllByRecursion (IsSpelled true stored) d.tables
  spelled_tables = all_spelled d.pool.long d.tables k.streams (tables_apart d.tables (regular k h sound).well.in_order names) (sound_rows d sound) h.rows h.spelled.tables

  pub unlisted_fits : has_table validation_name d ≡ false → FitsTable d.pool.long (types_of validation_columns) d.unlisted_validation
  unlisted_fits none =
      let bytes : List ℕ = unwrap_or (stream_at (table_key validation_name) k.streams) [] in
      let was : stored_rows k.streams d.pool.long validation_columns validation_name ≡ Some d.unlisted_validation =
      subst (λ b. MatchBool b (d.unlisted_validation ≡ []) (stored_rows k.streams d.pool.long validation_columns validation_name ≡ Some d.unlisted_validation)) none h.spelled.unlisted in record {
        some_column = lit≤ tt;
        few_rows = few_by (nat_le (row_count d.pool.long (types_of validation_columns) bytes) 65536) (row_count d.pool.long (types_of validation_columns) bytes) (row_in d.pool.long (types_of validation_columns) bytes) d.unlisted_validation refl was;
        each_row = h.unlisted;
      }

  by_listed : (b : Bool) → has_table validation_name d ≡ b → TablesAre after (widened d) × UnlistedIs after (widened d)
  by_listed true e =
      let none : d.unlisted_validation ≡ [] =
      subst (λ b. MatchBool b (d.unlisted_validation ≡ []) (stored_rows k.streams d.pool.long validation_columns validation_name ≡ Some d.unlisted_validation)) e h.spelled.unlisted in
      let same : after ≡ stored = ap (λ (rows : List (List ValueRef)). with_long_rows stored (validation_name, record { columns = validation_columns; rows = Some rows })) none in (
        subst (λ (s : Streams). AllByRecursion (IsSpelled true s) d.tables) (sym same) spelled_tables,
        subst (λ b. MatchBool b (d.unlisted_validation ≡ []) (stored_rows after true validation_columns validation_name ≡ Some d.unlisted_validation)) (sym e) none,
      )
  by_listed false e =
      let apart = keys_apart validation_name validation_accepted d.tables names (maps.missing_apart names_total list_cmp_exact validation_name d.tables e) in
      let was : stored_rows k.streams d.pool.long validation_columns validation_name ≡ Some d.unlisted_validation =
      subst (λ b. MatchBool b (d.unlisted_validation ≡ []) (stored_rows k.streams d.pool.long validation_columns validation_name ≡ Some d.unlisted_validation)) e h.spelled.unlisted in
      let there : stored_rows stored d.pool.long validation_columns validation_name ≡ Some d.unlisted_validation =
      ap (λ (o : Option (List ℕ)). rows_in d.pool.long (types_of validation_columns) (unwrap_or o [])) (others_long (table_key validation_name) d.tables k.streams apart) ∙ was in
      let now : stored_rows after true validation_columns validation_name ≡ Some d.unlisted_validation = spelled_long d.pool.long validation_name validation_columns d.unlisted_validation stored (unlisted_fits e) there in (
        stays_spelled true stored (unlisted_table d) d.tables apart spelled_tables,
        subst (λ b. MatchBool b (d.unlisted_validation ≡ []) (stored_rows after true validation_columns validation_name ≡ Some d.unlisted_validation)) (sym e) now,
      )

  both : TablesAre after (widened d) × UnlistedIs after (widened d)
  both = by_listed (has_table validation_name d) refl

  -- it is kept with wider references
  pub widened_kept : IsKeptDatabase (kept_widened k)
  widened_kept = record {
    in_order = sorted_long stored (unlisted_table d) (all_sorted_long d.tables k.streams h.in_order);
    names = names_long (λ key. is_name_length (length key) ≡ true) stored (unlisted_table d) (table_key_is_name validation_name validation_accepted)
        (all_names_long (λ key. is_name_length (length key) ≡ true) table_key_is_name d.tables k.streams names h.names);
    spelled = record {
      tables = both.0;
      unlisted = both.1;
      schema = schema_after after (widened d) (record { tables = both.0; unlisted = both.1; sound = sound_widened d sound }) (describes k h sound);
    };
    rows = all_fit_long d.pool.long d.tables h.rows;
    unlisted = each_fits_long d.pool.long (types_of validation_columns) d.unlisted_validation h.unlisted;
    few = h.few;
    counts = h.counts;
    freed = λ _. h.freed sound;
  }

  -- in these parts
  pub widened_parts : (tables : List TableDef) → schema_listed tables ≡ columns_by_name d → AreAsLong true tables → AreParts (kept_widened k) (widened d).pool tables after
  widened_parts tables listed as_long = kept_parts (kept_widened k) tables widened_kept (sound_widened d sound) listed as_long

  -- what holds of the names of streams, and of those of tables' streams, goes on to hold
  pub widened_names : (P : List ℕ → Type 0) → ((name : List ℕ) → is_table_name name ≡ true → P (table_key name)) → AllByRecursion (λ s. P s.0) k.streams → AllByRecursion (λ s. P s.0) after
  widened_names P own h = names_long P stored (unlisted_table d) (own validation_name validation_accepted) (all_names_long P own d.tables k.streams names h)

  -- the summary stays
  summary_apart : (ts : Tables) → AllByRecursion (λ t. summary_key ≢ table_key t.0) ts
  summary_apart [] = tt
  summary_apart (t ∷ ts) = (λ e. table_key≢summary_key t.0 (sym e), summary_apart ts)

  pub widened_summary : stream_at summary_key after ≡ stream_at summary_key k.streams
  widened_summary = other_long summary_key stored (unlisted_table d) (λ e. table_key≢summary_key validation_name (sym e)) ∙ others_long summary_key d.tables k.streams (summary_apart d.tables)
