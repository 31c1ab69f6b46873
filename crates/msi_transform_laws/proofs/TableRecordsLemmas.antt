-- The rows of a table as they are told, and what its records give.
use Rattle.std.proofs.Common.{◌≡◌, ℕ, zero, suc, ◌+◌, ◌-◌, Bool, true, false, not, ◌&&◌, ◌||◌, T, List, [], ◌∷◌, ◌++◌, length, map, filter, replicate, zip, refl, sym, ap, subst, ◌∙◌, arith, append-nil, length-append}
use Rattle.std.specs.Prelude.{Option, Some, None, is_some, IfSome, if◌then◌else◌, filter_map, nat_lt, ◌==◌}
use Rattle.std.specs.Cmp.{tied_itself}
use Rattle.std.specs.FinMap.{find, is_sorted, put}
use Rattle.std.specs.FinMap.Entries.{below_all, by_order, is_sorted-put, same_entries}
use Rattle.std.specs.List.{AllByRecursion, list_any}
use Rattle.std.specs.Ordering.{eq_by_cmp, is_lt}
use Rattle.std.specs.declared.cmp.Ordering.{Ordering}
use Rattle.std.specs.declared.cmp.Ordering.TheVariants.{Less, Equal, Greater}
use Rattle.std.proofs.lemmas.Bool.{and_parts, ne_eqb}
use Rattle.std.proofs.lemmas.List.{length-map}
use Rattle.msi_base.proofs.BoolLemmas.{T_parts, by_test, yes_is_no}
use Rattle.msi_pool.specs.Pool.{Place}
use Rattle.msi_table_cells.specs.declared.cell.ValueRef.{ValueRef}
use Rattle.msi_table_cells.specs.CellValues.{row_values, value_of_cell}
use Rattle.msi_table_cells.specs.KeyOrder.{key_of}
use Rattle.msi_table_values.specs.declared.value.Value.{Value}
use Rattle.msi_table_values.specs.declared.value.Value.TheVariants.{Null, Binary}
use Rattle.msi_table_values.specs.Columns.{ColumnDef}
use Rattle.msi_database_changes.specs.Database.{has_table}
use Rattle.msi_database_storage.specs.Kept.{Kept}
use Rattle.msi_transform_records.specs.declared.shape.Shape.{Shape}
use Rattle.msi_transform_schema.specs.SchemaApplying.{system_rows}
use Rattle.msi_transform_rows.specs.KeyOfRows.{key_cmp}
use Rattle.msi_transform_rows.specs.RowStreams.{has_streams, is_of_streams}
use Rattle.msi_transform_making.specs.Making.{ToldRecord, ToldRow, ToldRows, addition, by_keys, columns_before, columns_in_table, differences, first_told, has_bit_for, is_stream, or_first_told, stream_of_row, tells_stream, told_row, told_rows, told_stream, told_values, values_in_table}
use Rattle.msi_transform_laws.specs.CarriedOut.{AreNewRows, AreOldRows, GainsPlainColumns, HasWholeRows, IsRow, IsWholeRow, RecordsGiveNewTable, added_row, carried_out, is_key_of_streams}
use Rattle.msi_transform_laws.proofs.ChangedRowsLemmas.{row_stays}
use Rattle.msi_transform_laws.proofs.CarriedOutLemmas.{differences_give_new_rows, done_at, each_done, exact_keys, found_row, is_less, keys_total, less, row_again, sorted}

-- ROWS BY THEIR KEYS

sorted_by_keys : (es : ToldRows) → T (is_sorted key_cmp (by_keys es))
sorted_by_keys [] = tt
sorted_by_keys (e ∷ es) = is_sorted-put key_cmp keys_total e.0 e.1 (by_keys es) (sorted_by_keys es)

pub sorted_told : (k : Kept) (name : List ℕ) (n : ℕ) → T (is_sorted key_cmp (told_rows k name n))
sorted_told k name n = sorted_by_keys (map (told_row k name (columns_in_table k name) n) (values_in_table k name))

module _ (P : List Value × ToldRow → Type 0) where
  each_put : (k : List Value) (v : ToldRow) (es : ToldRows) → P (k, v) → AllByRecursion P es → AllByRecursion P (put key_cmp k v es)
  each_put k v [] h all = (h, tt)
  each_put k v (e ∷ es) h all =
      elim (key_cmp k e.0) as (λ o. key_cmp k e.0 ≡ o → AllByRecursion P (by_order o ((k, v) ∷ e ∷ es) ((e.0, v) ∷ es) (e ∷ put key_cmp k v es))) [
        | Less ↦ λ o. (h, all)
        | Equal ↦ λ o. (subst (λ (x : List Value). P (x, v)) (exact_keys k e.0 o) h, all.1)
        | Greater ↦ λ o. (all.0, each_put k v es h all.1)
      ] refl

  pub each_by_keys : (es : ToldRows) → AllByRecursion P es → AllByRecursion P (by_keys es)
  each_by_keys [] all = tt
  each_by_keys (e ∷ es) all = each_put e.0 e.1 (by_keys es) all.0 (each_by_keys es all.1)

-- THE VALUES OF A ROW, AS THEY ARE TOLD

abbrev pub no_key_of_streams : List ColumnDef → Type 0
no_key_of_streams columns = list_any is_key_of_streams columns ≡ false

neither : (a b : Bool) → (a || b) ≡ false → (a ≡ false) × (b ≡ false)
neither true b h = yes_is_no true refl h
neither false b h = (refl, h)

no_stream : (key streams : Bool) → (key && streams) ≡ false → key ≡ true → streams ≡ false
no_stream true streams h k = h
no_stream false streams h k = yes_is_no false k refl

module _ (b : Bool) where
  as_long : (columns : List ColumnDef) (values : List Value) → length values ≡ length columns → length (told_values b columns values) ≡ length columns
  as_long [] [] h = refl
  as_long [] (v ∷ vs) h = refl
  as_long (c ∷ cs) [] h = absurd (omega arith)
  as_long (c ∷ cs) (v ∷ vs) h = ap suc (as_long cs vs (omega arith))

  key_told : (columns : List ColumnDef) (values : List Value) → no_key_of_streams columns → length values ≡ length columns → key_of columns (told_values b columns values) ≡ key_of columns values
  key_told [] vs plain h = refl
  key_told (c ∷ cs) [] plain h = refl
  key_told (c ∷ cs) (v ∷ vs) plain h =
      let p = neither (c.is_primary_key && is_of_streams c.coltype) (list_any is_key_of_streams cs) plain in
      let rest : key_of cs (told_values b cs vs) ≡ key_of cs vs = key_told cs vs p.1 (omega arith) in
      by_test c.is_primary_key
      (λ k. rw (k, no_stream c.is_primary_key (is_of_streams c.coltype) p.0 k) (ap (λ (l : List Value). v ∷ l) rest))
      (λ k. rw k rest)

  told_again : (columns : List ColumnDef) (values : List Value) → told_values b columns (told_values b columns values) ≡ told_values b columns values
  told_again [] vs = refl
  told_again (c ∷ cs) [] = refl
  told_again (c ∷ cs) (v ∷ vs) = by_test (is_of_streams c.coltype)
      (λ s. rw s (ap (λ (l : List Value). (if b then Binary else Null) ∷ l) (told_again cs vs)))
      (λ s. rw s (ap (λ (l : List Value). v ∷ l) (told_again cs vs)))

  stream_told : (columns : List ColumnDef) (values : List Value) → length values ≡ length columns → tells_stream (zip columns (told_values b columns values)) ≡ (b && has_streams columns)
  stream_told [] vs h = by_test b (λ t. rw t refl) (λ t. rw t refl)
  stream_told (c ∷ cs) [] h = absurd (omega arith)
  stream_told (c ∷ cs) (v ∷ vs) h =
      let rest : tells_stream (zip cs (told_values b cs vs)) ≡ (b && has_streams cs) = stream_told cs vs (omega arith) in
      by_test (is_of_streams c.coltype)
      (λ s. by_test b (λ t. rw (s, t) refl) (λ t. rw (s, t) (rest ∙ ap (λ x. x && has_streams cs) t)))
      (λ s. rw s rest)

-- COLUMNS THAT ARE ADDED

Begins : List ColumnDef → List ColumnDef → Type 0
Begins [] ds = list_any (λ (c : ColumnDef). c.is_primary_key) ds ≡ false
Begins (c ∷ cs) [] = ⊥
Begins (c ∷ cs) (d ∷ ds) = (c.coltype ≡ d.coltype) × (c.is_primary_key ≡ d.is_primary_key) × Begins cs ds

begins_itself : (cs : List ColumnDef) → Begins cs cs
unfolding Begins
begins_itself [] = refl
begins_itself (c ∷ cs) = (refl, refl, begins_itself cs)

shape_parts : (s t : Shape) (ss ts : List Shape) → s ∷ ss ≡ t ∷ ts → (s ≡ t) × (ss ≡ ts)
shape_parts s t ss ts h = (cc, cc)

begins : (before after : List ColumnDef) → GainsPlainColumns before after → Begins before after
unfolding Begins
begins [] after g = g.plain
begins (c ∷ cs) [] g = let h = ap length g.begun in absurd (omega arith)
begins (c ∷ cs) (d ∷ ds) g =
    let p = shape_parts _ _ _ _ g.begun in
    (ap (λ (s : Shape). s.coltype) (sym p.0), ap (λ (s : Shape). s.is_key) (sym p.0), begins cs ds (record { begun = p.1; plain = g.plain }))

long_enough : (before after : List ColumnDef) → Begins before after → length before + (length after - length before) ≡ length after
unfolding Begins
long_enough [] after g = omega arith
long_enough (c ∷ cs) [] g = absurd g
long_enough (c ∷ cs) (d ∷ ds) g = let rest = long_enough cs ds g.2 in omega arith

no_nulls : (after : List ColumnDef) (n : ℕ) → list_any (λ (c : ColumnDef). c.is_primary_key) after ≡ false → key_of after (replicate n Null) ≡ []
no_nulls [] n h = refl
no_nulls (c ∷ cs) zero h = refl
no_nulls (c ∷ cs) (suc n) h =
    let p = neither c.is_primary_key (list_any (λ (c : ColumnDef). c.is_primary_key) cs) h in
    rw p.0 (no_nulls cs n p.1)

no_streams : (after : List ColumnDef) (n : ℕ) → tells_stream (zip after (replicate n Null)) ≡ false
no_streams [] n = refl
no_streams (c ∷ cs) zero = refl
no_streams (c ∷ cs) (suc n) = by_test (is_of_streams c.coltype) (λ s. rw s (no_streams cs n)) (λ s. rw s (no_streams cs n))

module _ (n : ℕ) where
  key_longer : (before after : List ColumnDef) (values : List Value) → Begins before after → length values ≡ length before → key_of after (values ++ replicate n Null) ≡ key_of before values
  unfolding Begins
  key_longer [] after [] g h = no_nulls after n g
  key_longer [] after (v ∷ vs) g h = absurd (omega arith)
  key_longer (c ∷ cs) [] vs g h = absurd g
  key_longer (c ∷ cs) (d ∷ ds) [] g h = absurd (omega arith)
  key_longer (c ∷ cs) (d ∷ ds) (v ∷ vs) g h =
      let rest : key_of ds (vs ++ replicate n Null) ≡ key_of cs vs = key_longer cs ds vs g.2 (omega arith) in
      by_test c.is_primary_key
      (λ k. rw (← g.1, k) (ap (λ (l : List Value). v ∷ l) rest))
      (λ k. rw (← g.1, k) rest)

  stream_longer : (before after : List ColumnDef) (values : List Value) → Begins before after → length values ≡ length before → tells_stream (zip after (values ++ replicate n Null)) ≡ tells_stream (zip before values)
  unfolding Begins
  stream_longer [] after [] g h = no_streams after n
  stream_longer [] after (v ∷ vs) g h = absurd (omega arith)
  stream_longer (c ∷ cs) [] vs g h = absurd g
  stream_longer (c ∷ cs) (d ∷ ds) [] g h = absurd (omega arith)
  stream_longer (c ∷ cs) (d ∷ ds) (v ∷ vs) g h =
      let rest = stream_longer cs ds vs g.2 (omega arith) in
      let first : is_stream (d, v) ≡ is_stream (c, v) = rw g.0 refl in
      λ i. first i || rest i

-- columns of streams that are added are none of the key, since no added column is
plain_before : (before after : List ColumnDef) → Begins before after → no_key_of_streams after → no_key_of_streams before
unfolding Begins
plain_before [] after g h = refl
plain_before (c ∷ cs) [] g h = absurd g
plain_before (c ∷ cs) (d ∷ ds) g h =
    let p = neither (d.is_primary_key && is_of_streams d.coltype) (list_any is_key_of_streams ds) h in
    rw (g.0, g.1, p.0) (plain_before cs ds g.2 p.1)

-- ROWS AS THEY ARE TOLD

only_with_streams : (b : Bool) (o : Option (List ℕ)) → is_some (if b then o else None) ≡ (is_some (if b then o else None) && b)
only_with_streams true None = refl
only_with_streams true (Some x) = refl
only_with_streams false o = refl

pub no_records : (rs : List ToldRecord) → (length rs == 0) ≡ true → rs ≡ []
no_records [] h = refl
no_records (r ∷ rs) h = yes_is_no (suc (length rs) == 0) h (ne_eqb (suc (length rs)) 0 (λ e. omega arith))

longer_replicated : (n : ℕ) → length (replicate n Null) ≡ n
longer_replicated zero = refl
longer_replicated (suc n) = ap suc (longer_replicated n)

module _ (k : Kept) (name : List ℕ) (before : List ColumnDef) where
  abbrev stream : List Value → Option (List ℕ)
  stream values = told_stream k name before (key_of before values)

  abbrev own : List Value → List Value
  own values = told_values (is_some (stream values)) before values

  module _ (after : List ColumnDef) (n : ℕ) (count : length before + n ≡ length after) (g : Begins before after) (plain : no_key_of_streams after) where
    row_told : (values : List Value) → length values ≡ length before → IsRow after (told_row k name before n values)
    row_told values long =
        let own_long : length (own values) ≡ length before = as_long (is_some (stream values)) before values long in
        record {
          long = omega (arith, length-append (own values) (replicate n Null), longer_replicated n, own_long, count);
          key = key_longer n before after (own values) g own_long ∙ key_told (is_some (stream values)) before values (plain_before before after g plain) long;
          stream = only_with_streams (has_streams before) (stream_of_row k name (key_of before values))
              ∙ sym (stream_longer n before after (own values) g own_long ∙ stream_told (is_some (stream values)) before values long);
        }

    rows_told : (places : List Place) (rows : List (List ValueRef)) → AllByRecursion (λ (row : List ValueRef). length row ≡ length before) rows
        → AllByRecursion (IsRow after) (map (told_row k name before n) (map (row_values places) rows))
    rows_told places [] all = tt
    rows_told places (row ∷ rows) all =
        (row_told (row_values places row) (length-map row (value_of_cell places) ∙ all.0), rows_told places rows all.1)

  module _ (plain : no_key_of_streams before) where
    whole_row : (values : List Value) → length values ≡ length before → IsWholeRow before (told_row k name before 0 values)
    whole_row values long = record {
      row = row_told before 0 (omega arith) (begins_itself before) plain values long;
      shared = rw (append-nil (own values)) (told_again (is_some (stream values)) before values);
    }

    whole_rows : (places : List Place) (rows : List (List ValueRef)) → AllByRecursion (λ (row : List ValueRef). length row ≡ length before) rows
        → AllByRecursion (IsWholeRow before) (map (told_row k name before 0) (map (row_values places) rows))
    whole_rows places [] all = tt
    whole_rows places (row ∷ rows) all =
        (whole_row (row_values places row) (length-map row (value_of_cell places) ∙ all.0), whole_rows places rows all.1)

pub new_rows : (k : Kept) (name : List ℕ) → no_key_of_streams (columns_in_table k name) → HasWholeRows k name → AreNewRows (columns_in_table k name) (told_rows k name 0)
new_rows k name plain whole =
    let columns = columns_in_table k name in
    record {
      sorted = sorted_told k name 0;
      each = each_by_keys (IsWholeRow columns) (map (told_row k name columns 0) (values_in_table k name))
          (whole_rows k name columns plain k.database.pool.places (system_rows k.database name) whole);
    }

pub old_rows : (k : Kept) (name : List ℕ) (after : List ColumnDef) → GainsPlainColumns (columns_in_table k name) after → no_key_of_streams after → HasWholeRows k name
    → AreOldRows after (told_rows k name (length after - length (columns_in_table k name)))
old_rows k name after gains plain whole =
    let columns = columns_in_table k name in
    let n = length after - length columns in
    let g = begins columns after gains in
    record {
      sorted = sorted_told k name n;
      each = each_by_keys (IsRow after) (map (told_row k name columns n) (values_in_table k name))
          (rows_told k name columns after n (long_enough columns after g) g plain k.database.pool.places (system_rows k.database name) whole);
    }

-- A TABLE IS TOLD OF WHERE NOTHING DIFFERS

pub none_dropped : (q : List Value) (es : ToldRows) → T (below_all key_cmp q es) → filter (λ (e : List Value × ToldRow). not (eq_by_cmp key_cmp q e.0)) es ≡ es
none_dropped q [] h = refl
none_dropped q (e ∷ es) h =
    let p = T_parts (is_lt (key_cmp q e.0)) (below_all key_cmp q es) h in
    rw (less (key_cmp q e.0) p.0) (ap (λ (l : ToldRows). e ∷ l) (none_dropped q es p.1))

put_first : (q : List Value) (v : ToldRow) (es : ToldRows) → T (below_all key_cmp q es) → put key_cmp q v es ≡ (q, v) ∷ es
put_first q v [] h = refl
put_first q v (e ∷ es) h =
    let p = T_parts (is_lt (key_cmp q e.0)) (below_all key_cmp q es) h in
    ap (λ (o : Ordering). by_order o ((q, v) ∷ e ∷ es) ((e.0, v) ∷ es) (e ∷ put key_cmp q v es)) (is_less (key_cmp q e.0) p.0)

first_stays : (columns : List ColumnDef) (n : ℕ) (rows : ToldRows) → no_key_of_streams columns → AreNewRows columns rows → carried_out columns rows (first_told columns n rows) ≡ rows
first_stays columns n [] plain are = refl
first_stays columns n (e ∷ es) plain are =
    let tied : key_cmp e.0 e.0 ≡ Equal = tied_itself keys_total e.0 in
    let p = T_parts (below_all key_cmp e.0 es) (is_sorted key_cmp es) are.sorted in
    by_test (has_bit_for n)
    (λ t. rw (t, tied) (ap (λ (row : ToldRow). (e.0, row) ∷ es) (row_stays columns e.0 e.1 n plain are.each.0)))
    (λ t. rw (t, tied)
    (ap (put key_cmp e.0 (added_row columns (addition e))) (none_dropped e.0 es p.0)
    ∙ put_first e.0 (added_row columns (addition e)) es p.0
    ∙ ap (λ (row : ToldRow). (e.0, row) ∷ es) (row_again columns e.0 e.1 are.each.0)))

-- ROWS OF A TABLE THAT COMES

pub each_added : (es : ToldRows) → map addition es ≡ filter_map (λ e. Some (addition e)) es
each_added [] = refl
each_added (e ∷ es) = ap (λ (rs : List ToldRecord). addition e ∷ rs) (each_added es)

module _ (columns : List ColumnDef) (rows : ToldRows) (are : AreNewRows columns rows) where
  added_at : (q : List Value) (o : Option ToldRow) → IfSome o (λ row. IsWholeRow columns (q, row)) → done_at columns (λ e. Some (addition e)) q o None ≡ o
  added_at q None is = refl
  added_at q (Some row) is = ap Some (row_again columns q row is)

  all_added : carried_out columns [] (map addition rows) ≡ rows
  all_added =
      ap (carried_out columns []) (each_added rows)
      ∙ same_entries key_cmp keys_total exact_keys (carried_out columns [] (filter_map (λ e. Some (addition e)) rows)) rows
      (sorted columns [] (filter_map (λ e. Some (addition e)) rows) tt) are.sorted
      (λ q. each_done columns (λ e. Some (addition e)) (λ e r is. let this : addition e ≡ r = cc in ap (λ (s : ToldRecord). s.key) (sym this)) q rows [] are.sorted
      ∙ added_at q (find key_cmp q rows) (found_row (IsWholeRow columns) q rows are.each))

-- THE RECORDS OF A TABLE

module _ (columns : List ColumnDef) (before added : ℕ) (old new : ToldRows) (plain : no_key_of_streams columns) (was : AreOldRows columns old) (is : AreNewRows columns new) where
  given : carried_out columns old (differences columns old new) ≡ new
  given = differences_give_new_rows columns old new plain was is

  told_or_first : carried_out columns old (or_first_told columns before added old (differences columns old new)) ≡ new
  told_or_first = by_test ((length (differences columns old new) == 0) && nat_lt 0 added)
      (λ t. let none : differences columns old new ≡ [] = no_records (differences columns old new) (and_parts (length (differences columns old new) == 0) (nat_lt 0 added) t).0 in
      let same : old ≡ new = ap (carried_out columns old) (sym none) ∙ given in
      rw t (first_stays columns before old plain (subst (AreNewRows columns) (sym same) is) ∙ same))
      (λ t. rw t given)

pub records_give_new_table : RecordsGiveNewTable
records_give_new_table old new name is =
    let columns = columns_in_table new name in
    let whole = new_rows new name is.key is.whole in
    by_test (has_table name old.database)
    (λ t. let kept = is.before t in
    rw t (told_or_first columns (columns_before old.database name) (length columns - columns_before old.database name)
    (told_rows old name (length columns - columns_before old.database name)) (told_rows new name 0) is.key
    (old_rows old name columns kept.1 is.key kept.0) whole))
    (λ t. rw t (all_added columns (told_rows new name 0) whole))
