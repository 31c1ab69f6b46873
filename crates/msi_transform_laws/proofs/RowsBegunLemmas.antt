-- The rows of a table with which applying its records begins.
use Rattle.std.proofs.Common.{◌≡◌, ℕ, suc, ◌+◌, ◌-◌, Bool, true, false, not, ◌&&◌, ◌||◌, List, [], ◌∷◌, ◌++◌, length, map, drop, replicate, refl, sym, ap, ap₂, subst, ◌∙◌, arith, length-append}
use Rattle.std.specs.Prelude.{⊤, Option, None, is_some, if◌then◌else◌}
use Rattle.std.specs.List.{AllByRecursion, list_any}
use Rattle.std.proofs.lemmas.List.{length-map, map-append}
use Rattle.msi_base.proofs.BoolLemmas.{by_test, yes_is_no}
use Rattle.msi_pool.specs.Pool.{Place}
use Rattle.msi_table_cells.specs.declared.cell.ValueRef.{ValueRef}
use Rattle.msi_table_cells.specs.CellValues.{row_values, value_of_cell}
use Rattle.msi_table_cells.specs.KeyOrder.{key_of}
use Rattle.msi_table_values.specs.declared.value.Value.{Value}
use Rattle.msi_table_values.specs.declared.value.Value.TheVariants.{Null, Binary}
use Rattle.msi_table_values.specs.Columns.{ColumnDef}
use Rattle.msi_database_changes.specs.Database.{Database, has_table}
use Rattle.msi_database_changes.proofs.steps.TurnLemmas.{TextsStay}
use Rattle.msi_database_changes.proofs.text_counts.RowsLemmas.{row_stays, row_uses, rows_uses}
use Rattle.msi_database_storage.specs.Kept.{Kept}
use Rattle.msi_transform_records.specs.declared.shape.Shape.{Shape}
use Rattle.msi_transform.specs.Transforms.{TransformDef, shapes_of}
use Rattle.msi_transform.specs.declared.conditions.ErrorConditions.{ErrorConditions}
use Rattle.msi_transform_rows.specs.RowChanges.{Rows, TableChange, by_key, held_in, keyed}
use Rattle.msi_transform_rows.specs.RowStreams.{has_streams, is_of_streams}
use Rattle.msi_transform_rows.specs.declared.row.RowStream.TheVariants.{AsBefore, Gone}
use Rattle.msi_transform_schema.specs.SchemaApplying.{system_rows}
use Rattle.msi_transform_schema.specs.SchemaChanges.{columns_of_package, rows_of_package}
use Rattle.msi_transform_schema.specs.declared.schema.Standing.{Standing}
use Rattle.msi_transform_schema.specs.declared.schema.Standing.TheVariants as stands
use Rattle.msi_transform_applying.specs.Applying.{TablesInHand, lengthened_row, null_in}
use Rattle.msi_transform_making.specs.Making.{ToldRows, by_keys, columns_before, columns_in_table, stream_of_row, told_row, told_rows, told_stream, told_values}
use Rattle.msi_transform_laws.specs.CarriedOut.{IsTellable}
use Rattle.msi_transform_laws.specs.RowsApplied.{HasValuesOf, HaveValuesOf, stream_in_hand, values_held}
use Rattle.msi_transform_laws.specs.RowsBegun.{HoldsStreams, OldRowsAreInHand, StandsAs, TextsOfTableStay}
use Rattle.msi_transform_laws.specs.TableApplied.{table_change}
use Rattle.msi_transform_laws.proofs.AlikeRowsLemmas.{alike_put}
use Rattle.msi_transform_laws.proofs.AppliedRecordsLemmas.{naming_cells}

-- ROWS UNDER THEIR KEYS, PAIR BY PAIR

module _ (old : Kept) (change : TableChange) (places : List Place) where
  abbrev ArePairs : Rows → ToldRows → Type 0
  ArePairs [] [] = ⊤
  ArePairs [] (f ∷ fs) = ⊥
  ArePairs (e ∷ es) [] = ⊥
  ArePairs (e ∷ es) (f ∷ fs) = (e.0 ≡ f.0) × HasValuesOf old.streams change places f.0 e.1 f.1 × ArePairs es fs

  pairs_alike : (es : Rows) (fs : ToldRows) → ArePairs es fs → HaveValuesOf old.streams change places (by_key es) (by_keys fs)
  pairs_alike [] [] h = record { sorted = tt; sorted_too = tt; many = refl; each = λ key. tt }
  pairs_alike [] (f ∷ fs) h = absurd h
  pairs_alike (e ∷ es) [] h = absurd h
  pairs_alike (e ∷ es) (f ∷ fs) h =
      subst (λ (k : List Value). HaveValuesOf old.streams change places (by_key ((k, e.1) ∷ es)) (by_keys (f ∷ fs))) (sym h.0)
      (alike_put old.streams change places places (by_key es) (by_keys fs) (pairs_alike es fs h.2) f.0 (λ n u. refl) e.1 f.1 h.1)

-- COLUMNS, AND COLUMNS BEHIND THEM

neither : (a b : Bool) → (a || b) ≡ false → (a ≡ false) × (b ≡ false)
neither true b h = yes_is_no true refl h
neither false b h = (refl, h)

pub key_beside : (columns added : List ColumnDef) (vs ws : List Value) → length vs ≡ length columns → list_any (λ (c : ColumnDef). c.is_primary_key) added ≡ false
    → key_of (columns ++ added) (vs ++ ws) ≡ key_of columns vs
key_beside [] [] [] ws h plain = refl
key_beside [] (c ∷ added) [] [] h plain = refl
key_beside [] (c ∷ added) [] (w ∷ ws) h plain =
    let p = neither c.is_primary_key (list_any (λ (c : ColumnDef). c.is_primary_key) added) plain in rw p.0 (key_beside [] added [] ws refl p.1)
key_beside [] added (v ∷ vs) ws h plain = absurd (omega (arith, h))
key_beside (c ∷ columns) added [] ws h plain = absurd (omega (arith, h))
key_beside (c ∷ columns) added (v ∷ vs) ws h plain =
    let rest = key_beside columns added vs ws (omega (arith, h)) plain in
    by_test c.is_primary_key (λ k. rw k (ap (λ (l : List Value). v ∷ l) rest)) (λ k. rw k rest)

held_beside : (columns added : List ColumnDef) (vs ws : List Value) → length vs ≡ length columns → values_held (columns ++ added) (vs ++ ws) ≡ values_held columns vs ++ values_held added ws
held_beside [] added [] ws h = refl
held_beside [] added (v ∷ vs) ws h = absurd (omega (arith, h))
held_beside (c ∷ columns) added [] ws h = absurd (omega (arith, h))
held_beside (c ∷ columns) added (v ∷ vs) ws h = ap (λ (l : List Value). held_in (c, v) ∷ l) (held_beside columns added vs ws (omega (arith, h)))

held_told : (there : Bool) (columns : List ColumnDef) (vs : List Value) → values_held columns (told_values there columns vs) ≡ values_held columns vs
held_told there [] vs = refl
held_told there (c ∷ columns) [] = refl
held_told there (c ∷ columns) (v ∷ vs) = by_test (is_of_streams c.coltype)
    (λ s. rw s (ap (λ (l : List Value). Binary ∷ l) (held_told there columns vs)))
    (λ s. rw s (ap (λ (l : List Value). v ∷ l) (held_told there columns vs)))

told_long : (there : Bool) (columns : List ColumnDef) (vs : List Value) → length vs ≡ length columns → length (told_values there columns vs) ≡ length columns
told_long there [] vs h = refl
told_long there (c ∷ columns) [] h = absurd (omega (arith, h))
told_long there (c ∷ columns) (v ∷ vs) h = ap suc (told_long there columns vs (omega (arith, h)))

nulls_held : (places : List Place) (added : List ColumnDef) → row_values places (map null_in added) ≡ values_held added (replicate (length added) Null)
nulls_held places [] = refl
nulls_held places (c ∷ added) = by_test (is_of_streams c.coltype)
    (λ s. rw s (ap (λ (l : List Value). Binary ∷ l) (nulls_held places added)))
    (λ s. rw s (ap (λ (l : List Value). Null ∷ l) (nulls_held places added)))

or_later : (a b c : Bool) → (a || (b || c)) ≡ ((a || b) || c)
or_later true b c = refl
or_later false b c = refl

pub streams_beside : (columns added : List ColumnDef) → has_streams (columns ++ added) ≡ (has_streams columns || has_streams added)
streams_beside [] added = refl
streams_beside (c ∷ columns) added = ap (λ b. is_of_streams c.coltype || b) (streams_beside columns added) ∙ or_later (is_of_streams c.coltype) (has_streams columns) (has_streams added)

-- A ROW

module _ (old : Kept) (name : List ℕ) (columns added : List ColumnDef) (by : TransformDef) (passing : ErrorConditions) (places : List Place)
    (plain : list_any (λ (c : ColumnDef). c.is_primary_key) added ≡ false) where
  abbrev change : TableChange
  change = table_change name (columns ++ added) by passing

  abbrev before : List Place
  before = old.database.pool.places

  stream_begun : (key : List Value) (own more : Bool) → (own || more) ≡ true
      → stream_in_hand old.streams change key (if more && not own then Gone else AsBefore) ≡ (if own then stream_of_row old name key else None)
  stream_begun key true true some = refl
  stream_begun key true false some = refl
  stream_begun key false true some = refl
  stream_begun key false false some = yes_is_no false some refl

  module _ (row : List ValueRef) (whole : length row ≡ length columns) (held : values_held columns (row_values before row) ≡ row_values before row) (stay : TextsStay (row_uses row) before places) where
    abbrev vs : List Value
    vs = row_values before row

    abbrev key : List Value
    key = key_of columns vs

    abbrev stream : Option (List ℕ)
    stream = told_stream old name columns key

    vs_long : length vs ≡ length columns
    vs_long = length-map row (value_of_cell before) ∙ whole

    same_key : key_of (columns ++ added) (row_values before (row ++ map null_in added)) ≡ key
    same_key = ap (key_of (columns ++ added)) (map-append (value_of_cell before) row (map null_in added)) ∙ key_beside columns added vs (row_values before (map null_in added)) vs_long plain

    row_has : HasValuesOf old.streams change places key (lengthened_row columns added row) (told_row old name columns (length added) vs).1
    row_has = record {
      long = length-append row (map null_in added) ∙ ap₂ (λ (m n : ℕ). m + n) whole (length-map added null_in) ∙ sym (length-append columns added);
      values = map-append (value_of_cell places) row (map null_in added)
          ∙ ap₂ (λ (l m : List Value). l ++ m) (row_stays row before places stay ∙ sym held ∙ sym (held_told (is_some stream) columns vs)) (nulls_held places added)
          ∙ sym (held_beside columns added (told_values (is_some stream) columns vs) (replicate (length added) Null) (told_long (is_some stream) columns vs vs_long));
      stream = λ some. stream_begun key (has_streams columns) (has_streams added) (sym (streams_beside columns added) ∙ some);
    }

  rows_have : (rows : List (List ValueRef)) → AllByRecursion (λ (row : List ValueRef). length row ≡ length columns) rows
      → AllByRecursion (λ (row : List ValueRef). values_held columns (row_values before row) ≡ row_values before row) rows → TextsStay (rows_uses rows) before places
      → ArePairs old change places (map (keyed (columns ++ added) before) (map (lengthened_row columns added) rows)) (map (told_row old name columns (length added)) (map (row_values before) rows))
  rows_have [] whole held stay = tt
  rows_have (row ∷ rows) whole held stay = (
    same_key row whole.0 held.0 (λ n u. stay n (omega (arith, u))),
    row_has row whole.0 held.0 (λ n u. stay n (omega (arith, u))),
    rows_have rows whole.1 held.1 (λ n u. stay n (omega (arith, u))),
  )

-- THE COLUMNS THAT ARE ADDED

pub many_shapes : (columns : List ColumnDef) → length (shapes_of columns) ≡ length columns
many_shapes [] = refl
many_shapes (c ∷ columns) = ap suc (many_shapes columns)

abbrev pub has_key : List ColumnDef → Bool
has_key columns = list_any (λ (c : ColumnDef). c.is_primary_key) columns

pub key_shapes : (columns : List ColumnDef) → has_key columns ≡ list_any (λ (s : Shape). s.is_key) (shapes_of columns)
key_shapes [] = refl
key_shapes (c ∷ columns) = ap (λ b. c.is_primary_key || b) (key_shapes columns)

rest_alike : (s u : Shape) (ss us : List Shape) → s ∷ ss ≡ u ∷ us → ss ≡ us
rest_alike s u ss us h = cc

-- since none of the new package's is of the key, none of these is
pub none_of_key : (columns added after : List ColumnDef) → shapes_of (columns ++ added) ≡ shapes_of after → has_key (drop (length columns) after) ≡ false → has_key added ≡ false
none_of_key [] added after same plain = key_shapes added ∙ ap (λ (l : List Shape). list_any (λ (s : Shape). s.is_key) l) same ∙ sym (key_shapes after) ∙ plain
none_of_key (c ∷ columns) added [] same plain = let h = ap (λ (l : List Shape). length l) same in absurd (omega (arith, h))
none_of_key (c ∷ columns) added (d ∷ after) same plain = none_of_key columns added after (rest_alike _ _ _ _ same) plain

module _ (old new : Kept) (name : List ℕ) (added : List ColumnDef) (s : TablesInHand) (by : TransformDef) (passing : ErrorConditions) (is : IsTellable old new name)
    (holds : HoldsStreams old name) (texts : TextsOfTableStay old name s) where
  abbrev d : Database
  d = old.database

  abbrev columns_before_it : List ColumnDef
  columns_before_it = columns_in_table old name

  abbrev rows_with : List ColumnDef → List (List ValueRef) → Rows
  rows_with columns rows = by_key (map (keyed (columns ++ added) d.pool.places) (map (lengthened_row columns added) rows))

  kept_rows : has_table name d ≡ true → shapes_of (columns_before_it ++ added) ≡ shapes_of (columns_in_table new name)
      → HaveValuesOf old.streams (table_change name (columns_before_it ++ added) by passing) s.pool.places (rows_with columns_before_it (system_rows d name))
      (told_rows old name (length (columns_in_table new name) - columns_before d name))
  kept_rows there same =
      let kept = is.before there in
      let plain = none_of_key columns_before_it added (columns_in_table new name) same kept.1.plain in
      let many : length (columns_before_it ++ added) ≡ length (columns_in_table new name) =
      sym (many_shapes (columns_before_it ++ added)) ∙ ap (λ (l : List Shape). length l) same ∙ many_shapes (columns_in_table new name) in
      let count : length added ≡ length (columns_in_table new name) - length columns_before_it = omega (arith, many, length-append columns_before_it added) in
      let stay : TextsStay (rows_uses (system_rows d name)) d.pool.places s.pool.places = λ n u. texts n (omega (arith, u, naming_cells (system_rows d name) n)) in
      subst (λ (n : ℕ). HaveValuesOf old.streams (table_change name (columns_before_it ++ added) by passing) s.pool.places (rows_with columns_before_it (system_rows d name)) (told_rows old name n)) count
      (pairs_alike old (table_change name (columns_before_it ++ added) by passing) s.pool.places _ _
      (rows_have old name columns_before_it added by passing s.pool.places plain (system_rows d name) kept.0 holds stay))

  by_standing : (b : Bool) → has_table name d ≡ b → (standing : Standing) → StandsAs b standing → shapes_of (columns_of_package d name standing ++ added) ≡ shapes_of (columns_in_table new name)
      → HaveValuesOf old.streams (table_change name (columns_of_package d name standing ++ added) by passing) s.pool.places (rows_with (columns_of_package d name standing) (rows_of_package d name standing))
      (if b then told_rows old name (length (columns_in_table new name) - columns_before d name) else [])
  by_standing true there stands.Kept stood same = kept_rows there same
  by_standing true there (stands.Found next) stood same = kept_rows there same
  by_standing true there stands.Added stood same = absurd stood
  by_standing true there stands.Gone stood same = absurd stood
  by_standing false there stands.Added stood same = record { sorted = tt; sorted_too = tt; many = refl; each = λ key. tt }
  by_standing false there stands.Kept stood same = absurd stood
  by_standing false there (stands.Found next) stood same = absurd stood
  by_standing false there stands.Gone stood same = absurd stood

pub old_rows_are_in_hand : OldRowsAreInHand
old_rows_are_in_hand old new name t s by passing is has holds texts =
    by_standing old new name t.added s by passing is holds texts (has_table name old.database) refl t.standing has.stands has.columns
