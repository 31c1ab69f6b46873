-- The records of a table in a transform that is made: the values that they have, and the keys and streams that these say.
use Rattle.std.proofs.Common.{◌≡◌, ℕ, suc, ◌+◌, ◌-◌, ◌^◌, ◌≤◌, Bool, true, false, not, ◌&&◌, ◌||◌, List, [], ◌∷◌, ◌++◌, length, map, filter, zip, refl, sym, ap, subst, ◌∙◌, arith}
use Rattle.std.specs.Prelude.{Option, Some, None, is_some, if◌then◌else◌, option_and_then, nat_lt, ◌==◌}
use Rattle.std.specs.FinMap.{find}
use Rattle.std.specs.List.{AllByRecursion, cons_option, list_any}
use Rattle.std.proofs.lemmas.Bool.{and_parts, lt-ltb}
use Rattle.msi_base.proofs.BoolLemmas.{by_test, yes_is_no}
use Rattle.msi_table_cells.specs.KeyOrder.{key_of}
use Rattle.msi_table_values.specs.declared.value.Value.{Value}
use Rattle.msi_table_values.specs.declared.value.Value.TheVariants.{Null, Binary}
use Rattle.msi_table_values.specs.Values.{is_null}
use Rattle.msi_table_values.specs.Columns.{ColumnDef, has_bit}
use Rattle.msi_database_changes.specs.Database.{has_table}
use Rattle.msi_database_storage.specs.Kept.{Kept}
use Rattle.msi_transform_records.specs.declared.action.Action.TheVariants.{Add, Remove, Change}
use Rattle.msi_transform_records.specs.declared.shape.Shape.{Shape}
use Rattle.msi_transform_records.specs.Actions.{told_from}
use Rattle.msi_transform.specs.Transforms.{shapes_of}
use Rattle.msi_transform_applying.specs.Applying.{same_stream}
use Rattle.msi_transform_rows.specs.KeyOfRows.{key_cmp}
use Rattle.msi_transform_rows.specs.RowChanges.{TableChange}
use Rattle.msi_transform_rows.specs.RowStreams.{brought, is_of_streams}
use Rattle.msi_transform_making.specs.Making.{ToldRecord, ToldRow, ToldRows, addition, can_be_marked, changes, changing, columns_before, columns_in_table, differences, differing, first_told, has_bit_for, is_marked, is_replaced, is_stream, mask_for, or_first_told, records_of_table, removal, tells_stream, told_rows, told_value, told_values}
use Rattle.msi_transform_laws.specs.CarriedOut.{AreNewRows, AreOldRows, IsRow, IsTellable, IsWholeRow, carried_out, is_key_of_streams, is_of_key}
use Rattle.msi_transform_laws.specs.RowsApplied.{IsInTransform, is_binary, is_brought, named_values}
use Rattle.msi_transform_laws.specs.StreamsBrought.{HasItsStream}
use Rattle.msi_transform_laws.proofs.CarriedOutLemmas.{differences_give_new_rows}
use Rattle.msi_transform_laws.proofs.ChangedRowsLemmas.{is_in, marked_from, pairs, rising, told_column}
use Rattle.msi_transform_laws.proofs.MarkedColumnsLemmas.{Above, bit_marked}
use Rattle.msi_transform_laws.proofs.TableRecordsLemmas.{new_rows, no_records, old_rows}

abbrev Named : Type 0
Named = (ℕ × Shape) × Value

neither : (a b : Bool) → (a || b) ≡ false → (a ≡ false) × (b ≡ false)
neither true b h = yes_is_no true refl h
neither false b h = (refl, h)

-- the values of the key among named ones
abbrev key_values : List Named → List Value
key_values l = map (λ e. e.1) (filter is_of_key l)

no_values : (cs : List (ℕ × Shape)) → list_any is_brought (zip cs []) ≡ false
no_values [] = refl
no_values (c ∷ cs) = refl

-- A STREAM IS ONE WHERE A VALUE ISN'T NULL, in columns whose values are null or streams

binary_there : (there : Bool) → is_binary (if there then Binary else Null) ≡ not (is_null (if there then Binary else Null))
binary_there true = refl
binary_there false = refl

module _ (there : Bool) where
  value_there : (n : ℕ) (c : ColumnDef) (v : Value) → told_value there (c, v) ≡ v → is_brought (told_column (n, (c, v))) ≡ is_stream (c, v)
  value_there n c v is = by_test (is_of_streams c.coltype)
      (λ s. let here : (if there then Binary else Null) ≡ v = (rw s refl) ∙ is in rw (s, ← here) (binary_there there))
      (λ s. rw s refl)

  marked_there : (marked : List ℕ) (same : Bool) (n : ℕ) (columns : List ColumnDef) (values : List Value) → told_values there columns values ≡ values
      → list_any is_brought (map told_column (marked_from marked same n columns values)) ≡ tells_stream (map (λ e. e.1) (marked_from marked same n columns values))
  marked_there marked same n [] values is = refl
  marked_there marked same n (c ∷ columns) [] is = refl
  marked_there marked same n (c ∷ columns) (v ∷ values) is =
      let first : told_value there (c, v) ≡ v = cc in
      let others : told_values there columns values ≡ values = cc in
      let rest = marked_there marked same (n + 1) columns values others in
      by_test (is_marked marked n c)
      (λ t. rw t (λ i. value_there n c v first i || rest i))
      (λ t. rw t rest)

  all_there : (n k : ℕ) (columns : List ColumnDef) (values : List Value) → n + length values ≤ k → told_values there columns values ≡ values
      → list_any is_brought (zip (told_from n (shapes_of columns) (Add k)) values) ≡ tells_stream (zip columns values)
  all_there n k [] values within is = refl
  all_there n k (c ∷ columns) [] within is = no_values (told_from n (shapes_of (c ∷ columns)) (Add k))
  all_there n k (c ∷ columns) (v ∷ values) within is =
      let first : told_value there (c, v) ≡ v = cc in
      let others : told_values there columns values ≡ values = cc in
      rw (lt-ltb n k (omega (arith, within))) (λ i. value_there n c v first i || all_there (n + 1) k columns values (omega (arith, within)) others i)

-- A ROW THAT IS REMOVED

removed_named : (n : ℕ) (columns : List ColumnDef) (values : List Value) → length values ≡ length columns
    → (length (key_of columns values) ≡ length (told_from n (shapes_of columns) Remove)) × (key_values (zip (told_from n (shapes_of columns) Remove) (key_of columns values)) ≡ key_of columns values)
removed_named n [] values h = (refl, refl)
removed_named n (c ∷ columns) [] h = absurd (omega (arith, h))
removed_named n (c ∷ columns) (v ∷ values) h =
    let rest = removed_named (n + 1) columns values (omega (arith, h)) in
    by_test c.is_primary_key
    (λ k. rw k (ap suc rest.0, ap (λ (l : List Value). v ∷ l) rest.1))
    (λ k. rw k rest)

no_stream : (key streams : Bool) → (key && streams) ≡ false → key ≡ true → streams ≡ false
no_stream true streams h k = h
no_stream false streams h k = yes_is_no false k refl

removed_plain : (n : ℕ) (columns : List ColumnDef) (key : List Value) → list_any is_key_of_streams columns ≡ false → list_any is_brought (zip (told_from n (shapes_of columns) Remove) key) ≡ false
removed_plain n [] key plain = refl
removed_plain n (c ∷ columns) [] plain = no_values (told_from n (shapes_of (c ∷ columns)) Remove)
removed_plain n (c ∷ columns) (v ∷ key) plain =
    let p = neither (c.is_primary_key && is_of_streams c.coltype) (list_any is_key_of_streams columns) plain in
    by_test c.is_primary_key
    (λ k. rw (k, no_stream c.is_primary_key (is_of_streams c.coltype) p.0 k) (removed_plain (n + 1) columns key p.1))
    (λ k. rw k (removed_plain (n + 1) columns (v ∷ key) p.1))

-- A ROW THAT IS ADDED

added_named : (n k : ℕ) (columns : List ColumnDef) (values : List Value) → length values ≡ length columns → n + length columns ≤ k
    → (length values ≡ length (told_from n (shapes_of columns) (Add k))) × (key_values (zip (told_from n (shapes_of columns) (Add k)) values) ≡ key_of columns values)
added_named n k [] [] h within = (refl, refl)
added_named n k [] (v ∷ values) h within = absurd (omega (arith, h))
added_named n k (c ∷ columns) [] h within = absurd (omega (arith, h))
added_named n k (c ∷ columns) (v ∷ values) h within =
    let rest = added_named (n + 1) k columns values (omega (arith, h)) (omega (arith, within)) in
    rw (lt-ltb n k (omega (arith, within))) (
      ap suc rest.0,
      by_test c.is_primary_key
          (λ t. rw t (ap (λ (l : List Value). v ∷ l) rest.1))
          (λ t. rw t rest.1),
    )

-- A ROW THAT IS CHANGED

changed_key : (marked : List ℕ) (same : Bool) (n : ℕ) (columns : List ColumnDef) (values : List Value) → key_values (map told_column (marked_from marked same n columns values)) ≡ key_of columns values
changed_key marked same n [] values = refl
changed_key marked same n (c ∷ columns) [] = refl
changed_key marked same n (c ∷ columns) (v ∷ values) =
    let rest = changed_key marked same (n + 1) columns values in
    by_test c.is_primary_key
    (λ k. rw k (ap (λ (l : List Value). v ∷ l) rest))
    (λ k. by_test (is_in marked n) (λ t. rw (k, t) rest) (λ t. rw (k, t) rest))

some_tell : (marked : List ℕ) (same : Bool) (n : ℕ) (columns : List ColumnDef) (values : List Value) → tells_stream (map (λ e. e.1) (marked_from marked same n columns values)) ≡ true → tells_stream (zip columns values) ≡ true
some_tell marked same n [] values h = yes_is_no false h refl
some_tell marked same n (c ∷ columns) [] h = yes_is_no false h refl
some_tell marked same n (c ∷ columns) (v ∷ values) h = by_test (is_stream (c, v))
    (λ s. rw s refl)
    (λ s. rw s (by_test (is_marked marked n c)
    (λ t. some_tell marked same (n + 1) columns values (rw (t, s) at h))
    (λ t. some_tell marked same (n + 1) columns values (rw t at h))))

changed_many : (marked : List ℕ) (same : Bool) (mask : ℕ) → ((i : ℕ) → has_bit mask (2 ^ i) ≡ is_in marked i) → (n : ℕ) (columns : List ColumnDef) (values : List Value) → length values ≡ length columns
    → length (map (λ e. e.1) (map (λ e. e.1) (marked_from marked same n columns values))) ≡ length (told_from n (shapes_of columns) (Change mask))
changed_many marked same mask bits n [] [] h = refl
changed_many marked same mask bits n [] (v ∷ vs) h = refl
changed_many marked same mask bits n (c ∷ cs) [] h = absurd (omega (arith, h))
changed_many marked same mask bits n (c ∷ cs) (v ∷ vs) h =
    let rest = changed_many marked same mask bits (n + 1) cs vs (omega (arith, h)) in
    let tells : (c.is_primary_key || has_bit mask (2 ^ n)) ≡ is_marked marked n c = ap (λ b. c.is_primary_key || b) (bits n) in
    by_test (is_marked marked n c)
    (λ t. rw (tells, t) (ap suc rest))
    (λ t. rw (tells, t) rest)

-- THE RECORDS OF A TABLE

rises_of : (other new : ToldRow) → Above 0 (differing other new)
rises_of other new = rising 0 (same_stream other.stream new.stream) other.values new.values

bytes_there : (o : Option (List ℕ)) → is_some o ≡ true → (bytes : List ℕ) × (o ≡ Some bytes)
bytes_there None h = yes_is_no false h refl
bytes_there (Some bytes) h = (bytes, refl)

nothing_there : (o : Option (List ℕ)) → is_some o ≡ false → o ≡ None
nothing_there None h = refl
nothing_there (Some x) h = yes_is_no true refl h

module _ (change : TableChange) (plain : list_any is_key_of_streams change.columns ≡ false) where
  abbrev columns : List ColumnDef
  columns = change.columns

  abbrev Brings : ToldRecord → Type 0
  Brings r = HasItsStream change.by change.name r

  -- a stream that is there is brought
  with_stream : (r : ToldRecord) → Brings r → is_some r.stream ≡ true → (bytes : List ℕ) × (r.stream ≡ Some bytes) × (brought change.by change.name r.key ≡ Some bytes)
  with_stream r brings there = let b = bytes_there r.stream there in (b.0, b.1, brings b.0 b.1)

  removed_in : (e : List Value × ToldRow) → IsRow columns e → IsInTransform change (removal e.0)
  removed_in e is =
      let at : key_of columns e.1.values ≡ e.0 = is.key in
      let named = removed_named 0 columns e.1.values is.long in
      let none = removed_plain 0 columns e.0 plain in
      record {
        many = ap (λ (l : List Value). length l) (sym at) ∙ named.0;
        key = ap (λ (l : List Value). key_values (zip (told_from 0 (shapes_of columns) Remove) l)) (sym at) ∙ named.1 ∙ at;
        brings = λ b. yes_is_no (list_any is_brought (zip (told_from 0 (shapes_of columns) Remove) e.0)) b none;
        without = λ b. refl;
      }

  added_in : (e : List Value × ToldRow) → IsWholeRow columns e → Brings (addition e) → IsInTransform change (addition e)
  added_in e is brings =
      let k = length e.1.values in
      let named = added_named 0 k columns e.1.values is.row.long (omega (arith, is.row.long)) in
      let tells : list_any is_brought (zip (told_from 0 (shapes_of columns) (Add k)) e.1.values) ≡ is_some e.1.stream =
      all_there (is_some e.1.stream) 0 k columns e.1.values (omega arith) is.shared ∙ sym is.row.stream in
      record {
        many = named.0;
        key = named.1 ∙ is.row.key;
        brings = λ b. with_stream (addition e) brings (sym tells ∙ b);
        without = λ b. nothing_there e.1.stream (sym tells ∙ b);
      }

  only_there : (b : Bool) (o : Option (List ℕ)) → b ≡ true → is_some o ≡ true → is_some (if b then o else None) ≡ true
  only_there b o t h = rw t h

  not_there : (b : Bool) (o : Option (List ℕ)) → b ≡ false → (if b then o else None) ≡ None
  not_there b o t = rw t refl

  changed_in : (marked : List ℕ) → Above 0 marked → (e : List Value × ToldRow) → IsWholeRow columns e → Brings (changing columns marked e) → IsInTransform change (changing columns marked e)
  changed_in marked rises e is brings =
      let bits : (i : ℕ) → has_bit (mask_for marked) (2 ^ i) ≡ is_in marked i = λ i. bit_marked i 0 marked rises in
      let values = e.1.values in
      let same = true in
      let named : named_values columns (changing columns marked e) ≡ map told_column (marked_from marked same 0 columns values) = pairs marked same (mask_for marked) bits 0 columns values is.row.long in
      let told = map (λ e. e.1) (marked_from marked same 0 columns values) in
      let tells : list_any is_brought (named_values columns (changing columns marked e)) ≡ tells_stream told =
      ap (λ (l : List Named). list_any is_brought l) named ∙ marked_there (is_some e.1.stream) marked same 0 columns values is.shared in
      record {
        many = changed_many marked same (mask_for marked) bits 0 columns values is.row.long;
        key = ap key_values named ∙ changed_key marked same 0 columns values ∙ is.row.key;
        brings = λ b. with_stream (changing columns marked e) brings
            (only_there (tells_stream told) e.1.stream (sym tells ∙ b) (is.row.stream ∙ some_tell marked same 0 columns values (sym tells ∙ b)));
        without = λ b. not_there (tells_stream told) e.1.stream (sym tells ∙ b);
      }

  -- all of them
  abbrev AllIn : List ToldRecord → Type 0
  AllIn rs = AllByRecursion (IsInTransform change) rs

  abbrev AllBring : List ToldRecord → Type 0
  AllBring rs = AllByRecursion Brings rs

  in_joined : (rs qs : List ToldRecord) → AllIn rs → AllIn qs → AllIn (rs ++ qs)
  in_joined [] qs h g = g
  in_joined (r ∷ rs) qs h g = (h.0, in_joined rs qs h.1 g)

  bring_parts : (rs qs : List ToldRecord) → AllBring (rs ++ qs) → AllBring rs × AllBring qs
  bring_parts [] qs h = (tt, h)
  bring_parts (r ∷ rs) qs h = let p = bring_parts rs qs h.1 in ((h.0, p.0), p.1)

  removals_in : (test : List Value × ToldRow → Bool) (es : ToldRows) → AllByRecursion (IsRow columns) es → AllIn (map (λ e. removal e.0) (filter test es))
  removals_in test [] h = tt
  removals_in test (e ∷ es) h = by_test (test e) (λ t. rw t (removed_in e h.0, removals_in test es h.1)) (λ t. rw t (removals_in test es h.1))

  additions_in : (test : List Value × ToldRow → Bool) (es : ToldRows) → AllByRecursion (IsWholeRow columns) es → AllBring (map addition (filter test es)) → AllIn (map addition (filter test es))
  additions_in test [] h b = tt
  additions_in test (e ∷ es) h b = by_test (test e)
      (λ t. let c = rw t at b in rw t (added_in e h.0 c.0, additions_in test es h.1 c.1))
      (λ t. rw t (additions_in test es h.1 (rw t at b)))

  change_in : (old : Option ToldRow) (e : List Value × ToldRow) (rs : List ToldRecord) → IsWholeRow columns e
      → (AllBring rs → AllIn rs) → AllBring (cons_option (option_and_then (λ other. let marked = differing other e.1 in if can_be_marked marked && nat_lt 0 (length marked) then Some (changing columns marked e) else None) old) rs)
      → AllIn (cons_option (option_and_then (λ other. let marked = differing other e.1 in if can_be_marked marked && nat_lt 0 (length marked) then Some (changing columns marked e) else None) old) rs)
  change_in None e rs is rest b = rest b
  change_in (Some other) e rs is rest b = by_test (can_be_marked (differing other e.1) && nat_lt 0 (length (differing other e.1)))
      (λ t. let c = rw t at b in rw t (changed_in (differing other e.1) (rises_of other e.1) e is c.0, rest c.1))
      (λ t. rw t (rest (rw t at b)))

  changes_in : (old es : ToldRows) → AllByRecursion (IsWholeRow columns) es → AllBring (changes columns old es) → AllIn (changes columns old es)
  changes_in old [] h b = tt
  changes_in old (e ∷ es) h b = change_in (find key_cmp e.0 old) e (changes columns old es) h.0 (changes_in old es h.1) b

  differences_in : (old new : ToldRows) → AreOldRows columns old → AreNewRows columns new → AllBring (differences columns old new) → AllIn (differences columns old new)
  differences_in old new was is b =
      let rs = map (λ e. removal e.0) (filter (is_replaced new) old) in
      let qs = map addition (filter (is_replaced old) new) in
      let p = bring_parts (rs ++ changes columns old new) qs b in
      let q = bring_parts rs (changes columns old new) p.0 in
      in_joined (rs ++ changes columns old new) qs
      (in_joined rs (changes columns old new) (removals_in (is_replaced new) old was.each) (changes_in old new is.each q.1))
      (additions_in (is_replaced old) new is.each p.1)

  first_in : (n : ℕ) (es : ToldRows) → AllByRecursion (IsWholeRow columns) es → AllBring (first_told columns n es) → AllIn (first_told columns n es)
  first_in n [] h b = tt
  first_in n (e ∷ es) h b = by_test (has_bit_for n)
      (λ t. let c = rw t at b in rw t (changed_in (n ∷ []) (omega arith, tt) e h.0 c.0, tt))
      (λ t. let c = rw t at b in rw t (removed_in e h.0.row, (added_in e h.0 c.1.0, tt)))

  all_added_in : (es : ToldRows) → AllByRecursion (IsWholeRow columns) es → AllBring (map addition es) → AllIn (map addition es)
  all_added_in [] h b = tt
  all_added_in (e ∷ es) h b = (added_in e h.0 b.0, all_added_in es h.1 b.1)

  or_first_in : (before added : ℕ) (old new : ToldRows) → AreOldRows columns old → AreNewRows columns new
      → AllBring (or_first_told columns before added old (differences columns old new)) → AllIn (or_first_told columns before added old (differences columns old new))
  or_first_in before added old new was is b = by_test ((length (differences columns old new) == 0) && nat_lt 0 added)
      (λ t. let none : differences columns old new ≡ [] = no_records (differences columns old new) (and_parts (length (differences columns old new) == 0) (nat_lt 0 added) t).0 in
      let same : old ≡ new = ap (carried_out columns old) (sym none) ∙ differences_give_new_rows columns old new plain was is in
      rw t (first_in before old (subst (AllByRecursion (IsWholeRow columns)) (sym same) is.each) (rw t at b)))
      (λ t. rw t (differences_in old new was is (rw t at b)))

-- of a table that both packages have, and of one that comes
pub records_in_transform : (old new : Kept) (name : List ℕ) (change : TableChange) → change.columns ≡ columns_in_table new name → IsTellable old new name
    → AllByRecursion (HasItsStream change.by change.name) (records_of_table old new name) → AllByRecursion (IsInTransform change) (records_of_table old new name)
records_in_transform old new name change columns_are is =
    let whole = subst (λ (cs : List ColumnDef). AreNewRows cs (told_rows new name 0)) (sym columns_are) (new_rows new name is.key is.whole) in
    let plain : list_any is_key_of_streams change.columns ≡ false = ap (λ (cs : List ColumnDef). list_any is_key_of_streams cs) columns_are ∙ is.key in
    let before = columns_before old.database name in
    let added = length (columns_in_table new name) - before in
    by_test (has_table name old.database)
    (λ t. let kept = is.before t in
    let was = subst (λ (cs : List ColumnDef). AreOldRows cs (told_rows old name added)) (sym columns_are) (old_rows old name (columns_in_table new name) kept.1 is.key kept.0) in
    rw t (subst (λ (cs : List ColumnDef). AllByRecursion (HasItsStream change.by change.name) (or_first_told cs before added (told_rows old name added) (differences cs (told_rows old name added) (told_rows new name 0)))
    → AllByRecursion (IsInTransform change) (or_first_told cs before added (told_rows old name added) (differences cs (told_rows old name added) (told_rows new name 0)))) columns_are
    (or_first_in change plain before added (told_rows old name added) (told_rows new name 0) was whole)))
    (λ t. rw t (all_added_in change plain (told_rows new name 0) whole.each))
