-- Tables whose rows are told alike, and whose rows have keys of their own.
use Rattle.std.proofs.Common.{◌≡◌, ℕ, zero, suc, ◌-◌, ◌<◌, Bool, true, false, cond, not, ◌&&◌, ◌||◌, ◌==◌, List, [], ◌∷◌, ◌++◌, length, map, get_or, refl, sym, ap, subst, ◌∙◌, Some, None, arith}
use Rattle.std.specs.Prelude.{if◌then◌else◌, Option, is_some, option_map, replicate, unwrap_or}
use Rattle.std.specs.Borrow.{Bor}
use Rattle.std.specs.FinMap.Entries.{is_some-find}
use Rattle.std.specs.List.{flat_map, list_any}
use Rattle.std.specs.Ordering.{eq_by_cmp}
use Rattle.std.proofs.lemmas.Bool.{and_parts, or_from, or_parts}
use Rattle.std.proofs.lemmas.List.{get_or-map, length-map}
use Rattle.std.proofs.lemmas.Slice.Eq.{bytes_eq-Decides}
use Rattle.msi_base.specs.Lists.{has_pair, list_cmp}
use Rattle.msi_base.specs.Refusals.{Refusals, first_refusal}
use Rattle.msi_base.specs.declared.errors.ErrorKind.{ErrorKind}
use Rattle.msi_base.specs.declared.errors.ErrorKind.TheVariants.{InvalidInput}
use Rattle.msi_base.proofs.BoolLemmas.{by_test}
use Rattle.msi_base.proofs.ListLemmas.{list_any-filter}
use Rattle.msi_pool.specs.Pool.{Place, Pool}
use Rattle.msi_database_changes.specs.Database.{has_table, rows_of, table_at}
use Rattle.msi_database_changes.specs.KeySets.{keys_of_rows}
use Rattle.msi_database_schema.specs.System.{is_schema_table}
use Rattle.msi_database_schema.specs.Keys.{is_table_name}
use Rattle.msi_database_schema.proofs.SchemaLemmas.{names_tie}
use Rattle.msi_database_storage.specs.Kept.{Kept}
use Rattle.msi_table_cells.specs.CellValues.{row_values}
use Rattle.msi_table_cells.specs.KeyOrder.{key_of, same_key}
use Rattle.msi_table_cells.specs.TableCells.{TableCells}
use Rattle.msi_table_cells.specs.declared.cell.ValueRef.{ValueRef}
use Rattle.msi_table_values.specs.declared.value.Value.{Value}
use Rattle.msi_table_values.specs.declared.value.Value.TheVariants.{Null}
use Rattle.msi_table_values.specs.Columns.{ColumnDef}
use Rattle.msi_transform_applying.specs.Applying.{is_broken}
use Rattle.msi_transform_rows.specs.RowStreams.{has_streams, is_of_streams}
use Rattle.msi_transform_schema.specs.SchemaApplying.{have_own_keys, system_rows}
use Rattle.msi_transform_schema.specs.SchemaChanges.{is_name_to_list}
use Rattle.msi_transform_making.specs.LeftOut.{AreCellsLeft, AreFit, AreSameTexts, AreTextsOf, AreToldAlike, HasOwnKeys}
use Rattle.msi_transform_making.specs.Making.{Pair, ToldRecord, ToldRow, ToldRows, by_keys, columns_before, columns_in_table, differences, is_odd_table, is_unfit, lacks_text, loses_page, or_first_told, reasons, records_beside, shares_stream, stream_of_row, table_reasons, told_names, told_row, told_row_with, told_rows, told_values, values_in_table}
use Rattle.msi_transform_pair.specs.Names.{names_in}
use Rattle.msi_transform_making.proofs.LeftOutLemmas.{HaveOwnKeys, left_differences}

-- COLUMNS

alike_keys : (cs ds : List ColumnDef) → AreToldAlike cs ds → (row : List Value) → key_of cs row ≡ key_of ds row
alike_keys [] [] h row = refl
alike_keys [] (d ∷ ds) h row = absurd h
alike_keys (c ∷ cs) [] h row = absurd h
alike_keys (c ∷ cs) (d ∷ ds) h [] = refl
alike_keys (c ∷ cs) (d ∷ ds) h (v ∷ row) = λ i. cond (h.0 i) (v ∷ alike_keys cs ds h.3 row i) (alike_keys cs ds h.3 row i)

alike_values : (cs ds : List ColumnDef) → AreToldAlike cs ds → (row : List Value) → told_values false cs row ≡ told_values false ds row
alike_values [] [] h row = refl
alike_values [] (d ∷ ds) h row = absurd h
alike_values (c ∷ cs) [] h row = absurd h
alike_values (c ∷ cs) (d ∷ ds) h [] = refl
alike_values (c ∷ cs) (d ∷ ds) h (v ∷ row) =
    let same : is_of_streams c.coltype ≡ is_of_streams d.coltype = h.1 ∙ sym h.2 in
    λ i. cond (same i) Null v ∷ alike_values cs ds h.3 row i

streamless : (cs ds : List ColumnDef) → AreToldAlike cs ds → (has_streams cs ≡ false) × (has_streams ds ≡ false)
streamless [] [] h = (refl, refl)
streamless [] (d ∷ ds) h = absurd h
streamless (c ∷ cs) [] h = absurd h
streamless (c ∷ cs) (d ∷ ds) h =
    let rest = streamless cs ds h.3 in
    (or_from (is_of_streams c.coltype) (has_streams cs) h.1 rest.0, or_from (is_of_streams d.coltype) (has_streams ds) h.2 rest.1)

alike_lengths : (cs ds : List ColumnDef) → AreToldAlike cs ds → length cs ≡ length ds
alike_lengths [] [] h = refl
alike_lengths [] (d ∷ ds) h = absurd h
alike_lengths (c ∷ cs) [] h = absurd h
alike_lengths (c ∷ cs) (d ∷ ds) h = let rest = alike_lengths cs ds h.3 in omega arith

-- ROWS

told_plain : (k : Kept) (name : List ℕ) (cs : List ColumnDef) → has_streams cs ≡ false → (row : List Value) → told_row k name cs 0 row ≡ (key_of cs row, told_row_with None cs 0 row)
told_plain k name cs none row = ap (λ (b : Bool). (key_of cs row, told_row_with (if b then stream_of_row k name (key_of cs row) else None) cs 0 row)) none

plain_alike : (cs ds : List ColumnDef) → AreToldAlike cs ds → (row : List Value) → ◌≡◌ {A = List Value × ToldRow} (key_of cs row, told_row_with None cs 0 row) (key_of ds row, told_row_with None ds 0 row)
plain_alike cs ds h row = λ i. (alike_keys cs ds h row i, record { values = alike_values cs ds h row i ++ replicate 0 Null; stream = None })

told_alike : (k l : Kept) (name : List ℕ) (cs ds : List ColumnDef) → AreToldAlike cs ds → (row : List Value) → told_row k name cs 0 row ≡ told_row l name ds 0 row
told_alike k l name cs ds h row =
    let plain = streamless cs ds h in
    told_plain k name cs plain.0 row ∙ plain_alike cs ds h row ∙ sym (told_plain l name ds plain.1 row)

-- KEYS

from_not : (b : Bool) → not b ≡ true → b ≡ false
from_not true e = sym e
from_not false e = refl

keys_told : (k : Kept) (name : List ℕ) (cs : List ColumnDef) (places : List Place) (rows : List (List ValueRef))
    → map (λ e. e.0) (map (told_row k name cs 0) (map (row_values places) rows)) ≡ keys_of_rows places cs rows
keys_told k name cs places [] = refl
keys_told k name cs places (row ∷ rows) = ap (λ (keys : List (List Value)). key_of cs (row_values places row) ∷ keys) (keys_told k name cs places rows)

own_keys : (k : Kept) (name : List ℕ) → HasOwnKeys k name → HaveOwnKeys (told_row k name (columns_in_table k name) 0) (values_in_table k name)
own_keys k name own =
    let keys = keys_of_rows k.database.pool.places (columns_in_table k name) (system_rows k.database name) in
    ap (λ (ks : List (List Value)). has_pair same_key ks) (keys_told k name (columns_in_table k name) k.database.pool.places (system_rows k.database name))
    ∙ from_not (has_pair same_key keys) own

-- RECORDS

pub left_records : (old new : Kept) (name numbers : List ℕ) (left others : List (List ValueRef)) → AreToldAlike (columns_in_table old name) (columns_in_table new name)
    → HasOwnKeys old name → HasOwnKeys new name → AreTextsOf old new numbers → AreCellsLeft numbers (system_rows old.database name) (system_rows new.database name) left others
    → differences (columns_in_table new name) (by_keys (map (told_row old name (columns_in_table old name) 0) (map (row_values old.database.pool.places) left)))
    (by_keys (map (told_row new name (columns_in_table new name) 0) (map (row_values new.database.pool.places) others)))
    ≡ differences (columns_in_table new name) (told_rows old name 0) (told_rows new name 0)
left_records old new name numbers left others alike m n texts are =
    sym (left_differences (columns_in_table new name) (told_row old name (columns_in_table old name) 0) (told_row new name (columns_in_table new name) 0)
    (told_alike old new name (columns_in_table old name) (columns_in_table new name) alike)
    (values_in_table old name) (values_in_table new name) (map (row_values old.database.pool.places) left) (map (row_values new.database.pool.places) others)
    (are old.database.pool.places new.database.pool.places texts) (own_keys old name m) (own_keys new name n))

-- the same, as it is computed
pub told_of_left : (old new : Kept) (name numbers : List ℕ) (left others cells news : List (List ValueRef)) (cs ds : List ColumnDef) (es fs : ToldRows)
    → cs ≡ columns_in_table old name → ds ≡ columns_in_table new name → cells ≡ left → news ≡ others
    → es ≡ by_keys (map (told_row old name cs 0) (map (row_values old.database.pool.places) cells))
    → fs ≡ by_keys (map (told_row new name ds 0) (map (row_values new.database.pool.places) news))
    → AreToldAlike (columns_in_table old name) (columns_in_table new name) → HasOwnKeys old name → HasOwnKeys new name → AreTextsOf old new numbers
    → AreCellsLeft numbers (system_rows old.database name) (system_rows new.database name) left others
    → differences ds es fs ≡ differences (columns_in_table new name) (told_rows old name 0) (told_rows new name 0)
told_of_left old new name numbers left others cells news cs ds es fs cs_are ds_are cells_are news_are es_are fs_are alike m n texts are =
    let e : es ≡ by_keys (map (told_row old name (columns_in_table old name) 0) (map (row_values old.database.pool.places) left)) =
    es_are ∙ (λ i. by_keys (map (told_row old name (cs_are i) 0) (map (row_values old.database.pool.places) (cells_are i)))) in
    let f : fs ≡ by_keys (map (told_row new name (columns_in_table new name) 0) (map (row_values new.database.pool.places) others)) =
    fs_are ∙ (λ i. by_keys (map (told_row new name (ds_are i) 0) (map (row_values new.database.pool.places) (news_are i)))) in
    (λ i. differences (ds_are i) (e i) (f i)) ∙ left_records old new name numbers left others alike m n texts are

pub alike_there : (cs ds es fs : List ColumnDef) → cs ≡ es → ds ≡ fs → AreToldAlike cs ds → AreToldAlike es fs
alike_there cs ds es fs p q h = subst (λ (xs : List ColumnDef). AreToldAlike xs fs) p (subst (λ (xs : List ColumnDef). AreToldAlike cs xs) q h)

nothing_first : (columns : List ColumnDef) (before added : ℕ) (rows : ToldRows) (told : List ToldRecord) → added ≡ 0 → or_first_told columns before added rows told ≡ told
nothing_first columns before added rows told e =
    ap (λ (n : ℕ). or_first_told columns before n rows told) e ∙ by_test (length told == 0) (λ t. rw t refl) (λ t. rw t refl)

pub beside_alike : (old new : Kept) (name : List ℕ) → AreToldAlike (columns_in_table old name) (columns_in_table new name)
    → records_beside old new name (columns_before old.database name) ≡ differences (columns_in_table new name) (told_rows old name 0) (told_rows new name 0)
beside_alike old new name alike =
    let columns = columns_in_table new name in
    let before = columns_before old.database name in
    let same : before ≡ length columns = alike_lengths (columns_in_table old name) columns alike in
    let none : length columns - before ≡ 0 = omega (arith, same) in
    nothing_first columns before (length columns - before) (told_rows old name (length columns - before)) (differences columns (told_rows old name (length columns - before)) (told_rows new name 0)) none
    ∙ ap (λ (n : ℕ). differences columns (told_rows old name n) (told_rows new name 0)) none

-- TABLES THAT ARE FIT

no_such : {X : Type 0} (o : Option X) → is_some o ≡ false → o ≡ None
no_such None e = refl
no_such (Some x) e = cc

third : (a b own : Bool) → (a || b || not own) ≡ false → own ≡ true
third a b true e = refl
third true b false e = sym e
third false true false e = sym e
third false false false e = sym e

from_not_false : (b : Bool) → not b ≡ false → b ≡ true
from_not_false true e = refl
from_not_false false e = sym e

own_keys_of_sound : (k : Kept) (name : List ℕ) → is_broken k.database (columns_in_table k name) (system_rows k.database name) ≡ false → HasOwnKeys k name
own_keys_of_sound k name sound =
    let columns = columns_in_table k name in
    third (not (list_any (λ c. c.is_primary_key) columns)) (list_any (λ c. c.is_primary_key && is_of_streams c.coltype) columns)
    (have_own_keys k.database.pool.places columns (system_rows k.database name)) sound

abbrev is_kept_broken : Kept → List ℕ → Bool
is_kept_broken k name = has_table name k.database && is_broken k.database (columns_in_table k name) (system_rows k.database name)

pub own_keys_of_fit : (k : Kept) (name : List ℕ) → is_odd_table k name ≡ false → HasOwnKeys k name
own_keys_of_fit k name fit =
    let rest : is_kept_broken k name ≡ false = (or_parts (not (is_name_to_list name)) (is_kept_broken k name) fit).1 in
    by_test (has_table name k.database)
    (λ t. own_keys_of_sound k name (rw t at rest))
    (λ t. ap (λ (o : Option TableCells). have_own_keys k.database.pool.places (columns_in_table k name) (unwrap_or (option_map rows_of o) [])) (no_such (table_at name k.database) t))

listed : (k : Kept) (name : List ℕ) → is_odd_table k name ≡ false → is_schema_table name ≡ false
listed k name fit =
    let may : is_name_to_list name ≡ true = from_not_false (is_name_to_list name) (or_parts (not (is_name_to_list name)) (is_kept_broken k name) fit).0 in
    from_not (is_schema_table name) (and_parts (is_table_name name) (not (is_schema_table name)) may).1

same_name : (a b : List ℕ) → eq_by_cmp list_cmp a b ≡ true → a ≡ b
same_name a b t = (bytes_eq-Decides a b).0 (sym (names_tie a b) ∙ t)

none_named : (p : List ℕ → Bool) (name : List ℕ) (names : List (List ℕ)) → list_any p names ≡ false → list_any (eq_by_cmp list_cmp name) names ≡ true → p name ≡ false
none_named p name [] none there = cc
none_named p name (x ∷ xs) none there =
    let g = or_parts (p x) (list_any p xs) none in
    by_test (eq_by_cmp list_cmp name x)
    (λ t. ap p (same_name name x t) ∙ g.0)
    (λ t. none_named p name xs g.1 (rw t at there))

second_fails : (a b : Bool) → a ≡ true → (a && b) ≡ false → b ≡ false
second_fails true b t e = e
second_fails false b t e = cc

pub old_keys_of_fit : (old new : Kept) (name : List ℕ) → is_unfit old ≡ false → is_odd_table new name ≡ false → has_table name old.database ≡ true → HasOwnKeys old name
old_keys_of_fit old new name fit other there =
    let names = map (λ t. t.0) old.database.tables in
    let outside : is_schema_table name ≡ false = listed new name other in
    let none : list_any (λ x. not (is_schema_table x) && is_odd_table old x) names ≡ false = sym (list_any-filter (is_odd_table old) (λ x. not (is_schema_table x)) names) ∙ fit in
    let found : list_any (eq_by_cmp list_cmp name) names ≡ true = sym (is_some-find list_cmp name old.database.tables) ∙ there in
    let at : (not (is_schema_table name) && is_odd_table old name) ≡ false = none_named (λ x. not (is_schema_table x) && is_odd_table old x) name names none found in
    own_keys_of_fit old name (second_fails (not (is_schema_table name)) (is_odd_table old name) (ap not outside) at)

-- WHAT PASSES

passed : (b : Bool) (kind : ErrorKind) (rs : Refusals) → first_refusal ((b, kind) ∷ rs) ≡ None → (b ≡ false) × (first_refusal rs ≡ None)
passed true kind rs e = cc
passed false kind rs e = (refl, e)

abbrev later_reasons : Pair → Refusals
later_reasons p = (loses_page p, InvalidInput) ∷ (lacks_text p.new, InvalidInput) ∷ (shares_stream p, InvalidInput) ∷ flat_map (table_reasons p) (told_names p.new)

pub both_fit : (p : Pair) → first_refusal (reasons p) ≡ None → (is_unfit p.old ≡ false) × (is_unfit p.new ≡ false)
both_fit p e =
    let old = passed (is_unfit p.old) InvalidInput ((is_unfit p.new, InvalidInput) ∷ later_reasons p) e in
    (old.0, (passed (is_unfit p.new) InvalidInput (later_reasons p) old.1).0)

-- NAMES AND TEXTS THAT ARE PASSED ON

pub fit_at : (k : Kept) (names : List (Bor (List ℕ))) → AreFit k (names_in names) → (i : ℕ) (d : Bor (List ℕ)) → i < length names → is_odd_table k (get_or names i d).now ≡ false
fit_at k names fit i d inside =
    let within : i < length (names_in names) = omega (arith, length-map names (λ (n : Bor (List ℕ)). n.now)) in
    ap (is_odd_table k) (sym (get_or-map (λ (n : Bor (List ℕ)). n.now) names i d [] inside)) ∙ fit i within

none_at : (p : List ℕ → Bool) (names : List (List ℕ)) (i : ℕ) → list_any p names ≡ false → i < length names → p (get_or names i []) ≡ false
none_at p [] i none inside = absurd (omega (arith, inside))
none_at p (x ∷ xs) zero none inside = (or_parts (p x) (list_any p xs) none).0
none_at p (x ∷ xs) (suc i) none inside = none_at p xs i (or_parts (p x) (list_any p xs) none).1 (omega (arith, inside))

pub names_fit : (k : Kept) (names : List (List ℕ)) → names ≡ told_names k → is_unfit k ≡ false → AreFit k names
names_fit k names are fit = λ i inside. none_at (is_odd_table k) names i (ap (list_any (is_odd_table k)) are ∙ fit) inside

pub texts_of : (old new : Kept) (p q : Pool) (numbers : List ℕ) → p ≡ old.database.pool → q ≡ new.database.pool → AreSameTexts p.places q.places numbers → AreTextsOf old new numbers
texts_of old new p q numbers e f texts =
    subst (λ (pool : Pool). AreSameTexts pool.places new.database.pool.places numbers) e (subst (λ (pool : Pool). AreSameTexts p.places pool.places numbers) f texts)
