-- The tables that rows describe, read one by one from sorted rows.
use Rattle.std.proofs.Common.{◌≡◌, ℕ, zero, suc, ◌+◌, ◌<◌, Bool, true, false, List, [], ◌∷◌, ◌++◌, length, refl, sym, ap, ◌∙◌, arith, Ordering, Some, None, ℤ, pos, cond, nat_eq}
use Rattle.std.specs.Prelude.{◌&&◌, ◌||◌, not, Option, option_and_then, option_map, if◌then◌else◌, bytes_eq, filter, find, map, nat_le, slice_get, zip, IsPermutation}
use Rattle.std.specs.List.{AllByRecursion, list_any}
use Rattle.std.specs.FinMap.{put}
use Rattle.std.specs.FinMap.Entries.{by_order}
use Rattle.std.specs.Ordering.{int_cmp, is_eq, is_lt, ordering_reverse}
use Rattle.std.specs.declared.cmp.Ordering.TheVariants.{Less, Equal, Greater}
use Rattle.std.proofs.lemmas.List.Sorted.{IsPermutation-sym, sum_by-IsPermutation}
use Rattle.std.proofs.lemmas.Bool.{eqb-true, or_parts, or_from, and_from, false_from_ne_true}
use Rattle.std.proofs.lemmas.Map.Text.{is_eq-slice_cmp}
use Rattle.std.proofs.lemmas.List.Elements.{filter_agree}
use Rattle.msi_base.specs.Lists.{all_present, has_pair, list_cmp, placed, stable_sort, tabulated}
use Rattle.msi_table_values.specs.declared.value.Value.{Value}
use Rattle.msi_table_values.specs.declared.value.Value.TheVariants.{Null, Int, Str, Binary}
use Rattle.msi_table_values.specs.Columns.{ColumnDef}
use Rattle.msi_table_values.specs.OrderLaws.{value_eq-Decides}
use Rattle.msi_table.proofs.PlacesLemmas.{tabulated_more}
use Rattle.msi_table_cells.proofs.StableSortLemmas.{all_sorted}
use Rattle.msi_database_schema.specs.ListedTables.{by_names, listed_table, listed_tables, with_system}
use Rattle.msi_database_schema.specs.RowOrders.{by_numbers, by_texts, describing, number_in, numbers_cmp, texts_at, texts_cmp}
use Rattle.msi_table_values.specs.Values.{is_text}
use Rattle.msi_database_schema.specs.Schema.{SchemaRows, by_name, column_rows, column_of_row, columns_of, counted, has_long_number, has_number, has_odd_name, is_about, is_faulty, is_of_16_bits, listed_names, number_of, numbered_row, share_key, table_with, tables_of, text_at, text_of, validation_row, value_at}
use Rattle.msi_database_schema.specs.System.{columns_columns, columns_name, is_schema_table, tables_columns, tables_name}
use Rattle.msi_base.proofs.ListLemmas.{all_kept, find_same, no_pair_weaker, none_passes, not_found, has_pair-map, tabulated_at}
use Rattle.msi_base.proofs.BoolLemmas.{by_test, yes_is_no}
use Rattle.msi_database_schema.proofs.OrderLemmas.{find_sorted, order-weak, sorted_is}
use Rattle.msi_database_schema.proofs.OrderlessLemmas.{IsReordered, StartsWithText, columns_same, filter-filter, is_counted, length_of_columns, number_is, numbered_is, sound_reordered, texts_same}
use Rattle.msi_database_schema.proofs.RowOrderLemmas.{at_number, at_texts, names_total, numbers_total, texts_total}
use Rattle.msi_database_schema.proofs.SchemaLemmas.{Described, NoFault, both_first, no_fault, not_faulty}

-- ---- rows about a table that counts

absorbed : (a b c : Bool) → (b ≡ true → a ≡ true) → (a && (b && c)) ≡ (b && c)
absorbed true b c h = refl
absorbed false true c h = let e = h refl in cc
absorbed false false c h = refl

absorbed_one : (a b : Bool) → (b ≡ true → a ≡ true) → (a && b) ≡ b
absorbed_one true b h = refl
absorbed_one false true h = let e = h refl in cc
absorbed_one false false h = refl

pub about_counts : (table : List ℕ) (row : List Value) → is_schema_table table ≡ false → is_about table row ≡ true → is_counted row ≡ true
about_counts table row plain t = ap not (ap is_schema_table (texts_same (text_at 0 row) table t) ∙ plain)

pub numbered_plain : (s : SchemaRows) (table : List ℕ) (number : ℕ) → is_schema_table table ≡ false
    → numbered_row s table number ≡ find (λ row. is_about table row && has_number number row) s.columns
numbered_plain s table number plain = numbered_is s table number
    ∙ find_same (λ row. is_counted row && (is_about table row && has_number number row)) (λ row. is_about table row && has_number number row) s.columns
    (λ row. absorbed (is_counted row) (is_about table row) (has_number number row) (about_counts table row plain))

pub rows_plain : (s : SchemaRows) (table : List ℕ) → is_schema_table table ≡ false → column_rows s table ≡ filter (is_about table) s.columns
rows_plain s table plain = filter-filter (is_about table) is_counted s.columns
    ∙ filter_agree (λ row. is_counted row && is_about table row) (is_about table) (λ row. absorbed_one (is_counted row) (is_about table row) (about_counts table row plain)) s.columns

-- ---- sorted rows describe the same tables

pub validation_sorted : (s : SchemaRows) (u : SchemaRows) → u.validation ≡ stable_sort (by_texts 1) s.validation → (table column : List ℕ) → validation_row u table column ≡ validation_row s table column
validation_sorted s u e table column =
    let stands : (row : List Value) → is_eq (texts_cmp (texts_at 1 row) (table, column)) ≡ (is_about table row && bytes_eq (text_at 1 row) column) = at_texts 1 table column in
    ap (find (λ row. is_about table row && bytes_eq (text_at 1 row) column)) e
    ∙ sym (find_same (λ row. is_eq (texts_cmp (texts_at 1 row) (table, column))) (λ row. is_about table row && bytes_eq (text_at 1 row) column) (stable_sort (by_texts 1) s.validation) stands)
    ∙ find_sorted (texts_at 1) texts_cmp texts_total (table, column) s.validation
    ∙ find_same (λ row. is_eq (texts_cmp (texts_at 1 row) (table, column))) (λ row. is_about table row && bytes_eq (text_at 1 row) column) s.validation stands

pub numbered_sorted : (s : SchemaRows) (u : SchemaRows) → u.columns ≡ stable_sort by_numbers s.columns → (table : List ℕ) (number : ℕ) → is_schema_table table ≡ false → numbered_row u table number ≡ numbered_row s table number
numbered_sorted s u e table number plain =
    let stands : (row : List Value) → is_eq (numbers_cmp (number_in row) (table, pos number)) ≡ (is_about table row && has_number number row) = at_number table number in
    numbered_plain u table number plain
    ∙ ap (find (λ row. is_about table row && has_number number row)) e
    ∙ sym (find_same (λ row. is_eq (numbers_cmp (number_in row) (table, pos number))) (λ row. is_about table row && has_number number row) (stable_sort by_numbers s.columns) stands)
    ∙ find_sorted number_in numbers_cmp numbers_total (table, pos number) s.columns
    ∙ find_same (λ row. is_eq (numbers_cmp (number_in row) (table, pos number))) (λ row. is_about table row && has_number number row) s.columns stands
    ∙ sym (numbered_plain s table number plain)

pub count_sorted : (s : SchemaRows) (u : SchemaRows) → IsPermutation s.columns u.columns → (table : List ℕ) → length (column_rows u table) ≡ length (column_rows s table)
count_sorted s u moved table = length_of_columns u table ∙ sum_by-IsPermutation (λ row. cond (is_counted row && is_about table row) 1 0) s.columns u.columns moved ∙ sym (length_of_columns s table)

-- the columns of a table that is not among the two
abbrev pub sorted_rows : SchemaRows → SchemaRows
sorted_rows s = describing (stable_sort by_numbers s.columns) (stable_sort (by_texts 1) s.validation)

-- a table's columns, from the rows by which they are looked up
pub columns_sorted : (s : SchemaRows) (table : List ℕ) → is_schema_table table ≡ false → columns_of (sorted_rows s) table ≡ columns_of s table
columns_sorted s table plain = columns_same s (sorted_rows s) table
    (count_sorted s (sorted_rows s) ((sorted_is number_in numbers_cmp numbers_total s.columns).moved) table)
    (λ name. validation_sorted s (sorted_rows s) refl table name)
    (λ number. numbered_sorted s (sorted_rows s) refl table number plain)

-- ---- what is present in each place

more_behind : {X : Type 0} (y x : X) (r q : Option (List X)) (xs : List X) → ((ys : List X) → r ≡ Some ys → q ≡ Some (ys ++ x ∷ [])) → option_map (λ ys. y ∷ ys) r ≡ Some xs → option_map (λ ys. y ∷ ys) q ≡ Some (xs ++ x ∷ [])
more_behind y x None q xs h e = cc
more_behind y x (Some ys) q xs h e = let s : xs ≡ y ∷ ys = cc in rw (s, h ys refl) refl

pub present_more : {X : Type 0} (os : List (Option X)) (xs : List X) (x : X) → all_present os ≡ Some xs → all_present (os ++ Some x ∷ []) ≡ Some (xs ++ x ∷ [])
present_more [] xs x e = let s : xs ≡ [] = cc in rw s refl
present_more (None ∷ os) xs x e = cc
present_more (Some y ∷ os) xs x e = more_behind y x (all_present os) (all_present (os ++ Some x ∷ [])) xs (λ ys f. present_more os ys x f) e

pub absent_at : {X : Type 0} (os : List (Option X)) (i : ℕ) → slice_get os i ≡ Some None → all_present os ≡ None
absent_at [] i e = cc
absent_at (None ∷ os) i e = refl
absent_at (Some x ∷ os) zero e = cc
absent_at (Some x ∷ os) (suc i) e = rw (absent_at os i e) refl

pub tabulated_present : {X : Type 0} (f : ℕ → Option X) (n : ℕ) (xs ys : List X) (x : X) → all_present (tabulated n f) ≡ Some xs → f n ≡ Some x → ys ≡ xs ++ x ∷ [] → all_present (tabulated (n + 1) f) ≡ Some ys
tabulated_present f n xs ys x e g h = rw (tabulated_more n f, g, h) (present_more (tabulated n f) xs x e)

pub tabulated_absent : {X : Type 0} (f : ℕ → Option X) (n i : ℕ) → i < n → f i ≡ None → all_present (tabulated n f) ≡ None
tabulated_absent f n i h e = absent_at (tabulated n f) i (tabulated_at f n i h ∙ ap Some e)

-- ---- numbers of 16 bits leave no table of more columns

small_number : (z : ℤ) (n : ℕ) → is_of_16_bits z ≡ true → 32767 < n → is_eq (int_cmp z (pos n)) ≡ false
small_number z n fits h = by_test (is_eq (int_cmp z (pos n))) (λ t. absurd (clash z (number_is z (pos n) t) fits)) (λ f. f)
  where
    clash : (z : ℤ) → z ≡ pos n → is_of_16_bits z ≡ true → ⊥
    clash z e f = let g : nat_le n 32767 ≡ true = rw e at f in grind (arith, g)

pub none_numbered : (s : SchemaRows) (table : List ℕ) (n : ℕ) → has_long_number s.columns ≡ false → is_schema_table table ≡ false → 32767 < n → numbered_row s table n ≡ None
none_numbered s table n short plain h = numbered_plain s table n plain ∙ not_found (λ row. is_about table row && has_number n row) s.columns (each s.columns short)
  where
    each : (rows : List (List Value)) → has_long_number rows ≡ false → list_any (λ row. is_about table row && has_number n row) rows ≡ false
    each [] e = refl
    each (row ∷ rows) e =
        let g = or_parts _ (has_long_number rows) e in
        or_from (is_about table row && has_number n row) (list_any (λ row. is_about table row && has_number n row) rows) (unfit row g.0) (each rows g.1)
      where
        second_no : (a b : Bool) → b ≡ false → (a && b) ≡ false
        second_no true b e = e
        second_no false b e = refl

        not_not : (a b : Bool) → not (a && b) ≡ false → a ≡ true
        not_not true b e = refl
        not_not false b e = cc

        unfit : (row : List Value) → not (is_of_16_bits (number_of (value_at 1 row)) && is_of_16_bits (number_of (value_at 3 row))) ≡ false → (is_about table row && has_number n row) ≡ false
        unfit row e = second_no (is_about table row) (has_number n row) (small_number (number_of (value_at 1 row)) n (not_not (is_of_16_bits (number_of (value_at 1 row))) (is_of_16_bits (number_of (value_at 3 row))) e) h)

-- what the columns are made of
abbrev pub numbered : SchemaRows → List ℕ → ℕ → Option ColumnDef
numbered s table i = option_and_then (column_of_row s table) (numbered_row s table (i + 1))

pub columns_made : (s : SchemaRows) (table : List ℕ) (n : ℕ) (cols : List ColumnDef) → length (column_rows s table) ≡ n → 0 < n → all_present (tabulated n (numbered s table)) ≡ Some cols → columns_of s table ≡ Some cols
columns_made s table n cols e some h = rw e (by_test (nat_eq n 0) (λ t. let z : n ≡ 0 = eqb-true n 0 t in absurd (omega arith)) (λ t. rw t h))

pub columns_unmade : (s : SchemaRows) (table : List ℕ) → all_present (tabulated (length (column_rows s table)) (numbered s table)) ≡ None → columns_of s table ≡ None
columns_unmade s table h = by_test (nat_eq (length (column_rows s table)) 0) (λ t. rw t refl) (λ t. rw t h)

pub no_columns : (s : SchemaRows) (table : List ℕ) → length (column_rows s table) ≡ 0 → columns_of s table ≡ None
no_columns s table e = rw e refl

pub too_many : (s : SchemaRows) (table : List ℕ) → has_long_number s.columns ≡ false → is_schema_table table ≡ false → 32767 < length (column_rows s table) → columns_of s table ≡ None
too_many s table short plain h = columns_unmade s table (tabulated_absent (numbered s table) (length (column_rows s table)) 32767 h
    (ap (option_and_then (column_of_row s table)) (none_numbered s table (32767 + 1) short plain (omega arith))))

-- ---- the tables as such

present_step : {N C T : Type 0} (g : N × C → T) (n : N) (ns : List N) (o : Option C) (r : Option (List C)) (q : Option (List T)) → q ≡ option_map (λ cs. map g (zip ns cs)) r
    → option_and_then (λ x. option_map (λ xs. x ∷ xs) q) (option_map (λ c. g (n, c)) o) ≡ option_map (λ cs. map g (zip (n ∷ ns) cs)) (option_and_then (λ x. option_map (λ xs. x ∷ xs) r) o)
present_step g n ns None r q e = refl
present_step g n ns (Some c) None q e = rw e refl
present_step g n ns (Some c) (Some cs) q e = rw e refl

present_with : {N C T : Type 0} (f : N → Option C) (g : N × C → T) (ns : List N) → all_present (map (λ n. option_map (λ c. g (n, c)) (f n)) ns) ≡ option_map (λ cs. map g (zip ns cs)) (all_present (map f ns))
present_with f g [] = refl
present_with f g (n ∷ ns) = present_step g n ns (f n) (all_present (map f ns)) (all_present (map (λ n. option_map (λ c. g (n, c)) (f n)) ns)) (present_with f g ns)

abbrev Entry : Type 0
Entry = List ℕ × List ColumnDef

abbrev entry_cmp : Entry → Entry → Ordering
entry_cmp e f = list_cmp e.0 f.0

abbrev entry_tie : Entry → Entry → Bool
entry_tie e f = is_eq (entry_cmp e f)

one_put : {E : Type 0} (o r : Ordering) (a b : List E) (e y w : E) (ys : List E) → r ≡ ordering_reverse o → is_eq o ≡ false → a ≡ b
    → by_order o (e ∷ y ∷ ys) (w ∷ ys) (y ∷ a) ≡ (if is_lt r then y ∷ b else e ∷ y ∷ ys)
one_put Less r a b e y w ys q h t = rw q refl
one_put Equal r a b e y w ys q h t = cc
one_put Greater r a b e y w ys q h t = rw q (ap (λ (l : List _). y ∷ l) t)

put_is_placed : (e : Entry) (ys : Described) → AllByRecursion (λ y. entry_tie e y ≡ false) ys → put list_cmp e.0 e.1 ys ≡ placed entry_cmp e ys
put_is_placed e [] h = refl
put_is_placed e (y ∷ ys) h = one_put (list_cmp e.0 y.0) (list_cmp y.0 e.0) (put list_cmp e.0 e.1 ys) (placed entry_cmp e ys) e y (y.0, e.1) ys (names_total.antisymm y.0 e.0) h.0 (put_is_placed e ys h.1)

-- tables with names of their own, put in one by one, are sorted
by_name_sorts : (es : Described) → has_pair entry_tie es ≡ false → by_name es ≡ stable_sort entry_cmp es
by_name_sorts [] d = refl
by_name_sorts (e ∷ es) d =
    let g = or_parts (list_any (entry_tie e) es) (has_pair entry_tie es) d in
    ap (put list_cmp e.0 e.1) (by_name_sorts es g.1)
    ∙ put_is_placed e (stable_sort entry_cmp es) (all_sorted entry_cmp (order-weak (λ (f : Entry). f.0) list_cmp names_total) (λ y. entry_tie e y ≡ false) es (none_passes (entry_tie e) es g.0))

placed_map : {X Y : Type 0} (f : X → Y) (cmp : Y → Y → Ordering) (x : X) (ys : List X) → map f (placed (λ a b. cmp (f a) (f b)) x ys) ≡ placed cmp (f x) (map f ys)
placed_map f cmp x [] = refl
placed_map f cmp x (y ∷ ys) = by_test (is_lt (cmp (f y) (f x))) (λ t. rw t (ap (λ (l : List _). f y ∷ l) (placed_map f cmp x ys))) (λ t. rw t refl)

sort_map : {X Y : Type 0} (f : X → Y) (cmp : Y → Y → Ordering) (xs : List X) → map f (stable_sort (λ a b. cmp (f a) (f b)) xs) ≡ stable_sort cmp (map f xs)
sort_map f cmp [] = refl
sort_map f cmp (x ∷ xs) = placed_map f cmp x (stable_sort (λ a b. cmp (f a) (f b)) xs) ∙ ap (placed cmp (f x)) (sort_map f cmp xs)

-- ---- listed names are told apart

is_text_then : (v : Value) → is_text v ≡ true → v ≡ Str (text_of v)
is_text_then Null e = cc
is_text_then (Int n) e = cc
is_text_then (Str t) e = refl
is_text_then Binary e = cc

all_start : (rows : List (List Value)) → has_odd_name rows ≡ false → AllByRecursion StartsWithText rows
all_start [] e = tt
all_start (row ∷ rows) e =
    let g = or_parts (not (is_text (value_at 0 row))) (has_odd_name rows) e in
    (is_text_then (value_at 0 row) (not_not (is_text (value_at 0 row)) g.0), all_start rows g.1)
  where
    not_not : (b : Bool) → not b ≡ false → b ≡ true
    not_not true e = refl
    not_not false e = cc

names_once : (s : SchemaRows) → NoFault s → has_odd_name s.tables ≡ false → has_pair bytes_eq (listed_names s) ≡ false
names_once s n odd = has_pair-map bytes_eq (text_at 0) (counted s.tables)
    ∙ no_pair_weaker StartsWithText (share_key 1) (λ a b. bytes_eq (text_at 0 a) (text_at 0 b))
    (λ a b sa sb t. and_from _ true ((value_eq-Decides (value_at 0 a) (value_at 0 b)).1 (sa ∙ ap Str (texts_same (text_at 0 a) (text_at 0 b) t) ∙ sym sb)) refl)
    (counted s.tables) (all_kept StartsWithText is_counted s.tables (all_start s.tables odd)) n.tables_once

zip_none : (k : List ℕ) (ns : List (List ℕ)) (cs : List (List ColumnDef)) → list_any (bytes_eq k) ns ≡ false → list_any (λ e. is_eq (list_cmp k e.0)) (zip ns cs) ≡ false
zip_none k [] cs h = refl
zip_none k (n ∷ ns) [] h = refl
zip_none k (n ∷ ns) (c ∷ cs) h =
    let g = or_parts (bytes_eq k n) (list_any (bytes_eq k) ns) h in
    or_from (is_eq (list_cmp k n)) (list_any (λ (e : Entry). is_eq (list_cmp k e.0)) (zip ns cs)) (is_eq-slice_cmp k n ∙ g.0) (zip_none k ns cs g.1)

zip_apart : (ns : List (List ℕ)) (cs : List (List ColumnDef)) → has_pair bytes_eq ns ≡ false → has_pair entry_tie (zip ns cs) ≡ false
zip_apart [] cs h = refl
zip_apart (n ∷ ns) [] h = refl
zip_apart (n ∷ ns) (c ∷ cs) h =
    let g = or_parts (list_any (bytes_eq n) ns) (has_pair bytes_eq ns) h in
    or_from (list_any (λ (e : Entry). is_eq (list_cmp n e.0)) (zip ns cs)) (has_pair entry_tie (zip ns cs)) (zip_none n ns cs g.0) (zip_apart ns cs g.1)

-- the two tables that are always there aren't listed
unlisted : (name : List ℕ) (rows : List (List Value)) → is_schema_table name ≡ true → list_any (bytes_eq name) (map (text_at 0) (counted rows)) ≡ false
unlisted name [] h = refl
unlisted name (row ∷ rows) h = by_test (is_counted row)
    (λ t. rw t (or_from (bytes_eq name (text_at 0 row)) (list_any (bytes_eq name) (map (text_at 0) (counted rows)))
    (false_from_ne_true (bytes_eq name (text_at 0 row)) (λ e. yes_is_no (is_schema_table (text_at 0 row)) (ap is_schema_table (sym (texts_same name (text_at 0 row) e)) ∙ h) (not_true (is_schema_table (text_at 0 row)) t)))
    (unlisted name rows h)))
    (λ t. rw t (unlisted name rows h))
  where
    not_true : (b : Bool) → not b ≡ true → b ≡ false
    not_true true e = cc
    not_true false e = refl

all_apart : (s : SchemaRows) (cols : List (List ColumnDef)) → NoFault s → has_odd_name s.tables ≡ false → has_pair entry_tie (both_first s cols) ≡ false
all_apart s cols n odd =
    let listed = listed_names s in
    or_from (list_any (entry_tie (tables_name, tables_columns)) ((columns_name, columns_columns) ∷ zip listed cols)) (has_pair entry_tie ((columns_name, columns_columns) ∷ zip listed cols))
    (zip_none tables_name listed cols (unlisted tables_name s.tables refl))
    (or_from (list_any (entry_tie (columns_name, columns_columns)) (zip listed cols)) (has_pair entry_tie (zip listed cols)) (zip_none columns_name listed cols (unlisted columns_name s.tables refl)) (zip_apart listed cols (names_once s n odd)))

-- ---- what is read is what the rows describe

chosen : {X Y : Type 0} (a b c : Bool) (m : X → Y) (r : Option X) → a ≡ false → b ≡ false → c ≡ false → (if a || b then None else option_map m (if c then None else r)) ≡ option_map m r
chosen a b c m r e f g = rw (e, f, g) refl

sorts_listed : (long : Bool) (s : SchemaRows) (o : Option (List (List ColumnDef))) → NoFault s → has_odd_name s.tables ≡ false
    → option_map (map (table_with long)) (option_map (λ columns. by_name (both_first s columns)) o) ≡ option_map (λ listed. stable_sort by_names (with_system long listed)) (option_map (λ columns. map (table_with long) (zip (listed_names s) columns)) o)
sorts_listed long s None n odd = refl
sorts_listed long s (Some cols) n odd =
    ap Some (ap (map (table_with long)) (by_name_sorts (both_first s cols) (all_apart s cols n odd)) ∙ sort_map (table_with long) by_names (both_first s cols))

pub tables_are : (long : Bool) (s : SchemaRows) → has_odd_name s.tables ≡ false → has_long_number s.columns ≡ false → is_faulty s ≡ false
    → tables_of long s ≡ option_map (λ listed. stable_sort by_names (with_system long listed)) (listed_tables long s)
tables_are long s odd short sound =
    chosen (has_odd_name s.tables) (has_long_number s.columns) (is_faulty s) (map (table_with long)) (option_map (λ columns. by_name (both_first s columns)) (all_present (map (columns_of s) (listed_names s)))) odd short sound
    ∙ sorts_listed long s (all_present (map (columns_of s) (listed_names s))) (no_fault s sound) odd
    ∙ ap (option_map (λ listed. stable_sort by_names (with_system long listed))) (sym (present_with (columns_of s) (table_with long) (listed_names s)))

refused_then : {X Y : Type 0} (a c : Bool) (m : X → Y) (r : Option X) → c ≡ true → (if a then None else option_map m (if c then None else r)) ≡ None
refused_then true c m r e = refl
refused_then false c m r e = rw e refl

pub tables_faulty : (long : Bool) (s : SchemaRows) → is_faulty s ≡ true → tables_of long s ≡ None
tables_faulty long s e = refused_then (has_odd_name s.tables || has_long_number s.columns) (is_faulty s) (map (table_with long)) (option_map (λ columns. by_name (both_first s columns)) (all_present (map (columns_of s) (listed_names s)))) e

-- where a listed table can't be read, nothing is described
pub tables_unread : (long : Bool) (s : SchemaRows) → has_odd_name s.tables ≡ false → has_long_number s.columns ≡ false → listed_tables long s ≡ None → tables_of long s ≡ None
tables_unread long s odd short e = by_test (is_faulty s) (tables_faulty long s)
    (λ t. tables_are long s odd short t ∙ ap (option_map (λ listed. stable_sort by_names (with_system long listed))) e)

-- ---- listed tables, one by one

each_listed : (long : Bool) (s u : SchemaRows) → ((name : List ℕ) → is_schema_table name ≡ false → columns_of u name ≡ columns_of s name)
    → (rows : List (List Value)) → map (listed_table long u) (map (text_at 0) (counted rows)) ≡ map (listed_table long s) (map (text_at 0) (counted rows))
each_listed long s u same [] = refl
each_listed long s u same (row ∷ rows) = by_test (is_counted row)
    (λ t. rw t (λ i. option_map (λ columns. table_with long (text_at 0 row, columns)) (same (text_at 0 row) (not_true (is_schema_table (text_at 0 row)) t) i) ∷ each_listed long s u same rows i))
    (λ t. rw t (each_listed long s u same rows))
  where
    not_true : (b : Bool) → not b ≡ true → b ≡ false
    not_true true e = cc
    not_true false e = refl

pub listed_sorted : (long : Bool) (s : SchemaRows)
    → listed_tables long (record { tables = s.tables; columns = stable_sort by_numbers s.columns; validation = stable_sort (by_texts 1) s.validation }) ≡ listed_tables long s
listed_sorted long s = ap all_present (each_listed long s (sorted_rows s) (columns_sorted s) s.tables)

-- faults don't depend on the order of rows
pub faulty_reordered : (s u : SchemaRows) → IsReordered s u → is_faulty u ≡ is_faulty s
faulty_reordered s u same = by_test (is_faulty s)
    (λ t. by_test (is_faulty u) (λ v. v ∙ sym t) (λ v. yes_is_no (is_faulty s) t (not_faulty s (sound_reordered u s (record { tables = IsPermutation-sym s.tables u.tables same.tables; columns = IsPermutation-sym s.columns u.columns same.columns; validation = IsPermutation-sym s.validation u.validation same.validation }) (no_fault u v)))))
    (λ t. not_faulty u (sound_reordered s u same (no_fault s t)) ∙ sym t)
