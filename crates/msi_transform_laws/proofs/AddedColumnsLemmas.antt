-- The columns that the records of `_Columns` of a transform that is made add to a table.
use Rattle.std.proofs.Common.{◌≡◌, ℕ, suc, ◌+◌, ◌*◌, ◌≤◌, Bool, true, false, not, ◌&&◌, ◌||◌, List, [], ◌∷◌, ◌++◌, length, map, refl, sym, ap, subst, ◌∙◌, arith, append-nil, append_assoc, length-append}
use Rattle.std.specs.Prelude.{pos, Option, Some, unwrap_or, if◌then◌else◌, nat_le, bytes_eq}
use Rattle.std.specs.Cmp.{tied_itself}
use Rattle.std.specs.FinMap.{find, put}
use Rattle.std.specs.FinMap.Entries.{find-put}
use Rattle.std.specs.List.{list_any}
use Rattle.std.specs.Ordering.{eq_by_cmp}
use Rattle.std.proofs.lemmas.Bool.{lt-leb}
use Rattle.std.proofs.lemmas.List.{map-append}
use Rattle.msi_base.specs.Lists.{has_pair, list_cmp}
use Rattle.msi_base.proofs.BoolLemmas.{yes_is_no}
use Rattle.msi_table_values.specs.declared.value.Value.{Value}
use Rattle.msi_table_values.specs.declared.value.Value.TheVariants.{Null, Int, Str, Binary}
use Rattle.msi_table_values.specs.Columns.{ColumnDef, has_column}
use Rattle.msi_database_changes.specs.Database.{Database}
use Rattle.msi_transform_records.specs.declared.action.Action.TheVariants.{Add}
use Rattle.msi_transform_records.specs.declared.shape.Shape.{Shape}
use Rattle.msi_transform.specs.Transforms.{shapes_of}
use Rattle.msi_transform_schema.specs.SchemaChanges.{TableInHand, TablesTold, columns_in_hand, columns_of_package, is_added, table_in_hand, untold_table}
use Rattle.msi_transform_schema.specs.declared.schema.Standing.{Standing}
use Rattle.msi_transform_making.specs.Making.{describing_record}
use Rattle.msi_transform_laws.specs.RecordsRead.{action_and_values}
use Rattle.msi_transform_laws.specs.RowsApplied.{texts_in}
use Rattle.msi_transform_laws.specs.SchemaApplied.{CanAddColumn, CanAddColumns, ColumnToAdd, IsKeptOrAdded, IsNumber, record_of_column, texts_of_columns, with_column_added, with_columns_added}
use Rattle.msi_transform_laws.specs.SchemaMade.{AreDescribed, shape_of}
use Rattle.msi_transform_laws.proofs.StoredRecordsLemmas.{names_total}

neither : (a b : Bool) → (a || b) ≡ false → (a ≡ false) × (b ≡ false)
neither true b h = yes_is_no true refl h
neither false b h = (refl, h)

-- COLUMNS THAT ARE ADDED, AS RECORDS SAY THEM

abbrev pub number_if : Bool → ℕ → Value
number_if kept n = if kept then Int (pos n) else Null

abbrev pub to_add : Bool → (table : List ℕ) (number : ℕ) (rows : List (List Value)) (cs : List ColumnDef) → AreDescribed table number rows cs → List ColumnToAdd
to_add kept table n [] [] are = []
to_add kept table n [] (c ∷ cs) are = []
to_add kept table n (row ∷ rows) [] are = []
to_add kept table n (row ∷ rows) (c ∷ cs) are =
    record { table = table; number = number_if kept n; name = are.0.name; bits = are.0.bits; column = are.0.column } ∷ to_add kept table (n + 1) rows cs are.1

-- and the columns alone
abbrev pub columns_to_add : (table : List ℕ) (number : ℕ) (rows : List (List Value)) (cs : List ColumnDef) → AreDescribed table number rows cs → List ColumnDef
columns_to_add table n [] [] are = []
columns_to_add table n [] (c ∷ cs) are = []
columns_to_add table n (row ∷ rows) [] are = []
columns_to_add table n (row ∷ rows) (c ∷ cs) are = are.0.column ∷ columns_to_add table (n + 1) rows cs are.1

pub same_records : (kept : Bool) (table : List ℕ) (n : ℕ) (rows : List (List Value)) (cs : List ColumnDef) (are : AreDescribed table n rows cs)
    → map action_and_values (map (describing_record kept) rows) ≡ map action_and_values (map record_of_column (to_add kept table n rows cs are))
same_records kept table n [] [] are = refl
same_records kept table n [] (c ∷ cs) are = refl
same_records kept table n (row ∷ rows) [] are = absurd are
same_records kept table n (row ∷ rows) (c ∷ cs) are =
    let first : action_and_values (describing_record kept row) ≡ (Add 4, Str table ∷ number_if kept n ∷ are.0.name ∷ are.0.bits ∷ []) =
    ap (λ (r : List Value). action_and_values (describing_record kept r)) are.0.row_is in
    λ i. first i ∷ same_records kept table (n + 1) rows cs are.1 i

three : (a b : Value) → texts_in (a ∷ b ∷ []) ≤ 2
three Null Null = omega arith
three Null (Int n) = omega arith
three Null (Str u) = omega arith
three Null Binary = omega arith
three (Int m) Null = omega arith
three (Int m) (Int n) = omega arith
three (Int m) (Str u) = omega arith
three (Int m) Binary = omega arith
three (Str t) Null = omega arith
three (Str t) (Int n) = omega arith
three (Str t) (Str u) = omega arith
three (Str t) Binary = omega arith
three Binary Null = omega arith
three Binary (Int n) = omega arith
three Binary (Str u) = omega arith
three Binary Binary = omega arith

pub few_texts : (kept : Bool) (table : List ℕ) (n : ℕ) (rows : List (List Value)) (cs : List ColumnDef) (are : AreDescribed table n rows cs) → texts_of_columns (to_add kept table n rows cs are) ≤ length rows * 3
few_texts kept table n [] [] are = omega arith
few_texts kept table n [] (c ∷ cs) are = omega arith
few_texts kept table n (row ∷ rows) [] are = omega arith
few_texts kept table n (row ∷ rows) (c ∷ cs) are = omega (arith, three are.0.name are.0.bits, few_texts kept table (n + 1) rows cs are.1)

pub same_shapes : (table : List ℕ) (n : ℕ) (rows : List (List Value)) (cs : List ColumnDef) (are : AreDescribed table n rows cs) → shapes_of (columns_to_add table n rows cs are) ≡ shapes_of cs
same_shapes table n [] [] are = refl
same_shapes table n [] (c ∷ cs) are = absurd are
same_shapes table n (row ∷ rows) [] are = absurd are
same_shapes table n (row ∷ rows) (c ∷ cs) are = λ i. are.0.same_shape i ∷ same_shapes table (n + 1) rows cs are.1 i

-- NAMES OF COLUMNS

abbrev pub names_of : List ColumnDef → List (List ℕ)
names_of columns = map (λ (c : ColumnDef). c.name) columns

column_names : (name : List ℕ) (columns : List ColumnDef) → has_column name columns ≡ list_any (λ (n : List ℕ). bytes_eq n name) (names_of columns)
column_names name [] = refl
column_names name (c ∷ columns) = ap (λ b. bytes_eq c.name name || b) (column_names name columns)

first_apart : (xs : List (List ℕ)) (x y : List ℕ) (ys : List (List ℕ)) → list_any (bytes_eq x) (xs ++ y ∷ ys) ≡ false → bytes_eq x y ≡ false
first_apart [] x y ys h = (neither (bytes_eq x y) (list_any (bytes_eq x) ys) h).0
first_apart (w ∷ xs) x y ys h = first_apart xs x y ys (neither (bytes_eq x w) (list_any (bytes_eq x) (xs ++ y ∷ ys)) h).1

apart_before : (xs : List (List ℕ)) (y : List ℕ) (ys : List (List ℕ)) → has_pair bytes_eq (xs ++ y ∷ ys) ≡ false → list_any (λ (n : List ℕ). bytes_eq n y) xs ≡ false
apart_before [] y ys h = refl
apart_before (x ∷ xs) y ys h =
    let p = neither (list_any (bytes_eq x) (xs ++ y ∷ ys)) (has_pair bytes_eq (xs ++ y ∷ ys)) h in
    rw (first_apart xs x y ys p.0, apart_before xs y ys p.1) refl

-- THE COLUMNS OF ONE TABLE, one after the other

key_by : (key added : Bool) → (added ≡ false → key ≡ false) → (key && not added) ≡ false
key_by true true h = refl
key_by true false h = h refl
key_by false added h = refl

pub many_names : (columns : List ColumnDef) → length (names_of columns) ≡ length columns
many_names [] = refl
many_names (c ∷ columns) = ap suc (many_names columns)

pub shapes_joined : (one other : List ColumnDef) → shapes_of (one ++ other) ≡ shapes_of one ++ shapes_of other
shapes_joined [] other = refl
shapes_joined (c ∷ one) other = ap (λ (l : List Shape). shape_of c ∷ l) (shapes_joined one other)

module _ (d : Database) (name : List ℕ) (standing : Standing) (stood : IsKeptOrAdded standing) (kept : Bool)
    (numbered : (n : ℕ) → IsNumber n (number_if kept n)) where
  abbrev Table : TablesTold → List ColumnDef → Type 0
  Table tables added = table_in_hand d tables name ≡ record { standing = standing; added = added }

  abbrev package_columns : List ColumnDef
  package_columns = columns_of_package d name standing

  -- a table that gets a column
  put_found : (tables : TablesTold) (table : TableInHand) → table_in_hand d (put list_cmp name table tables) name ≡ table
  put_found tables table =
      let found : find list_cmp name (put list_cmp name table tables) ≡ Some table = rw (find-put list_cmp names_total name name table tables, tied_itself names_total name) refl in
      ap (λ (o : Option TableInHand). unwrap_or o (untold_table d name)) found

  other_found : (other : List ℕ) (tables : TablesTold) (table : TableInHand) → eq_by_cmp list_cmp other name ≡ false → find list_cmp other (put list_cmp name table tables) ≡ find list_cmp other tables
  other_found other tables table apart = find-put list_cmp names_total other name table tables ∙ rw apart refl

  abbrev Others : TablesTold → TablesTold → Type 0
  Others before after = (other : List ℕ) → eq_by_cmp list_cmp other name ≡ false → find list_cmp other after ≡ find list_cmp other before

  pub all_added : (n : ℕ) (rows : List (List Value)) (cs : List ColumnDef) (are : AreDescribed name n rows cs) (tables : TablesTold) (added front : List ColumnDef)
      → Table tables added → names_of (package_columns ++ added) ≡ names_of front → length front + 1 ≡ n → has_pair bytes_eq (names_of (front ++ cs)) ≡ false → length (front ++ cs) ≤ 32
      → (is_added standing ≡ false → list_any (λ (c : ColumnDef). c.is_primary_key) cs ≡ false)
      → CanAddColumns d tables (to_add kept name n rows cs are) × Table (with_columns_added d tables (to_add kept name n rows cs are)) (added ++ columns_to_add name n rows cs are)
      × Others tables (with_columns_added d tables (to_add kept name n rows cs are))
  all_added n [] [] are tables added front table same long apart few keys = (tt, table ∙ ap (λ (l : List ColumnDef). record { standing = standing; added = l }) (sym (append-nil added)), (λ other h. refl))
  all_added n [] (c ∷ cs) are tables added front table same long apart few keys = absurd are
  all_added n (row ∷ rows) [] are tables added front table same long apart few keys = absurd are
  all_added n (row ∷ rows) (c ∷ cs) are tables added front table same long apart few keys =
      let column = are.0.column in
      let adding : ColumnToAdd = record { table = name; number = number_if kept n; name = are.0.name; bits = are.0.bits; column = column } in
      let next = with_column_added d tables adding in
      let columns = package_columns ++ added in
      let columns_are : columns_in_hand d name (table_in_hand d tables name) ≡ columns = ap (columns_in_hand d name) table in
      let standing_is : (table_in_hand d tables name).standing ≡ standing = ap (λ (t : TableInHand). t.standing) table in
      let many : length columns ≡ length front = sym (many_names columns) ∙ ap (λ (l : List (List ℕ)). length l) same ∙ many_names front in
      let apart_names : list_any (λ (m : List ℕ). bytes_eq m c.name) (names_of front) ≡ false =
      apart_before (names_of front) c.name (names_of cs) (ap (has_pair bytes_eq) (sym (map-append (λ (c : ColumnDef). c.name) front (c ∷ cs))) ∙ apart) in
      let whole : length (front ++ c ∷ cs) ≤ 32 = few in
      let can : CanAddColumn d tables adding = record {
        described = are.0.column_is;
        stands = subst IsKeptOrAdded (sym standing_is) stood;
        next = subst (λ (m : ℕ). IsNumber m (number_if kept n)) (sym (ap (λ (l : List ColumnDef). length l + 1) columns_are ∙ ap (λ (m : ℕ). m + 1) many ∙ long)) (numbered n);
        apart = ap (has_column column.name) columns_are ∙ column_names column.name columns
            ∙ (λ i. list_any (λ (m : List ℕ). bytes_eq m (are.0.same_name i)) (same i)) ∙ apart_names;
        plain = key_by column.is_primary_key (is_added (table_in_hand d tables name).standing)
            (λ s. ap (λ (x : Shape). x.is_key) are.0.same_shape ∙ (neither c.is_primary_key (list_any (λ (c : ColumnDef). c.is_primary_key) cs) (keys (sym (ap is_added standing_is) ∙ s))).0);
        few = ap (λ (l : List ColumnDef). nat_le 32 (length l)) columns_are ∙ lt-leb 32 (length columns) (omega (arith, many, whole, length-append front (c ∷ cs)));
      } in
      let added_now = added ++ column ∷ [] in
      let table_now : Table next added_now = put_found tables _ ∙ (λ i. record { standing = (table i).standing; added = (table i).added ++ column ∷ [] }) in
      let same_now : names_of (package_columns ++ added_now) ≡ names_of (front ++ c ∷ []) =
      ap names_of (sym (append_assoc package_columns added (column ∷ []))) ∙ map-append (λ (c : ColumnDef). c.name) columns (column ∷ [])
      ∙ (λ i. same i ++ are.0.same_name i ∷ []) ∙ sym (map-append (λ (c : ColumnDef). c.name) front (c ∷ [])) in
      let behind : front ++ c ∷ cs ≡ (front ++ c ∷ []) ++ cs = sym (append_assoc front (c ∷ []) cs) in
      let rest = all_added (n + 1) rows cs are.1 next added_now (front ++ c ∷ []) table_now same_now
      (omega (arith, long, length-append front (c ∷ []))) (ap (λ (l : List ColumnDef). has_pair bytes_eq (names_of l)) (sym behind) ∙ apart)
      (subst (λ (l : List ColumnDef). length l ≤ 32) behind few)
      (λ s. (neither c.is_primary_key (list_any (λ (c : ColumnDef). c.is_primary_key) cs) (keys s)).1) in (
        (can, rest.0),
        rest.1 ∙ ap (λ (l : List ColumnDef). record { standing = standing; added = l }) (append_assoc added (column ∷ []) (columns_to_add name (n + 1) rows cs are.1)),
        (λ other h. rest.2 other h ∙ other_found other tables _ h),
      )
