-- What follows for a new table from its being accepted.
use Rattle.std.proofs.Common.{◌≡◌, ℕ, ◌+◌, Bool, true, false, List, [], ◌∷◌, ◌++◌, length, refl, sym, ap, ◌∙◌, arith, Some, None}
use Rattle.std.specs.Prelude.{◌&&◌, ◌||◌, not, map, bytes_eq, nat_le, nat_lt, ◌==◌, if◌then◌else◌}
use Rattle.std.specs.List.{AllByRecursion, list_all, list_any}
use Rattle.std.specs.FinMap.{find as find_in}
use Rattle.std.specs.Ordering.{is_eq}
use Rattle.std.specs.Cmp.{tied_itself}
use Rattle.std.specs.Cmp.Lexicographic.{lists_total}
use Rattle.std.proofs.lemmas.Bool.Decides.{nat_tests}
use Rattle.std.proofs.lemmas.Bool.{or_parts, and_parts, false_from_ne_true, not-false, not-true}
use Rattle.msi_categories.specs.CategoryRules.{is_identifier}
use Rattle.msi_base.specs.declared.errors.ErrorKind.TheVariants.{AlreadyExists, InvalidData, InvalidInput}
use Rattle.msi_base.specs.Lists.{has_pair, list_cmp}
use Rattle.msi_pool.specs.Pool.{Place}
use Rattle.msi_table_values.specs.declared.value.Value.{Value}
use Rattle.msi_table_values.specs.declared.value.Value.TheVariants.{Null, Str}
use Rattle.msi_table_values.specs.declared.column.ColumnType.{ColumnType}
use Rattle.msi_table_values.specs.declared.column.ColumnType.TheVariants as coltype
use Rattle.msi_table_values.specs.Columns.{ColumnDef, HasShortLength, IsPlainIfBinary}
use Rattle.msi_table_values.specs.OrderLaws.{value_cmp-total}
use Rattle.msi_base.specs.Refusals.{Refusals, first_refusal}
use Rattle.msi_database_changes.specs.Database.{Database, are_alike, rows_of, same_bool}
use Rattle.msi_table_cells.specs.TableCells.{TableCells}
use Rattle.msi_table_cells.specs.KeyOrder.{key_of, same_key}
use Rattle.msi_database_schema.specs.Keys.{is_pool_name, is_table_name}
use Rattle.msi_database_schema.specs.System.{validation_columns}
use Rattle.msi_database_changes.specs.Insert.{row_fits, keys_of, row_refusals}
use Rattle.msi_database_changes.specs.KeySets.{key_refusals}
use Rattle.msi_database_changes.specs.Create.{columns_are_named, is_binary, is_too_long, table_refusals}
use Rattle.msi_database_schema.specs.Description.{validation_row, validation_rows}
use Rattle.msi_database_schema.specs.Schema.{SchemaRows, schema_of, share_key}
use Rattle.msi_database_schema.proofs.ColumnBackLemmas.{IsDescribable}
use Rattle.msi_base.proofs.ListLemmas.{all_at, all_from, none_pass, none_passes, list_any-map}
use Rattle.msi_base.proofs.BoolLemmas.{yes_is_no}
use Rattle.msi_database_schema.proofs.SchemaLemmas.{Described}
use Rattle.msi_database_schema.proofs.AddedRowsLemmas.{IsNew}
use Rattle.msi_database_schema.proofs.AddedLemmas.{not_described, shared_first, shared_second}
use Rattle.msi_database_changes.proofs.steps.RefusedLemmas.{first_fails, front_fails, none_holds}

-- ---- refusals that don't hold

-- ---- columns

pub short_length : (type : ColumnType) → is_too_long type ≡ false → HasShortLength type
short_length coltype.Int16 e = tt
short_length coltype.Int32 e = tt
short_length (coltype.Str n) e = grind (arith, nat_tests)
short_length coltype.Binary e = tt

binary_is : (type : ColumnType) → type ≡ coltype.Binary → is_binary type ≡ true
binary_is type e = ap is_binary e

plain_binary : (c : ColumnDef) → (is_binary c.coltype && (c.is_primary_key || c.is_localizable)) ≡ false → IsPlainIfBinary c
plain_binary c e is =
    let g = or_parts c.is_primary_key c.is_localizable (rw (binary_is c.coltype is) at e) in (g.1, g.0)

pub describable : (columns : List ColumnDef) → list_any (λ c. is_too_long c.coltype) columns ≡ false → list_any (λ c. is_binary c.coltype && (c.is_primary_key || c.is_localizable)) columns ≡ false
    → list_any (λ c. list_any (list_any (λ b. b == 59)) c.enum_values) columns ≡ false → AllByRecursion IsDescribable columns
describable [] e f g = tt
describable (c ∷ cs) e f g =
    let a = or_parts _ _ e in let b = or_parts _ _ f in let d = or_parts _ _ g in
    (record { short = short_length c.coltype (a.0); plain = plain_binary c (b.0); values = d.0 }, describable cs (a.1) (b.1) (d.1))

-- ---- keys of `_Validation`

flags_alike : (columns others : List ColumnDef) → are_alike columns others ≡ true → map (λ c. c.is_primary_key) columns ≡ map (λ c. c.is_primary_key) others
flags_alike [] [] e = refl
flags_alike [] (d ∷ ds) e = cc
flags_alike (c ∷ cs) [] e = cc
flags_alike (c ∷ cs) (d ∷ ds) e = let f = and_parts _ (are_alike cs ds) e in λ i. same (c.is_primary_key) (d.is_primary_key) ((and_parts _ _ (f.0)).1) i ∷ flags_alike cs ds f.1 i
  where
    same : (a b : Bool) → same_bool a b ≡ true → a ≡ b
    same true b e = sym e
    same false b e = sym (not-true b e)

-- the parts at flags
abbrev pub parts_at : List Bool → List Value → List Value
parts_at [] vs = []
parts_at (b ∷ bs) [] = []
parts_at (b ∷ bs) (v ∷ vs) = if b then v ∷ parts_at bs vs else parts_at bs vs

pub key_by_flags : (columns : List ColumnDef) (row : List Value) → key_of columns row ≡ parts_at (map (λ c. c.is_primary_key) columns) row
key_by_flags [] vs = refl
key_by_flags (c ∷ cs) [] = refl
key_by_flags (c ∷ cs) (v ∷ vs) = λ i. if c.is_primary_key then v ∷ key_by_flags cs vs i else key_by_flags cs vs i

pub no_parts : (bs : List Bool) (vs : List Value) → AllByRecursion (λ b. b ≡ false) bs → parts_at bs vs ≡ []
no_parts [] vs a = refl
no_parts (b ∷ bs) [] a = refl
no_parts (b ∷ bs) (v ∷ vs) a = rw (a.0) (no_parts bs vs (a.1))

validation_key : (columns : List ColumnDef) (v w : Value) (row : List Value) → are_alike columns validation_columns ≡ true → key_of columns (v ∷ w ∷ row) ≡ v ∷ w ∷ []
validation_key columns v w row e = key_by_flags columns (v ∷ w ∷ row) ∙ ap (λ (bs : List Bool). parts_at bs (v ∷ w ∷ row)) (flags_alike columns validation_columns e)
    ∙ ap (λ (l : List Value). v ∷ w ∷ l) (no_parts (false ∷ false ∷ false ∷ false ∷ false ∷ false ∷ false ∷ false ∷ []) row (refl, (refl, (refl, (refl, (refl, (refl, (refl, (refl, tt)))))))))

pub key_itself : (k : List Value) → same_key k k ≡ true
key_itself k = ap is_eq (tied_itself (lists_total value_cmp-total) k)

-- rows that share the first two values have one key
one_key : (columns : List ColumnDef) (name : List ℕ) (c : ColumnDef) (row : List Value) → are_alike columns validation_columns ≡ true → share_key 2 (validation_row name c) row ≡ true → same_key (key_of columns (validation_row name c)) (key_of columns row) ≡ true
one_key columns name c [] alike t = let e : Str name ≡ Null = shared_first 1 (validation_row name c) [] t in cc
one_key columns name c (v ∷ []) alike t = let e : Str c.name ≡ Null = shared_second (validation_row name c) (v ∷ []) t in cc
one_key columns name c (v ∷ w ∷ vs) alike t =
    let e : Str name ≡ v = shared_first 1 (validation_row name c) (v ∷ w ∷ vs) t in
    let f : Str c.name ≡ w = shared_second (validation_row name c) (v ∷ w ∷ vs) t in
    let same : key_of columns (validation_row name c) ≡ key_of columns (v ∷ w ∷ vs) = validation_key columns _ _ _ alike ∙ (λ i. e i ∷ f i ∷ []) ∙ sym (validation_key columns v w vs alike) in
    ap (same_key (key_of columns (validation_row name c))) (sym same) ∙ key_itself (key_of columns (validation_row name c))

-- keys that aren't refused are none of those that are held
pub keys_free : (held earlier keys : List (List Value)) → first_refusal (key_refusals held earlier keys) ≡ None → AllByRecursion (λ k. list_any (same_key k) held ≡ false) keys
keys_free held earlier [] e = tt
keys_free held earlier (k ∷ ks) e =
    let rest = key_refusals held (k ∷ earlier) ks in
    let g = first_fails (list_any (same_key k) held) AlreadyExists ((list_any (same_key k) earlier, InvalidInput) ∷ rest) e in
    let h = first_fails (list_any (same_key k) earlier) InvalidInput rest (g.1) in (g.0, keys_free held (k ∷ earlier) ks (h.1))

pub no_stale_row : (validation : List ColumnDef) (rows : List (List Value)) (name : List ℕ) (columns : List ColumnDef) → are_alike validation validation_columns ≡ true
    → AllByRecursion (λ k. list_any (same_key k) (map (key_of validation) rows) ≡ false) (map (key_of validation) (validation_rows name columns))
    → AllByRecursion (λ c. list_any (share_key 2 (validation_row name c)) rows ≡ false) columns
no_stale_row validation rows name [] alike a = tt
no_stale_row validation rows name (c ∷ cs) alike a = (
  none_pass (share_key 2 (validation_row name c)) rows (all_from (λ row. share_key 2 (validation_row name c) row ≡ false) rows (λ row h. false_from_ne_true _ (λ t.
      yes_is_no _ (one_key validation name c row alike t)
      (all_at (λ r. same_key (key_of validation (validation_row name c)) (key_of validation r) ≡ false) rows row
      (none_passes (λ r. same_key (key_of validation (validation_row name c)) (key_of validation r)) rows (sym (list_any-map (same_key (key_of validation (validation_row name c))) (key_of validation) rows) ∙ a.0)) h)))),
  no_stale_row validation rows name cs alike (a.1),
)

-- rows of `_Validation` that were accepted have keys that no row of it had
pub accepted_keys : (places : List Place) (t : TableCells) (rows : List (List Value)) → first_refusal (row_refusals places t rows) ≡ None
    → AllByRecursion (λ k. list_any (same_key k) (keys_of places t) ≡ false) (map (key_of t.columns) rows)
accepted_keys places t rows e =
    let keys : Refusals = key_refusals (keys_of places t) [] (map (key_of t.columns) rows) in
    let full : Refusals = (nat_lt 65536 (length (rows_of t) + length rows), InvalidInput) ∷ [] in
    let fit : Refusals = map (λ row. (not (row_fits t.columns row), InvalidInput)) rows in
    let a = front_fails (fit ++ ((has_pair same_key (keys_of places t), InvalidData) ∷ keys)) full e in
    let b = front_fails fit ((has_pair same_key (keys_of places t), InvalidData) ∷ keys) (a.0) in
    let c = first_fails (has_pair same_key (keys_of places t)) InvalidData keys (b.1) in
    keys_free (keys_of places t) [] (map (key_of t.columns) rows) (c.1)

-- ---- the table

some_columns : (columns : List ColumnDef) → not (nat_le 1 (length columns) && nat_le (length columns) 32) ≡ false → (length columns == 0) ≡ false
some_columns [] e = let t : nat_le 1 0 ≡ true = (and_parts (nat_le 1 0) true (not-false (nat_le 1 0 && true) e)).0 in cc
some_columns (c ∷ cs) e = grind (arith, nat_tests)

-- what an accepted table is
pub record IsAccepted (name : List ℕ) (columns : List ColumnDef) : Type 0 where
  pub named : is_table_name name ≡ true
  pub some_column : (length columns == 0) ≡ false
  pub describable : AllByRecursion IsDescribable columns
  pub names_once : has_pair (λ c d. bytes_eq c.name d.name) columns ≡ false

pub accepted : (d : Database) (name : List ℕ) (columns : List ColumnDef) → first_refusal (table_refusals d name columns) ≡ None → IsAccepted name columns
accepted d name columns e =
    let a = none_holds (table_refusals d name columns) e in
    record {
      named = not-false (is_table_name name) (a.0);
      some_column = some_columns columns (a.1.0);
      describable = describable columns (a.1.1.1.1.0) (a.1.1.1.1.1.0) (a.1.1.1.1.1.1.0);
      names_once = not-true _ ((and_parts (list_all (λ c. is_identifier c.name) columns) _ (not-false (columns_are_named columns) (a.1.1.1.0))).1);
    }

-- such a table can be added where its name isn't described yet, and no row of `_Validation` has the key of one of its rows
pub is_new : (s : SchemaRows) (name : List ℕ) (columns : List ColumnDef) (ts : Described) (validation : List ColumnDef) → schema_of s ≡ Some ts → find_in list_cmp name ts ≡ None
    → IsAccepted name columns → are_alike validation validation_columns ≡ true
    → AllByRecursion (λ k. list_any (same_key k) (map (key_of validation) s.validation) ≡ false) (map (key_of validation) (validation_rows name columns)) → IsNew s name columns
is_new s name columns ts validation e none ok alike keys = not_described s name ts e none (λ free unlisted. record {
  not_listed = unlisted;
  not_reserved = free;
  not_pool = not-true (is_pool_name name) ((and_parts _ (not (is_pool_name name)) ok.named).1);
  some_column = ok.some_column;
  describable = ok.describable;
  names_once = ok.names_once;
  no_stale_row = no_stale_row validation s.validation name columns alike keys;
})
