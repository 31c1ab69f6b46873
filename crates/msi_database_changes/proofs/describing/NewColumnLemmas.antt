-- The rows of a column that is added to a table break no rule, and give it back behind the others.
use Rattle.std.proofs.Common.{◌≡◌, ℕ, zero, suc, ◌+◌, ◌<◌, Bool, true, false, List, [], ◌∷◌, ◌++◌, length, refl, sym, ap, subst, ◌∙◌, Some, None, arith, inl, inr, pos, w16}
use Rattle.std.specs.Prelude.{◌&&◌, ◌||◌, not, Option, map, option_map, option_and_then, is_some, if◌then◌else◌, find, bytes_eq, ◌==◌}
use Rattle.std.specs.List.{list_any}
use Rattle.std.specs.FinMap.{put, find as find_in}
use Rattle.std.specs.FinMap.Entries.{find-put, is_sorted-put}
use Rattle.std.specs.Cmp.{nat_cmp_total}
use Rattle.std.specs.Cmp.Lexicographic.{lists_total}
use Rattle.std.proofs.Math.Bool.{and-false}
use Rattle.std.proofs.lemmas.Bool.{or_parts, or_from, or_right, false_from_ne_true}
use Rattle.std.proofs.lemmas.Bool.Decides.{nat_tests}
use Rattle.msi_base.specs.Lists.{all_present, list_cmp, numbers_from}
use Rattle.msi_base.proofs.BoolLemmas.{by_test, yes_is_no}
use Rattle.msi_base.proofs.ListLemmas.{In, all_at, all_from, any_at, none_pass, none_passes}
use Rattle.msi_table_values.specs.declared.value.Value.{Value}
use Rattle.msi_table_values.specs.declared.value.Value.TheVariants.{Str}
use Rattle.msi_table_values.specs.declared.column.ColumnType.{ColumnType}
use Rattle.msi_table_values.specs.Columns.{ColumnDef, begun_column, column_of_bits, type_of_bits, with_bits}
use Rattle.msi_table_values.specs.Values.{is_null}
use Rattle.msi_database_schema.specs.Description as description
use Rattle.msi_database_schema.specs.System.{columns_columns, columns_name, is_schema_table, tables_columns, tables_name}
use Rattle.msi_database_schema.specs.Schema.{SchemaRows, bits_in, column_of_row, column_rows, columns_of, counted, described, describes_column, has_number, lacks_value, listed_names, numbered_row, schema_of, share_key, text_at, validation_row, value_at}
use Rattle.msi_database_schema.proofs.ColumnBackLemmas.{IsDescribable, column_back, row_of_column}
use Rattle.msi_database_schema.proofs.SchemaLemmas.{Described, Describes, NoFault, describes_from, is_listed, names_tie, schema_from, table_of}
use Rattle.msi_database_schema.proofs.OrderlessLemmas.{HasKinds, IsReordered, IsValidationRow, columns_same, describes_reordered_too, shared_two, table_same, texts_same}
use Rattle.msi_database_schema.proofs.AddedRowsLemmas.{has_own_number, no_other_number, same_text}
use Rattle.msi_database_schema.proofs.ReadColumnLemmas.{flips}

-- the rows with those of a new column in front
abbrev pub lengthened : SchemaRows → List ℕ → ℕ → ColumnDef → SchemaRows
lengthened s name number column = record {
  tables = s.tables;
  columns = row_of_column name number column ∷ s.columns;
  validation = description.validation_row name column ∷ s.validation;
}

-- a described table, and a column that can be described beside its own
pub record IsNewColumn (s : SchemaRows) (name : List ℕ) (columns : List ColumnDef) (column : ColumnDef) : Type 0 where
  pub not_reserved : is_schema_table name ≡ false
  pub listed : is_listed s name ≡ true
  pub there : columns_of s name ≡ Some columns
  pub describable : IsDescribable column
  pub other_name : list_any (λ d. bytes_eq column.name d.name) columns ≡ false
  pub no_row : list_any (share_key 2 (row_of_column name (length columns + 1) column)) (counted s.columns) ≡ false
  pub no_stale_row : list_any (share_key 2 (description.validation_row name column)) s.validation ≡ false

-- ---- values that are all present, and one more

cons_present : {X : Type 0} (o : Option X) (os : List (Option X)) (xs : List X) → all_present (o ∷ os) ≡ Some xs
    → (y : X) × (ys : List X) × (o ≡ Some y) × (all_present os ≡ Some ys) × (xs ≡ y ∷ ys)
cons_present None os xs e = cc
cons_present {X} (Some y) os xs e = go (all_present os) refl e
  where
    go : (r : Option (List X)) → all_present os ≡ r → option_map (λ ys. y ∷ ys) r ≡ Some xs → (z : X) × (ys : List X) × (Some y ≡ Some z) × (all_present os ≡ Some ys) × (xs ≡ z ∷ ys)
    go None u e = cc
    go (Some ys) u e = (y, ys, refl, u, cc)

present_many : {X : Type 0} (g : ℕ → Option X) (k m : ℕ) (xs : List X) → all_present (map g (numbers_from k m)) ≡ Some xs → length xs ≡ m
present_many g k zero [] e = refl
present_many g k zero (x ∷ xs) e = cc
present_many g k (suc m) xs e =
    let (y, ys, first, rest, whole) = cons_present (g k) (map g (numbers_from (k + 1) m)) xs e in
    ap length whole ∙ ap suc (present_many g (k + 1) m ys rest)

present_more : {X : Type 0} (f g : ℕ → Option X) (k m n : ℕ) (xs : List X) (x : X) → n ≡ k + m → ((i : ℕ) (y : X) → i < n → g i ≡ Some y → In y xs → f i ≡ Some y) → f n ≡ Some x
    → all_present (map g (numbers_from k m)) ≡ Some xs → all_present (map f (numbers_from k (suc m))) ≡ Some (xs ++ x ∷ [])
present_more f g k zero n [] x at same last e = let here : n ≡ k = omega arith in rw (← here, last) refl
present_more f g k zero n (y ∷ ys) x at same last e = cc
present_more {X} f g k (suc m) n xs x at same last e =
    let (y, ys, first, rest, whole) = cons_present (g k) (map g (numbers_from (k + 1) m)) xs e in
    let here : f k ≡ Some y = same k y (omega arith) first (subst (In y) (sym whole) (inl refl)) in
    let behind : all_present (map f (numbers_from (k + 1) (suc m))) ≡ Some (ys ++ x ∷ []) =
    present_more f g (k + 1) m n ys x (omega arith) (λ i z l h inside. same i z l h (subst (In z) (sym whole) (inr inside))) last rest in
    ap (λ (o : Option X). option_and_then (λ z. option_map (λ zs. z ∷ zs) (all_present (map f (numbers_from (k + 1) (suc m))))) o) here
    ∙ ap (option_map (λ (zs : List X). y ∷ zs)) behind
    ∙ ap (λ (zs : List X). Some (zs ++ x ∷ [])) (sym whole)

some_behind : {X : Type 0} (b : Bool) (o : Option X) (x : X) → (if b then None else o) ≡ Some x → o ≡ Some x
some_behind true o x e = cc
some_behind false o x e = e

-- ---- a column keeps the name of its row

name_described : (o : Option (List Value)) (c : ColumnDef) → (described o c).name ≡ c.name
name_described None c = refl
name_described (Some row) c = refl

name_back : (o : Option (List Value)) (text : List ℕ) (bits : ℕ) (t : Option ColumnType) (c : ColumnDef) → option_map (described o) (option_map (with_bits (begun_column text) bits) t) ≡ Some c → c.name ≡ text
name_back o text bits None c e = cc
name_back o text bits (Some type) c e =
    let same : described o (with_bits (begun_column text) bits type) ≡ c = cc in
    ap (λ (c : ColumnDef). c.name) (sym same) ∙ name_described o (with_bits (begun_column text) bits type)

named_by_row : (s : SchemaRows) (name : List ℕ) (row : List Value) (c : ColumnDef) → column_of_row s name row ≡ Some c → c.name ≡ text_at 2 row
named_by_row s name row c e = name_back (validation_row s name (text_at 2 row)) (text_at 2 row) (bits_in row) (type_of_bits (bits_in row)) c e

module _ (s : SchemaRows) (name : List ℕ) (columns : List ColumnDef) (column : ColumnDef) (sound : NoFault s) (kinds : HasKinds s) (new : IsNewColumn s name columns column) where
  abbrev now : SchemaRows
  now = lengthened s name (length columns + 1) column

  abbrev row : List Value
  row = row_of_column name (length columns + 1) column

  abbrev about : List Value
  about = description.validation_row name column

  -- what is looked up
  own_rows : column_rows now name ≡ row ∷ column_rows s name
  own_rows = rw (new.not_reserved, same_text name) refl

  other_rows : (other : List ℕ) → bytes_eq name other ≡ false → column_rows now other ≡ column_rows s other
  other_rows other d = rw (new.not_reserved, d) refl

  other_validation : (other name₂ : List ℕ) → bytes_eq name other ≡ false → validation_row now other name₂ ≡ validation_row s other name₂
  other_validation other name₂ d = rw d refl

  same_validation : (name₂ : List ℕ) → bytes_eq column.name name₂ ≡ false → validation_row now name name₂ ≡ validation_row s name name₂
  same_validation name₂ d = rw (same_text name, d) refl

  own_validation : validation_row now name column.name ≡ Some about
  own_validation = rw (same_text name, same_text column.name) refl

  -- the other tables
  other_columns : (other : List ℕ) → bytes_eq name other ≡ false → columns_of now other ≡ columns_of s other
  other_columns other d = columns_same s now other (ap length (other_rows other d)) (λ name₂. other_validation other name₂ d) (λ number. ap (find (has_number number)) (other_rows other d))

  abbrev before : ℕ → Option ColumnDef
  before i = option_and_then (column_of_row s name) (numbered_row s name (i + 1))

  abbrev after : ℕ → Option ColumnDef
  after i = option_and_then (column_of_row now name) (find (has_number (i + 1)) (row ∷ column_rows s name))

  same_column : (r : List Value) (c : ColumnDef) → column_of_row s name r ≡ Some c → In c columns → column_of_row now name r ≡ Some c
  same_column r c e inside =
      let apart : bytes_eq column.name c.name ≡ false = all_at (λ (d : ColumnDef). bytes_eq column.name d.name ≡ false) columns c (none_passes (λ d. bytes_eq column.name d.name) columns new.other_name) inside in
      let apart₂ : bytes_eq column.name (text_at 2 r) ≡ false = ap (bytes_eq column.name) (sym (named_by_row s name r c e)) ∙ apart in
      ap (λ (o : Option (List Value)). option_map (described o) (column_of_bits (begun_column (text_at 2 r)) (bits_in r))) (same_validation (text_at 2 r) apart₂) ∙ e

  same_by_row : (o : Option (List Value)) (c : ColumnDef) → option_and_then (column_of_row s name) o ≡ Some c → In c columns → option_and_then (column_of_row now name) o ≡ Some c
  same_by_row None c e inside = cc
  same_by_row (Some r) c e inside = same_column r c e inside

  same_before : (i : ℕ) (c : ColumnDef) → i < length columns → before i ≡ Some c → In c columns → after i ≡ Some c
  same_before i c l e inside =
      ap (λ b. option_and_then (column_of_row now name) (if b then Some row else find (has_number (i + 1)) (column_rows s name)))
      (no_other_number name (length columns + 1) (i + 1) column (λ h. omega arith))
      ∙ same_by_row (numbered_row s name (i + 1)) c e inside

  last_column : (i : ℕ) → i ≡ length columns → after i ≡ Some column
  last_column i e =
      ap (λ b. option_and_then (column_of_row now name) (if b then Some row else find (has_number (i + 1)) (column_rows s name)))
      (ap (λ (j : ℕ). has_number (j + 1) row) e ∙ has_own_number name (length columns + 1) column)
      ∙ column_back now name (length columns + 1) column new.describable own_validation

  -- what rows with numbers from 1 on give
  abbrev read : List (List Value) → Option (List ColumnDef)
  read rows = if length rows == 0 then None else all_present (map (λ i. option_and_then (column_of_row now name) (find (has_number (i + 1)) rows)) (numbers_from 0 (length rows)))

  own_columns : columns_of now name ≡ Some (columns ++ column ∷ [])
  own_columns =
      let m = length (column_rows s name) in
      let there : all_present (map before (numbers_from 0 m)) ≡ Some columns = some_behind (m == 0) (all_present (map before (numbers_from 0 m))) columns new.there in
      let many : length columns ≡ m = present_many before 0 m columns there in
      let some : (suc m == 0) ≡ false = grind (arith, nat_tests) in
      ap read own_rows ∙ ap (λ b. if b then None else all_present (map after (numbers_from 0 (suc m)))) some
      ∙ present_more after before 0 m (length columns) columns column (omega (arith, many)) (λ i c l h inside. same_before i c l h inside) (last_column (length columns) refl) there

  -- rules
  own_key : (r : List Value) → In r s.validation → bytes_eq name (text_at 0 r) ≡ true → bytes_eq column.name (text_at 1 r) ≡ false
  own_key r h t = false_from_ne_true _ (λ u.
      let k = all_at IsValidationRow s.validation r kinds.validation h in
      let tables : name ≡ text_at 0 r = texts_same _ _ t in
      let names : column.name ≡ text_at 1 r = texts_same _ _ u in
      yes_is_no (list_any (share_key 2 about) s.validation)
      (any_at (share_key 2 about) s.validation r h (shared_two about r (ap Str tables ∙ sym k.0) (ap Str names ∙ sym k.1)))
      new.no_stale_row)

  describes_own : (r : List Value) → In r s.validation → bytes_eq name (text_at 0 r) ≡ true → describes_column now r ≡ describes_column s r
  describes_own r h t =
      let tables : text_at 0 r ≡ name = sym (texts_same _ _ t) in
      ap (λ (n : List ℕ). list_any (λ c. bytes_eq (text_at 2 c) (text_at 1 r)) (column_rows now n)) tables
      ∙ ap (list_any (λ c. bytes_eq (text_at 2 c) (text_at 1 r))) own_rows
      ∙ ap (λ b. b || list_any (λ c. bytes_eq (text_at 2 c) (text_at 1 r)) (column_rows s name)) (own_key r h t)
      ∙ ap (λ (n : List ℕ). list_any (λ c. bytes_eq (text_at 2 c) (text_at 1 r)) (column_rows s n)) (sym tables)

  describes_other : (r : List Value) → bytes_eq name (text_at 0 r) ≡ false → describes_column now r ≡ describes_column s r
  describes_other r d = ap (list_any (λ c. bytes_eq (text_at 2 c) (text_at 1 r))) (other_rows (text_at 0 r) d)

  still_full : (r : List Value) → In r s.validation → lacks_value s r ≡ false → lacks_value now r ≡ false
  still_full r h e =
      let same : describes_column now r ≡ describes_column s r = by_test (bytes_eq name (text_at 0 r)) (describes_own r h) (describes_other r) in
      ap (λ b. is_null (value_at 0 r) || is_null (value_at 1 r) || (b && is_null (value_at 2 r))) same ∙ e

  sound_now : NoFault now
  sound_now = record {
    tables_full = sound.tables_full;
    columns_full = sound.columns_full;
    validation_full = or_from _ _ (and-false (describes_column now about))
        (none_pass (lacks_value now) s.validation (all_from (λ r. lacks_value now r ≡ false) s.validation (λ r h. still_full r h (all_at (λ r. lacks_value s r ≡ false) s.validation r (none_passes (lacks_value s) s.validation sound.validation_full) h))));
    plain_names = sound.plain_names;
    tables_once = sound.tables_once;
    columns_once = rw (new.not_reserved) (or_from _ _ new.no_row sound.columns_once);
    validation_once = or_from _ _ new.no_stale_row sound.validation_once;
    columns_listed = rw (new.not_reserved) (or_from _ _ (ap not new.listed) sound.columns_listed);
  }

  pub kinds_now : HasKinds now
  kinds_now = record { columns = ((refl, refl), kinds.columns); validation = ((refl, refl), kinds.validation) }

  third : {X : Type 0} (a b c : Bool) (x y z : Option X) → a ≡ false → b ≡ false → c ≡ true → (if a then x else if b then y else if c then z else None) ≡ z
  third a b c x y z e f g = rw (e, f, g)

  own_table : table_of now name ≡ Some (columns ++ column ∷ [])
  own_table = let r = or_parts (bytes_eq name tables_name) (bytes_eq name columns_name) new.not_reserved in
      third (bytes_eq name tables_name) (bytes_eq name columns_name) (is_listed now name) (Some tables_columns) (Some columns_columns) (columns_of now name) r.0 r.1 new.listed ∙ own_columns

  abbrev all : List ColumnDef
  all = columns ++ column ∷ []

  found_now : (ts : Described) → Describes s ts → (other : List ℕ) → find_in list_cmp other (put list_cmp name all ts) ≡ table_of now other
  found_now ts d other = find-put list_cmp (lists_total nat_cmp_total) other name all ts ∙ rw (names_tie other name) (by_test (bytes_eq name other)
      (λ t. let same : name ≡ other = texts_same _ _ t in rw (← same) (ap (λ b. if b then Some all else find_in list_cmp name ts) (same_text name) ∙ sym own_table))
      (λ t. ap (λ b. if b then Some all else find_in list_cmp other ts) (flips name other t)
      ∙ d.found other ∙ sym (table_same s now other refl (other_columns other t))))

  readable_now : (ts : Described) → Describes s ts → (other : List ℕ) → is_listed now other ≡ true → is_some (columns_of now other) ≡ true
  readable_now ts d other h = by_test (bytes_eq name other)
      (λ t. let same : name ≡ other = texts_same _ _ t in rw (← same) (ap is_some own_columns))
      (λ t. ap is_some (other_columns other t) ∙ d.readable other h)

  pub describes_now : (ts : Described) → Describes s ts → Describes now (put list_cmp name all ts)
  describes_now ts d = record {
    sound = sound_now;
    readable = readable_now ts d;
    in_order = is_sorted-put list_cmp (lists_total nat_cmp_total) name all ts d.in_order;
    found = found_now ts d;
  }

-- rows of a new column among those that were there, in any order, describe its table with it
pub schema_lengthened : (s u : SchemaRows) (name : List ℕ) (columns : List ColumnDef) (column : ColumnDef) (ts : Described) → HasKinds s → IsNewColumn s name columns column
    → IsReordered (lengthened s name (length columns + 1) column) u → schema_of s ≡ Some ts → schema_of u ≡ Some (put list_cmp name (columns ++ column ∷ []) ts)
schema_lengthened s u name columns column ts kinds new same e =
    let d = describes_from s ts e in
    schema_from u (put list_cmp name (columns ++ column ∷ []) ts) (describes_reordered_too (lengthened s name (length columns + 1) column) u same (kinds_now s name columns column d.sound kinds new)
    (put list_cmp name (columns ++ column ∷ []) ts) (describes_now s name columns column d.sound kinds new ts d))

-- a described table that isn't one of the two that are always there is listed, with its columns
listed_by : {X P : Type 0} (a b c : Bool) (x y : X) (z : Option X) (cols : X) → a ≡ false → b ≡ false → (if a then Some x else if b then Some y else if c then z else None) ≡ Some cols → ((c ≡ true) → z ≡ Some cols → P) → P
listed_by true b c x y z cols e f g k = cc
listed_by false true c x y z cols e f g k = cc
listed_by false false true x y z cols e f g k = k refl g
listed_by false false false x y z cols e f g k = cc

pub described_there : {P : Type 0} (s : SchemaRows) (name : List ℕ) (columns : List ColumnDef) (ts : Described) → schema_of s ≡ Some ts → is_schema_table name ≡ false → find_in list_cmp name ts ≡ Some columns
    → (is_listed s name ≡ true → columns_of s name ≡ Some columns → P) → P
described_there s name columns ts e free found k =
    let d = describes_from s ts e in
    let r = or_parts (bytes_eq name tables_name) (bytes_eq name columns_name) free in
    listed_by (bytes_eq name tables_name) (bytes_eq name columns_name) (is_listed s name) tables_columns columns_columns (columns_of s name) columns r.0 r.1 (sym (d.found name) ∙ found) k
