-- Rows that describe columns, made one by one.
use Rattle.std.proofs.Common.{◌≡◌, ℕ, zero, suc, ◌+◌, ◌<◌, ◌≤◌, true, List, [], ◌∷◌, ◌++◌, length, map, take, refl, sym, ap, ◌∙◌, arith}
use Rattle.std.specs.Prelude.{slice_index_or}
use Rattle.std.specs.List.{enumerate_from, flat_map, join_with_byte, list_all}
use Rattle.std.proofs.lemmas.Bool.{and_parts, ltb-true}
use Rattle.std.proofs.lemmas.List.{take_all, take_more, map_push, length-take-le}
use Rattle.msi_table_values.specs.declared.column.ColumnType.{ColumnType}
use Rattle.msi_table_values.specs.declared.column.ColumnType.TheVariants as coltype
use Rattle.msi_table_values.specs.declared.value.Value.{Value}
use Rattle.msi_table_values.specs.declared.value.Value.TheVariants.{Str}
use Rattle.msi_table_values.specs.Columns.{ColumnDef, HasShortLength}
use Rattle.msi_database_schema.specs.Description.{column_row, column_rows, has_short_length, is_short, joined_values, text_or_null}

-- texts joined by a byte: the first, and each other behind the byte
pub joined_is : (b : ℕ) (x : List ℕ) (xs : List (List ℕ)) → join_with_byte b (x ∷ xs) ≡ x ++ flat_map (λ text. b ∷ text) xs
joined_is b x [] = sym (append_nil x)
  where
    append_nil : (x : List ℕ) → x ++ [] ≡ x
    append_nil [] = refl
    append_nil (c ∷ cs) = ap (λ (l : List ℕ). c ∷ l) (append_nil cs)
joined_is b x (y ∷ ys) = ap (λ (l : List ℕ). x ++ (b ∷ l)) (joined_is b y ys)

pub joined_text : (texts : List (List ℕ)) (first : List ℕ) (others : List (List ℕ)) (i : ℕ) (so_far begun told : List ℕ) → texts ≡ first ∷ others → length others ≤ i → begun ≡ first
    → so_far ≡ begun ++ flat_map (λ text. 59 ∷ text) (take i others) → told ≡ so_far → Str told ≡ text_or_null (joined_values texts)
joined_text texts first others i so_far begun told e h b f t =
    let all : take i others ≡ others = take_all i others h in
    rw (e, t, f, b, all) (ap Str (sym (joined_is 59 first others)))

-- one more is numbered
pub enumerate_more : {X : Type 0} (k : ℕ) (xs : List X) (x : X) → enumerate_from k (xs ++ x ∷ []) ≡ enumerate_from k xs ++ (k + length xs, x) ∷ []
enumerate_more k [] x = let e : k + 0 ≡ k = omega arith in rw e refl
enumerate_more k (y ∷ ys) x =
    let e : k + 1 + length ys ≡ k + suc (length ys) = omega arith in
    ap (λ (l : List (ℕ × _)). (k, y) ∷ l) (enumerate_more (k + 1) ys x ∙ ap (λ (n : ℕ). enumerate_from (k + 1) ys ++ (n, x) ∷ []) e)

pub rows_more : (table : List ℕ) (columns : List ColumnDef) (i : ℕ) (c : ColumnDef) (number : ℕ) (rows more : List (List Value)) (row : List Value) → i < length columns → c ≡ slice_index_or columns i c → number ≡ i + 1
    → rows ≡ column_rows table (take i columns) → row ≡ column_row table (number, c) → more ≡ rows ++ row ∷ [] → more ≡ column_rows table (take (i + 1) columns)
rows_more table columns i c number rows more row h at n e r m =
    let t : take (i + 1) columns ≡ take i columns ++ c ∷ [] = take_more columns i c h ∙ ap (λ (d : ColumnDef). take i columns ++ d ∷ []) (sym at) in
    let f : 1 + length (take i columns) ≡ number = let l = length-take-le i columns (omega arith) in omega arith in
    m ∙ rw (e, r) refl ∙ sym (ap (column_rows table) t ∙ ap (map (column_row table)) (enumerate_more 1 (take i columns) c) ∙ map_push (column_row table) (enumerate_from 1 (take i columns)) (1 + length (take i columns), c) ∙ ap (λ (k : ℕ). column_rows table (take i columns) ++ column_row table (k, c) ∷ []) f)

short_type : (c : ColumnDef) → has_short_length c ≡ true → HasShortLength c.coltype
short_type c e = go c.coltype e
  where
    go : (t : ColumnType) → is_short t ≡ true → HasShortLength t
    go coltype.Int16 h = tt
    go coltype.Int32 h = tt
    go (coltype.Str n) h = ltb-true n 256 h
    go coltype.Binary h = tt

pub short_at : (columns : List ColumnDef) (i : ℕ) (c : ColumnDef) → list_all has_short_length columns ≡ true → i < length columns → c ≡ slice_index_or columns i c → HasShortLength c.coltype
short_at columns i c all h at = go columns i all h at
  where
    go : (cs : List ColumnDef) (i : ℕ) → list_all has_short_length cs ≡ true → i < length cs → c ≡ slice_index_or cs i c → HasShortLength c.coltype
    go [] i all h at = absurd (omega arith)
    go (d ∷ ds) zero all h at = short_type c (ap has_short_length at ∙ (and_parts (has_short_length d) (list_all has_short_length ds) all).0)
    go (d ∷ ds) (suc i) all h at = go ds i (and_parts (has_short_length d) (list_all has_short_length ds) all).1 (omega arith) at
