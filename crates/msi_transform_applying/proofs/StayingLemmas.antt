-- The tables of a package that stay as they are, and their rows.
use Rattle.std.proofs.Common.{◌≡◌, ℕ, zero, suc, ◌+◌, ◌<◌, ◌≤◌, Bool, true, false, cond, List, [], ◌∷◌, ◌++◌, length, map, drop, get_or, Option, Some, None, is_some, option_map, refl, sym, ap, ◌∙◌, arith}
use Rattle.std.specs.Prelude.{if◌then◌else◌, unwrap_or, bytes_eq}
use Rattle.std.specs.Cmp.Lexicographic.{bytes_decides}
use Rattle.std.specs.List.{flat_map, slice_get}
use Rattle.std.specs.Option.{option_map_or}
use Rattle.std.proofs.lemmas.List.{append_assoc, append-nil, drop_all, drop_more, get_or-map, length-map}
use Rattle.std.proofs.lemmas.Option.{same_Some, slice_get-get_or}
use Rattle.msi_database_changes.specs.Database.{Database, has_table, rows_of}
use Rattle.msi_database_storage.specs.Kept.{AreAsLong, database_kept, table_kept, table_kept_at}
use Rattle.msi_database_storage.specs.Streams.{Streams, stored_rows}
use Rattle.msi_table_cells.specs.declared.cell.ValueRef.{ValueRef}
use Rattle.msi_table.specs.Rows as rows
use Rattle.msi_table_values.specs.Columns.{ColumnDef}
use Rattle.msi_table_values.specs.declared.value.Value.{Value}
use Rattle.msi_transform_applying.specs.Applying.{table_staying}
use Rattle.msi_transform_rows.specs.RowChanges.{keyed}
use Rattle.msi_transform_rows.specs.declared.row.RowInHand.{RowInHand}
use Rattle.msi_transform_schema.proofs.PackagePartsLemmas.{known, none_read, some_read}
use Rattle.msi_table.specs.Tables.{TableDef}
use Rattle.msi_transform_schema.specs.SchemaChanges.{SchemaChange, is_gone, plain_row, untold_table}
use Rattle.msi_transform_schema.specs.TablesInHand.{TableInHand}
use Rattle.msi_transform_schema.specs.declared.schema.Standing.TheVariants as stands

-- a table of the package is gone where the transform says so
pub dropped : (d : Database) (name : List ℕ) (o : Option TableInHand) → has_table name d ≡ true → option_map_or (λ (t : TableInHand). is_gone t.standing) o false ≡ is_gone (unwrap_or o (untold_table d name)).standing
dropped d name None there = sym (ap (λ b. is_gone (if b then stands.Kept else stands.Gone)) there)
dropped d name (Some t) there = refl

-- each table is found by its name, and has references as long as all
found_or : (b : Bool) (u : TableDef) (o : Option TableDef) → is_some o ≡ true → is_some (cond b (Some u) o) ≡ true
found_or true u o h = refl
found_or false u o h = h

pub found_at : (tables : List TableDef) (i : ℕ) (t : TableDef) → i < length tables → t ≡ get_or tables i t → is_some (table_kept_at t.name tables) ≡ true
found_at [] i t inside at = absurd (omega arith)
found_at (u ∷ us) zero t inside at =
    ap (λ (x : TableDef). is_some (table_kept_at x.name (u ∷ us))) at
    ∙ ap (λ b. is_some (cond b (Some u) (table_kept_at u.name us))) ((bytes_decides u.name u.name).1 refl)
found_at (u ∷ us) (suc i) t inside at = found_or (bytes_eq t.name u.name) u (table_kept_at t.name us) (found_at us i t (omega arith) at)

pub long_at : (long : Bool) (tables : List TableDef) (i : ℕ) (t : TableDef) → AreAsLong long tables → i < length tables → t ≡ get_or tables i t → t.long ≡ long
long_at long [] i t all inside at = absurd (omega arith)
long_at long (u ∷ us) zero t all inside at = ap (λ (x : TableDef). x.long) at ∙ all.0
long_at long (u ∷ us) (suc i) t all inside at = long_at long us i t all.1 (omega arith) at

-- what one more element adds
module _ {X A : Type 0} (f : X → List A) where
  pub added_one : (rest : List X) (x : X) (before after whole : List A) → after ≡ before ++ f x → before ++ flat_map f (x ∷ rest) ≡ whole → after ++ flat_map f rest ≡ whole
  added_one rest x before after whole is all =
      ap (λ (ys : List A). ys ++ flat_map f rest) is ∙ append_assoc before (f x) (flat_map f rest) ∙ all

  pub added_none : (rest : List X) (before whole : List A) → rest ≡ [] → before ++ flat_map f rest ≡ whole → before ≡ whole
  added_none rest before whole none all =
      sym (append-nil before) ∙ ap (λ (xs : List X). before ++ flat_map f xs) (sym none) ∙ all

columns_read : (columns : List ColumnDef) (o : Option (List (List ValueRef))) (r : rows.TableRows) → Some r ≡ option_map (rows.table_rows columns) o → r.columns ≡ columns
columns_read columns None r is = cc
columns_read columns (Some read) r is = cc

-- THE TABLES OF A PACKAGE, AS A CHANGE SEES THEM

table_next : {A : Type 0} (f : TableDef → A) (tables : List TableDef) (i : ℕ) (t : TableDef) → i < length tables → t ≡ get_or tables i t → drop i (map f tables) ≡ f t ∷ drop (i + 1) (map f tables)
table_next {A} f tables i t inside at =
    drop_more (map f tables) i (f t) (omega (arith, length-map tables f))
    ∙ ap (λ (x : A). x ∷ drop (i + 1) (map f tables)) (get_or-map f tables i t (f t) inside ∙ ap f (sym at))

module _ (change : SchemaChange) where
  module _ (tables : List TableDef) (kept : change.database ≡ database_kept change.database.pool tables change.streams) where
    pub none_further : (i : ℕ) → length tables ≤ i → drop i change.database.tables ≡ []
    none_further i past = ap (λ (d : Database). drop i d.tables) kept
        ∙ drop_all i (map (table_kept change.streams change.database.pool.long) tables) (omega (arith, length-map tables (table_kept change.streams change.database.pool.long)))

    module _ (i : ℕ) (t : TableDef) (inside : i < length tables) (at : t ≡ get_or tables i t) where
      pub next_table : drop i change.database.tables ≡ table_kept change.streams change.database.pool.long t ∷ drop (i + 1) change.database.tables
      next_table = ap (λ (d : Database). drop i d.tables) kept
          ∙ table_next (table_kept change.streams change.database.pool.long) tables i t inside at
          ∙ ap (λ (d : Database). table_kept change.streams change.database.pool.long t ∷ drop (i + 1) d.tables) (sym kept)

      pub is_there : has_table t.name change.database ≡ true
      is_there = sym (known change.database.pool tables change.streams t.name ∙ ap (has_table t.name) (sym kept)) ∙ found_at tables i t inside at

      pub is_as_long : AreAsLong change.database.pool.long tables → t.long ≡ change.database.pool.long
      is_as_long all = long_at change.database.pool.long tables i t all inside at

  module _ (streams : Streams) (same : streams ≡ change.streams) where
    -- the rows of a table
    pub rows_kept : (t : TableDef) (read : Option (List (List ValueRef))) → t.long ≡ change.database.pool.long → stored_rows streams t.long t.columns t.name ≡ read
        → rows_of (table_kept change.streams change.database.pool.long t).1 ≡ unwrap_or read []
    rows_kept t read long is =
        ap (λ (b : Bool). unwrap_or (stored_rows change.streams b t.columns t.name) []) (sym long)
        ∙ ap (λ (s : Streams). unwrap_or (stored_rows s t.long t.columns t.name) []) (sym same)
        ∙ ap (λ (o : Option (List (List ValueRef))). unwrap_or o []) is

    module _ (t : TableDef) (long : t.long ≡ change.database.pool.long) where
      abbrev with_key : List ColumnDef → List ValueRef → List Value × RowInHand
      with_key columns row = keyed columns change.database.pool.places (plain_row row)

      pub rows_of_staying : (r : rows.TableRows) → Some r ≡ option_map (rows.table_rows t.columns) (stored_rows streams t.long t.columns t.name)
          → map (λ row. keyed r.columns change.database.pool.places (plain_row row)) r.rows ≡ (table_staying change.database (table_kept change.streams change.database.pool.long t)).rows
      rows_of_staying r is =
          ap (λ (cs : List ColumnDef). map (with_key cs) r.rows) (columns_read t.columns (stored_rows streams t.long t.columns t.name) r is)
          ∙ ap (λ (rs : List (List ValueRef)). map (with_key t.columns) rs) (sym (rows_kept t (Some r.rows) long (some_read t.columns (stored_rows streams t.long t.columns t.name) r is)))

      pub no_rows_of_staying : None ≡ option_map (rows.table_rows t.columns) (stored_rows streams t.long t.columns t.name)
          → [] ≡ (table_staying change.database (table_kept change.streams change.database.pool.long t)).rows
      no_rows_of_staying is =
          ap (λ (rs : List (List ValueRef)). map (with_key t.columns) rs) (sym (rows_kept t None long (none_read t.columns (stored_rows streams t.long t.columns t.name) is)))

-- one row more of those that are read where they lie
row_next : {X : Type 0} (xs : List X) (i : ℕ) (x : X) → i < length xs → slice_get xs i ≡ Some x → drop i xs ≡ x ∷ drop (i + 1) xs
row_next {X} xs i x inside is =
    drop_more xs i x inside ∙ ap (λ (y : X). y ∷ drop (i + 1) xs) (same_Some _ _ (sym (slice_get-get_or xs i x inside) ∙ is))

module _ {X Y A : Type 0} (f : Y → List A) (g : X → Y) where
  pub row_added : (xs : List X) (i : ℕ) (x : X) (before added after whole : List A) → i < length xs → slice_get xs i ≡ Some x → after ≡ before ++ added → added ≡ f (g x)
      → before ++ flat_map f (map g (drop i xs)) ≡ whole → after ++ flat_map f (map g (drop (i + 1) xs)) ≡ whole
  row_added xs i x before added after whole inside is ok added_is all =
      added_one f (map g (drop (i + 1) xs)) (g x) before after whole (ok ∙ ap (λ (ys : List A). before ++ ys) added_is)
      (ap (λ (zs : List X). before ++ flat_map f (map g zs)) (sym (row_next xs i x inside is)) ∙ all)

  pub rows_done : (xs : List X) (i : ℕ) (before whole : List A) → length xs ≤ i → before ++ flat_map f (map g (drop i xs)) ≡ whole → before ≡ whole
  rows_done xs i before whole past all = added_none f (map g (drop i xs)) before whole (ap (λ (zs : List X). map g zs) (drop_all i xs past)) all

pub added_all : {X A : Type 0} (f g : X → List A) (xs ys : List X) (before after : List A) → f ≡ g → xs ≡ ys → after ≡ before ++ flat_map f xs → after ≡ before ++ flat_map g ys
added_all {X} {A} f g xs ys before after same are is =
    is ∙ ap (λ (h : X → List A). before ++ flat_map h xs) same ∙ ap (λ (zs : List X). before ++ flat_map g zs) are
