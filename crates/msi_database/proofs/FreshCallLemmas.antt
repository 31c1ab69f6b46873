-- First rows of tables, one after the other: what the calls of a new database make is `fresh`.
use Rattle.msi_database_changes.proofs.steps.TurnLemmas.{map_some as some_mapped}
use Rattle.msi_database_changes.proofs.text_counts.NarrowLemmas.{rows_put_extends}
use Rattle.std.proofs.Common.{◌≡◌, ℕ, Bool, true, false, ◌&&◌, List, [], ◌∷◌, ◌++◌, length, Option, Some, None, is_some, Result, Ok, Err, IfErr, refl, sym, ap, ap₂, subst, ◌∙◌, option_map, inl, inr, arith, nat_lt, nat_le}
use Rattle.std.specs.Prelude.{IfOk, IsSomeAnd, option_and_then, unwrap_or}
use Rattle.std.specs.List.{list_all}
use Rattle.std.proofs.lemmas.Bool.{and_parts, true≢false}
use Rattle.std.proofs.lemmas.Bool.Decides.{nat_tests}
use Rattle.std.proofs.lemmas.Option.{same_Some}
use Rattle.msi_base.specs.declared.errors.ErrorKind.{ErrorKind}
use Rattle.msi_base.specs.declared.errors.ErrorKind.TheVariants.{InvalidInput}
use Rattle.msi_base.specs.Results.{OnlyMemory}
use Rattle.msi_base.proofs.OptionLemmas.{mapped_twice}
use Rattle.msi_table_values.specs.declared.value.Value.{Value}
use Rattle.msi_table_values.specs.declared.value.Value.TheVariants.{Str}
use Rattle.msi_table_cells.specs.declared.cell.ValueRef.{ValueRef}
use Rattle.msi_table_values.specs.Columns.{ColumnDef, types_of}
use Rattle.msi_table.specs.Tables.{TableDef, CanStore}
use Rattle.msi_base.specs.Refusals.{IsRefusal, or_refused}
use Rattle.msi_table_cells.specs.TableCells.{TableCells}
use Rattle.msi_database_schema.specs.Description.{column_rows, validation_rows}
use Rattle.msi_database_schema.specs.Keys.{table_key}
use Rattle.msi_database_schema.specs.System.{columns_name, tables_name, validation_name}
use Rattle.msi_database_schema.proofs.RowOrderLemmas.{names_total}
use Rattle.msi_database_changes.specs.Database.{Database, table_at}
use Rattle.msi_database_changes.specs.Changes.{Change, no_change, pool_of, with_stored}
use Rattle.msi_database_changes.specs.Texts.{PoolInUse, UsedPool, in_use, rows_put}
use Rattle.msi_database_changes.specs.Create.{added_to, described_by_rows}
use Rattle.msi_database_changes.specs.Insert.{cells_added, rows_added}
use Rattle.msi_table_cells.specs.KeyOrder.{in_key_order}
use Rattle.msi_database_changes.proofs.soundness.FitTestLemmas.{cells_fit, each_fits}
use Rattle.msi_database_storage.specs.Streams.{stream_of_rows}
use Rattle.msi_database_changes.specs.declared.storing.Stored.{Stored}
use Rattle.msi_database_changes.specs.Storing.{HaveOwnNames}
use Rattle.msi_database_storage.specs.Storing.{tables_stored}
use Rattle.msi_database.specs.Fresh.{empty_table}
use Rattle.msi_database.specs.FreshParts.{Begins, CanBegin}
use Rattle.msi_database_storage.proofs.MapLemmas as maps
use Rattle.msi_database_storage.proofs.StreamLemmas.{list_cmp_exact}
use Rattle.msi_database_storage.proofs.StoredLemmas.{AreNames}
use Rattle.msi_database_storage.proofs.EditLemmas.{AreApart, apart_names, own_names, rows_stored_first, rows_stored_last}

-- all rows of a table, and the pool after their texts were taken
abbrev pub Rows : Type 0
Rows = List (List ValueRef) × PoolInUse

-- ONE TABLE

pub some_by : (P : Rows → Type 0) (o : Option Rows) → IsSomeAnd o P → is_some o ≡ true
some_by P None h = absurd h
some_by P (Some r) h = refl

holds_by : (P : Rows → Type 0) (o : Option Rows) (r : Rows) → IsSomeAnd o P → o ≡ Some r → P r
holds_by P None r h e = absurd h
holds_by P (Some x) r h e = subst P (same_Some x r e) h

pub only_memory : {A : Type 0} (r : Result A ErrorKind) (o : Option Rows) → is_some o ≡ true → IfErr r (IsRefusal (or_refused InvalidInput o)) → OnlyMemory r
only_memory (Ok x) o some h = tt
only_memory (Err k) None some h = cc
only_memory (Err k) (Some x) some (inl m) = m
only_memory (Err k) (Some x) some (inr e) = cc

-- what finds room with narrower references is taken alike with those of three bytes
cells_extend : (long : Bool) (columns : List ColumnDef) (pool : PoolInUse) (rows : List (List ValueRef)) (values : List (List Value)) (r : List (List ValueRef) × PoolInUse)
    → cells_added long columns pool rows values ≡ Some r → cells_added true columns pool rows values ≡ Some r
cells_extend long columns pool rows values r e =
    some_mapped (λ (r : List (List ValueRef) × PoolInUse). (in_key_order columns r.1.places (rows ++ r.0), r.1)) (rows_put long pool values) r e
    (λ x put is. ap (option_map (λ (r : List (List ValueRef) × PoolInUse). (in_key_order columns r.1.places (rows ++ r.0), r.1))) (rows_put_extends long pool values x put) ∙ ap Some is)

some_there : (long : Bool) (columns : List ColumnDef) (pool : PoolInUse) (rows : List (List ValueRef)) (values : List (List Value)) (o : Option (List (List ValueRef) × PoolInUse))
    → cells_added long columns pool rows values ≡ o → is_some o ≡ true → is_some (cells_added true columns pool rows values) ≡ true
some_there long columns pool rows values None e some = absurd (true≢false (sym some))
some_there long columns pool rows values (Some r) e some = ap is_some (cells_extend long columns pool rows values r e)

pub still_some : (long : Bool) (columns : List ColumnDef) (pool : PoolInUse) (rows : List (List ValueRef)) (values : List (List Value)) → is_some (cells_added long columns pool rows values) ≡ true
    → is_some (cells_added true columns pool rows values) ≡ true
still_some long columns pool rows values some = some_there long columns pool rows values (cells_added long columns pool rows values) refl some

same_by : (long : Bool) (columns : List ColumnDef) (pool : PoolInUse) (rows : List (List ValueRef)) (values : List (List Value)) (o : Option (List (List ValueRef) × PoolInUse)) (r : List (List ValueRef) × PoolInUse)
    → cells_added long columns pool rows values ≡ o → is_some o ≡ true → cells_added true columns pool rows values ≡ Some r → o ≡ Some r
same_by long columns pool rows values None r e some h = absurd (true≢false (sym some))
same_by long columns pool rows values (Some x) r e some h = sym (cells_extend long columns pool rows values x e) ∙ h

pub taken_alike : (long : Bool) (columns : List ColumnDef) (pool : PoolInUse) (rows : List (List ValueRef)) (values : List (List Value)) → is_some (cells_added long columns pool rows values) ≡ true
    → (r : List (List ValueRef) × PoolInUse) → cells_added true columns pool rows values ≡ Some r → cells_added long columns pool rows values ≡ Some r
taken_alike long columns pool rows values some r h = same_by long columns pool rows values (cells_added long columns pool rows values) r refl some h

-- a table that began without rows
pub first_added : {A : Type 0} (items : A → List (List ValueRef)) (r : Result A ErrorKind) (long : Bool) (columns : List ColumnDef) (pool after : PoolInUse) (rows : List (List ValueRef)) (values : List (List Value)) → rows ≡ []
    → IfOk r (λ all. cells_added long columns pool rows values ≡ Some (items all, after)) → IfOk r (λ all. cells_added long columns pool [] values ≡ Some (items all, after))
first_added items r long columns pool after rows values e h =
    subst (λ (rows : List (List ValueRef)). IfOk r (λ all. cells_added long columns pool rows values ≡ Some (items all, after))) e h

module _ (t : TableDef) (pool : UsedPool) (columns : List ColumnDef) (values : List (List Value)) (long : t.long ≡ pool.pool.long) (columns_is : columns ≡ t.columns) (can : CanBegin t (in_use pool) values) where
  same_rows : cells_added t.long t.columns (in_use pool) [] values ≡ cells_added pool.pool.long columns (in_use pool) [] values
  same_rows = ap₂ (λ (l : Bool) (cs : List ColumnDef). cells_added l cs (in_use pool) [] values) long (sym columns_is)

  pub first_some : is_some (cells_added pool.pool.long columns (in_use pool) [] values) ≡ true
  first_some = ap is_some (sym same_rows) ∙ some_by (λ r. CanStore t r.0) (cells_added t.long t.columns (in_use pool) [] values) can

  module _ (all : List (List ValueRef)) (after : PoolInUse) (added : cells_added pool.pool.long columns (in_use pool) [] values ≡ Some (all, after)) where
    pub first_storable : CanStore t all
    first_storable = holds_by (λ r. CanStore t r.0) (cells_added t.long t.columns (in_use pool) [] values) (all, after) can (same_rows ∙ added)

    begins : (s : Stored) → s.name ≡ table_key t.name → s.bytes ≡ stream_of_rows t.long t.columns all → Begins t (in_use pool) values s after
    begins s name_is bytes_is =
        subst (λ (o : Option Rows). IsSomeAnd o (λ r. (s ≡ record { name = table_key t.name; bytes = stream_of_rows t.long t.columns r.0 }) × (after ≡ r.1))) (sym (same_rows ∙ added))
        ((λ i. record { name = name_is i; bytes = bytes_is i }), refl)

    pub first_begins : (r : Result Stored ErrorKind) → IfOk r (λ s. s.name ≡ table_key t.name) → IfOk r (λ s. s.bytes ≡ stream_of_rows t.long t.columns all) → IfOk r (λ s. Begins t (in_use pool) values s after)
    first_begins (Ok s) name_is bytes_is = begins s name_is bytes_is
    first_begins (Err k) name_is bytes_is = tt

-- what a table that can begin makes
unfoldable pub begun : TableDef → PoolInUse → List (List Value) → Rows
begun t pool values = unwrap_or (cells_added t.long t.columns pool [] values) ([], pool)

unfoldable pub stream_begun : TableDef → Rows → Stored
stream_begun t r = record { name = table_key t.name; bytes = stream_of_rows t.long t.columns r.0 }

begun_some : (P : Rows → Type 0) (o : Option Rows) (other : Rows) → IsSomeAnd o P → o ≡ Some (unwrap_or o other)
begun_some P None other h = absurd h
begun_some P (Some r) other h = refl

begun_holds : (P : Rows → Type 0) (o : Option Rows) (other : Rows) → IsSomeAnd o P → P (unwrap_or o other)
begun_holds P None other h = absurd h
begun_holds P (Some r) other h = h

pub begins_as : (t : TableDef) (pool : PoolInUse) (values : List (List Value)) (s : Stored) (after : PoolInUse) → Begins t pool values s after
    → (s ≡ stream_begun t (begun t pool values)) × (after ≡ (begun t pool values).1)
unfolding begun stream_begun
begins_as t pool values s after h =
    begun_holds (λ r. (s ≡ record { name = table_key t.name; bytes = stream_of_rows t.long t.columns r.0 }) × (after ≡ r.1)) (cells_added t.long t.columns pool [] values) ([], pool) h

pub can_as : (t : TableDef) (pool : PoolInUse) (values : List (List Value)) → CanBegin t pool values → cells_added t.long t.columns pool [] values ≡ Some (begun t pool values)
unfolding begun
can_as t pool values can = begun_some (λ r. CanStore t r.0) (cells_added t.long t.columns pool [] values) ([], pool) can

-- A TEST OF IT

unfoldable pub fits_begun : TableDef → Option Rows → Bool
fits_begun t None = false
fits_begun t (Some r) = nat_lt 0 (length (types_of t.columns)) && nat_le (length r.0) 65536 && list_all (cells_fit t.long (types_of t.columns)) r.0

pub fits_begun_is : (t : TableDef) (o : Option Rows) → fits_begun t o ≡ true → IsSomeAnd o (λ r. CanStore t r.0)
unfolding fits_begun
fits_begun_is t None e = cc
fits_begun_is t (Some r) e =
    let p = and_parts (nat_lt 0 (length (types_of t.columns)) && nat_le (length r.0) 65536) (list_all (cells_fit t.long (types_of t.columns)) r.0) e in
    let q = and_parts (nat_lt 0 (length (types_of t.columns))) (nat_le (length r.0) 65536) p.0 in
    record { some_column = grind (arith, nat_tests, q); few_rows = grind (arith, nat_tests, q); each_row = each_fits t.long (types_of t.columns) r.0 p.1 }

-- THREE TABLES: their rows describe a table

abbrev pub listing : List ℕ → List (List Value)
listing name = (Str name ∷ []) ∷ []

-- rows added to a table without rows
added_first : (c : Change) (name : List ℕ) (t : TableDef) (values : List (List Value)) (r : Rows) → t.long ≡ c.database.pool.long → table_at name c.database ≡ Some (empty_table t.columns)
    → cells_added t.long t.columns (pool_of c) [] values ≡ Some r → added_to name values c ≡ Some (with_stored name t.columns r.0 r.1 c)
added_first c name t values r long at added =
    let last : Rows → Change = λ x. with_stored name t.columns x.0 x.1 c in
    ap (option_and_then (λ (t : TableCells). rows_added name t values c)) at
    ∙ mapped_twice (λ r. (in_key_order t.columns r.1.places ([] ++ r.0), r.1)) last (rows_put c.database.pool.long (pool_of c) values)
    ∙ ap (option_map last) (ap (λ (l : Bool). cells_added l t.columns (pool_of c) [] values) (sym long) ∙ added)

same_stream : (name : List ℕ) (long : Bool) (t : TableDef) (r : Rows) → t.name ≡ name → t.long ≡ long → record { name = table_key name; bytes = stream_of_rows long t.columns r.0 } ≡ stream_begun t r
unfolding stream_begun
same_stream name long t r named same i = record { name = table_key (sym named i); bytes = stream_of_rows (sym same i) t.columns r.0 }

system_names : AreNames (columns_name ∷ tables_name ∷ validation_name ∷ [])
unfolding Rattle.std.specs.Str.chars
system_names = (refl, (refl, (refl, tt)))

system_apart : AreApart (columns_name ∷ tables_name ∷ validation_name ∷ [])
unfolding Rattle.std.specs.Str.chars
system_apart = (refl, (refl, (refl, tt)))

-- what is stored of a change, and its pool
pub record Describes (d : Database) (c t v : TableDef) (c_rows t_rows v_rows : Rows) (change : Change) : Type 0 where
  pub streams : tables_stored change.database change.stored ≡ stream_begun c c_rows ∷ stream_begun t t_rows ∷ stream_begun v v_rows ∷ []
  pub own_names : HaveOwnNames (tables_stored change.database change.stored)
  pub pool : change.database.pool ≡ record d.pool { places = v_rows.1.places }

-- three tables without rows
pub record AreBare (d : Database) (c t v : TableDef) : Type 0 where
  pub c_named : c.name ≡ columns_name
  pub t_named : t.name ≡ tables_name
  pub v_named : v.name ≡ validation_name
  pub c_long : c.long ≡ d.pool.long
  pub t_long : t.long ≡ d.pool.long
  pub v_long : v.long ≡ d.pool.long
  pub c_at : table_at columns_name d ≡ Some (empty_table c.columns)
  pub t_at : table_at tables_name d ≡ Some (empty_table t.columns)
  pub v_at : table_at validation_name d ≡ Some (empty_table v.columns)

module _ (d : Database) (name : List ℕ) (columns : List ColumnDef) (c t v : TableDef) (are : AreBare d c t v) (c_rows t_rows v_rows : Rows)
    (c_added : cells_added c.long c.columns (pool_of (no_change d)) [] (column_rows name columns) ≡ Some c_rows)
    (t_added : cells_added t.long t.columns c_rows.1 [] (listing name) ≡ Some t_rows) (v_added : cells_added v.long v.columns t_rows.1 [] (validation_rows name columns) ≡ Some v_rows) where
  abbrev b₁ : Change
  b₁ = with_stored columns_name c.columns c_rows.0 c_rows.1 (no_change d)

  abbrev b₂ : Change
  b₂ = with_stored tables_name t.columns t_rows.0 t_rows.1 b₁

  abbrev b₃ : Change
  b₃ = with_stored validation_name v.columns v_rows.0 v_rows.1 b₂

  first : added_to columns_name (column_rows name columns) (no_change d) ≡ Some b₁
  first = added_first (no_change d) columns_name c (column_rows name columns) c_rows are.c_long are.c_at c_added

  second : added_to tables_name (listing name) b₁ ≡ Some b₂
  second = added_first b₁ tables_name t (listing name) t_rows are.t_long
      (maps.find_put_other names_total list_cmp_exact tables_name columns_name _ d.tables (apart_names columns_name tables_name refl) ∙ are.t_at) t_added

  third : added_to validation_name (validation_rows name columns) b₂ ≡ Some b₃
  third = added_first b₂ validation_name v (validation_rows name columns) v_rows are.v_long
      (maps.find_put_other names_total list_cmp_exact validation_name tables_name _ b₁.database.tables (apart_names tables_name validation_name refl)
      ∙ maps.find_put_other names_total list_cmp_exact validation_name columns_name _ d.tables (apart_names columns_name validation_name refl) ∙ are.v_at) v_added

  described : described_by_rows name columns (no_change d) ≡ Some b₃
  described =
      ap (λ (o : Option Change). option_and_then (added_to validation_name (validation_rows name columns)) (option_and_then (added_to tables_name (listing name)) o)) first
      ∙ ap (λ (o : Option Change). option_and_then (added_to validation_name (validation_rows name columns)) o) second
      ∙ third

  single : List ℕ → TableDef → Rows → List Stored
  single name t r = record { name = table_key name; bytes = stream_of_rows d.pool.long t.columns r.0 } ∷ []

  three_stored : tables_stored b₃.database b₃.stored ≡ (single columns_name c c_rows ++ single tables_name t t_rows) ++ single validation_name v v_rows
  unfolding single
  three_stored =
      rows_stored_last b₂ validation_name v.columns v_rows.0 v_rows.1 refl
      ∙ ap (λ (es : List Stored). es ++ single validation_name v v_rows) (rows_stored_last b₁ tables_name t.columns t_rows.0 t_rows.1 refl
      ∙ ap (λ (es : List Stored). es ++ single tables_name t t_rows) (rows_stored_first d columns_name c.columns c_rows.0 c_rows.1))

  same_three : (single columns_name c c_rows ++ single tables_name t t_rows) ++ single validation_name v v_rows ≡ stream_begun c c_rows ∷ stream_begun t t_rows ∷ stream_begun v v_rows ∷ []
  unfolding single
  same_three i = same_stream columns_name d.pool.long c c_rows are.c_named are.c_long i
      ∷ same_stream tables_name d.pool.long t t_rows are.t_named are.t_long i
      ∷ same_stream validation_name d.pool.long v v_rows are.v_named are.v_long i ∷ []

  pub describes : (other : Change) → Describes d c t v c_rows t_rows v_rows (unwrap_or (described_by_rows name columns (no_change d)) other)
  describes other = subst (λ (o : Option Change). Describes d c t v c_rows t_rows v_rows (unwrap_or o other)) (sym described) (record {
    streams = three_stored ∙ same_three;
    own_names = own_names b₃.database b₃.stored system_names system_apart;
    pool = refl;
  })
