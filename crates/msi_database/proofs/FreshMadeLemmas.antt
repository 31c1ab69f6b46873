-- The calls of a new database, one after the other, make the streams and the pool of `fresh`.
use Rattle.std.proofs.Common.{◌≡◌, true, false, List, [], ◌∷◌, length, Some, refl, sym, ap, ap₂, subst, ◌∙◌}
use Rattle.std.specs.Prelude.{IsTrue, unwrap_or}
use Rattle.msi_container_format.specs.Names.{is_name_length}
use Rattle.msi_pool.specs.Pool.{Pool}
use Rattle.msi_table_values.specs.declared.value.Value.{Value}
use Rattle.msi_table_values.specs.Columns.{ColumnDef}
use Rattle.msi_table.specs.Tables.{TableDef}
use Rattle.msi_database_schema.specs.Description.{column_rows, have_short_lengths, tables_row, validation_rows}
use Rattle.msi_database_schema.specs.Keys.{table_key}
use Rattle.msi_database_schema.specs.System.{columns_columns, columns_name, tables_columns, tables_name, validation_columns, validation_name}
use Rattle.msi_database_changes.specs.Texts.{PoolInUse, UsedPool, in_use, settled}
use Rattle.msi_database_changes.specs.Changes.{no_change, pool_of}
use Rattle.msi_database_changes.specs.Create.{described_by_rows}
use Rattle.msi_database_changes.specs.Insert.{cells_added}
use Rattle.msi_database_changes.specs.declared.storing.Stored.{Stored}
use Rattle.msi_database_changes.specs.Storing.{HaveOwnNames}
use Rattle.msi_database.specs.Fresh.{fresh_change}
use Rattle.msi_database.specs.FreshParts.{Begins, CanBegin, columns_table, fresh_pool, fresh_stored, tables_table, unused_pool, validation_table}
use Rattle.msi_database.proofs.FreshCallLemmas.{AreBare, Describes, begins_as, begun, can_as, describes, listing, stream_begun}
use Rattle.msi_database.proofs.FreshStepLemmas as steps
use Rattle.msi_database.proofs.FreshStepLemmas.{bare, column_values, pool₀, pool₁, pool₂, table_values, validation_values}

-- THE TABLES

pub columns_made : (t : TableDef) (cs : List ColumnDef) → t ≡ record { name = columns_name; columns = cs; long = false } → cs ≡ columns_columns → t ≡ columns_table
unfolding columns_table
columns_made t cs e f = e ∙ ap (λ (cs : List ColumnDef). record { name = columns_name; columns = cs; long = false }) f

pub tables_made : (t : TableDef) (cs : List ColumnDef) → t ≡ record { name = tables_name; columns = cs; long = false } → cs ≡ tables_columns → t ≡ tables_table
unfolding tables_table
tables_made t cs e f = e ∙ ap (λ (cs : List ColumnDef). record { name = tables_name; columns = cs; long = false }) f

pub validation_made : (t : TableDef) (cs : List ColumnDef) → t ≡ record { name = validation_name; columns = cs; long = false } → cs ≡ validation_columns → t ≡ validation_table
unfolding validation_table
validation_made t cs e f = e ∙ ap (λ (cs : List ColumnDef). record { name = validation_name; columns = cs; long = false }) f

-- BY COMPUTATION

are_bare : AreBare bare columns_table tables_table validation_table
are_bare = record {
  c_named = steps.columns_named;
  t_named = steps.tables_named;
  v_named = steps.validation_named;
  c_long = steps.columns_long ∙ sym steps.bare_long;
  t_long = steps.tables_long ∙ sym steps.bare_long;
  v_long = steps.validation_long ∙ sym steps.bare_long;
  c_at = steps.columns_at;
  t_at = steps.tables_at;
  v_at = steps.validation_at;
}

columns_added : cells_added columns_table.long columns_table.columns (pool_of (no_change bare)) [] (column_rows validation_name validation_table.columns) ≡ Some (begun columns_table pool₀ column_values)
columns_added = ap₂ (λ (p : PoolInUse) (xs : List (List Value)). cells_added columns_table.long columns_table.columns p [] xs) steps.pool_bare steps.column_values_are
    ∙ can_as columns_table pool₀ column_values steps.first_can

tables_added : cells_added tables_table.long tables_table.columns (begun columns_table pool₀ column_values).1 [] (listing validation_name) ≡ Some (begun tables_table pool₁ table_values)
tables_added = ap₂ (λ (p : PoolInUse) (xs : List (List Value)). cells_added tables_table.long tables_table.columns p [] xs) steps.pool₁_is steps.table_values_are
    ∙ can_as tables_table pool₁ table_values steps.second_can

validation_added : cells_added validation_table.long validation_table.columns (begun tables_table pool₁ table_values).1 [] (validation_rows validation_name validation_table.columns) ≡ Some (begun validation_table pool₂ validation_values)
validation_added = ap₂ (λ (p : PoolInUse) (xs : List (List Value)). cells_added validation_table.long validation_table.columns p [] xs) steps.pool₂_is steps.validation_values_are
    ∙ can_as validation_table pool₂ validation_values steps.third_can

fresh_described : Describes bare columns_table tables_table validation_table (begun columns_table pool₀ column_values) (begun tables_table pool₁ table_values) (begun validation_table pool₂ validation_values)
    (unwrap_or (described_by_rows validation_name validation_table.columns (no_change bare)) (no_change bare))
fresh_described = describes bare validation_name validation_table.columns columns_table tables_table validation_table are_bare
    (begun columns_table pool₀ column_values) (begun tables_table pool₁ table_values) (begun validation_table pool₂ validation_values) columns_added tables_added validation_added (no_change bare)

fresh_is : unwrap_or (described_by_rows validation_name validation_table.columns (no_change bare)) (no_change bare) ≡ fresh_change
unfolding bare validation_table
fresh_is = refl

fresh_describes : Describes bare columns_table tables_table validation_table (begun columns_table pool₀ column_values) (begun tables_table pool₁ table_values) (begun validation_table pool₂ validation_values) fresh_change
fresh_describes = subst (Describes bare columns_table tables_table validation_table (begun columns_table pool₀ column_values) (begun tables_table pool₁ table_values) (begun validation_table pool₂ validation_values)) fresh_is fresh_described

streams_are : fresh_stored ≡ stream_begun columns_table (begun columns_table pool₀ column_values) ∷ stream_begun tables_table (begun tables_table pool₁ table_values) ∷ stream_begun validation_table (begun validation_table pool₂ validation_values) ∷ []
unfolding fresh_stored
streams_are = fresh_describes.streams

pub have_own_names : HaveOwnNames fresh_stored
unfolding fresh_stored
have_own_names = fresh_describes.own_names

pool_is : fresh_pool ≡ record bare.pool { places = (begun validation_table pool₂ validation_values).1.places }
unfolding fresh_pool
pool_is = fresh_describes.pool

-- two bytes suffice for its references
pub fresh_settled : settled fresh_pool ≡ fresh_pool
unfolding Rattle.std.specs.Str.chars fresh_pool
fresh_settled = refl

unused_is : unused_pool.pool ≡ bare.pool
unfolding bare
unused_is = refl

-- AS THE CALLS GO

can_at : (t u : TableDef) (p q : PoolInUse) (xs ys : List (List Value)) → t ≡ u → p ≡ q → xs ≡ ys → CanBegin u q ys → CanBegin t p xs
can_at t u p q xs ys e f g h =
    subst (λ (t : TableDef). CanBegin t p xs) (sym e) (subst (λ (p : PoolInUse). CanBegin u p xs) (sym f) (subst (λ (xs : List (List Value)). CanBegin u q xs) (sym g) h))

begins_at : (t u : TableDef) (p q : PoolInUse) (xs ys : List (List Value)) (s : Stored) (after : PoolInUse) → t ≡ u → p ≡ q → xs ≡ ys → Begins t p xs s after
    → (s ≡ stream_begun u (begun u q ys)) × (after ≡ (begun u q ys).1)
begins_at t u p q xs ys s after e f g h =
    begins_as u q ys s after (subst (λ (t : TableDef). Begins t q ys s after) e (subst (λ (p : PoolInUse). Begins t p ys s after) f (subst (λ (xs : List (List Value)). Begins t p xs s after) g h)))

pub short : (v : TableDef) (cs : List ColumnDef) → v ≡ validation_table → cs ≡ v.columns → IsTrue (have_short_lengths cs)
short v cs e f = subst (λ (cs : List ColumnDef). IsTrue (have_short_lengths cs)) (sym (f ∙ ap (λ (t : TableDef). t.columns) e)) steps.short_lengths

has_key : (t u : TableDef) → t ≡ u → is_name_length (length (table_key u.name)) ≡ true → is_name_length (length (table_key t.name)) ≡ true
has_key t u e h = subst (λ (t : TableDef). is_name_length (length (table_key t.name)) ≡ true) (sym e) h

pub columns_key : (t : TableDef) → t ≡ columns_table → is_name_length (length (table_key t.name)) ≡ true
columns_key t e = has_key t columns_table e steps.columns_key

pub tables_key : (t : TableDef) → t ≡ tables_table → is_name_length (length (table_key t.name)) ≡ true
tables_key t e = has_key t tables_table e steps.tables_key

pub validation_key : (t : TableDef) → t ≡ validation_table → is_name_length (length (table_key t.name)) ≡ true
validation_key t e = has_key t validation_table e steps.validation_key

module _ (c t v : TableDef) (c_is : c ≡ columns_table) (t_is : t ≡ tables_table) (v_is : v ≡ validation_table) (u₀ : UsedPool) (u₀_is : u₀ ≡ unused_pool) where
  short_pool : u₀.pool.long ≡ false
  short_pool = ap (λ (u : UsedPool). u.pool.long) u₀_is

  pub columns_long : c.long ≡ u₀.pool.long
  columns_long = ap (λ (t : TableDef). t.long) c_is ∙ steps.columns_long ∙ sym short_pool

  pub tables_long : (u₁ : UsedPool) → u₁.pool.long ≡ u₀.pool.long → t.long ≡ u₁.pool.long
  tables_long u₁ same = ap (λ (t : TableDef). t.long) t_is ∙ steps.tables_long ∙ sym (same ∙ short_pool)

  pub validation_long : (u₁ u₂ : UsedPool) → u₁.pool.long ≡ u₀.pool.long → u₂.pool.long ≡ u₁.pool.long → v.long ≡ u₂.pool.long
  validation_long u₁ u₂ same also = ap (λ (t : TableDef). t.long) v_is ∙ steps.validation_long ∙ sym (also ∙ same ∙ short_pool)

  module _ (cs : List ColumnDef) (cs_is : cs ≡ v.columns) (xs : List (List Value)) (xs_are : xs ≡ column_rows validation_name cs) where
    columns_of : cs ≡ validation_table.columns
    columns_of = cs_is ∙ ap (λ (t : TableDef). t.columns) v_is

    xs_made : xs ≡ column_values
    xs_made = xs_are ∙ ap (column_rows validation_name) columns_of ∙ steps.column_values_are

    pub columns_can : CanBegin c (in_use u₀) xs
    columns_can = can_at c columns_table (in_use u₀) pool₀ xs column_values c_is (ap in_use u₀_is ∙ steps.pool₀_is) xs_made steps.first_can

    module _ (s₁ : Stored) (u₁ : UsedPool) (begins₁ : Begins c (in_use u₀) xs s₁ (in_use u₁)) (row : List Value) (row_is : row ≡ tables_row validation_name) (ys : List (List Value)) (ys_are : ys ≡ row ∷ []) where
      after₁ : (s₁ ≡ stream_begun columns_table (begun columns_table pool₀ column_values)) × (in_use u₁ ≡ (begun columns_table pool₀ column_values).1)
      after₁ = begins_at c columns_table (in_use u₀) pool₀ xs column_values s₁ (in_use u₁) c_is (ap in_use u₀_is ∙ steps.pool₀_is) xs_made begins₁

      ys_made : ys ≡ table_values
      ys_made = ys_are ∙ ap (λ (row : List Value). row ∷ []) row_is ∙ steps.table_values_are

      pub tables_can : CanBegin t (in_use u₁) ys
      tables_can = can_at t tables_table (in_use u₁) pool₁ ys table_values t_is (after₁.1 ∙ steps.pool₁_is) ys_made steps.second_can

      module _ (s₂ : Stored) (u₂ : UsedPool) (begins₂ : Begins t (in_use u₁) ys s₂ (in_use u₂)) (ds : List ColumnDef) (ds_are : ds ≡ v.columns) (zs : List (List Value)) (zs_are : zs ≡ validation_rows validation_name ds) where
        after₂ : (s₂ ≡ stream_begun tables_table (begun tables_table pool₁ table_values)) × (in_use u₂ ≡ (begun tables_table pool₁ table_values).1)
        after₂ = begins_at t tables_table (in_use u₁) pool₁ ys table_values s₂ (in_use u₂) t_is (after₁.1 ∙ steps.pool₁_is) ys_made begins₂

        zs_made : zs ≡ validation_values
        zs_made = zs_are ∙ ap (validation_rows validation_name) (ds_are ∙ ap (λ (t : TableDef). t.columns) v_is) ∙ steps.validation_values_are

        pub validation_can : CanBegin v (in_use u₂) zs
        validation_can = can_at v validation_table (in_use u₂) pool₂ zs validation_values v_is (after₂.1 ∙ steps.pool₂_is) zs_made steps.third_can

        module _ (s₃ : Stored) (u₃ : UsedPool) (begins₃ : Begins v (in_use u₂) zs s₃ (in_use u₃)) where
          after₃ : (s₃ ≡ stream_begun validation_table (begun validation_table pool₂ validation_values)) × (in_use u₃ ≡ (begun validation_table pool₂ validation_values).1)
          after₃ = begins_at v validation_table (in_use u₂) pool₂ zs validation_values s₃ (in_use u₃) v_is (after₂.1 ∙ steps.pool₂_is) zs_made begins₃

          pub streams_made : s₁ ∷ s₂ ∷ s₃ ∷ [] ≡ fresh_stored
          streams_made = (λ i. after₁.0 i ∷ after₂.0 i ∷ after₃.0 i ∷ []) ∙ sym streams_are

          pub pool_made : u₁.pool.page ≡ u₀.pool.page → u₂.pool.page ≡ u₁.pool.page → u₃.pool.page ≡ u₂.pool.page
              → u₁.pool.long ≡ u₀.pool.long → u₂.pool.long ≡ u₁.pool.long → u₃.pool.long ≡ u₂.pool.long → u₃.pool ≡ fresh_pool
          pool_made page₁ page₂ page₃ long₁ long₂ long₃ =
              let began : u₀.pool ≡ bare.pool = ap (λ (u : UsedPool). u.pool) u₀_is ∙ unused_is in
              let page : u₃.pool.page ≡ bare.pool.page = page₃ ∙ page₂ ∙ page₁ ∙ ap (λ (p : Pool). p.page) began in
              let long : u₃.pool.long ≡ bare.pool.long = long₃ ∙ long₂ ∙ long₁ ∙ ap (λ (p : Pool). p.long) began in
              (λ i. record { page = page i; long = long i; places = (after₃.1 i).places }) ∙ sym pool_is
