-- A call that is refused, step by step: what a step refuses, the call refuses.
use Rattle.std.proofs.Common.{◌≡◌, ℕ, not, List, [], ◌∷◌, ◌++◌, Option, Some, None, Ok, Err, sym, ap, subst, ◌∙◌, inl, inr}
use Rattle.std.specs.Prelude.{option_map, Result}
use Rattle.std.specs.List.{fold}
use Rattle.msi_base.specs.declared.errors.ErrorKind.{ErrorKind}
use Rattle.msi_base.specs.declared.errors.ErrorKind.TheVariants.{InvalidInput, NotFound}
use Rattle.msi_table_values.specs.declared.value.Value.{Value}
use Rattle.msi_table_values.specs.declared.value.Value.TheVariants.{Str}
use Rattle.msi_table_cells.specs.declared.cell.ValueRef.{ValueRef}
use Rattle.msi_table_values.specs.Columns.{ColumnDef}
use Rattle.msi_query.specs.Queries.{InsertQuery}
use Rattle.msi_base.specs.Refusals.{Refusals, IsRefusal, first_refusal, or_refused, unless_refused, ◌>>=◌}
use Rattle.msi_table_cells.specs.TableCells.{TableCells}
use Rattle.msi_database_schema.specs.Keys.{is_table_name}
use Rattle.msi_database_schema.specs.System.{is_system_table, tables_name, columns_name, validation_name}
use Rattle.msi_database_schema.specs.Description.{column_rows, validation_rows}
use Rattle.msi_database_changes.specs.Database.{Database, table_at, rows_of}
use Rattle.msi_database_changes.specs.Changes.{Change, no_change, pool_of, with_stored, sound_refusal}
use Rattle.msi_database_changes.specs.Texts.{PoolInUse, rows_put}
use Rattle.msi_table_cells.specs.KeyOrder.{in_key_order}
use Rattle.msi_database_changes.specs.Insert.{cells_added, insert_at_width, rows_inserted, rows_added, row_refusals}
use Rattle.msi_database_changes.specs.Create.{create_at_width, table_refusals, with_new_table}
use Rattle.msi_database_changes.specs.Drop.{drop_table, rows_forgotten, table_released}
use Rattle.msi_base.proofs.RefusalLemmas.{goes_on-Err, unless-Err}
use Rattle.msi_database.proofs.calls.AcceptedCallLemmas.{goes_on, found}

-- STEPS

pub refused_same : {A B : Type 0} (rs : Refusals) (x : A) (y : B) (k : ErrorKind) → IsRefusal (unless_refused rs x) k → IsRefusal (unless_refused rs y) k
refused_same rs x y k (inl memory) = inl memory
refused_same rs x y k (inr e) = inr (unless-Err (first_refusal rs) x y k e)

pub step_refuses : {A B C : Type 0} (rs : Refusals) (x : A) (y : C) (f : A → Result B ErrorKind) (k : ErrorKind) → IsRefusal (unless_refused rs y) k → IsRefusal (unless_refused rs x >>= f) k
step_refuses rs x y f k h = goes_on-Err (unless_refused rs x) f k (refused_same rs y x k h)

pub step_missing : {A B : Type 0} (kind : ErrorKind) (o : Option A) (f : A → Result B ErrorKind) → o ≡ None → IsRefusal (or_refused kind o >>= f) kind
step_missing kind o f e = inr (ap (λ (o : Option _). or_refused kind o >>= f) e)

mapped_none : {A B C : Type 0} (kind k : ErrorKind) (f : A → B) (g : A → C) (o : Option A) → or_refused kind (option_map f o) ≡ Err k → or_refused kind (option_map g o) ≡ Err k
mapped_none kind k f g None e = cc
mapped_none kind k f g (Some x) e = cc

pub mapped_refused : {A B C : Type 0} (kind k : ErrorKind) (f : A → B) (g : A → C) (o : Option A) → IsRefusal (or_refused kind (option_map f o)) k → IsRefusal (or_refused kind (option_map g o)) k
mapped_refused kind k f g o (inl memory) = inl memory
mapped_refused kind k f g o (inr e) = inr (mapped_none kind k f g o e)

none_refused : {A C : Type 0} (kind k : ErrorKind) (g : A → C) (o : Option A) → or_refused kind o ≡ Err k → or_refused kind (option_map g o) ≡ Err k
none_refused kind k g None e = cc
none_refused kind k g (Some x) e = cc

pub option_refused : {A C : Type 0} (kind k : ErrorKind) (g : A → C) (o : Option A) → IsRefusal (or_refused kind o) k → IsRefusal (or_refused kind (option_map g o)) k
option_refused kind k g o (inl memory) = inl memory
option_refused kind k g o (inr e) = inr (none_refused kind k g o e)

pub becomes : {A : Type 0} (r s : Result A ErrorKind) (k : ErrorKind) → r ≡ s → IsRefusal s k → IsRefusal r k
becomes r s k e h = subst (λ (r : Result _ ErrorKind). IsRefusal r k) (sym e) h

-- ROWS THAT ARE INSERTED, from any change on

module _ (b : Change) (name : List ℕ) (values : List (List Value)) where
  abbrev judged : TableCells → Result Change ErrorKind
  judged t = unless_refused (row_refusals b.database.pool.places t values) t >>= λ t. or_refused InvalidInput (rows_added name t values b)

  abbrev added : TableCells → Result Change ErrorKind
  added t = or_refused InvalidInput (rows_added name t values b)

  pub inserted_missing : table_at name b.database ≡ None → IsRefusal (rows_inserted name values b) NotFound
  inserted_missing e = step_missing NotFound (table_at name b.database) judged e

  module _ (t : TableCells) (at : table_at name b.database ≡ Some t) (k : ErrorKind) where
    pub inserted_misfit : IsRefusal {A = Unit {0}} (unless_refused (row_refusals b.database.pool.places t values) tt) k → IsRefusal (rows_inserted name values b) k
    inserted_misfit h = becomes (rows_inserted name values b) (judged t) k (found NotFound (table_at name b.database) t judged at)
        (step_refuses (row_refusals b.database.pool.places t values) t tt added k h)

    abbrev passes : Type 0
    passes = first_refusal (row_refusals b.database.pool.places t values) ≡ None

    at_last : passes → rows_inserted name values b ≡ added t
    at_last passed = found NotFound (table_at name b.database) t judged at ∙ goes_on (row_refusals b.database.pool.places t values) t added passed

    abbrev stored_as : List (List ValueRef) × PoolInUse → Change
    stored_as r = with_stored name t.columns (in_key_order t.columns r.1.places (rows_of t ++ r.0)) r.1 b

    -- the same of all rows of the table, as a call makes them
    pub cells_full : passes → IsRefusal (or_refused InvalidInput (cells_added b.database.pool.long t.columns (pool_of b) (rows_of t) values)) k → IsRefusal (rows_inserted name values b) k
    cells_full passed h = becomes (rows_inserted name values b) (added t) k (at_last passed)
        (mapped_refused InvalidInput k (λ r. (in_key_order t.columns r.1.places (rows_of t ++ r.0), r.1)) stored_as (rows_put b.database.pool.long (pool_of b) values) h)

-- AN INSERT

module _ (d : Database) (q : InsertQuery) where
  abbrev insert_early : Refusals
  insert_early = sound_refusal d ++ (is_system_table q.table, InvalidInput) ∷ []

  pub insert_refused : (k : ErrorKind) → first_refusal insert_early ≡ None → IsRefusal (rows_inserted q.table q.rows (no_change d)) k → IsRefusal (insert_at_width d q) k
  insert_refused k passed h = becomes (insert_at_width d q) (rows_inserted q.table q.rows (no_change d)) k (goes_on insert_early (no_change d) (rows_inserted q.table q.rows) passed) h

-- A CREATE

module _ (d : Database) (name : List ℕ) (columns : List ColumnDef) where
  abbrev create_early : Refusals
  create_early = sound_refusal d ++ table_refusals d name columns

  abbrev first_of : Change → Result Change ErrorKind
  first_of c = rows_inserted columns_name (column_rows name columns) c

  abbrev second_of : Change → Result Change ErrorKind
  second_of c = rows_inserted tables_name ((Str name ∷ []) ∷ []) c

  abbrev third_of : Change → Result Change ErrorKind
  third_of c = rows_inserted validation_name (validation_rows name columns) c

  abbrev last_of : Change → Result Change ErrorKind
  last_of c = Ok (with_new_table name columns c)

  pub create_barred : (k : ErrorKind) → IsRefusal {A = Unit {0}} (unless_refused create_early tt) k → IsRefusal (create_at_width d name columns) k
  create_barred k h =
      let one = unless_refused create_early (no_change d) >>= first_of in
      let two = one >>= second_of in
      goes_on-Err (two >>= third_of) last_of k (goes_on-Err two third_of k (goes_on-Err one second_of k (step_refuses create_early (no_change d) tt first_of k h)))

  module _ (passed : first_refusal create_early ≡ None) (k : ErrorKind) where
    one_is : (unless_refused create_early (no_change d) >>= first_of) ≡ first_of (no_change d)
    one_is = goes_on create_early (no_change d) first_of passed

    pub create_first_refused : IsRefusal (first_of (no_change d)) k → IsRefusal (create_at_width d name columns) k
    create_first_refused h =
        let one = unless_refused create_early (no_change d) >>= first_of in
        let two = one >>= second_of in
        goes_on-Err (two >>= third_of) last_of k (goes_on-Err two third_of k (goes_on-Err one second_of k (becomes one (first_of (no_change d)) k one_is h)))

    module _ (first : Change) (first_is : first_of (no_change d) ≡ Ok first) where
      two_is : (unless_refused create_early (no_change d) >>= first_of >>= second_of) ≡ second_of first
      two_is = ap (λ (r : Result Change ErrorKind). r >>= second_of) (one_is ∙ first_is)

      pub create_second_refused : IsRefusal (second_of first) k → IsRefusal (create_at_width d name columns) k
      create_second_refused h =
          let two = unless_refused create_early (no_change d) >>= first_of >>= second_of in
          goes_on-Err (two >>= third_of) last_of k (goes_on-Err two third_of k (becomes two (second_of first) k two_is h))

      module _ (second : Change) (second_is : second_of first ≡ Ok second) where
        three_is : (unless_refused create_early (no_change d) >>= first_of >>= second_of >>= third_of) ≡ third_of second
        three_is = ap (λ (r : Result Change ErrorKind). r >>= third_of) (two_is ∙ second_is)

        pub create_third_refused : IsRefusal (third_of second) k → IsRefusal (create_at_width d name columns) k
        create_third_refused h =
            let three = unless_refused create_early (no_change d) >>= first_of >>= second_of >>= third_of in
            goes_on-Err three last_of k (becomes three (third_of second) k three_is h)

-- A DROP

module _ (d : Database) (name : List ℕ) where
  abbrev drop_early : Refusals
  drop_early = sound_refusal d ++ (is_system_table name, InvalidInput) ∷ (not (is_table_name name), InvalidInput) ∷ []

  abbrev drop_last : Change → TableCells → Result Change ErrorKind
  drop_last c t = Ok (fold (λ c system. rows_forgotten name d.pool.places system c) (table_released name t c) (validation_name ∷ columns_name ∷ tables_name ∷ []))

  abbrev drop_found : Change → Result Change ErrorKind
  drop_found c = or_refused NotFound (table_at name d) >>= drop_last c

  pub drop_barred : (k : ErrorKind) → IsRefusal {A = Unit {0}} (unless_refused drop_early tt) k → IsRefusal (drop_table d name) k
  drop_barred k h = step_refuses drop_early (no_change d) tt drop_found k h
