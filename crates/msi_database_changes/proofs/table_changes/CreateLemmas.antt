-- A table that is created: the rows about it are inserted, and it begins with none.
use Rattle.std.proofs.Common.{◌≡◌, ℕ, ◌+◌, Bool, true, false, cond, not, ◌&&◌, List, [], ◌∷◌, ◌++◌, Option, Some, None, is_some, Result, Ok, refl, sym, ap, ◌∙◌, subst, arith, ⊎_elim, Ordering, Less, Equal, Greater}
use Rattle.std.specs.List.{list_all}
use Rattle.std.specs.Option as options
use Rattle.std.specs.Ordering.{is_eq, eq_by_cmp}
use Rattle.std.specs.Cmp.Lexicographic.{nat_list_cmp_total}
use Rattle.std.specs.FinMap.{find, put}
use Rattle.std.specs.FinMap.Entries.{is_sorted-put, find-put, find_tied}
use Rattle.std.proofs.lemmas.Bool.{cases_Bool, and_parts, and_from, not-false}
use Rattle.std.proofs.lemmas.Option.{none-some}
use Rattle.msi_base.specs.declared.errors.ErrorKind.{ErrorKind}
use Rattle.msi_base.specs.declared.errors.ErrorKind.TheVariants.{InvalidData}
use Rattle.msi_pool.specs.FirstFitLaws.{TakenPlacesHoldTheirText, GivenBackTakesOne}
use Rattle.msi_base.specs.Lists.{list_cmp}
use Rattle.msi_base.proofs.OptionLemmas.{none_there}
use Rattle.msi_table_values.specs.declared.value.Value.{Value}
use Rattle.msi_table_values.specs.declared.value.Value.TheVariants.{Str}
use Rattle.msi_table_values.specs.Columns.{ColumnDef}
use Rattle.msi_table_cells.specs.StoredOrder.{in_stored_order}
use Rattle.msi_table_cells.specs.KeyOrder.{in_key_order}
use Rattle.msi_base.specs.Refusals.{unless_refused, ◌>>=◌}
use Rattle.msi_database_schema.specs.Keys.{is_table_name}
use Rattle.msi_database_schema.specs.System.{validation_name, columns_name, tables_name, validation_columns}
use Rattle.msi_database_changes.specs.Database.{Database, table_at, has_table, with_table, rows_of, is_sound, are_alike}
use Rattle.msi_table_cells.specs.TableCells.{TableCells}
use Rattle.msi_database_changes.specs.Changes.{Change, no_change, sound_refusal}
use Rattle.msi_database_changes.specs.Create.{table_refusals, with_new_table, create_at_width}
use Rattle.msi_database_changes.specs.Insert.{rows_inserted}
use Rattle.msi_database_schema.specs.Description.{column_rows, validation_rows}
use Rattle.msi_database_schema.proofs.AccountLemmas.{Uses, Enough}
use Rattle.msi_database_changes.proofs.steps.TurnLemmas.{total}
use Rattle.msi_database_changes.proofs.steps.RefusedLemmas.{bind_ok, not_refused, first_fails, front_fails, same_Ok, none_holds}
use Rattle.msi_database_changes.proofs.text_counts.TablesLemmas.{table_uses, database_uses}
use Rattle.msi_database_changes.proofs.soundness.SoundLemmas.{enough_from_sound, sound_from_enough, exact_from, exact_to}
use Rattle.msi_database_changes.proofs.steps.StoredLemmas.{table_is_full, WellFormed, sound_parts, sound_whole, still_missing}
use Rattle.msi_database_changes.proofs.row_changes.InsertedLemmas.{Inserted, inserted_parts, inserted_sound, inserted_well, inserted_exact}
use Rattle.msi_database_changes.proofs.table_changes.DropLemmas.{Keeps, keeps_on}

-- an entry at a new key
module _ {K X : Type 0} (R : K → K → Ordering) (k : K) (w : X) where
  total_put_new : (f : X → Uses) (x : K × X) (es : List (K × X)) (n : ℕ) (r : Ordering) → R k x.0 ≡ r → find R k (x ∷ es) ≡ None
      → (find R k es ≡ None → total (λ e. f e.1) (put R k w es) n ≡ total (λ e. f e.1) es n + f w n)
      → total (λ e. f e.1) (put R k w (x ∷ es)) n ≡ total (λ e. f e.1) (x ∷ es) n + f w n
  total_put_new f x es n Less is missing next = rw is (omega arith)
  total_put_new f x es n Equal is missing next = absurd (none-some x.1 (sym (rw is at missing)))
  total_put_new f x es n Greater is missing next = rw is (omega (arith, next (rw is at missing)))

  total-put-new : (f : X → Uses) (es : List (K × X)) (n : ℕ) → find R k es ≡ None → total (λ e. f e.1) (put R k w es) n ≡ total (λ e. f e.1) es n + f w n
  total-put-new f [] n missing = omega arith
  total-put-new f (x ∷ es) n missing = total_put_new f x es n (R k x.0) refl missing (total-put-new f es n)

  all_put_new : (p : K × X → Bool) → p (k, w) ≡ true → (x : K × X) (es : List (K × X)) (r : Ordering) → R k x.0 ≡ r → find R k (x ∷ es) ≡ None → list_all p (x ∷ es) ≡ true
      → (find R k es ≡ None → list_all p es ≡ true → list_all p (put R k w es) ≡ true)
      → list_all p (put R k w (x ∷ es)) ≡ true
  all_put_new p new x es Less is missing all next = rw is (and_from (p (k, w)) (list_all p (x ∷ es)) new all)
  all_put_new p new x es Equal is missing all next = absurd (none-some x.1 (sym (rw is at missing)))
  all_put_new p new x es Greater is missing all next =
      let parts = and_parts (p x) (list_all p es) all in
      rw is (and_from (p x) (list_all p (put R k w es)) parts.0 (next (rw is at missing) parts.1))

  all-put-new : (p : K × X → Bool) → p (k, w) ≡ true → (es : List (K × X)) → find R k es ≡ None → list_all p es ≡ true → list_all p (put R k w es) ≡ true
  all-put-new p new [] missing all = and_from (p (k, w)) true new refl
  all-put-new p new (x ∷ es) missing all = all_put_new p new x es (R k x.0) refl missing all (all-put-new p new es)

-- a table without rows, of a name that no table has
module _ (d : Database) (name : List ℕ) (columns : List ColumnDef) (missing : table_at name d ≡ None) (named : is_table_name name ≡ true) (apart : eq_by_cmp list_cmp validation_name name ≡ false)
    (sound : is_sound d ≡ true) (well : WellFormed d) where
  abbrev empty : TableCells
  empty = record { columns = columns; rows = Some [] }

  abbrev now : Database
  now = with_table name empty d

  uses_now : (n : ℕ) → database_uses now n ≡ database_uses d n
  uses_now n = omega (arith, total-put-new list_cmp name empty table_uses d.tables n missing)

  enough_then : Enough d.pool.places (database_uses d)
  enough_then = let p = sound_parts d sound in enough_from_sound d p.suffice p.in_pool well.numbers

  abbrev standard_at : Option TableCells → Bool
  standard_at o = options.option_map_or (λ t. are_alike t.columns validation_columns) o true

  new_table_keeps : Keeps d now
  new_table_keeps =
      let p = sound_parts d sound in
      let counts = sound_from_enough now (λ n. omega (arith, enough_then n, uses_now n)) in record {
        sound = sound_whole now (record {
          suffice = counts.suffice;
          in_pool = counts.in_pool;
          width = p.width;
          readable = all-put-new list_cmp name empty (λ t. is_some t.1.rows && is_table_name t.0) named d.tables missing p.readable;
          standard = ap standard_at (find-put list_cmp nat_list_cmp_total validation_name name empty d.tables ∙ ap (λ b. cond b (Some empty) (table_at validation_name d)) apart) ∙ p.standard;
        });
        well = record {
          numbers = counts.numbers;
          in_order = is_sorted-put list_cmp nat_list_cmp_total name empty d.tables well.in_order;
          full = all-put-new list_cmp name empty table_is_full refl d.tables missing well.full;
        };
        exact = λ exact. exact_to now (λ n. omega (arith, exact_from d enough_then exact n, uses_now n));
      }

-- a name that no table has isn't that of one that there is
other_name : (d : Database) (name there : List ℕ) → has_table name d ≡ false → has_table there d ≡ true → eq_by_cmp list_cmp there name ≡ false
other_name d name there missing has = ⊎_elim
    (λ (t : eq_by_cmp list_cmp there name ≡ true). clash (has_table name d) (ap is_some (find_tied list_cmp nat_list_cmp_total there name (ties (list_cmp there name) t) d.tables) ∙ has) missing)
    (λ (t : eq_by_cmp list_cmp there name ≡ false). t)
    (cases_Bool (eq_by_cmp list_cmp there name)) where
      ties : (r : Ordering) → is_eq r ≡ true → r ≡ Equal
      ties Less e = cc
      ties Equal e = refl
      ties Greater e = cc

      clash : (b : Bool) → b ≡ true → b ≡ false → eq_by_cmp list_cmp there name ≡ false
      clash b p q = cc

-- and an insert into another table leaves it without one
inserted_missing : (b : Change) (system : List ℕ) (values : List (List Value)) (c : Change) (name : List ℕ) → WellFormed b.database → Inserted b system values c → table_at name b.database ≡ None → table_at name c.database ≡ None
inserted_missing b system values c name well s missing = subst (λ (c : Change). table_at name c.database ≡ None) s.stored
    (still_missing b.database system s.table s.found well.in_order (in_stored_order s.table.columns (in_key_order s.table.columns s.put.1.places (rows_of s.table ++ s.put.0))) s.put.1.places name missing)

module _ (takes : TakenPlacesHoldTheirText) (gives : GivenBackTakesOne) where
  pub inserted_keeps : (b : Change) (system : List ℕ) (values : List (List Value)) (c : Change) → is_sound b.database ≡ true → WellFormed b.database → Inserted b system values c → Keeps b.database c.database
  inserted_keeps b system values c sound well s = record {
    sound = inserted_sound takes gives b system values c sound well s;
    well = inserted_well takes gives b system values c sound well s;
    exact = inserted_exact takes gives b system values c sound well s;
  }

  -- the three inserts, and the new table
  described_keeps : (d : Database) (name : List ℕ) (columns : List ColumnDef) (c₁ c₂ c₃ : Change) → is_sound d ≡ true → WellFormed d → is_table_name name ≡ true → has_table name d ≡ false → has_table validation_name d ≡ true
      → Inserted (no_change d) columns_name (column_rows name columns) c₁ → Inserted c₁ tables_name ((Str name ∷ []) ∷ []) c₂ → Inserted c₂ validation_name (validation_rows name columns) c₃
      → Keeps d (with_new_table name columns c₃).database
  described_keeps d name columns c₁ c₂ c₃ sound well named missing has i₁ i₂ i₃ =
      let k₁ = inserted_keeps (no_change d) columns_name (column_rows name columns) c₁ sound well i₁ in
      let k₂ = inserted_keeps c₁ tables_name ((Str name ∷ []) ∷ []) c₂ k₁.sound k₁.well i₂ in
      let k₃ = inserted_keeps c₂ validation_name (validation_rows name columns) c₃ k₂.sound k₂.well i₃ in
      let m₁ = inserted_missing (no_change d) columns_name (column_rows name columns) c₁ name well i₁ (none_there (table_at name d) missing) in
      let m₂ = inserted_missing c₁ tables_name ((Str name ∷ []) ∷ []) c₂ name k₁.well i₂ m₁ in
      let m₃ = inserted_missing c₂ validation_name (validation_rows name columns) c₃ name k₂.well i₃ m₂ in
      let k₄ = new_table_keeps c₃.database name columns m₃ named (other_name d name validation_name missing has) k₃.sound k₃.well in
      keeps_on _ _ _ k₁ (keeps_on _ _ _ k₂ (keeps_on _ _ _ k₃ k₄))

  abbrev early : Database → List ℕ → List ColumnDef → Result Change ErrorKind
  early d name columns = unless_refused (sound_refusal d ++ table_refusals d name columns) (no_change d)

  -- a created table leaves a sound and well-formed database, and exact counts exact
  pub create_keeps : (d : Database) (name : List ℕ) (columns : List ColumnDef) (c : Change) → WellFormed d → create_at_width d name columns ≡ Ok c → Keeps d c.database
  create_keeps d name columns c well e =
      let columns_in = rows_inserted columns_name (column_rows name columns) in
      let name_in = rows_inserted tables_name ((Str name ∷ []) ∷ []) in
      let validation_in = rows_inserted validation_name (validation_rows name columns) in
      bind_ok (early d name columns >>= columns_in >>= name_in >>= validation_in) (λ c. Ok (with_new_table name columns c)) c e
      (λ c₃ c₃_is last. bind_ok (early d name columns >>= columns_in >>= name_in) validation_in c₃ c₃_is
      (λ c₂ c₂_is third. bind_ok (early d name columns >>= columns_in) name_in c₂ c₂_is
      (λ c₁ c₁_is second. bind_ok (early d name columns) columns_in c₁ c₁_is
      (λ c₀ c₀_is first.
      let passed = not_refused (sound_refusal d ++ table_refusals d name columns) (no_change d) c₀ c₀_is in
      let fronts = front_fails (sound_refusal d) (table_refusals d name columns) passed.0 in
      let sound = not-false (is_sound d) (first_fails (not (is_sound d)) InvalidData [] fronts.0).0 in
      let fails = none_holds (table_refusals d name columns) fronts.1 in
      subst (λ (c : Change). Keeps d c.database) (same_Ok (with_new_table name columns c₃) c last)
      (described_keeps d name columns c₁ c₂ c₃ sound well (not-false (is_table_name name) fails.0) fails.1.1.1.1.1.1.1.0 (not-false (has_table validation_name d) fails.1.1.1.1.1.1.1.1.0)
      (inserted_parts (no_change d) columns_name (column_rows name columns) c₁ (subst (λ c₀. columns_in c₀ ≡ Ok c₁) (sym passed.1) first))
      (inserted_parts c₁ tables_name ((Str name ∷ []) ∷ []) c₂ second)
      (inserted_parts c₂ validation_name (validation_rows name columns) c₃ third))))))
