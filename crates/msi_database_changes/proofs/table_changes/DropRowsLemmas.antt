-- After a drop, each of the three tables that describe tables has its rows but those about the table, and every other table its own.
use Rattle.std.proofs.Common.{◌≡◌, ℕ, ◌≤◌, Bool, true, false, not, List, [], ◌∷◌, take, map, filter, Option, Some, None, refl, sym, ap, ◌∙◌, subst, arith, ⊎_elim, bytes_eq, IsPermutation}
use Rattle.std.specs.Option.{option_map_or}
use Rattle.std.proofs.lemmas.Bool.{cases_Bool, or_parts, not-false}
use Rattle.std.proofs.lemmas.List.Sorted.{IsPermutation-refl}
use Rattle.msi_base.specs.declared.errors.ErrorKind.TheVariants.{InvalidData}
use Rattle.msi_base.proofs.BoolLemmas.{by_test, not_not}
use Rattle.msi_pool.specs.FirstFitLaws.{TakenPlacesHoldTheirText, GivenBackTakesOne}
use Rattle.msi_pool.specs.Pool.{Place}
use Rattle.msi_table_values.specs.declared.value.Value.{Value}
use Rattle.msi_table_values.specs.declared.value.Value.TheVariants.{Str}
use Rattle.msi_table_cells.specs.declared.cell.ValueRef.{ValueRef}
use Rattle.msi_table_cells.specs.CellValues.{row_values}
use Rattle.msi_table_cells.specs.StoredOrder.{row_cmp, in_stored_order}
use Rattle.msi_table_cells.specs.KeyOrder.{same_key}
use Rattle.msi_database_schema.specs.System.{columns_name, is_schema_table, is_system_table, tables_name, validation_name}
use Rattle.msi_database_changes.specs.Database.{Database, table_at, has_table, rows_of, is_sound}
use Rattle.msi_table_cells.specs.TableCells.{TableCells}
use Rattle.msi_database_changes.specs.Changes.{Change, no_change, pool_of, with_stored}
use Rattle.msi_database_changes.specs.Texts.{PoolInUse, rows_released}
use Rattle.msi_database_changes.specs.Drop.{is_row_about, rows_forgotten, table_released}
use Rattle.msi_database_changes.specs.Laws.{rows_at}
use Rattle.msi_database_schema.specs.Schema.{schema_of}
use Rattle.msi_database_schema.proofs.AccountLemmas.{Uses}
use Rattle.msi_database_changes.proofs.steps.TurnLemmas.{total}
use Rattle.msi_database_changes.proofs.text_counts.RowsLemmas.{row_uses}
use Rattle.msi_database_changes.proofs.steps.RefusedLemmas.{first_fails}
use Rattle.msi_database_schema.proofs.SortLemmas.{values_sorted}
use Rattle.msi_database_changes.proofs.steps.StoredLemmas.{WellFormed, stored_in}
use Rattle.msi_database_changes.proofs.steps.ValuesLemmas.{rows_stay, rows_after}
use Rattle.msi_database_changes.proofs.row_changes.RemovedRowsLemmas.{removed_moved, kept_values}
use Rattle.msi_database_changes.proofs.row_changes.DeleteLemmas.{map_filtered}
use Rattle.msi_database_changes.proofs.table_changes.DropLemmas.{forgotten_by, released_keeps}
use Rattle.msi_database_changes.proofs.describing.DescribingLemmas.{describing, rows_at_is}
use Rattle.msi_database_changes.proofs.describing.ShownTablesLemmas.{shown}
use Rattle.msi_database_changes.proofs.describing.ShownChangesLemmas.{Dropped}
use Rattle.msi_database_schema.proofs.OrderlessLemmas.{HasKinds}
use Rattle.msi_database_schema.proofs.FaultLemmas.{texts_flip}
use Rattle.msi_database_changes.proofs.describing.ChangedDescriptionLemmas.{kept_rows, describes_dropped, describes_unlisted, kinds_after_drop, kinds_unlisted}
use Rattle.msi_database_changes.proofs.steps.UntouchedTableLemmas.{Stays, stays_on, rows_at_stay, Leaves, leaves_itself, LeavesUnlisted, unlisted_by, unlisted_on, unlisted_values, stored_leaves, released_leaves}

kept_fewer : {X : Type 0} (f : X → Uses) (p : X → Bool) (xs : List X) (n : ℕ) → total f (filter p xs) n ≤ total f xs n
kept_fewer f p [] n = omega arith
kept_fewer f p (x ∷ xs) n = ⊎_elim (λ t. rw t (omega (arith, kept_fewer f p xs n))) (λ t. rw t (omega (arith, kept_fewer f p xs n))) (cases_Bool (p x))

-- the rows of one table about a name are forgotten
record Forgets (name system : List ℕ) (d a b : Database) : Type 0 where
  leaves : Leaves system a b
  own : IsPermutation (kept_rows name (rows_at system d)) (rows_at system b)

module _ (takes : TakenPlacesHoldTheirText) (gives : GivenBackTakesOne) (d : Database) (name : List ℕ) where
  abbrev places : List Place
  places = d.pool.places

  abbrev is_other : List ValueRef → Bool
  is_other row = not (is_row_about places name row)

  module _ (b : Change) (system : List ℕ) (t : TableCells) (found : table_at system b.database ≡ Some t) (sound : is_sound b.database ≡ true) (well : WellFormed b.database) (stays : Stays d b.database system) where
    abbrev kept : List (List ValueRef)
    kept = filter is_other (rows_of t)

    abbrev pool_now : PoolInUse
    pool_now = rows_released (pool_of b) (filter (is_row_about places name) (rows_of t))

    found_first : table_at system d ≡ Some t
    found_first = sym stays.at ∙ found

    values_now : map (row_values pool_now.places) kept ≡ kept_rows name (rows_at system d)
    values_now = kept_values takes gives b system t found sound well is_other (is_row_about places name) (λ row. not_not (is_row_about places name row))
        ∙ rows_stay kept places b.database.pool.places (λ n h. stays.texts t found_first n (omega (arith, h, kept_fewer row_uses is_other (rows_of t) n)))
        ∙ map_filtered (row_values places) is_other (λ row. not (same_key (Str name ∷ []) (take 1 row))) (λ row. refl) (rows_of t)
        ∙ ap (kept_rows name) (sym (rows_at_is system d t found_first))

    forgets_stored : Forgets name system d b.database (stored_in b.database system t (in_stored_order t.columns kept) pool_now.places)
    forgets_stored = record {
      leaves = stored_leaves b.database system t found well.in_order (in_stored_order t.columns kept) pool_now.places
          (removed_moved takes gives b system t found sound well is_other (is_row_about places name) (λ row. not_not (is_row_about places name row))).texts;
      own = rw (rows_after b.database system t found well.in_order (in_stored_order t.columns kept) pool_now.places, ← values_now) (values_sorted pool_now.places (row_cmp t.columns) kept);
    }

  forgotten_is : (b : Change) (system : List ℕ) (o : Option TableCells) → table_at system b.database ≡ o → rows_forgotten name places system b
      ≡ option_map_or (λ t. with_stored system t.columns (filter is_other (rows_of t)) (rows_released (pool_of b) (filter (is_row_about places name) (rows_of t))) b) o b
  forgotten_is b system o e = ap (λ (o : Option TableCells). option_map_or (λ t. with_stored system t.columns (filter is_other (rows_of t)) (rows_released (pool_of b) (filter (is_row_about places name) (rows_of t))) b) o b) e

  rows_missing : (a : Database) (system : List ℕ) → table_at system a ≡ None → rows_at system a ≡ []
  rows_missing a system e = rw e refl

  forgets_by : (b : Change) (system : List ℕ) (o : Option TableCells) → table_at system b.database ≡ o → is_sound b.database ≡ true → WellFormed b.database → Stays d b.database system
      → Forgets name system d b.database (rows_forgotten name places system b).database
  forgets_by b system None is sound well stays = subst (λ (c : Change). Forgets name system d b.database c.database) (sym (forgotten_is b system None is)) (record {
    leaves = leaves_itself system b.database;
    own = subst (λ (rows : List (List Value)). IsPermutation (kept_rows name rows) (rows_at system b.database)) (sym (rows_missing d system (sym stays.at ∙ is)))
        (subst (IsPermutation []) (sym (rows_missing b.database system is)) (IsPermutation-refl []));
  })
  forgets_by b system (Some t) is sound well stays = subst (λ (c : Change). Forgets name system d b.database c.database) (sym (forgotten_is b system (Some t) is)) (forgets_stored b system t is sound well stays)

-- what a drop does to rows
pub record DropsRows (name : List ℕ) (d e : Database) : Type 0 where
  pub tables : IsPermutation (kept_rows name (rows_at tables_name d)) (rows_at tables_name e)
  pub columns : IsPermutation (kept_rows name (rows_at columns_name d)) (rows_at columns_name e)
  pub validation : IsPermutation (kept_rows name (rows_at validation_name d)) (rows_at validation_name e)
  pub others : (other : List ℕ) → bytes_eq name other ≡ false → is_system_table other ≡ false → Stays d e other
  pub unlisted : LeavesUnlisted d e

pub is_sound_dropped : (d : Database) (name : List ℕ) (c : Change) → Dropped d name c → is_sound d ≡ true
is_sound_dropped d name c p = not-false (is_sound d) (first_fails (not (is_sound d)) InvalidData [] p.sound).0

module _ (takes : TakenPlacesHoldTheirText) (gives : GivenBackTakesOne) (d : Database) (name : List ℕ) (c : Change) (well : WellFormed d) (p : Dropped d name c) where
  sound : is_sound d ≡ true
  sound = is_sound_dropped d name c p

  abbrev b₀ : Change
  b₀ = table_released name p.table (no_change d)

  abbrev forgotten : List ℕ → Change → Change
  forgotten system b = rows_forgotten name d.pool.places system b

  abbrev b₁ : Change
  b₁ = forgotten validation_name b₀

  abbrev b₂ : Change
  b₂ = forgotten columns_name b₁

  abbrev b₃ : Change
  b₃ = forgotten tables_name b₂

  pub drop_rows : DropsRows name d c.database
  drop_rows =
      let r = or_parts (is_schema_table name) (bytes_eq name validation_name) p.no_system in
      let q = or_parts (bytes_eq name tables_name) (bytes_eq name columns_name) r.0 in
      let l₀ = released_leaves takes gives (no_change d) name p.table p.at sound well in
      let k₀ = released_keeps takes gives (no_change d) name p.table p.at sound well in
      let v = l₀.others validation_name (r.1) in
      let f₁ = forgets_by takes gives d name b₀ validation_name (table_at validation_name b₀.database) refl k₀.sound k₀.well v in
      let k₁ = forgotten_by takes gives name d.pool.places validation_name b₀ (table_at validation_name b₀.database) refl k₀.sound k₀.well in
      let s = stays_on d b₀.database b₁.database columns_name (l₀.others columns_name (q.1)) (f₁.leaves.others columns_name refl) in
      let f₂ = forgets_by takes gives d name b₁ columns_name (table_at columns_name b₁.database) refl k₁.sound k₁.well s in
      let k₂ = forgotten_by takes gives name d.pool.places columns_name b₁ (table_at columns_name b₁.database) refl k₁.sound k₁.well in
      let t = stays_on d b₁.database b₂.database tables_name (stays_on d b₀.database b₁.database tables_name (l₀.others tables_name (q.0)) (f₁.leaves.others tables_name refl)) (f₂.leaves.others tables_name refl) in
      let f₃ = forgets_by takes gives d name b₂ tables_name (table_at tables_name b₂.database) refl k₂.sound k₂.well t in
      subst (λ (c : Change). DropsRows name d c.database) p.last (record {
        tables = f₃.own;
        columns = subst (IsPermutation (kept_rows name (rows_at columns_name d))) (sym (rows_at_stay b₂.database b₃.database columns_name (f₃.leaves.others columns_name refl))) f₂.own;
        validation = subst (IsPermutation (kept_rows name (rows_at validation_name d)))
            (sym (rows_at_stay b₁.database b₃.database validation_name (stays_on b₁.database b₂.database b₃.database validation_name (f₂.leaves.others validation_name refl) (f₃.leaves.others validation_name refl)))) f₁.own;
        others = λ other apart free.
            let g = or_parts (is_schema_table other) (bytes_eq other validation_name) free in
            let h = or_parts (bytes_eq other tables_name) (bytes_eq other columns_name) (g.0) in
            stays_on d b₂.database b₃.database other (stays_on d b₁.database b₂.database other (stays_on d b₀.database b₁.database other (l₀.others other apart)
            (f₁.leaves.others other (texts_flip validation_name other ∙ g.1))) (f₂.leaves.others other (texts_flip columns_name other ∙ h.1))) (f₃.leaves.others other (texts_flip tables_name other ∙ h.0));
        unlisted = unlisted_on d b₂.database b₃.database (unlisted_on d b₁.database b₂.database (unlisted_on d b₀.database b₁.database (unlisted_by name _ _ l₀)
            (unlisted_by validation_name _ _ f₁.leaves)) (unlisted_by columns_name _ _ f₂.leaves)) (unlisted_by tables_name _ _ f₃.leaves);
      })

  -- the values of an unlisted `_Validation` move not at all
  values_unlisted : IsPermutation (map (row_values d.pool.places) d.unlisted_validation) (map (row_values c.database.pool.places) c.database.unlisted_validation)
  values_unlisted = subst (IsPermutation (map (row_values d.pool.places) d.unlisted_validation)) (sym (unlisted_values d c.database drop_rows.unlisted)) (IsPermutation-refl (map (row_values d.pool.places) d.unlisted_validation))

  -- so the rows describe the tables that are left
  pub drop_describes : schema_of (describing d) ≡ Some (shown d) → HasKinds (describing d) → (schema_of (describing c.database) ≡ Some (shown c.database)) × HasKinds (describing c.database)
  drop_describes before kinds = by_test (has_table validation_name d)
      (λ has. (describes_dropped d name c p before kinds drop_rows.tables drop_rows.columns has drop_rows.validation, kinds_after_drop d name c p before kinds drop_rows.tables drop_rows.columns has drop_rows.validation))
      (λ none. (describes_unlisted d name c p before kinds drop_rows.tables drop_rows.columns none values_unlisted, kinds_unlisted d name c p before kinds drop_rows.tables drop_rows.columns none values_unlisted))
