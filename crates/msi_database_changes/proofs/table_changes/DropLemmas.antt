-- A table that is dropped, and the rows about it that are forgotten.
use Rattle.std.proofs.Common.{◌≡◌, ℕ, suc, ◌+◌, Bool, true, false, T, cond, not, ◌&&◌, List, [], ◌∷◌, ◌++◌, length, filter, Option, Some, None, is_some, Result, Ok, fold, refl, sym, ap, ◌∙◌, subst, arith, ⊎_elim, Ordering}
use Rattle.std.specs.Option as options
use Rattle.std.specs.Ordering.{is_eq, eq_by_cmp}
use Rattle.std.specs.Cmp.{IsTotalOrder}
use Rattle.std.specs.Cmp.Lexicographic.{nat_list_cmp_total}
use Rattle.std.specs.FinMap.{find, is_sorted, slice_cmp-IsAntisymmetric, nat_cmp-IsAntisymmetric}
use Rattle.std.specs.FinMap.Entries.{length_without, is_sorted-where_key, find-where_key}
use Rattle.std.proofs.lemmas.Bool.{cases_Bool, not-false}
use Rattle.std.proofs.lemmas.Option.{none-some, same_Some}
use Rattle.msi_base.specs.declared.errors.ErrorKind.{ErrorKind}
use Rattle.msi_base.specs.declared.errors.ErrorKind.TheVariants.{InvalidData, InvalidInput, NotFound}
use Rattle.msi_pool.specs.Pool.{Place}
use Rattle.msi_pool.specs.FirstFit.{most_places}
use Rattle.msi_pool.specs.FirstFitLaws.{TakenPlacesHoldTheirText, GivenBackTakesOne}
use Rattle.msi_base.specs.Lists.{list_cmp}
use Rattle.msi_base.proofs.BoolLemmas.{not_not, T_second}
use Rattle.msi_base.proofs.ListLemmas.{length-filter-le}
use Rattle.msi_table_cells.specs.declared.cell.ValueRef.{ValueRef}
use Rattle.msi_base.specs.Refusals.{Refusals, unless_refused, or_refused, ◌>>=◌}
use Rattle.msi_database_schema.specs.Keys.{is_table_name}
use Rattle.msi_database_schema.specs.System.{is_system_table, validation_name, columns_name, tables_name, validation_columns}
use Rattle.msi_database_changes.specs.Database.{Database, table_at, rows_of, without_table, with_places, is_sound, are_alike, CountsAreExact, validation_is_standard}
use Rattle.msi_table_cells.specs.TableCells.{TableCells}
use Rattle.msi_database_changes.specs.Changes.{Change, no_change, pool_of, sound_refusal}
use Rattle.msi_database_changes.specs.Texts.{PoolInUse, rows_released}
use Rattle.msi_database_changes.specs.Drop.{is_row_about, rows_forgotten, table_released, drop_table}
use Rattle.msi_database_schema.proofs.AccountLemmas.{Uses, none, ◌⊕◌, Enough, Moved}
use Rattle.msi_database_changes.proofs.steps.TurnLemmas.{total}
use Rattle.msi_database_changes.proofs.steps.RefusedLemmas.{bind_ok, not_refused, value_there, first_fails, front_fails, same_Ok}
use Rattle.msi_database_changes.proofs.text_counts.RowsLemmas.{rows_uses, rows_released_moves}
use Rattle.msi_database_changes.proofs.text_counts.TablesLemmas.{table_uses, database_uses}
use Rattle.msi_database_changes.proofs.soundness.SoundLemmas.{sound_from_enough, exact_from, exact_to}
use Rattle.msi_database_changes.proofs.steps.StoredLemmas.{table_is_full, WellFormed, sound_parts, sound_whole, width_on, enough_before}
use Rattle.msi_database_changes.proofs.row_changes.RemovedRowsLemmas.{all_filtered, removed_sound, removed_well, removed_exact}

all_kept : {X : Type 0} (p : X → Bool) (xs : List X) → length (filter p xs) ≡ length xs → filter p xs ≡ xs
all_kept p [] e = refl
all_kept {X} p (x ∷ xs) e = ⊎_elim
    (λ (t : p x ≡ true). let same : suc (length (filter p xs)) ≡ suc (length xs) = rw t at e in rw t (ap (λ (l : List X). x ∷ l) (all_kept p xs (omega (arith, same)))))
    (λ (t : p x ≡ false). let same : length (filter p xs) ≡ suc (length xs) = rw t at e in absurd (omega (arith, same, length-filter-le p xs)))
    (cases_Bool (p x))

-- the entries without the one of a key, where the keys rise
total-without : {K X : Type 0} (R : K → K → Ordering) (o : IsTotalOrder R) (f : X → Uses) (k : K) (v : X) (es : List (K × X)) (n : ℕ) → T (is_sorted R es) → find R k es ≡ Some v
    → total (λ e. f e.1) (filter (λ e. not (eq_by_cmp R k e.0)) es) n + f v n ≡ total (λ e. f e.1) es n
total-without R o f k v [] n sorted found = absurd (none-some v found)
total-without {K} {X} R o f k v (x ∷ es) n sorted found = ⊎_elim
    (λ (t : is_eq (R k x.0) ≡ true).
    let is : x.1 ≡ v = same_Some x.1 v (rw t at found) in
    let many : 1 + length (filter (λ (e : K × X). not (eq_by_cmp R k e.0)) es) ≡ suc (length es) = rw t at (length_without R o k (x ∷ es) sorted) in
    rw (t, all_kept (λ (e : K × X). not (eq_by_cmp R k e.0)) es (omega (arith, many))) (omega (arith, ap (λ w. f w n) is)))
    (λ (t : is_eq (R k x.0) ≡ false). rw t (omega (arith, total-without R o f k v es n (T_second _ _ sorted) (rw t at found))))
    (cases_Bool (is_eq (R k x.0)))

-- a step that leaves a sound and well-formed database, and exact counts exact
pub record Keeps (before after : Database) : Type 0 where
  pub sound : is_sound after ≡ true
  pub well : WellFormed after
  pub exact : CountsAreExact before → CountsAreExact after

pub keeps_on : (a b c : Database) → Keeps a b → Keeps b c → Keeps a c
keeps_on a b c s t = record { sound = t.sound; well = t.well; exact = λ exact. t.exact (s.exact exact) }

module _ (takes : TakenPlacesHoldTheirText) (gives : GivenBackTakesOne) where
  pub forgotten_by : (name : List ℕ) (places : List Place) (system : List ℕ) (b : Change) (o : Option TableCells) → table_at system b.database ≡ o → is_sound b.database ≡ true → WellFormed b.database
      → Keeps b.database (rows_forgotten name places system b).database
  forgotten_by name places system b None is sound well = rw is (record { sound = sound; well = well; exact = λ exact. exact })
  forgotten_by name places system b (Some t) is sound well =
      let about : List ValueRef → Bool = is_row_about places name in
      let others : List ValueRef → Bool = λ row. not (is_row_about places name row) in
      let apart : (row : List ValueRef) → is_row_about places name row ≡ not (not (is_row_about places name row)) = λ row. not_not (is_row_about places name row) in
      rw is (record {
        sound = removed_sound takes gives b system t is sound well others about apart;
        well = removed_well takes gives b system t is sound well others about apart;
        exact = removed_exact takes gives b system t is sound well others about apart;
      })

  forgotten_keeps : (name : List ℕ) (places : List Place) (systems : List (List ℕ)) (b : Change) → is_sound b.database ≡ true → WellFormed b.database
      → Keeps b.database (fold (λ c system. rows_forgotten name places system c) b systems).database
  forgotten_keeps name places [] b sound well = record { sound = sound; well = well; exact = λ exact. exact }
  forgotten_keeps name places (s ∷ ss) b sound well =
      let first = forgotten_by name places s b (table_at s b.database) refl sound well in
      keeps_on _ _ _ first (forgotten_keeps name places ss (rows_forgotten name places s b) first.sound first.well)

  module _ (b : Change) (name : List ℕ) (t : TableCells) (found : table_at name b.database ≡ Some t) (sound : is_sound b.database ≡ true) (well : WellFormed b.database) where
    abbrev d : Database
    d = b.database

    abbrev pool_now : PoolInUse
    pool_now = rows_released (pool_of b) (rows_of t)

    abbrev now : Database
    now = with_places pool_now.places (without_table name d)

    uses_left : (n : ℕ) → database_uses now n + table_uses t n ≡ database_uses d n
    uses_left n = omega (arith, total-without list_cmp nat_list_cmp_total table_uses name t d.tables n well.in_order found)

    enough_left : Enough d.pool.places (database_uses now ⊕ rows_uses (rows_of t))
    enough_left n = omega (arith, uses_left n, enough_before d name t found well.in_order sound well n)

    pub release_moves : Moved (most_places d.pool.long) (database_uses now) (rows_uses (rows_of t)) none d.pool.places pool_now.places
    release_moves = rows_released_moves takes gives d.pool.long (database_uses now) (rows_of t) (pool_of b) enough_left

    enough_now : Enough pool_now.places (database_uses now)
    enough_now n = omega (arith, release_moves.balance n, enough_left n)

    abbrev standard_at : Option TableCells → Bool
    standard_at o = options.option_map_or (λ t. are_alike t.columns validation_columns) o true

    without_is_standard : (kept : Bool) (o : Option TableCells) → standard_at o ≡ true → standard_at (cond kept o None) ≡ true
    without_is_standard true o h = h
    without_is_standard false o h = refl

    abbrev is_kept : List ℕ → Bool
    is_kept other = not (eq_by_cmp list_cmp name other)

    still_standard : validation_is_standard d ≡ true → validation_is_standard now ≡ true
    still_standard h = ap standard_at (find-where_key list_cmp is_kept validation_name (λ x e. ap is_kept (sym (slice_cmp-IsAntisymmetric nat_cmp-IsAntisymmetric validation_name x e))) d.tables)
        ∙ without_is_standard (is_kept validation_name) (table_at validation_name d) h

    pub released_keeps : Keeps d (table_released name t b).database
    released_keeps =
        let p = sound_parts d sound in
        let counts = sound_from_enough now enough_now in record {
          sound = sound_whole now (record {
            suffice = counts.suffice;
            in_pool = counts.in_pool;
            width = width_on (length d.pool.places) (length pool_now.places) (most_places d.pool.long) release_moves.width p.width;
            readable = all_filtered (λ t. is_some t.1.rows && is_table_name t.0) (λ t. is_kept t.0) d.tables p.readable;
            standard = still_standard p.standard;
          });
          well = record {
            numbers = counts.numbers;
            in_order = is_sorted-where_key list_cmp is_kept d.tables well.in_order;
            full = all_filtered table_is_full (λ t. is_kept t.0) d.tables well.full;
          };
          exact = λ exact. exact_to now (λ n. omega (arith, exact_from d (enough_before d name t found well.in_order sound well) exact n, uses_left n, release_moves.balance n));
        }

  abbrev early_refusals : Database → List ℕ → Refusals
  early_refusals d name = sound_refusal d ++ (is_system_table name, InvalidInput) ∷ (not (is_table_name name), InvalidInput) ∷ []

  abbrev systems : List (List ℕ)
  systems = validation_name ∷ columns_name ∷ tables_name ∷ []

  abbrev dropped : Database → List ℕ → TableCells → Change → Change
  dropped d name t c = fold (λ c system. rows_forgotten name d.pool.places system c) (table_released name t c) systems

  abbrev dropped_from : Database → List ℕ → Change → Result Change ErrorKind
  dropped_from d name c = or_refused NotFound (table_at name d) >>= λ t. Ok (dropped d name t c)

  -- a dropped table leaves a sound and well-formed database, and exact counts exact
  pub drop_keeps : (d : Database) (name : List ℕ) (c : Change) → WellFormed d → drop_table d name ≡ Ok c → Keeps d c.database
  drop_keeps d name c well e =
      bind_ok (unless_refused (early_refusals d name) (no_change d)) (dropped_from d name) c e
      (λ c₀ c₀_is rest.
      let passed = not_refused (early_refusals d name) (no_change d) c₀ c₀_is in
      let sound = not-false (is_sound d) (first_fails (not (is_sound d)) InvalidData [] (front_fails (sound_refusal d) ((is_system_table name, InvalidInput) ∷ (not (is_table_name name), InvalidInput) ∷ []) passed.0).0).0 in
      bind_ok (or_refused NotFound (table_at name d)) (λ t. Ok (dropped d name t (no_change d))) c (subst (λ c₁. dropped_from d name c₁ ≡ Ok c) (sym passed.1) rest)
      (λ t t_is last.
      let first = released_keeps (no_change d) name t (value_there NotFound (table_at name d) t t_is) sound well in
      let all = forgotten_keeps name d.pool.places systems (table_released name t (no_change d)) first.sound first.well in
      subst (λ (c : Change). Keeps d c.database) (same_Ok (dropped d name t (no_change d)) c last) (keeps_on _ _ _ first all)))
