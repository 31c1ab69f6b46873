-- Which numbers name a place: the stream of `_Validation` by its standard columns names no more than the tables do, where its listed columns are alike.
use Rattle.std.proofs.Common.{◌≡◌, ℕ, Bool, true, false, cond, ◌||◌, ◌==◌, List, [], ◌∷◌, ◌++◌, Option, Some, None, is_some, unwrap_or, refl, sym, subst, ◌∙◌}
use Rattle.std.specs.Prelude.{MatchBool}
use Rattle.std.specs.Option.{option_map_or}
use Rattle.std.specs.List.{list_any, flat_map}
use Rattle.std.specs.Ordering.{eq_by_cmp}
use Rattle.std.specs.FinMap.{find}
use Rattle.std.proofs.lemmas.Bool.{or_left, or_right}
use Rattle.std.proofs.lemmas.List.Folds.{list_any-append}
use Rattle.std.proofs.lemmas.Option.{same_Some}
use Rattle.msi_base.specs.Lists.{list_cmp}
use Rattle.msi_table_cells.specs.declared.cell.ValueRef.{ValueRef}
use Rattle.msi_table_cells.specs.TableCells.{TableCells}
use Rattle.msi_database_schema.specs.Keys.{table_key}
use Rattle.msi_database_schema.specs.System.{validation_name, validation_columns}
use Rattle.msi_database_schema.proofs.RowOrderLemmas.{names_total}
use Rattle.msi_table.specs.Census.{numbers_of_rows}
use Rattle.msi_database_changes.specs.Database.{Database, Tables, rows_of, named_numbers, are_alike, table_at, validation_is_standard}
use Rattle.msi_database_changes.proofs.describing.AlikeColumnLemmas.{rows_alike}
use Rattle.msi_database_storage.specs.Streams.{Streams, stream_at, stored_rows}
use Rattle.msi_database_storage.specs.Agreement.{TablesAre, UnlistedIs, numbers_stored, shown_numbers}
use Rattle.msi_database_storage.proofs.MapLemmas as maps
use Rattle.msi_database_storage.proofs.StreamLemmas.{list_cmp_exact}

abbrev pub numbers_of : List ℕ × TableCells → List ℕ
numbers_of t = numbers_of_rows (rows_of t.1)

-- what passes in a table that is found passes in all of them
pub found_by : (p : ℕ → Bool) (t u : TableCells) (b : Bool) (others : Option TableCells) (rest : List ℕ) → cond b (Some u) others ≡ Some t → list_any p (numbers_of_rows (rows_of t)) ≡ true
    → (others ≡ Some t → list_any p rest ≡ true) → list_any p (numbers_of_rows (rows_of u) ++ rest) ≡ true
found_by p t u true others rest e h later = list_any-append p (numbers_of_rows (rows_of u)) rest
    ∙ or_left _ _ (subst (λ (x : TableCells). list_any p (numbers_of_rows (rows_of x)) ≡ true) (sym (same_Some u t e)) h)
found_by p t u false others rest e h later = list_any-append p (numbers_of_rows (rows_of u)) rest ∙ or_right _ _ (later e)

pub found_any : (p : ℕ → Bool) (name : List ℕ) (t : TableCells) (ts : Tables) → find list_cmp name ts ≡ Some t → list_any p (numbers_of_rows (rows_of t)) ≡ true → list_any p (flat_map numbers_of ts) ≡ true
found_any p name t [] e h = absurd cc
found_any p name t (u ∷ us) e h = found_by p t u.1 (eq_by_cmp list_cmp name u.0) (find list_cmp name us) (flat_map numbers_of us) e h (λ f. found_any p name t us f h)

module _ (streams : Streams) (d : Database) (tables : TablesAre streams d) where
  abbrev passes : ℕ → List ℕ → Type 0
  passes number named = list_any (λ n. n == number) named ≡ true

  -- a found table names what its stream names
  found_named : (name : List ℕ) (t : TableCells) → table_at name d ≡ Some t → (number : ℕ)
      → passes number (numbers_of_rows (unwrap_or (stored_rows streams d.pool.long t.columns name) [])) → passes number (named_numbers d)
  found_named name t found number h =
      let rows : t.rows ≡ stored_rows streams d.pool.long t.columns name =
      maps.found_has names_total list_cmp_exact (λ u. u.1.rows ≡ stored_rows streams d.pool.long u.1.columns u.0) name t d.tables tables found in
      let here : passes number (numbers_of_rows (rows_of t)) = subst (λ (o : Option (List (List ValueRef))). passes number (numbers_of_rows (unwrap_or o []))) (sym rows) h in
      list_any-append (λ n. n == number) (flat_map numbers_of d.tables) (numbers_of_rows d.unlisted_validation)
      ∙ or_left _ _ (found_any (λ n. n == number) name t d.tables found here)

  stored_by : (o : Option TableCells) → table_at validation_name d ≡ o
      → MatchBool (is_some o) (d.unlisted_validation ≡ []) (stored_rows streams d.pool.long validation_columns validation_name ≡ Some d.unlisted_validation)
      → option_map_or (λ t. are_alike t.columns validation_columns) o true ≡ true → (number : ℕ) → passes number (numbers_stored streams d.pool.long) → passes number (named_numbers d)
  stored_by None found unlisted standard number h =
      list_any-append (λ n. n == number) (flat_map numbers_of d.tables) (numbers_of_rows d.unlisted_validation)
      ∙ or_right _ _ (subst (λ (o : Option (List (List ValueRef))). passes number (numbers_of_rows (unwrap_or o []))) unlisted h)
  stored_by (Some t) found unlisted standard number h = found_named validation_name t found number
      (subst (λ (o : Option (List (List ValueRef))). passes number (numbers_of_rows (unwrap_or o [])))
      (sym (rows_alike d.pool.long t.columns validation_columns (unwrap_or (stream_at (table_key validation_name) streams) []) standard)) h)

  module _ (unlisted : UnlistedIs streams d) (standard : validation_is_standard d ≡ true) where
    stored_named : (number : ℕ) → passes number (numbers_stored streams d.pool.long) → passes number (named_numbers d)
    stored_named number h = stored_by (table_at validation_name d) refl unlisted standard number h

    absorbed : (a b : Bool) → (b ≡ true → a ≡ true) → (a || b) ≡ a
    absorbed true b h = refl
    absorbed false true h = sym (h refl)
    absorbed false false h = refl

    -- so a place is named by the one list as by the other
    pub shown_named : (number : ℕ) → list_any (λ n. n == number) (shown_numbers streams d) ≡ list_any (λ n. n == number) (named_numbers d)
    shown_named number = list_any-append (λ n. n == number) (named_numbers d) (numbers_stored streams d.pool.long) ∙ absorbed _ _ (stored_named number)
