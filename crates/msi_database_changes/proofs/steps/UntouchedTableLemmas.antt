-- Tables that a step leaves: the cells that they had, and the texts that those name.
use Rattle.std.proofs.Common.{◌≡◌, ℕ, Bool, true, false, cond, not, List, [], map, Option, Some, None, option_map, option_and_then, unwrap_or, refl, sym, ap, ◌∙◌, arith, bytes_eq, T}
use Rattle.std.specs.Ordering.{eq_by_cmp}
use Rattle.std.specs.FinMap.{is_sorted, slice_cmp-IsAntisymmetric, nat_cmp-IsAntisymmetric}
use Rattle.std.specs.FinMap.Entries.{find-where_key}
use Rattle.msi_pool.specs.FirstFitLaws.{TakenPlacesHoldTheirText, GivenBackTakesOne}
use Rattle.msi_pool.specs.Pool.{Place}
use Rattle.msi_base.specs.Lists.{list_cmp}
use Rattle.msi_table_cells.specs.declared.cell.ValueRef.{ValueRef}
use Rattle.msi_table_cells.specs.CellValues.{row_values}
use Rattle.msi_query.specs.Selection.{TableValues}
use Rattle.msi_database_changes.specs.Database.{Database, table_at, values_of, is_sound}
use Rattle.msi_table_cells.specs.TableCells.{TableCells}
use Rattle.msi_query.specs.Rows.{table_values}
use Rattle.msi_database_changes.specs.Changes.{Change}
use Rattle.msi_database_changes.specs.Drop.{table_released}
use Rattle.msi_database_changes.specs.Laws.{rows_at}
use Rattle.msi_database_changes.proofs.steps.TurnLemmas.{TextsStay}
use Rattle.msi_database_changes.proofs.text_counts.RowsLemmas.{rows_uses}
use Rattle.msi_database_changes.proofs.text_counts.TablesLemmas.{table_uses, total-found}
use Rattle.msi_database_schema.proofs.SchemaLemmas.{names_tie}
use Rattle.msi_database_changes.proofs.steps.StoredLemmas.{WellFormed, stored_in, others}
use Rattle.msi_database_changes.proofs.steps.ValuesLemmas.{found_stays, other_found, other_stays, rows_stay}
use Rattle.msi_database_changes.proofs.table_changes.DropLemmas.{release_moves}

-- a table that a step leaves
pub record Stays (a b : Database) (other : List ℕ) : Type 0 where
  pub at : table_at other b ≡ table_at other a
  pub texts : (u : TableCells) → table_at other a ≡ Some u → TextsStay (table_uses u) a.pool.places b.pool.places

pub stays_on : (a b c : Database) (other : List ℕ) → Stays a b other → Stays b c other → Stays a c other
stays_on a b c other s t = record { at = t.at ∙ s.at; texts = λ u e n h. t.texts u (s.at ∙ e) n h ∙ s.texts u e n h }

pub values_stay : (a b : Database) (other : List ℕ) → Stays a b other → values_of b other ≡ values_of a other
values_stay a b other s = ap (option_map (table_values b.pool.places)) s.at ∙ found_stays (table_at other a) a.pool.places b.pool.places s.texts

pub rows_at_stay : (a b : Database) (other : List ℕ) → Stays a b other → rows_at other b ≡ rows_at other a
rows_at_stay a b other s = ap (λ (o : Option TableValues). unwrap_or (option_and_then (λ t. t.rows) o) []) (values_stay a b other s)

-- a step on one table leaves the others, and the rows of a `_Validation` that isn't listed
pub record Leaves (name : List ℕ) (a b : Database) : Type 0 where
  pub others : (other : List ℕ) → bytes_eq name other ≡ false → Stays a b other
  pub same : b.unlisted_validation ≡ a.unlisted_validation
  pub unlisted : TextsStay (rows_uses a.unlisted_validation) a.pool.places b.pool.places

pub leaves_itself : (name : List ℕ) (a : Database) → Leaves name a a
leaves_itself name a = record { others = λ other e. record { at = refl; texts = λ u e n h. refl }; same = refl; unlisted = λ n h. refl }

-- the rows of an unlisted `_Validation`, from one state to another
pub record LeavesUnlisted (a b : Database) : Type 0 where
  pub same : b.unlisted_validation ≡ a.unlisted_validation
  pub texts : TextsStay (rows_uses a.unlisted_validation) a.pool.places b.pool.places

pub unlisted_by : (name : List ℕ) (a b : Database) → Leaves name a b → LeavesUnlisted a b
unlisted_by name a b l = record { same = l.same; texts = l.unlisted }

pub unlisted_on : (a b c : Database) → LeavesUnlisted a b → LeavesUnlisted b c → LeavesUnlisted a c
unlisted_on a b c s t = record { same = t.same ∙ s.same; texts = λ n h. t.texts n (rw s.same h) ∙ s.texts n h }

pub unlisted_values : (a b : Database) → LeavesUnlisted a b → map (row_values b.pool.places) b.unlisted_validation ≡ map (row_values a.pool.places) a.unlisted_validation
unlisted_values a b s = ap (map (row_values b.pool.places)) s.same ∙ rows_stay a.unlisted_validation a.pool.places b.pool.places s.texts

-- a table that is stored anew
pub stored_leaves : (d : Database) (name : List ℕ) (t : TableCells) → table_at name d ≡ Some t → T (is_sorted list_cmp d.tables) → (rows : List (List ValueRef)) (places : List Place) → TextsStay (others d name t) d.pool.places places
    → Leaves name d (stored_in d name t rows places)
stored_leaves d name t found in_order rows places stays = record {
  others = λ other apart. record { at = other_found d name t found in_order rows places other apart; texts = other_stays d name t found in_order places stays other apart };
  same = refl;
  unlisted = λ n h. stays n (omega (arith, h));
}

-- a table that is taken out
module _ (takes : TakenPlacesHoldTheirText) (gives : GivenBackTakesOne) (b : Change) (name : List ℕ) (t : TableCells) (found : table_at name b.database ≡ Some t) (sound : is_sound b.database ≡ true) (well : WellFormed b.database) where
  abbrev now : Database
  now = (table_released name t b).database

  abbrev is_kept : List ℕ → Bool
  is_kept other = not (eq_by_cmp list_cmp name other)

  pub found_now : (other : List ℕ) → table_at other now ≡ cond (is_kept other) (table_at other b.database) None
  found_now other = find-where_key list_cmp is_kept other (λ x e. ap is_kept (sym (slice_cmp-IsAntisymmetric nat_cmp-IsAntisymmetric other x e))) b.database.tables

  left : (other : List ℕ) → bytes_eq name other ≡ false → table_at other now ≡ table_at other b.database
  left other apart = found_now other ∙ ap (λ x. cond (not x) (table_at other b.database) None) (names_tie name other ∙ apart)

  pub table_gone : bytes_eq name name ≡ true → table_at name now ≡ None
  table_gone itself = found_now name ∙ ap (λ x. cond (not x) (table_at name b.database) None) (names_tie name name ∙ itself)

  pub released_leaves : Leaves name b.database now
  released_leaves = record {
    others = λ other apart. record {
      at = left other apart;
      texts = λ u e n h. (release_moves takes gives b name t found sound well).texts n (omega (arith, h, total-found list_cmp table_uses other u now.tables n (left other apart ∙ e)));
    };
    same = refl;
    unlisted = λ n h. (release_moves takes gives b name t found sound well).texts n (omega (arith, h));
  }
