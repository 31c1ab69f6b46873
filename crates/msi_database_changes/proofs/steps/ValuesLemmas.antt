-- What tables hold, as values, after one table's rows were stored anew.
use Rattle.std.proofs.Common.{◌≡◌, ℕ, Bool, true, false, cond, List, [], map, Option, Some, None, option_map, option_and_then, refl, sym, ap, ◌∙◌, arith, bytes_eq, T, Ordering, Less, Equal, Greater, unwrap_or, ◌⊎◌, inl, inr}
use Rattle.std.specs.Ordering.{is_eq, eq_by_cmp}
use Rattle.std.specs.Cmp.{tied_itself}
use Rattle.std.specs.Cmp.Lexicographic.{nat_list_cmp_total, bytes_decides}
use Rattle.std.specs.FinMap.{is_sorted, slice_cmp-IsAntisymmetric, nat_cmp-IsAntisymmetric}
use Rattle.std.proofs.lemmas.Bool.{cases_Bool}
use Rattle.msi_pool.specs.Pool.{Place}
use Rattle.msi_base.specs.Lists.{list_cmp}
use Rattle.msi_table_values.specs.declared.value.Value.{Value}
use Rattle.msi_table_cells.specs.declared.cell.ValueRef.{ValueRef}
use Rattle.msi_table_cells.specs.CellValues.{row_values}
use Rattle.msi_query.specs.Selection.{TableValues}
use Rattle.msi_database_changes.specs.Database.{Database, table_at, rows_of}
use Rattle.msi_table_cells.specs.TableCells.{TableCells}
use Rattle.msi_query.specs.Rows.{table_values}
use Rattle.msi_database_changes.specs.Texts.{cell_put, in_turn}
use Rattle.msi_database_changes.specs.Laws.{rows_at, OthersStay}
use Rattle.msi_database_changes.proofs.steps.TurnLemmas.{TextsStay, news_stay}
use Rattle.msi_database_changes.proofs.text_counts.RowsLemmas.{row_uses, rows_uses, row_value_uses, row_stays}
use Rattle.msi_database_changes.proofs.text_counts.TablesLemmas.{table_uses, total-found}
use Rattle.msi_database_changes.proofs.steps.StoredLemmas.{with_rows, stored_in, others, found_after}

-- rows whose texts stayed have the values that they had
pub rows_stay : (rows : List (List ValueRef)) (before after : List Place) → TextsStay (rows_uses rows) before after → map (row_values after) rows ≡ map (row_values before) rows
rows_stay rows before after h = news_stay 0 (in_turn (cell_put false)) row_value_uses row_uses (λ p row. row) row_values (λ row. row) (λ row. row) (λ row. Unit {0}) (λ row a b k. refl) row_stays rows before after h

pub held_stay : (o : Option (List (List ValueRef))) (before after : List Place) → TextsStay (rows_uses (unwrap_or o [])) before after → option_map (map (row_values after)) o ≡ option_map (map (row_values before)) o
held_stay None before after h = refl
held_stay (Some rows) before after h = ap Some (rows_stay rows before after h)

abbrev told : TableCells → Option (List (List Value)) → TableValues
told u o = record { columns = u.columns; rows = o }

table_stays : (u : TableCells) (before after : List Place) → TextsStay (table_uses u) before after → table_values after u ≡ table_values before u
table_stays u before after h = ap (told u) (held_stay u.rows before after h)

pub found_stays : (o : Option TableCells) (before after : List Place) → ((u : TableCells) → o ≡ Some u → TextsStay (table_uses u) before after) → option_map (table_values after) o ≡ option_map (table_values before) o
found_stays None before after h = refl
found_stays (Some u) before after h = ap Some (table_stays u before after (h u refl))

names_apart : (name other : List ℕ) → bytes_eq name other ≡ false → eq_by_cmp list_cmp other name ≡ false
names_apart name other apart = by_test (cases_Bool (eq_by_cmp list_cmp other name)) where
  ties : (r : Ordering) → is_eq r ≡ true → r ≡ Equal
  ties Less e = cc
  ties Equal e = refl
  ties Greater e = cc

  clash : (b : Bool) → b ≡ true → b ≡ false → eq_by_cmp list_cmp other name ≡ false
  clash b p q = cc

  by_test : ((eq_by_cmp list_cmp other name ≡ true) ⊎ (eq_by_cmp list_cmp other name ≡ false)) → eq_by_cmp list_cmp other name ≡ false
  by_test (inl t) = clash (bytes_eq name other) ((bytes_decides name other).1 (sym (slice_cmp-IsAntisymmetric nat_cmp-IsAntisymmetric other name (ties (list_cmp other name) t)))) apart
  by_test (inr f) = f

module _ (d : Database) (name : List ℕ) (t : TableCells) (found : table_at name d ≡ Some t) (in_order : T (is_sorted list_cmp d.tables)) where
  pub other_found : (rows : List (List ValueRef)) (places : List Place) (other : List ℕ) → bytes_eq name other ≡ false → table_at other (stored_in d name t rows places) ≡ table_at other d
  other_found rows places other apart = found_after d name t found in_order rows places other ∙ ap (λ b. cond b (Some (with_rows t rows)) (table_at other d)) (names_apart name other apart)

  pub other_stays : (places : List Place) → TextsStay (others d name t) d.pool.places places → (other : List ℕ) → bytes_eq name other ≡ false → (u : TableCells) → table_at other d ≡ Some u → TextsStay (table_uses u) d.pool.places places
  other_stays places stays other apart u u_is n h =
      stays n (omega (arith, h, total-found list_cmp table_uses other u (stored_in d name t [] places).tables n (other_found [] places other apart ∙ u_is)))

  -- every other table has the same rows
  pub others_stay : (rows : List (List ValueRef)) (places : List Place) → TextsStay (others d name t) d.pool.places places → OthersStay name d (stored_in d name t rows places)
  others_stay rows places stays other apart =
      ap (option_map (table_values places)) (other_found rows places other apart) ∙ found_stays (table_at other d) d.pool.places places (other_stays places stays other apart)

  abbrev rows_found : List Place → Option TableCells → List (List Value)
  rows_found places o = unwrap_or (option_and_then (λ t. t.rows) (option_map (table_values places) o)) []

  -- and the table has those that were stored
  pub rows_after : (rows : List (List ValueRef)) (places : List Place) → rows_at name (stored_in d name t rows places) ≡ map (row_values places) rows
  rows_after rows places = ap (rows_found places) (found_after d name t found in_order rows places name ∙ ap (λ r. cond (is_eq r) (Some (with_rows t rows)) (table_at name d)) (tied_itself nat_list_cmp_total name))

  held_rows : (o : Option (List (List ValueRef))) → unwrap_or (option_map (map (row_values d.pool.places)) o) [] ≡ map (row_values d.pool.places) (unwrap_or o [])
  held_rows None = refl
  held_rows (Some rows) = refl

  pub rows_before : rows_at name d ≡ map (row_values d.pool.places) (rows_of t)
  rows_before = ap (rows_found d.pool.places) found ∙ held_rows t.rows
