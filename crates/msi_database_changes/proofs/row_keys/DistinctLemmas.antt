-- No two rows of a table share a key, also after one table's rows were stored anew.
use Rattle.std.proofs.Common.{◌≡◌, ℕ, Bool, true, false, T, cond, List, [], map, filter, Option, Some, option_and_then, unwrap_or, sym, ap, ◌∙◌, subst, ⊎_elim, bytes_eq, Ordering}
use Rattle.std.specs.Ordering.{is_eq}
use Rattle.std.specs.Cmp.{tied_itself}
use Rattle.std.specs.Cmp.Lexicographic.{nat_list_cmp_total, bytes_decides}
use Rattle.std.specs.FinMap.{is_sorted}
use Rattle.std.proofs.lemmas.Bool.{cases_Bool}
use Rattle.std.proofs.lemmas.Option.{same_Some}
use Rattle.msi_pool.specs.Pool.{Place}
use Rattle.msi_base.specs.Lists.{list_cmp, has_pair, stable_sort}
use Rattle.msi_base.proofs.ListLemmas.{has_pair-map, no_pair_kept}
use Rattle.msi_table_values.specs.declared.value.Value.{Value}
use Rattle.msi_table_cells.specs.declared.cell.ValueRef.{ValueRef}
use Rattle.msi_table_values.specs.Columns.{ColumnDef}
use Rattle.msi_table_cells.specs.CellValues.{row_values}
use Rattle.msi_query.specs.Selection.{TableValues}
use Rattle.msi_table_cells.specs.KeyOrder.{key_of, same_key}
use Rattle.msi_database_changes.specs.Database.{Database, table_at}
use Rattle.msi_table_cells.specs.TableCells.{TableCells}
use Rattle.msi_database_changes.specs.Laws.{rows_at, KeysAreDistinct}
use Rattle.msi_database_changes.proofs.steps.TurnLemmas.{TextsStay}
use Rattle.msi_database_changes.proofs.row_keys.KeyPairLemmas.{same_key_turned, pair-sorted}
use Rattle.msi_database_changes.proofs.steps.StoredLemmas.{with_rows, stored_in, others, found_after}
use Rattle.msi_database_changes.proofs.steps.ValuesLemmas.{other_found, others_stay, rows_after}

-- the keys of rows, and whether two of them are the same
abbrev pub keys : List ColumnDef → List Place → List (List ValueRef) → List (List Value)
keys columns places rows = map (key_of columns) (map (row_values places) rows)

abbrev share_key : List ColumnDef → List Place → List ValueRef → List ValueRef → Bool
share_key columns places row other = same_key (key_of columns (row_values places row)) (key_of columns (row_values places other))

pair_keys : (columns : List ColumnDef) (places : List Place) (rows : List (List ValueRef)) → has_pair same_key (keys columns places rows) ≡ has_pair (share_key columns places) rows
pair_keys columns places rows = has_pair-map same_key (key_of columns) (map (row_values places) rows) ∙ has_pair-map (λ v w. same_key (key_of columns v) (key_of columns w)) (row_values places) rows

pub keys_sorted : (cmp : List ValueRef → List ValueRef → Ordering) (columns : List ColumnDef) (places : List Place) (rows : List (List ValueRef))
    → has_pair same_key (keys columns places (stable_sort cmp rows)) ≡ has_pair same_key (keys columns places rows)
keys_sorted cmp columns places rows = pair_keys columns places (stable_sort cmp rows)
    ∙ pair-sorted cmp (share_key columns places) (λ r s. same_key_turned (key_of columns (row_values places r)) (key_of columns (row_values places s))) rows
    ∙ sym (pair_keys columns places rows)

-- rows that are left out leave no new pair
pub keys_kept : (columns : List ColumnDef) (places : List Place) (stays : List ValueRef → Bool) (rows : List (List ValueRef)) → has_pair same_key (keys columns places rows) ≡ false → has_pair same_key (keys columns places (filter stays rows)) ≡ false
keys_kept columns places stays rows h = pair_keys columns places (filter stays rows) ∙ no_pair_kept (share_key columns places) stays rows (sym (pair_keys columns places rows) ∙ h)

module _ (d : Database) (name : List ℕ) (t : TableCells) (found : table_at name d ≡ Some t) (in_order : T (is_sorted list_cmp d.tables)) (rows : List (List ValueRef)) (places : List Place)
    (stays : TextsStay (others d name t) d.pool.places places) (before : KeysAreDistinct d) (here : has_pair same_key (keys t.columns places rows) ≡ false) where
  abbrev now : Database
  now = stored_in d name t rows places

  abbrev AreDistinct : List ℕ → Type 0
  AreDistinct other = (u : TableCells) → table_at other now ≡ Some u → has_pair same_key (map (key_of u.columns) (rows_at other now)) ≡ false

  this_found : table_at name now ≡ Some (with_rows t rows)
  this_found = found_after d name t found in_order rows places name ∙ ap (λ r. cond (is_eq r) (Some (with_rows t rows)) (table_at name d)) (tied_itself nat_list_cmp_total name)

  this_distinct : AreDistinct name
  this_distinct u u_is = subst (λ (u : TableCells). has_pair same_key (map (key_of u.columns) (rows_at name now)) ≡ false) (same_Some (with_rows t rows) u (sym this_found ∙ u_is))
      (ap (λ rs. has_pair same_key (map (key_of t.columns) rs)) (rows_after d name t found in_order rows places) ∙ here)

  abbrev rows_told : Option TableValues → List (List Value)
  rows_told o = unwrap_or (option_and_then (λ t. t.rows) o) []

  other_distinct : (other : List ℕ) → bytes_eq name other ≡ false → AreDistinct other
  other_distinct other apart u u_is = ap (λ rs. has_pair same_key (map (key_of u.columns) rs)) (ap rows_told (others_stay d name t found in_order rows places stays other apart))
      ∙ before other u (sym (other_found d name t found in_order rows places other apart) ∙ u_is)

  pub distinct_after : KeysAreDistinct now
  distinct_after other = ⊎_elim
      (λ (same : bytes_eq name other ≡ true). subst AreDistinct ((bytes_decides name other).0 same) this_distinct)
      (λ (apart : bytes_eq name other ≡ false). other_distinct other apart)
      (cases_Bool (bytes_eq name other))
