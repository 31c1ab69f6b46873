-- The records of a table can be carried out one after the other on the rows that the old package has of it.
use Rattle.std.proofs.Common.{◌≡◌, ℕ, ◌-◌, ◌≤◌, ◌&&◌, T, List, [], ◌∷◌, length, map, refl, sym, ap, subst, ◌∙◌, arith}
use Rattle.std.specs.Prelude.{Option, Some, None, filter_map, nat_lt, ◌==◌}
use Rattle.std.specs.Cmp.{tied_itself}
use Rattle.std.specs.FinMap.{is_sorted}
use Rattle.std.specs.FinMap.Entries.{below_all}
use Rattle.std.specs.List.{AllByRecursion}
use Rattle.std.specs.declared.cmp.Ordering.TheVariants.{Equal}
use Rattle.std.proofs.lemmas.Bool.{and_parts}
use Rattle.std.proofs.lemmas.List.{length-map}
use Rattle.msi_base.proofs.BoolLemmas.{T_parts, by_test}
use Rattle.msi_table_values.specs.declared.value.Value.{Value}
use Rattle.msi_table_values.specs.Columns.{ColumnDef}
use Rattle.msi_database_changes.specs.Database.{has_table}
use Rattle.msi_transform_rows.specs.KeyOfRows.{key_cmp}
use Rattle.msi_transform_making.specs.Making.{ToldRecord, ToldRow, ToldRows, addition, columns_before, columns_in_table, differences, first_told, has_bit_for, or_first_told, told_rows}
use Rattle.msi_transform_laws.specs.CanFollow.{CanFollowInTurn, RecordsCanFollow}
use Rattle.msi_transform_laws.specs.CarriedOut.{AreNewRows, AreOldRows, carried_out}
use Rattle.msi_transform_laws.proofs.CarriedOutLemmas.{below_none, differences_give_new_rows, keys_total}
use Rattle.msi_transform_laws.proofs.FollowingRecordsLemmas.{IsAddition, absent_follow, all_follow}
use Rattle.msi_transform_laws.proofs.TableRecordsLemmas.{each_added, new_rows, no_key_of_streams, no_records, none_dropped, old_rows}

-- the first row, as if it differed
first_follow : (columns : List ColumnDef) (n : ℕ) (rows : ToldRows) → T (is_sorted key_cmp rows) → length rows ≤ 65536 → CanFollowInTurn columns rows (first_told columns n rows)
first_follow columns n [] h few = tt
first_follow columns n (e ∷ es) h few =
    let tied : key_cmp e.0 e.0 ≡ Equal = tied_itself keys_total e.0 in
    let p = T_parts (below_all key_cmp e.0 es) (is_sorted key_cmp es) h in
    by_test (has_bit_for n)
    (λ t. rw (t, tied) (refl, tt))
    (λ t. rw (t, tied) (refl, (rw (none_dropped e.0 es p.0) (below_none e.0 es p.0, omega (arith, few)), tt)))

none_there : (es : ToldRows) → AllByRecursion (λ (e : List Value × ToldRow). (r : ToldRecord) → ◌≡◌ {A = Option ToldRecord} (Some (addition e)) (Some r) → ◌≡◌ {A = Option ToldRow} None None) es
none_there [] = tt
none_there (e ∷ es) = ((λ r is. refl), none_there es)

same_key : (e : List Value × ToldRow) (r : ToldRecord) → ◌≡◌ {A = Option ToldRecord} (Some (addition e)) (Some r) → r.key ≡ e.0
same_key e r is = let this : addition e ≡ r = cc in ap (λ (s : ToldRecord). s.key) (sym this)

addition_action : (e : List Value × ToldRow) (r : ToldRecord) → ◌≡◌ {A = Option ToldRecord} (Some (addition e)) (Some r) → IsAddition r.action
addition_action e r is = let this : addition e ≡ r = cc in subst (λ (s : ToldRecord). IsAddition s.action) this tt

all_added_follow : (columns : List ColumnDef) (rows : ToldRows) → T (is_sorted key_cmp rows) → length rows ≤ 65536 → CanFollowInTurn columns [] (map addition rows)
all_added_follow columns rows h few =
    let as_told = each_added rows in
    let many : length (filter_map (λ (e : List Value × ToldRow). Some (addition e)) rows) ≡ length rows = ap (λ (l : List ToldRecord). length l) (sym as_told) ∙ length-map rows addition in
    subst (CanFollowInTurn columns []) (sym as_told)
    (absent_follow columns (λ e. Some (addition e)) same_key (λ e r is. addition_action e r is) rows [] h tt (none_there rows) (omega (arith, many, few)))

module _ (columns : List ColumnDef) (before added : ℕ) (old new : ToldRows) (plain : no_key_of_streams columns) (was : AreOldRows columns old) (is : AreNewRows columns new) (few : length new ≤ 65536) where
  given : carried_out columns old (differences columns old new) ≡ new
  given = differences_give_new_rows columns old new plain was is

  follow_or_first : CanFollowInTurn columns old (or_first_told columns before added old (differences columns old new))
  follow_or_first = by_test ((length (differences columns old new) == 0) && nat_lt 0 added)
      (λ t. let none : differences columns old new ≡ [] = no_records (differences columns old new) (and_parts (length (differences columns old new) == 0) (nat_lt 0 added) t).0 in
      let same : old ≡ new = ap (carried_out columns old) (sym none) ∙ given in
      let many : length old ≡ length new = ap (λ (l : ToldRows). length l) same in
      rw t (first_follow columns before old was.sorted (omega (arith, many, few))))
      (λ t. rw t (all_follow columns old new was.sorted is.sorted given few))

pub records_can_follow : RecordsCanFollow
records_can_follow old new name is few =
    let columns = columns_in_table new name in
    let whole = new_rows new name is.key is.whole in
    by_test (has_table name old.database)
    (λ t. let kept = is.before t in
    rw t (follow_or_first columns (columns_before old.database name) (length columns - columns_before old.database name)
    (told_rows old name (length columns - columns_before old.database name)) (told_rows new name 0) is.key
    (old_rows old name columns kept.1 is.key kept.0) whole few))
    (λ t. rw t (all_added_follow columns (told_rows new name 0) whole.sorted few))
