-- Tables of the new package of which a transform that is made has no records.
use Rattle.std.proofs.Common.{◌≡◌, ℕ, suc, ◌-◌, ◌<◌, Bool, true, false, List, [], ◌∷◌, length, map, filter, refl, sym, ap, ◌∙◌, arith}
use Rattle.std.specs.Prelude.{Some, None, ◌==◌}
use Rattle.std.specs.List.{AllByRecursion}
use Rattle.std.proofs.lemmas.Bool.{lt-ltb, ne_eqb}
use Rattle.msi_base.proofs.BoolLemmas.{by_test}
use Rattle.msi_base.proofs.OptionLemmas.{none_is}
use Rattle.msi_table_values.specs.Columns.{ColumnDef}
use Rattle.msi_database_changes.specs.Database.{has_table}
use Rattle.msi_transform.specs.Transforms.{TransformDef, records_for}
use Rattle.msi_transform_making.specs.Making.{Pair, ToldRecord, ToldRows, ToldTable, addition, columns_before, columns_in_table, differences, first_told, has_bit_for, is_told, or_first_told, records_of_table, told_names, told_rows, told_table}
use Rattle.msi_transform_laws.specs.CarriedOut.{IsTellable, carried_out, rows_before}
use Rattle.msi_transform_laws.specs.RecordsRead.{action_and_values, values_read}
use Rattle.msi_transform_laws.specs.TablesWithoutRecords.{TablesWithoutRecordsStay}
use Rattle.msi_transform_laws.proofs.MadeRecordsLemmas.{made_records_are_read}
use Rattle.msi_transform_laws.proofs.SchemaListsLemmas.{if_first, list_of_columns, list_of_tables, not_told_is}
use Rattle.msi_transform_laws.proofs.TableAppliedLemmas.{read_of}
use Rattle.msi_transform_laws.proofs.TableRecordsLemmas.{records_give_new_table}

-- A TABLE WITHOUT RECORDS

no_first : (columns : List ColumnDef) (n : ℕ) (rows : ToldRows) → first_told columns n rows ≡ [] → rows ≡ []
no_first columns n [] h = refl
no_first columns n (e ∷ es) h = by_test (has_bit_for n)
    (λ t. let long = ap (λ (l : List ToldRecord). length l) (rw t at h) in absurd (omega (arith, long)))
    (λ t. let long = ap (λ (l : List ToldRecord). length l) (rw t at h) in absurd (omega (arith, long)))

none_added : (rows : ToldRows) → map addition rows ≡ [] → rows ≡ []
none_added [] h = refl
none_added (e ∷ es) h = let long = ap (λ (l : List ToldRecord). length l) h in absurd (omega (arith, long))

no_rows_by : (columns : List ColumnDef) (n added : ℕ) (rows : ToldRows) (told : List ToldRecord) → 0 < added → or_first_told columns n added rows told ≡ [] → rows ≡ []
no_rows_by columns n added rows [] some h = no_first columns n rows (rw (lt-ltb 0 added some) at h)
no_rows_by columns n added rows (r ∷ rs) some h =
    let more : (length (r ∷ rs) == 0) ≡ false = ne_eqb (suc (length rs)) 0 (λ e. omega arith) in
    let long = ap (λ (l : List ToldRecord). length l) (rw more at h) in absurd (omega (arith, long))

module _ (p : Pair) (name : List ℕ) (tellable : IsTellable p.old p.new name) (none : records_of_table p.old p.new name ≡ []) where
  abbrev columns : List ColumnDef
  columns = columns_in_table p.new name

  abbrev added : ℕ
  added = length columns - columns_before p.old.database name

  rows_stay : rows_before p.old p.new name ≡ told_rows p.new name 0
  rows_stay = ap (carried_out columns (rows_before p.old p.new name)) (sym none) ∙ records_give_new_table p.old p.new name tellable

  none_before : 0 < added → rows_before p.old p.new name ≡ []
  none_before some = by_test (has_table name p.old.database)
      (λ b. rw b (no_rows_by columns (columns_before p.old.database name) added (told_rows p.old name added) (differences columns (told_rows p.old name added) (told_rows p.new name 0)) some (rw b at none)))
      (λ b. rw b refl)

-- ALL TABLES

if_all : {X : Type 0} (P : X → Type 0) (q : X → Bool) (xs : List X) → AllByRecursion P (filter q xs) → AllByRecursion (λ x. q x ≡ true → P x) xs
if_all P q [] h = tt
if_all P q (x ∷ xs) h = let g = if_first P q x xs h in (g.0, if_all P q xs g.1)

module _ (p : Pair) (t : TransformDef) where
  abbrev pub Stays : List ℕ → Type 0
  Stays name = records_for name t ≡ None → (rows_before p.old p.new name ≡ told_rows p.new name 0)
      × (0 < length (columns_in_table p.new name) - columns_before p.old.database name → told_rows p.new name 0 ≡ [])

  one_stays : (name : List ℕ) → IsTellable p.old p.new name
      → (is_told (told_table p.old p.new name) ≡ true → values_read t (told_table p.old p.new name) ≡ Some (map action_and_values (records_of_table p.old p.new name))) → Stays name
  one_stays name tellable read absent = by_test (is_told (told_table p.old p.new name))
      (λ b. let r = read_of t (told_table p.old p.new name) (records_for name t) refl (read b) in none_is (sym absent ∙ r.1))
      (λ b. let none = not_told_is (told_table p.old p.new name) b in
      let stay = rows_stay p name tellable none in
      (stay, (λ some. sym stay ∙ none_before p name tellable none some)))

  all_stay : (names : List (List ℕ)) → AllByRecursion (IsTellable p.old p.new) names
      → AllByRecursion (λ (table : ToldTable). is_told table ≡ true → values_read t table ≡ Some (map action_and_values table.records)) (map (told_table p.old p.new) names) → AllByRecursion Stays names
  all_stay [] tellable read = tt
  all_stay (n ∷ ns) tellable read = (one_stays n tellable.0 read.0, all_stay ns tellable.1 read.1)

pub tables_without_records_stay : TablesWithoutRecordsStay
tables_without_records_stay p t is can =
    let ReadsBack = λ (table : ToldTable). values_read t table ≡ Some (map action_and_values table.records) in
    let all = made_records_are_read p t is can.apart can.spellable in
    let rest = map (told_table p.old p.new) (told_names p.new) in
    let one = if_first ReadsBack is_told (list_of_tables p) (list_of_columns p ∷ rest) all in
    let two = if_first ReadsBack is_told (list_of_columns p) rest one.1 in
    all_stay p t (told_names p.new) can.tellable (if_all ReadsBack is_told rest two.1)
