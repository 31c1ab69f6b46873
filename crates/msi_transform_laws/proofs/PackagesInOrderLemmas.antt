-- Two packages in order of which a transform is made: what has to hold of them so that it can be applied.
use Rattle.std.proofs.Common.{◌≡◌, ℕ, ◌+◌, Bool, true, false, not, ◌&&◌, ◌||◌, List, [], ◌∷◌, ◌++◌, length, map, filter, drop, take, refl, sym, ap, subst, ◌∙◌, arith, append-nil}
use Rattle.std.specs.Prelude.{Some, Ok, is_some, bytes_eq, ◌==◌}
use Rattle.std.specs.FinMap.Entries.{is_some-find}
use Rattle.std.specs.List.{AllByRecursion, flat_map}
use Rattle.msi_base.specs.Lists.{list_cmp}
use Rattle.msi_base.proofs.BoolLemmas.{by_test, yes_is_no}
use Rattle.msi_table_cells.specs.declared.cell.ValueRef.{ValueRef}
use Rattle.msi_table_cells.specs.CellValues.{row_values}
use Rattle.msi_table_values.specs.declared.value.Value.{Value}
use Rattle.msi_table_values.specs.Columns.{ColumnDef}
use Rattle.msi_database_schema.specs.System.{columns_name, is_schema_table, tables_name, validation_name}
use Rattle.msi_database_changes.specs.Database.{has_table}
use Rattle.msi_transform_records.specs.declared.action.Action.TheVariants.{Add, Remove}
use Rattle.msi_transform_records.specs.declared.shape.Shape.{Shape}
use Rattle.msi_transform.specs.Transforms.{TransformDef, records_for, shapes_of}
use Rattle.msi_transform.specs.declared.conditions.ErrorConditions.{ErrorConditions}
use Rattle.msi_transform_rows.specs.TableRecords.{changes_schema}
use Rattle.msi_transform_schema.specs.SchemaChanges.{is_unlisted}
use Rattle.msi_transform_making.specs.Making.{Pair, ToldTable, columns_before, columns_in_table, described_columns, describing_record, is_told, listing_record, made, names_beside, records_of_columns, told_names}
use Rattle.msi_transform_laws.specs.CarriedOut.{IsTellable}
use Rattle.msi_transform_laws.specs.DescribedPackages.{TablesCanHaveRecords}
use Rattle.msi_transform_laws.specs.ExactPackages.{IsExact, IsInOrder}
use Rattle.msi_transform_laws.specs.RecordsRead.{action_and_values, values_read}
use Rattle.msi_transform_laws.specs.RowsApplied.{values_held}
use Rattle.msi_transform_laws.specs.RowsBegun.{HoldsStreams}
use Rattle.msi_transform_laws.specs.SameColumns.{HaveSameColumns}
use Rattle.msi_transform_laws.specs.SchemaMade.{AreDescribed, NewColumnsAreDescribed, TablesCanChange}
use Rattle.msi_transform_laws.specs.TableApplied.{CanHaveRecords}
use Rattle.msi_transform_laws.specs.TextsLeft.{CanTakeTransform}
use Rattle.msi_transform_laws.proofs.DescribedPackagesLemmas.{apart_sorted, described_tables_can_have_records}
use Rattle.msi_transform_laws.proofs.ExactPackagesLemmas.{tables_sorted}
use Rattle.msi_transform_laws.proofs.NewTablesLemmas.{none_mapped}
use Rattle.msi_transform_laws.proofs.SchemaListsLemmas.{each_passing, list_of_columns, list_of_tables, not_told_is, read_tables}
use Rattle.msi_transform_laws.proofs.SchemaMadeLemmas.{at_name, passes_among, shapes_dropped, taken_dropped}
use Rattle.msi_transform_laws.proofs.TableAppliedLemmas.{read_of}
use Rattle.msi_transform_laws.proofs.TablesChangedLemmas.{no_rows_there}

not_true : (b : Bool) → not b ≡ true → b ≡ false
not_true true h = sym h
not_true false h = refl

not_false : (b : Bool) → not b ≡ false → b ≡ true
not_false true h = refl
not_false false h = sym h

neither : (a b : Bool) → (a || b) ≡ false → (a ≡ false) × (b ≡ false)
neither true b h = yes_is_no true refl h
neither false b h = (refl, h)

and_false : (b : Bool) → (b && false) ≡ false
and_false true = refl
and_false false = refl

none_joined : {X : Type 0} (xs ys : List X) → xs ++ ys ≡ [] → (xs ≡ []) × (ys ≡ [])
none_joined [] ys h = (refl, h)
none_joined {X} (x ∷ xs) ys h = let long = ap (λ (l : List X). length l) h in absurd (omega (arith, long))

none_passing : {X : Type 0} (q : X → Bool) (xs : List X) → filter q xs ≡ [] → AllByRecursion (λ (x : X). q x ≡ false) xs
none_passing q [] h = tt
none_passing {X} q (x ∷ xs) h = by_test (q x)
    (λ u. let long = ap (λ (l : List X). length l) (rw u at h) in absurd (omega (arith, long)))
    (λ u. (u, none_passing q xs (rw u at h)))

module _ (p : Pair) (t : TransformDef) (passing : ErrorConditions) (is : made p ≡ Ok t) (exact : IsExact p.old) (order : IsInOrder p.new) (ready : CanTakeTransform p t passing) where
  described_tables : TablesCanHaveRecords p
  described_tables = described_tables_can_have_records p t is exact.order.well_formed order.well_formed exact.order.described order.described

  pub can_have : CanHaveRecords p
  can_have = record { apart = described_tables.apart; tellable = described_tables.tellable; spellable = ready.spellable; few = ready.few }

  none_unlisted : (names : List (List ℕ)) → AllByRecursion (λ name. is_unlisted p.old.database name ≡ false) names
  none_unlisted [] = tt
  none_unlisted (n ∷ ns) = (
    ap (λ (rows : List (List ValueRef)). bytes_eq n validation_name && not (length rows == 0)) exact.order.unlisted ∙ and_false (bytes_eq n validation_name),
    none_unlisted ns,
  )

  pub can_change : TablesCanChange p
  can_change = record {
    lists = exact.order.has_tables;
    describes = exact.order.has_columns;
    lists_too = order.has_tables;
    describes_too = order.has_columns;
    apart = apart_sorted p.old.database.tables (tables_sorted p.old exact.order);
    unlisted = none_unlisted (told_names p.new);
    described = described_tables.described;
    names = described_tables.names;
    own_tables = exact.order.own_tables;
    own_columns = exact.order.own_columns;
  }

  holds_at : (name : List ℕ) → is_schema_table name ≡ false → HoldsStreams p.old name
  holds_at name plain = by_test (has_table name p.old.database)
      (λ b. at_name (HoldsStreams p.old) name (told_names p.old) exact.order.streams
      (passes_among (λ name. not (is_schema_table name)) name (map (λ t. t.0) p.old.database.tables) (sym (is_some-find list_cmp name p.old.database.tables) ∙ b) (ap not plain)))
      (λ b. subst (λ (rows : List (List ValueRef)). AllByRecursion (λ (row : List ValueRef). values_held (columns_in_table p.old name) (row_values p.old.database.pool.places row) ≡ row_values p.old.database.pool.places row) rows)
      (sym (no_rows_there p.old.database name b)) tt)

  all_hold : (names : List (List ℕ)) → AllByRecursion (λ name. not (is_schema_table name) ≡ true) names → AllByRecursion (HoldsStreams p.old) names
  all_hold [] h = tt
  all_hold (n ∷ ns) h = (holds_at n (not_true (is_schema_table n) h.0), all_hold ns h.1)

  pub streams_held : AllByRecursion (HoldsStreams p.old) (told_names p.new)
  streams_held = all_hold (told_names p.new) (each_passing (λ name. not (is_schema_table name)) (map (λ t. t.0) p.new.database.tables))

  -- WHERE NO RECORD TELLS OF TABLES OR COLUMNS

  module _ (unchanged : changes_schema t ≡ false) where
    parts : (is_some (records_for tables_name t) ≡ false) × (is_some (records_for columns_name t) ≡ false)
    parts = neither (is_some (records_for tables_name t)) (is_some (records_for columns_name t)) unchanged

    no_records : (table : ToldTable) → (is_told table ≡ true → values_read t table ≡ Some (map action_and_values table.records)) → is_some (records_for table.name t) ≡ false → table.records ≡ []
    no_records table read none = by_test (is_told table)
        (λ b. let r = read_of t table (records_for table.name t) refl (read b) in yes_is_no (is_some (records_for table.name t)) (ap is_some r.1) none)
        (λ b. not_told_is table b)

    lists_same : (names_beside p.old.database p.new.database ≡ []) × (names_beside p.new.database p.old.database ≡ [])
    lists_same =
        let none = none_joined (map (listing_record Remove) (names_beside p.old.database p.new.database)) (map (listing_record (Add 1)) (names_beside p.new.database p.old.database))
        (no_records (list_of_tables p) (read_tables p t is can_have).0 parts.0) in
        (none_mapped (listing_record Remove) (names_beside p.old.database p.new.database) none.0, none_mapped (listing_record (Add 1)) (names_beside p.new.database p.old.database) none.1)

    pub none_gone : names_beside p.old.database p.new.database ≡ []
    none_gone = lists_same.0

    all_there_before : (names : List (List ℕ)) → AllByRecursion (λ name. not (has_table name p.old.database) ≡ false) names → AllByRecursion (λ name. has_table name p.old.database ≡ true) (filter (λ name. not (is_schema_table name)) names)
    all_there_before [] h = tt
    all_there_before (n ∷ ns) h = by_test (not (is_schema_table n))
        (λ b. rw b (not_false (has_table n p.old.database) h.0, all_there_before ns h.1))
        (λ b. rw b (all_there_before ns h.1))

    no_more : (name : List ℕ) (n : ℕ) (rows : List (List Value)) (cs : List ColumnDef) → AreDescribed name n rows cs → rows ≡ [] → cs ≡ []
    no_more name n [] [] are none = refl
    no_more name n [] (c ∷ cs) are none = absurd are
    no_more name n (row ∷ rows) cs are none = let long = ap (λ (l : List (List Value)). length l) none in absurd (omega (arith, long))

    same_at : (name : List ℕ) → NewColumnsAreDescribed p name → IsTellable p.old p.new name → has_table name p.old.database ≡ true → records_of_columns p.old p.new name ≡ []
        → shapes_of (columns_in_table p.old name) ≡ shapes_of (columns_in_table p.new name)
    same_at name are tellable there none =
        let before = columns_before p.old.database name in
        let nothing = none_mapped (describing_record (has_table name p.old.database)) (drop before (described_columns p.new name)) none in
        let dropped = no_more name (before + 1) (drop before (described_columns p.new name)) (drop before (columns_in_table p.new name)) are nothing in
        let shapes = shapes_of (columns_in_table p.new name) in
        sym (tellable.before there).1.begun
        ∙ sym (append-nil (take before shapes))
        ∙ ap (λ (l : List Shape). take before shapes ++ l) (ap shapes_of (sym dropped) ∙ shapes_dropped before (columns_in_table p.new name))
        ∙ taken_dropped before shapes

    same_all : (names : List (List ℕ)) → AllByRecursion (NewColumnsAreDescribed p) names → AllByRecursion (IsTellable p.old p.new) names → AllByRecursion (λ name. has_table name p.old.database ≡ true) names
        → flat_map (records_of_columns p.old p.new) names ≡ [] → AllByRecursion (λ name. shapes_of (columns_in_table p.old name) ≡ shapes_of (columns_in_table p.new name)) names
    same_all [] are tellable there none = tt
    same_all (n ∷ ns) are tellable there none =
        let q = none_joined (records_of_columns p.old p.new n) (flat_map (records_of_columns p.old p.new) ns) none in
        (same_at n are.0 tellable.0 there.0 q.0, same_all ns are.1 tellable.1 there.1 q.1)

    pub same_columns : HaveSameColumns p
    same_columns =
        let there = all_there_before (map (λ t. t.0) p.new.database.tables) (none_passing (λ name. not (has_table name p.old.database)) (map (λ t. t.0) p.new.database.tables) lists_same.1) in
        record {
          there = there;
          columns = same_all (told_names p.new) described_tables.described described_tables.tellable there (no_records (list_of_columns p) (read_tables p t is can_have).1 parts.1);
          streams = streams_held;
        }
