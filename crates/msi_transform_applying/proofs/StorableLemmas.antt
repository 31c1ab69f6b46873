-- The tables that are stored anew have names whose streams a container can have, if those of the transform do.
use Rattle.std.proofs.Common.{◌≡◌, ℕ, ◌+◌, ◌/◌, ◌≤◌, sum, Bool, true, false, cond, not, List, [], ◌∷◌, ◌++◌, length, map, Option, Some, None, option_map, refl, sym, ap, subst, ◌∙◌, arith}
use Rattle.std.specs.Prelude.{Result, Ok, Err, bytes_eq, if◌then◌else◌, unwrap_or}
use Rattle.std.specs.Cmp.Lexicographic.{bytes_decides}
use Rattle.std.specs.List.{AllByRecursion}
use Rattle.std.proofs.lemmas.List.{length-map}
use Rattle.msi_base.specs.declared.errors.ErrorKind.TheVariants.{InvalidData, NotFound}
use Rattle.msi_base.specs.Refusals.{unless_refused}
use Rattle.msi_container_format.specs.Names.{is_name_length}
use Rattle.msi_database_changes.specs.Database.{Database, rows_of, table_at}
use Rattle.msi_database_schema.specs.Keys.{is_table_name, table_key}
use Rattle.msi_database_schema.proofs.KeyLemmas.{table_key_is_name}
use Rattle.msi_database_schema.specs.System.{columns_columns, columns_name, is_schema_table, tables_columns, tables_name}
use Rattle.msi_database_storage.specs.Kept.{database_kept, table_kept, table_kept_at}
use Rattle.msi_database_storage.specs.StreamNames.{HaveShortNames}
use Rattle.msi_database_storage.specs.Streams.{Streams, stored_rows}
use Rattle.msi_database_storage.proofs.StreamAtLemmas.{none_too_long}
use Rattle.msi_database_storage.proofs.TableAtLemmas.{table_at_kept}
use Rattle.msi_pool.specs.Pool.{Pool}
use Rattle.msi_table.specs.Cells.{rows_in, widths}
use Rattle.msi_table.specs.Tables.{TableDef}
use Rattle.msi_table_cells.specs.declared.cell.ValueRef.{ValueRef}
use Rattle.msi_table_cells.specs.TableCells.{TableCells}
use Rattle.msi_table_values.specs.declared.column.ColumnType.{ColumnType}
use Rattle.msi_table_values.specs.Columns.{types_of}
use Rattle.msi_transform.specs.Transforms.{shapes_of}
use Rattle.msi_transform_applying.specs.Applying.{TableAnew, TablesChanged, TablesInHand, change_of, changed_with, is_broken, lengthened_alone, rows_applied, rows_begun, rows_changed, rows_in_hand, table_applied, table_lengthened, table_or_schema, table_refusals, tables_begun, tables_changed, tables_in_turn, with_anew, with_lengthened}
use Rattle.msi_transform_rows.specs.TableRecords.{all_applied, changes_schema}
use Rattle.msi_transform_schema.specs.SchemaApplying.{page_refusals, schema_applied}
use Rattle.msi_transform_applying.specs.LeftInHand.{CanBeStored, HasTableKey}
use Rattle.msi_transform_rows.specs.RecordRefusals.{◌>>=◌, Refusal, at_record, nowhere}
use Rattle.msi_transform_rows.specs.RowChanges.{RowsInHand, keyed, record_applied}
use Rattle.msi_transform_schema.specs.SchemaChanges.{SchemaChange, SchemaInHand, TableInHand, TablesTold, columns_in_hand, is_gone, rows_of_package, table_in_hand}
use Rattle.msi_transform_schema.specs.declared.schema.Standing.{Standing}
use Rattle.msi_transform_schema.specs.declared.schema.Standing.TheVariants as stands

-- STEPS THAT ARE PASSED

passed : {A B : Type 0} (m : Result A Refusal) (f : A → Result B Refusal) (y : B) → (m >>= f) ≡ Ok y → (x : A) × (m ≡ Ok x) × (f x ≡ Ok y)
passed (Ok x) f y e = (x, refl, e)
passed (Err r) f y e = cc

abbrev answered : {A : Type 0} → A → Result A Refusal
answered x = Ok x

same_answer : {A : Type 0} (x y : A) → answered x ≡ answered y → x ≡ y
same_answer x y e = cc

abbrev AllStorable : List TableAnew → Type 0
AllStorable tables = AllByRecursion CanBeStored tables

joined : (xs ys : List TableAnew) → AllStorable xs → AllStorable ys → AllStorable (xs ++ ys)
joined [] ys h g = g
joined (x ∷ xs) ys h g = (h.0, joined xs ys h.1 g)

-- THE TABLES OF A TRANSFORM

passed_by : {A : Type 0} (gone named broken : Bool) (number : ℕ) (y r : A)
    → at_record number 0 (unless_refused ((gone, NotFound) ∷ (not named, InvalidData) ∷ (broken, InvalidData) ∷ []) y) ≡ Ok r → named ≡ true
passed_by true named broken number y r e = cc
passed_by false true broken number y r e = refl
passed_by false false broken number y r e = cc

module _ (change : SchemaChange) (told : TablesTold) where
  one_applied : (number : ℕ) (s t : TablesInHand) (e : List ℕ × List ℕ) → table_applied change told number s e ≡ Ok t → AllStorable s.tables → AllStorable t.tables
  one_applied number s t e is h =
      let d = change.database in let table = table_in_hand d told e.0 in let columns = columns_in_hand d e.0 table in
      let (r, ran, ends) = passed
      (at_record number 0 (unless_refused (table_refusals d e.0 table) (rows_in_hand d e.0 table s)) >>= all_applied number change.by (shapes_of columns) e.1 (record_applied (change_of change e.0 table)))
      (λ (r : RowsInHand). Ok (with_anew e.0 columns s r)) t is in
      let (begun, unrefused, _) = passed (at_record number 0 (unless_refused (table_refusals d e.0 table) (rows_in_hand d e.0 table s)))
      (all_applied number change.by (shapes_of columns) e.1 (record_applied (change_of change e.0 table))) r ran in
      let named = table_key_is_name e.0 (passed_by (is_gone table.standing) (is_table_name e.0) (is_broken d columns (rows_of_package d e.0 table.standing)) number (rows_in_hand d e.0 table s) begun unrefused) in
      subst (λ (u : TablesInHand). AllStorable u.tables) (same_answer _ _ ends) (joined s.tables _ h ((λ _. named), tt))

  one_passed : (b : Bool) (number : ℕ) (s t : TablesInHand) (e : List ℕ × List ℕ) → (if b then Ok s else table_applied change told number s e) ≡ Ok t → AllStorable s.tables → AllStorable t.tables
  one_passed true number s t e is h = subst (λ (u : TablesInHand). AllStorable u.tables) (same_answer _ _ is) h
  one_passed false number s t e is h = one_applied number s t e is h

  all_passed : (es : List (List ℕ × List ℕ)) (n : ℕ) (s t : TablesInHand) → tables_in_turn change told n s es ≡ Ok t → AllStorable s.tables → AllStorable t.tables
  all_passed [] n s t is h = subst (λ (u : TablesInHand). AllStorable u.tables) (same_answer _ _ is) h
  all_passed (e ∷ es) n s t is h =
      let (u, one, others) = passed (table_or_schema change told n s e) (λ (v : TablesInHand). tables_in_turn change told (n + 1) v es) t is in
      all_passed es (n + 1) u t others (one_passed (is_schema_table e.0) n s u e one h)

-- TABLES THAT ARE LENGTHENED

known_name : (name : List ℕ) (tables : List TableDef) (t : TableDef) → table_kept_at name tables ≡ Some t → t.name ≡ name
known_name name [] t e = cc
known_name name (u ∷ us) t e = elim (bytes_eq name u.name) as (λ b. bytes_eq name u.name ≡ b → cond b (Some u) (table_kept_at name us) ≡ Some t → t.name ≡ name) [
  | true ↦ λ same is. let one : u ≡ t = cc in sym ((bytes_decides name u.name).0 same ∙ ap (λ (v : TableDef). v.name) one)
  | false ↦ λ _ is. known_name name us t is
] refl e

-- no bytes spell no row
no_rows : (long : Bool) (types : List ColumnType) → rows_in long types [] ≡ Some []
no_rows long types = let none : 0 / sum (widths long types) ≡ 0 = omega arith in rw none

module _ (pool : Pool) (tables : List TableDef) (streams : Streams) (short : HaveShortNames streams) where
  by_length : (b : Bool) (long : Bool) (t : TableDef) → is_name_length (length (table_key t.name)) ≡ b → 1 ≤ length (unwrap_or (stored_rows streams long t.columns t.name) []) → b ≡ true
  by_length true long t e some = refl
  by_length false long t e some =
      let nothing : stored_rows streams long t.columns t.name ≡ Some [] =
      ap (λ (o : Option (List ℕ)). rows_in long (types_of t.columns) (unwrap_or o [])) (none_too_long (table_key t.name) streams short e) ∙ no_rows long (types_of t.columns) in
      let none : length (unwrap_or (stored_rows streams long t.columns t.name) []) ≡ 0 = ap (λ (o : Option (List (List ValueRef))). length (unwrap_or o [])) nothing in
      absurd (omega arith)

  by_table : (name : List ℕ) (o : Option TableDef) → table_kept_at name tables ≡ o
      → 1 ≤ length (unwrap_or (option_map rows_of (option_map (λ t. (table_kept streams pool.long t).1) o)) []) → HasTableKey name
  by_table name None is some = absurd (omega arith)
  by_table name (Some t) is some =
      subst HasTableKey (known_name name tables t is) (by_length (is_name_length (length (table_key t.name))) pool.long t refl some)

  rows_there : (name : List ℕ) → 1 ≤ length (unwrap_or (option_map rows_of (table_at name (database_kept pool tables streams))) []) → HasTableKey name
  rows_there name some = by_table name (table_kept_at name tables) refl
      (subst (λ (o : Option TableCells). 1 ≤ length (unwrap_or (option_map rows_of o) [])) (table_at_kept pool tables streams name) some)

  package_rows : (name : List ℕ) (standing : Standing) → 1 ≤ length (rows_of_package (database_kept pool tables streams) name standing) → HasTableKey name
  package_rows name stands.Gone some = absurd (omega arith)
  package_rows name stands.Added some = absurd (omega arith)
  package_rows name stands.Kept some = rows_there name some
  package_rows name (stands.Found next) some = rows_there name some

  abbrev d : Database
  d = database_kept pool tables streams

  lengthened : (e : List ℕ × TableInHand) → CanBeStored (table_lengthened d e)
  lengthened e some =
      let with_keys = length-map (rows_begun d e.0 e.1) (keyed (columns_in_hand d e.0 e.1) d.pool.places) in
      let begun : length (rows_begun d e.0 e.1) ≡ length (rows_of_package d e.0 e.1.standing) = length-map (rows_of_package d e.0 e.1.standing) _ in
      package_rows e.0 e.1.standing (omega (arith, with_keys, begun))

  all_lengthened : (es : TablesTold) → AllStorable (map (table_lengthened d) es)
  all_lengthened [] = tt
  all_lengthened (e ∷ es) = (lengthened e, all_lengthened es)

-- ALL

tables_named : HasTableKey tables_name
unfolding Rattle.std.specs.Str.chars
tables_named = refl

columns_named : HasTableKey columns_name
unfolding Rattle.std.specs.Str.chars
columns_named = refl

systems : (b : Bool) (s : SchemaInHand) → AllStorable (if b then record { name = tables_name; columns = tables_columns; rows = s.listed } ∷ record { name = columns_name; columns = columns_columns; rows = s.described } ∷ [] else [])
systems true s = ((λ _. tables_named), ((λ _. columns_named), tt))
systems false s = tt

pub are_storable : (pool : Pool) (tables : List TableDef) (change : SchemaChange) (page_id : ℕ) (c : TablesChanged) → change.database ≡ database_kept pool tables change.streams
    → HaveShortNames change.streams → tables_changed change page_id ≡ Ok c → AllByRecursion CanBeStored c.tables.tables
are_storable pool tables change page_id c kept short is =
    let (schema, _, changed) = passed (nowhere (unless_refused (page_refusals page_id change.by change.passing) change) >>= schema_applied) (rows_changed change) c is in
    let (anew, applied, ends) = passed (rows_applied change schema) (λ (ts : TablesInHand). Ok (changed_with schema.tables ts)) c changed in
    let (s, ran, longer) = passed (tables_in_turn change schema.tables 0 (tables_begun change schema) change.by.tables) (λ (s : TablesInHand). Ok (with_lengthened change schema.tables s)) anew applied in
    let whole : AllStorable (with_lengthened change schema.tables s).tables = joined s.tables _
    (all_passed change schema.tables change.by.tables 0 (tables_begun change schema) s ran (systems (changes_schema change.by) schema))
    (subst (λ (d : Database). AllStorable (map (table_lengthened d) (lengthened_alone change.by schema.tables))) (sym kept) (all_lengthened pool tables change.streams short (lengthened_alone change.by schema.tables))) in
    subst (λ (u : TablesChanged). AllStorable u.tables.tables) (same_answer _ _ ends) (subst (λ (u : TablesInHand). AllStorable u.tables) (same_answer _ _ longer) whole)
