-- The records of a transform that is made are read as they were told.
use Rattle.std.proofs.Common.{◌≡◌, ℕ, Bool, false, not, List, [], ◌∷◌, ◌++◌, map, filter, Some, refl, sym, ap, subst, ◌∙◌}
use Rattle.std.specs.Prelude.{Option, None, Result, Ok, Err, bytes_eq}
use Rattle.std.specs.Cmp.Lexicographic.{bytes_decides}
use Rattle.std.specs.List.{AllByRecursion, flat_map, list_any}
use Rattle.msi_base.specs.Lists.{has_pair}
use Rattle.msi_base.specs.declared.errors.ErrorKind.{ErrorKind}
use Rattle.msi_base.specs.declared.errors.ErrorKind.TheVariants.{InvalidInput}
use Rattle.msi_base.specs.Refusals.{first_refusal, or_refused, unless, ◌>>=◌}
use Rattle.msi_base.proofs.BoolLemmas.{by_test, yes_is_no}
use Rattle.msi_database_schema.specs.System.{columns_columns, columns_name, is_schema_table, tables_columns, tables_name}
use Rattle.msi_database_changes.specs.Texts.{PoolInUse}
use Rattle.msi_database_storage.specs.Kept.{Kept}
use Rattle.msi_transform_records.specs.declared.records.Record.{Record}
use Rattle.msi_transform.specs.Transforms.{TransformDef, shapes_of}
use Rattle.msi_transform_making.specs.Making.{ToldTable, is_told, reasons, records_of_columns, records_of_tables, stored_tables, told_names, told_table, told_tables, transform_of, transform_with}
use Rattle.msi_transform_laws.specs.RecordsRead.{MadeRecordsAreRead, action_and_values, values_read}
use Rattle.msi_transform_laws.proofs.StoredRecordsLemmas.{neither, stored_records_are_read}

-- what a transform that is made stands on
module _ (page_id : ℕ) (new : Kept) (tables : List ToldTable) (t : TransformDef) where
  abbrev pub Stored : Type 0
  Stored = (s : List (ToldTable × List Record) × PoolInUse) × (stored_tables tables ≡ Some s) × (transform_with page_id new tables s ≡ t)

  same_ok : (a b : TransformDef) → ◌≡◌ {A = Result TransformDef ErrorKind} (Ok a) (Ok b) → a ≡ b
  same_ok a b e = cc

  not_ok : {P : Type 0} (kind : ErrorKind) → ◌≡◌ {A = Result TransformDef ErrorKind} (Err kind) (Ok t) → P
  not_ok kind e = cc

  stored_by : (o : Option (List (ToldTable × List Record) × PoolInUse)) → stored_tables tables ≡ o → (or_refused InvalidInput o >>= λ s. Ok (transform_with page_id new tables s)) ≡ Ok t → Stored
  stored_by None is e = not_ok InvalidInput e
  stored_by (Some s) is e = (s, is, same_ok (transform_with page_id new tables s) t e)

  pub made_by : (o : Option ErrorKind) → (unless o tables >>= transform_of page_id new) ≡ Ok t → Stored
  made_by None e = stored_by (stored_tables tables) refl e
  made_by (Some kind) e = not_ok kind e

-- NO TWO TABLES HAVE ONE NAME

none_passing : {X : Type 0} (test : X → Bool) (p : X → Bool) (xs : List X) → list_any test xs ≡ false → list_any test (filter p xs) ≡ false
none_passing test p [] h = refl
none_passing test p (x ∷ xs) h =
    let q = neither (test x) (list_any test xs) h in
    by_test (p x) (λ t. rw (t, q.0) (none_passing test p xs q.1)) (λ t. rw t (none_passing test p xs q.1))

module _ {X Y : Type 0} (same : Y → Y → Bool) (f : X → Y) (p : X → Bool) where
  none_mapped : (y : Y) (xs : List X) → list_any (same y) (map f xs) ≡ false → list_any (same y) (map f (filter p xs)) ≡ false
  none_mapped y [] h = refl
  none_mapped y (x ∷ xs) h =
      let q = neither (same y (f x)) (list_any (same y) (map f xs)) h in
      by_test (p x) (λ t. rw (t, q.0) (none_mapped y xs q.1)) (λ t. rw t (none_mapped y xs q.1))

  apart_mapped : (xs : List X) → has_pair same (map f xs) ≡ false → has_pair same (map f (filter p xs)) ≡ false
  apart_mapped [] h = refl
  apart_mapped (x ∷ xs) h =
      let q = neither (list_any (same (f x)) (map f xs)) (has_pair same (map f xs)) h in
      by_test (p x) (λ t. rw (t, none_mapped (f x) xs q.0) (apart_mapped xs q.1)) (λ t. rw t (apart_mapped xs q.1))

pub apart_passing : (p : List ℕ → Bool) (xs : List (List ℕ)) → has_pair bytes_eq xs ≡ false → has_pair bytes_eq (filter p xs) ≡ false
apart_passing p [] h = refl
apart_passing p (x ∷ xs) h =
    let q = neither (list_any (bytes_eq x) xs) (has_pair bytes_eq xs) h in
    by_test (p x) (λ t. rw (t, none_passing (bytes_eq x) p xs q.0) (apart_passing p xs q.1)) (λ t. rw t (apart_passing p xs q.1))

pub turned_name : (a b : List ℕ) → bytes_eq b a ≡ false → bytes_eq a b ≡ false
turned_name a b h = by_test (bytes_eq a b)
    (λ t. yes_is_no (bytes_eq b a) ((bytes_decides b a).1 (sym ((bytes_decides a b).0 t))) h)
    (λ t. t)

-- the two tables that list tables are told apart from the others
module _ (name : List ℕ) (system : (n : List ℕ) → is_schema_table n ≡ false → bytes_eq n name ≡ false) where
  not_told : (names : List (List ℕ)) → list_any (bytes_eq name) (filter (λ n. not (is_schema_table n)) names) ≡ false
  not_told [] = refl
  not_told (n ∷ ns) = by_test (is_schema_table n)
      (λ t. rw t (not_told ns))
      (λ t. rw (t, turned_name name n (system n t)) (not_told ns))

pub first_system : (n : List ℕ) → is_schema_table n ≡ false → bytes_eq n tables_name ≡ false
first_system n h = (neither (bytes_eq n tables_name) (bytes_eq n columns_name) h).0

pub second_system : (n : List ℕ) → is_schema_table n ≡ false → bytes_eq n columns_name ≡ false
second_system n h = (neither (bytes_eq n tables_name) (bytes_eq n columns_name) h).1

names_of_told : (old new : Kept) (names : List (List ℕ)) → map (λ (table : ToldTable). table.name) (map (told_table old new) names) ≡ names
names_of_told old new [] = refl
names_of_told old new (n ∷ ns) = ap (λ (l : List (List ℕ)). n ∷ l) (names_of_told old new ns)

-- the tables of which something may be told
abbrev pub lists : Kept → Kept → List ToldTable
lists old new = record {
  name = tables_name;
  shapes = shapes_of tables_columns;
  records = records_of_tables old.database new.database;
} ∷ record {
  name = columns_name;
  shapes = shapes_of columns_columns;
  records = flat_map (records_of_columns old new) (told_names new);
} ∷ []

module _ (old new : Kept) (apart : has_pair bytes_eq (map (λ table. table.0) new.database.tables) ≡ false) where
  all_apart : has_pair bytes_eq (tables_name ∷ columns_name ∷ told_names new) ≡ false
  all_apart =
      rw (not_told tables_name first_system (map (λ t. t.0) new.database.tables), not_told columns_name second_system (map (λ t. t.0) new.database.tables))
      (apart_passing (λ n. not (is_schema_table n)) (map (λ t. t.0) new.database.tables) apart)

  told_apart : has_pair bytes_eq (map (λ (table : ToldTable). table.name) (told_tables old new)) ≡ false
  told_apart = apart_mapped bytes_eq (λ (table : ToldTable). table.name) is_told (lists old new ++ map (told_table old new) (told_names new))
      (ap (λ (l : List (List ℕ)). has_pair bytes_eq (tables_name ∷ columns_name ∷ l)) (names_of_told old new (told_names new)) ∙ all_apart)

pub made_records_are_read : MadeRecordsAreRead
made_records_are_read p t is apart fits =
    let s = made_by p.new_page p.new (told_tables p.old p.new) t (first_refusal (reasons p)) is in
    subst (λ (u : TransformDef). AllByRecursion (λ table. values_read u table ≡ Some (map action_and_values table.records)) (told_tables p.old p.new)) s.2
    (stored_records_are_read p.new_page p.new (told_tables p.old p.new) s.0 s.1 fits (told_apart p.old p.new apart))
