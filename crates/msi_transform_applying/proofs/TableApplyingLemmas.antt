-- The records of a table applied to its rows: its steps, and what is refused on the way.
use Rattle.std.proofs.Common.{◌≡◌, ℕ, List, [], ◌∷◌, ◌++◌, map, not, refl, sym, ap, ◌∙◌, inl, inr}
use Rattle.std.specs.Prelude.{Option, None, Some, Result, Ok, Err}
use Rattle.msi_base.specs.declared.errors.ErrorKind.{ErrorKind}
use Rattle.msi_base.specs.declared.errors.ErrorKind.TheVariants.{InvalidData, NotFound}
use Rattle.msi_base.specs.Refusals.{IsRefusal, Refusals, first_refusal, unless, unless_refused}
use Rattle.msi_database_schema.specs.Keys.{is_table_name}
use Rattle.msi_table_values.specs.Columns.{ColumnDef}
use Rattle.msi_transform.specs.Transforms.{shapes_of}
use Rattle.msi_transform_applying.specs.Applying.{TablesInHand, is_broken, rows_begun, streams_begun, table_applied, with_anew}
use Rattle.msi_transform_rows.specs.TableRecords.{all_applied}
use Rattle.msi_transform_rows.specs.RecordRefusals.{IsRefused, Refusal, at_record, ◌>>=◌}
use Rattle.msi_transform_rows.specs.RowChanges.{RowsInHand, by_key, keyed, record_applied}
use Rattle.msi_transform_schema.specs.SchemaChanges.{SchemaChange, TableInHand, TablesTold, columns_in_hand, is_gone, rows_of_package, table_in_hand}

-- that nothing is refused doesn't depend on the answer
not_refused : {A B : Type 0} (o : Option ErrorKind) (a : A) (b : B) → unless o a ≡ Ok a → unless o b ≡ Ok b
not_refused None a b is = refl
not_refused (Some k) a b is = cc

refused_too : {A B : Type 0} (o : Option ErrorKind) (a : A) (b : B) (k : ErrorKind) → unless o a ≡ Err k → unless o b ≡ Err k
refused_too None a b k is = cc
refused_too (Some j) a b k is = let same : j ≡ k = cc in ap (λ (q : ErrorKind). Err q) same

module _ (change : SchemaChange) (told : TablesTold) (number : ℕ) (s : TablesInHand) (name bytes : List ℕ) (table : TableInHand) (columns : List ColumnDef)
    (table_is : table ≡ table_in_hand change.database told name) (columns_are : columns ≡ columns_in_hand change.database name table) where
  abbrev pub refusals_of : TableInHand → List ColumnDef → Refusals
  refusals_of t cs = (is_gone t.standing, NotFound) ∷ (not (is_table_name name), InvalidData)
      ∷ (is_broken change.database cs (rows_of_package change.database name t.standing), InvalidData) ∷ []

  abbrev pub begun_of : TableInHand → List ColumnDef → RowsInHand
  begun_of t cs = record {
    rows = by_key (map (keyed cs change.database.pool.places) (rows_begun change.database name t));
    pool = s.pool;
    streams = s.streams ++ streams_begun change.database name t;
  }

  abbrev pub records_of : List ColumnDef → RowsInHand → Result RowsInHand Refusal
  records_of cs = all_applied number change.by (shapes_of cs) bytes
      (record_applied (record { name = name; columns = cs; by = change.by; passing = change.passing }))

  abbrev pub steps_of : TableInHand → List ColumnDef → Result TablesInHand Refusal
  steps_of t cs = at_record number 0 (unless_refused (refusals_of t cs) (begun_of t cs)) >>= records_of cs >>= λ r. Ok (with_anew name cs s r)

  stepwise : table_applied change told number s (name, bytes) ≡ steps_of table columns
  stepwise = λ i. steps_of (sym table_is i) (sym (columns_are ∙ ap (columns_in_hand change.database name) table_is) i)

  -- the table is refused
  pub table_refused : (kind : ErrorKind) (refusal : Refusal) → refusal ≡ record { kind = kind; place = Some (record { table = number; record_number = 0 }) }
      → IsRefusal (unless_refused (refusals_of table columns) (tt {0})) kind → IsRefused (table_applied change told number s (name, bytes)) refusal
  table_refused kind refusal is (inl memory) = inl (ap (λ (r : Refusal). r.kind) is ∙ memory)
  table_refused kind refusal is (inr refused) = inr (stepwise
      ∙ ap (λ (r : Result RowsInHand ErrorKind). at_record number 0 r >>= records_of columns >>= λ r. Ok (with_anew name columns s r))
      (refused_too (first_refusal (refusals_of table columns)) tt (begun_of table columns) kind refused)
      ∙ ap (λ (r : Refusal). Err r) (sym is))

  module _ (passes : unless_refused (refusals_of table columns) (tt {0}) ≡ Ok tt) where
    begins : table_applied change told number s (name, bytes) ≡ (records_of columns (begun_of table columns) >>= λ r. Ok (with_anew name columns s r))
    begins = stepwise
        ∙ ap (λ (r : Result RowsInHand ErrorKind). at_record number 0 r >>= records_of columns >>= λ r. Ok (with_anew name columns s r))
        (not_refused (first_refusal (refusals_of table columns)) tt (begun_of table columns) passes)

    -- a record is refused
    pub record_refused : (begun : RowsInHand) (refusal : Refusal) → begun ≡ begun_of table columns → IsRefused (records_of columns begun) refusal
        → IsRefused (table_applied change told number s (name, bytes)) refusal
    record_refused begun refusal begun_is (inl memory) = inl memory
    record_refused begun refusal begun_is (inr is) = inr (begins
        ∙ ap (λ (r : Result RowsInHand Refusal). r >>= λ r. Ok (with_anew name columns s r)) (ap (records_of columns) (sym begun_is) ∙ is))

    -- the table is changed
    pub table_changed : (begun rows : RowsInHand) (held : List ColumnDef) (after : TablesInHand) → begun ≡ begun_of table columns → records_of columns begun ≡ Ok rows
        → columns ≡ held → after ≡ with_anew name held s rows → table_applied change told number s (name, bytes) ≡ Ok after
    table_changed begun rows held after begun_is is same after_is = begins
        ∙ ap (λ (r : Result RowsInHand Refusal). r >>= λ r. Ok (with_anew name columns s r)) (ap (records_of columns) (sym begun_is) ∙ is)
        ∙ λ i. Ok ((ap (λ (cs : List ColumnDef). with_anew name cs s rows) same ∙ sym after_is) i)
