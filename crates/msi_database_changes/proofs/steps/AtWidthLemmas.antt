-- Changes of a database with references of the width that it has, and those that widen them: these are the same changes of the widened database.
use Rattle.std.proofs.Common.{◌≡◌, ℕ, ◌⊎◌, Bool, true, false, cond, List, length, Option, Some, None, Result, Ok, refl, sym, ap, subst, ◌∙◌, arith, inl, inr}
use Rattle.std.specs.Prelude.{◌&&◌, nat_le, nat_lt, not}
use Rattle.std.specs.Prelude.{IsSomeAnd}
use Rattle.std.proofs.lemmas.Bool.{and_parts, not-true}
use Rattle.std.proofs.lemmas.Bool.Decides.{nat_tests}
use Rattle.msi_base.specs.declared.errors.ErrorKind.{ErrorKind}
use Rattle.msi_pool.specs.FirstFit.{most_places}
use Rattle.msi_table_cells.specs.declared.cell.ValueRef.{ValueRef}
use Rattle.msi_table_values.specs.Columns.{ColumnDef, types_of}
use Rattle.msi_table_cells.specs.Fitting.{FitsTable}
use Rattle.msi_table.proofs.LongRowsLemmas.{each_fits_long, fits_long}
use Rattle.msi_query.specs.Queries.{InsertQuery, UpdateQuery, DeleteQuery}
use Rattle.msi_database_schema.specs.System.{validation_columns}
use Rattle.msi_database_changes.specs.Database.{Database, is_sound}
use Rattle.msi_database_changes.specs.Changes.{Change}
use Rattle.msi_database_changes.specs.Widening.{needs_three_bytes, widened, widening, widens}
use Rattle.msi_database_changes.specs.Insert.{early_insert_refusals, insert_at_width, insert_rows, insert_whole, whole_insert}
use Rattle.msi_database_changes.specs.Update.{update_at_width}
use Rattle.msi_database_changes.specs.Delete.{delete_rows}
use Rattle.msi_database_changes.specs.Create.{create_at_width}
use Rattle.msi_database_changes.specs.Drop.{drop_table}
use Rattle.msi_database_changes.specs.AddColumn.{add_column_at_width}
use Rattle.msi_database_changes.specs.Laws as laws
use Rattle.msi_database_changes.specs.Laws.{IsChange, IsTableChange, RowsFit}
use Rattle.msi_base.specs.Refusals.{first_refusal, unless_refused}
use Rattle.msi_database_changes.proofs.steps.RefusedLemmas.{bind_ok, not_refused}
use Rattle.msi_database_changes.proofs.steps.StoredLemmas.{sound_parts}

-- changes with references of the width that there is
pub data IsChangeAtWidth (d : Database) (c : Change) : Type 0 where
  inserted : (q : InsertQuery) → insert_at_width d q ≡ Ok c → IsChangeAtWidth d c
  updated : (q : UpdateQuery) → update_at_width d q ≡ Ok c → IsChangeAtWidth d c
  deleted : (q : DeleteQuery) → delete_rows d q ≡ Ok c → IsChangeAtWidth d c

pub data IsTableChangeAtWidth (d : Database) (c : Change) : Type 0 where
  created : (name : List ℕ) (columns : List ColumnDef) → create_at_width d name columns ≡ Ok c → IsTableChangeAtWidth d c
  dropped : (name : List ℕ) → drop_table d name ≡ Ok c → IsTableChangeAtWidth d c
  column_added : (name : List ℕ) (column : ColumnDef) → add_column_at_width d name column ≡ Ok c → IsTableChangeAtWidth d c

-- WHICH OF THEM A CHANGE IS

made_by : {P : Type 0} (b : Bool) (x y r : Result Change ErrorKind) → cond b x y ≡ r → (b ≡ true → x ≡ r → P) → (y ≡ r → P) → P
made_by true x y r e wide same = wide refl e
made_by false x y r e wide same = same e

pub widening_made : {P : Type 0} (change : Database → Result Change ErrorKind) (d : Database) (c : Change) → widening change d ≡ Ok c
    → (is_sound d ≡ true → d.pool.long ≡ false → change (widened d) ≡ Ok c → P) → (change d ≡ Ok c → P) → P
widening_made change d c e wide same = made_by (widens change d) (change (widened d)) (change d) (Ok c) e
    (λ t is.
    let p = and_parts (is_sound d) (not d.pool.long) (and_parts (is_sound d && not d.pool.long) (needs_three_bytes (change (widened d))) t).0 in
    wide p.0 (not-true d.pool.long p.1) is) same

-- an accepted insert: nothing refuses it early, and its whole rows are inserted
pub whole_inserted : (d : Database) (q : InsertQuery) (c : Change) → insert_rows d q ≡ Ok c
    → (first_refusal (early_insert_refusals d q) ≡ None) × (insert_whole d (whole_insert d q) ≡ Ok c)
whole_inserted d q c e = bind_ok (unless_refused (early_insert_refusals d q) (whole_insert d q)) (insert_whole d) c e
    (λ w is rest.
    let passed = not_refused (early_insert_refusals d q) (whole_insert d q) w is in
    (passed.0, subst (λ (w : InsertQuery). insert_whole d w ≡ Ok c) (sym passed.1) rest))

-- what holds of changes at either width, of one that may widen
pub change_at : {P : Type 0} (d : Database) (c : Change) → IsChange d c → (is_sound d ≡ true → d.pool.long ≡ false → IsChangeAtWidth (widened d) c → P) → (IsChangeAtWidth d c → P) → P
change_at d c (laws.inserted q e) wide same =
    let w = whole_insert d q in
    widening_made (λ d. insert_at_width d w) d c (whole_inserted d q c e).1 (λ sound short is. wide sound short (inserted w is)) (λ is. same (inserted w is))
change_at d c (laws.updated q e) wide same = widening_made (λ d. update_at_width d q) d c e (λ sound short is. wide sound short (updated q is)) (λ is. same (updated q is))
change_at d c (laws.deleted q e) wide same = same (deleted q e)

pub table_change_at : {P : Type 0} (d : Database) (c : Change) → IsTableChange d c → (is_sound d ≡ true → d.pool.long ≡ false → IsTableChangeAtWidth (widened d) c → P) → (IsTableChangeAtWidth d c → P) → P
table_change_at d c (laws.created name columns e) wide same =
    widening_made (λ d. create_at_width d name columns) d c e (λ sound short is. wide sound short (created name columns is)) (λ is. same (created name columns is))
table_change_at d c (laws.dropped name e) wide same = same (dropped name e)
table_change_at d c (laws.column_added name column e) wide same =
    widening_made (λ d. add_column_at_width d name column) d c e (λ sound short is. wide sound short (column_added name column is)) (λ is. same (column_added name column is))

-- the same, and that two bytes don't suffice for what a change leaves that widens
pub widening_many : {P : Type 0} (change : Database → Result Change ErrorKind) (d : Database) (c : Change) → widening change d ≡ Ok c
    → (is_sound d ≡ true → d.pool.long ≡ false → nat_lt (most_places false) (length c.database.pool.places) ≡ true → change (widened d) ≡ Ok c → P) → (change d ≡ Ok c → P) → P
widening_many change d c e wide same = made_by (widens change d) (change (widened d)) (change d) (Ok c) e
    (λ t is.
    let q = and_parts (is_sound d && not d.pool.long) (needs_three_bytes (change (widened d))) t in
    let p = and_parts (is_sound d) (not d.pool.long) q.0 in
    wide p.0 (not-true d.pool.long p.1) (ap needs_three_bytes (sym is) ∙ q.1) is) same

pub any_change_many : {P : Type 0} (d : Database) (c : Change) → IsChange d c ⊎ IsTableChange d c
    → (is_sound d ≡ true → d.pool.long ≡ false → nat_lt (most_places false) (length c.database.pool.places) ≡ true → IsChangeAtWidth (widened d) c ⊎ IsTableChangeAtWidth (widened d) c → P)
    → (IsChangeAtWidth d c ⊎ IsTableChangeAtWidth d c → P) → P
any_change_many d c (inl (laws.inserted q e)) wide same =
    let w = whole_insert d q in
    widening_many (λ d. insert_at_width d w) d c (whole_inserted d q c e).1 (λ sound short many is. wide sound short many (inl (inserted w is))) (λ is. same (inl (inserted w is)))
any_change_many d c (inl (laws.updated q e)) wide same = widening_many (λ d. update_at_width d q) d c e (λ sound short many is. wide sound short many (inl (updated q is))) (λ is. same (inl (updated q is)))
any_change_many d c (inl (laws.deleted q e)) wide same = same (inl (deleted q e))
any_change_many d c (inr (laws.created name columns e)) wide same =
    widening_many (λ d. create_at_width d name columns) d c e (λ sound short many is. wide sound short many (inr (created name columns is))) (λ is. same (inr (created name columns is)))
any_change_many d c (inr (laws.dropped name e)) wide same = same (inr (dropped name e))
any_change_many d c (inr (laws.column_added name column e)) wide same =
    widening_many (λ d. add_column_at_width d name column) d c e (λ sound short many is. wide sound short many (inr (column_added name column is))) (λ is. same (inr (column_added name column is)))

-- A WIDENED DATABASE

width_suffices : (n : ℕ) (long : Bool) → nat_le n (most_places long) ≡ true → nat_le n (most_places true) ≡ true
width_suffices n true h = h
width_suffices n false h = grind (arith, nat_tests)

pub sound_widened : (d : Database) → is_sound d ≡ true → is_sound (widened d) ≡ true
sound_widened d h =
    let s = sound_parts d h in
    rw (s.suffice, s.in_pool, width_suffices (length d.pool.places) d.pool.long s.width, s.readable, s.standard) refl

rows_long : (long : Bool) (columns : List ColumnDef) (o : Option (List (List ValueRef))) → IsSomeAnd o (FitsTable long (types_of columns)) → IsSomeAnd o (FitsTable true (types_of columns))
rows_long long columns None h = absurd h
rows_long long columns (Some rows) h = fits_long long (types_of columns) rows h

pub fits_widened : (d : Database) → RowsFit d → RowsFit (widened d)
fits_widened d h = record {
  tables = λ name t found. rows_long d.pool.long t.columns t.rows (h.tables name t found);
  unlisted = each_fits_long d.pool.long (types_of validation_columns) d.unlisted_validation h.unlisted;
}
