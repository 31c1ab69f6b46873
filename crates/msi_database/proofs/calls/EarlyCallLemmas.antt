-- What is refused before memory is taken, from what a call knows.
use Rattle.std.proofs.Common.{◌≡◌, ℕ, ◌+◌, Bool, true, false, not, List, ◌∷◌, [], ◌++◌, Option, Some, None, option_map, Result, Ok, Err, refl, sym, ap, ap₂, subst, ◌∙◌, inr}
use Rattle.std.specs.Prelude.{if◌then◌else◌}
use Rattle.msi_base.specs.declared.errors.ErrorKind.{ErrorKind}
use Rattle.msi_base.specs.declared.errors.ErrorKind.TheVariants.{AlreadyExists, InvalidData, InvalidInput, NotFound}
use Rattle.msi_table_values.specs.Columns.{ColumnDef}
use Rattle.msi_table.specs.Tables.{TableDef}
use Rattle.msi_query.specs.Queries.{DeleteQuery, InsertQuery, UpdateQuery}
use Rattle.msi_base.specs.Refusals.{Refusals, IsRefusal, first_refusal, or_refused, unless, unless_refused, ◌>>=◌}
use Rattle.msi_table_cells.specs.TableCells.{TableCells}
use Rattle.msi_database_schema.specs.System.{is_system_table}
use Rattle.msi_database_changes.specs.Database.{Database, is_sound, table_at}
use Rattle.msi_database_changes.specs.Widening.{widened}
use Rattle.msi_database_changes.specs.Changes.{Change, no_change, absent_refusals, barred_refusals, missing_or}
use Rattle.msi_database_changes.specs.Delete.{condition_refusals, delete_rows, early_delete_refusals, rows_deleted}
use Rattle.msi_database_changes.specs.Insert.{early_insert_refusals, insert_rows, insert_whole, whole_insert}
use Rattle.msi_database_changes.specs.Update.{early_update_refusals, is_update_barred, keys_collide, rows_updated, set_refusals, update_refusals, update_at_width, update_rows}
use Rattle.msi_database_changes.proofs.steps.AtWidthLemmas.{sound_widened}
use Rattle.msi_database_changes.proofs.steps.EarlyLemmas.{found_first}
use Rattle.msi_database_changes.proofs.steps.RefusedLemmas.{first_refused, front_holds, not_refused, refused_first, tail_holds}
use Rattle.msi_database.specs.Listed.{IsKnown, table_def_at}
use Rattle.msi_database.proofs.widths.WideRefusalLemmas.{refused_either}

missing_whatever : (o : Option TableCells) (f : TableCells → Refusals) (k : ErrorKind) → first_refusal (missing_or o (λ t. [])) ≡ Some k → first_refusal (missing_or o f) ≡ Some k
missing_whatever None f k e = e
missing_whatever (Some t) f k e = cc

-- what is refused whatever the table has
absent_first : (rs : Refusals) (o : Option TableCells) (f : TableCells → Refusals) (k : ErrorKind) → first_refusal (rs ++ missing_or o (λ t. [])) ≡ Some k → first_refusal (rs ++ missing_or o f) ≡ Some k
absent_first rs o f k e = tail_holds rs (missing_or o (λ t. [])) (missing_or o f) k (missing_whatever o f k) e

-- WHAT IS REFUSED EARLY IS REFUSED

some_is : {A : Type 0} (x y : A) → ◌≡◌ {A = Option A} (Some x) (Some y) → x ≡ y
some_is x y e = cc

refused_at : {A B : Type 0} (b : Bool) (l k : ErrorKind) (o p : Option ErrorKind) (c : A) (g : A → Result B ErrorKind) → (o ≡ Some k → (unless p c >>= g) ≡ Err k)
    → (if b then Some l else o) ≡ Some k → (unless (if b then Some l else p) c >>= g) ≡ Err k
refused_at true l k o p c g h e = ap Err (some_is l k e)
refused_at false l k o p c g h e = h e

-- a step that is refused, or what goes on from it
early_refused : {A B : Type 0} (rs ss : Refusals) (c : A) (g : A → Result B ErrorKind) (k : ErrorKind) → (first_refusal ss ≡ Some k → g c ≡ Err k) → first_refusal (rs ++ ss) ≡ Some k
    → (unless_refused rs c >>= g) ≡ Err k
early_refused [] ss c g k h e = h e
early_refused (r ∷ rs) ss c g k h e = refused_at r.0 r.1 k (first_refusal (rs ++ ss)) (first_refusal rs) c g (early_refused rs ss c g k h) e

-- a table that isn't there, or what goes on from it
refused_there : {B : Type 0} (o : Option TableCells) (f : TableCells → Refusals) (g : TableCells → Result B ErrorKind) (k : ErrorKind) → ((t : TableCells) → first_refusal (f t) ≡ Some k → g t ≡ Err k)
    → first_refusal (missing_or o f) ≡ Some k → (or_refused NotFound o >>= g) ≡ Err k
refused_there None f g k h e = ap Err (some_is NotFound k e)
refused_there (Some t) f g k h e = h t e

-- WHAT A CALL KNOWS

there : {P : Type 0} (name : List ℕ) (long : Bool) (t : TableDef) (o : Option TableCells) → ◌≡◌ {A = Option TableDef} (option_map (λ (c : TableCells). record { name = name; columns = c.columns; long = long }) o) (Some t)
    → ((cells : TableCells) → o ≡ Some cells → cells.columns ≡ t.columns → P) → P
there name long t None e go = absurd cc
there name long t (Some cells) e go =
    let same : record { name = name; columns = cells.columns; long = long } ≡ t = cc in
    go cells refl (ap (λ (t : TableDef). t.columns) same)

-- a table that is known is there, so that its columns decide
known_first : (d : Database) (rs : Refusals) (judge : List ColumnDef → Refusals) (name : List ℕ) (t : TableDef) (k : Option ErrorKind) → IsKnown d name t → first_refusal rs ≡ None
    → first_refusal (judge t.columns) ≡ k → first_refusal (rs ++ missing_or (table_at name d) (λ t. judge t.columns)) ≡ k
known_first d rs judge name t k known passed judged =
    there name d.pool.long t (table_at name d) (subst (λ (n : List ℕ). table_def_at n d ≡ Some t) known.named known.listed)
    (λ cells at same. found_first rs (table_at name d) (λ t. judge t.columns) cells k passed at (ap (λ (cs : List ColumnDef). first_refusal (judge cs)) same ∙ judged))

-- what refuses an answer, and that none does
pub first_where_err : (rs : Refusals) (x : Unit {0}) (k : ErrorKind) → ◌≡◌ {A = Result (Unit {0}) ErrorKind} (Err k) (unless_refused rs x) → first_refusal rs ≡ Some k
first_where_err rs x k e = refused_first rs x k (sym e)

pub none_where_ok : (rs : Refusals) (x y : Unit {0}) → ◌≡◌ {A = Result (Unit {0}) ErrorKind} (Ok y) (unless_refused rs x) → first_refusal rs ≡ None
none_where_ok rs x y e = (not_refused rs x y (sym e)).0

-- A CHANGE OF ROWS, whose table's columns are judged

module _ (d : Database) (judge : List ColumnDef → Refusals) (name table : List ℕ) (named : name ≡ table) (b barred : Bool) (b_is : b ≡ barred) where
  abbrev front : Bool → List ℕ → Refusals
  front b name = barred_refusals d b ++ missing_or (table_at name d) (λ t. judge t.columns)

  front_is : first_refusal (front barred table) ≡ first_refusal (front b name)
  front_is = sym (ap₂ (λ (b : Bool) (name : List ℕ). first_refusal (front b name)) b_is named)

  pub absent_early : (k : ErrorKind) → first_refusal (absent_refusals d b name) ≡ Some k → first_refusal (barred_refusals d barred ++ missing_or (table_at table d) (λ t. judge t.columns)) ≡ Some k
  absent_early k e = front_is ∙ absent_first (barred_refusals d b) (table_at name d) (λ t. judge t.columns) k e

  pub judged_early : (t : TableDef) → IsKnown d name t → first_refusal (barred_refusals d b) ≡ None → (columns : List ColumnDef) → columns ≡ t.columns → (k : Option ErrorKind) → first_refusal (judge columns) ≡ k
      → first_refusal (barred_refusals d barred ++ missing_or (table_at table d) (λ t. judge t.columns)) ≡ k
  judged_early t known passed columns same k e = front_is ∙ known_first d (barred_refusals d b) judge name t k known passed (ap (λ (cs : List ColumnDef). first_refusal (judge cs)) (sym same) ∙ e)

-- WHAT REFUSES EARLY REFUSES THE CALL

pub delete_refused_early : (d : Database) (q : DeleteQuery) (k : ErrorKind) → first_refusal (early_delete_refusals d q) ≡ Some k → IsRefusal (delete_rows d q) k
delete_refused_early d q k e =
    let judged = λ (c : Change) (t : TableCells). unless_refused (condition_refusals t q) (rows_deleted t q c) in
    inr (early_refused (barred_refusals d (is_system_table q.table)) (missing_or (table_at q.table d) (λ t. condition_refusals t q)) (no_change d)
    (λ c. or_refused NotFound (table_at q.table d) >>= judged c) k
    (refused_there (table_at q.table d) (λ t. condition_refusals t q) (judged (no_change d)) k (λ t h. first_refused (condition_refusals t q) (rows_deleted t q (no_change d)) k h)) e)

update_refused_early_at : (d : Database) (q : UpdateQuery) (k : ErrorKind) → first_refusal (early_update_refusals d q) ≡ Some k → IsRefusal (update_at_width d q) k
update_refused_early_at d q k e =
    let last = λ (c : Change) (t : TableCells). or_refused InvalidInput (rows_updated t q c) in
    let judged = λ (c : Change) (t : TableCells). unless_refused (update_refusals d.pool.places t q) t >>= last c in
    inr (early_refused (barred_refusals d (is_update_barred q)) (missing_or (table_at q.table d) (λ t. set_refusals t.columns q)) (no_change d)
    (λ c. or_refused NotFound (table_at q.table d) >>= judged c) k
    (refused_there (table_at q.table d) (λ t. set_refusals t.columns q) (judged (no_change d)) k
    (λ t h. ap (λ (o : Option ErrorKind). unless o t >>= last (no_change d)) (front_holds (set_refusals t.columns q) ((keys_collide d.pool.places t q, AlreadyExists) ∷ []) k h))) e)

-- also where references may widen

still_refused : (d : Database) (rest : Refusals) (k : ErrorKind) → is_sound d ≡ true → first_refusal ((not (is_sound d), InvalidData) ∷ rest) ≡ Some k → first_refusal ((not (is_sound (widened d)), InvalidData) ∷ rest) ≡ Some k
still_refused d rest k sound e = ap (λ b. first_refusal ((not b, InvalidData) ∷ rest)) (sound_widened d sound ∙ sym sound) ∙ e

pub update_refused_early : (d : Database) (q : UpdateQuery) (k : ErrorKind) → first_refusal (early_update_refusals d q) ≡ Some k → IsRefusal (update_rows d q) k
update_refused_early d q k e = refused_either (λ d. update_at_width d q) d k (update_refused_early_at d q k e)
    (λ sound. update_refused_early_at (widened d) q k (still_refused d ((is_update_barred q, InvalidInput) ∷ missing_or (table_at q.table d) (λ t. set_refusals t.columns q)) k sound e))

pub insert_refused_early : (d : Database) (q : InsertQuery) (k : ErrorKind) → first_refusal (early_insert_refusals d q) ≡ Some k → IsRefusal (insert_rows d q) k
insert_refused_early d q k e = inr (ap (λ (o : Option ErrorKind). unless o (whole_insert d q) >>= insert_whole d) e)
