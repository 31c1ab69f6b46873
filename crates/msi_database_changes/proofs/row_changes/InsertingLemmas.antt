-- Rows that are refused or added: from the steps to what the whole is.
use Rattle.std.proofs.Common.{◌≡◌, ℕ, ◌<◌, ◌≤◌, Bool, true, false, List, [], ◌∷◌, ◌++◌, Some, None, Result, Ok, Err, refl, sym, ◌∙◌, arith, inr}
use Rattle.std.specs.Prelude.{nat_lt}
use Rattle.std.proofs.lemmas.Bool.Decides.{nat_tests}
use Rattle.msi_base.specs.declared.errors.ErrorKind.{ErrorKind}
use Rattle.msi_base.specs.declared.errors.ErrorKind.TheVariants.{InvalidInput}
use Rattle.msi_pool.specs.Pool.{Place}
use Rattle.msi_base.specs.Refusals.{Refusals, IsRefusal, first_refusal, unless_refused}
use Rattle.msi_table_values.specs.declared.value.Value.{Value}
use Rattle.msi_table_cells.specs.declared.cell.ValueRef.{ValueRef}
use Rattle.msi_table_values.specs.Columns.{ColumnDef}
use Rattle.msi_database_changes.specs.Texts.{PoolInUse, rows_put}
use Rattle.msi_database_changes.specs.Insert.{cells_added}
use Rattle.msi_table_cells.specs.KeyOrder.{in_key_order}
use Rattle.msi_database_changes.proofs.steps.RefusedLemmas.{behind_passed, front_holds, first_refused, not_refused, refused_first}

-- a table may have so many rows
abbrev pub length_refusals : ℕ → Refusals
length_refusals n = (nat_lt 65536 n, InvalidInput) ∷ []

pub too_long : (n : ℕ) → 65536 < n → first_refusal (length_refusals n) ≡ Some InvalidInput
too_long n h = let t : nat_lt 65536 n ≡ true = grind (arith, nat_tests) in rw t refl

pub short_enough : (n : ℕ) → n ≤ 65536 → first_refusal (length_refusals n) ≡ None
short_enough n h = let t : nat_lt 65536 n ≡ false = grind (arith, nat_tests) in rw t refl

-- the first of three lists refuses
pub refused_in_front : {A : Type 0} (rs ss ts : Refusals) (x : A) (k : ErrorKind) (r : Result A ErrorKind) → r ≡ unless_refused rs x → r ≡ Err k
    → IsRefusal (unless_refused ((rs ++ ss) ++ ts) x) k
refused_in_front rs ss ts x k r is was =
    inr (first_refused ((rs ++ ss) ++ ts) x k (front_holds (rs ++ ss) ts k (front_holds rs ss k (refused_first rs x k (sym is ∙ was)))))

pub passed : {A : Type 0} (rs : Refusals) (x y : A) (r : Result A ErrorKind) → r ≡ unless_refused rs x → r ≡ Ok y → first_refusal rs ≡ None
passed rs x y r is was = (not_refused rs x y (sym is ∙ was)).0

-- the last of them refuses, or none does
pub refused_behind : {A : Type 0} (rs ss ts : Refusals) (x : A) (k : ErrorKind) → first_refusal rs ≡ None → first_refusal ss ≡ None → first_refusal ts ≡ Some k
    → IsRefusal (unless_refused ((rs ++ ss) ++ ts) x) k
refused_behind rs ss ts x k one two three = inr (first_refused ((rs ++ ss) ++ ts) x k (behind_passed (rs ++ ss) ts (behind_passed rs ss one ∙ two) ∙ three))

pub none_refuses : (rs ss ts : Refusals) → first_refusal rs ≡ None → first_refusal ss ≡ None → first_refusal ts ≡ None → first_refusal ((rs ++ ss) ++ ts) ≡ None
none_refuses rs ss ts one two three = behind_passed (rs ++ ss) ts (behind_passed rs ss one ∙ two) ∙ three

-- the rows of a table with new ones
pub added_is : (long : Bool) (columns : List ColumnDef) (pool : PoolInUse) (rows : List (List ValueRef)) (new : List (List Value)) (cells : List (List ValueRef)) (after : PoolInUse)
    (places : List Place) (joined sorted : List (List ValueRef)) → rows_put long pool new ≡ Some (cells, after) → places ≡ after.places → joined ≡ rows ++ cells
    → sorted ≡ in_key_order columns places joined → cells_added long columns pool rows new ≡ Some (sorted, after)
added_is long columns pool rows new cells after places joined sorted put_is places_is joined_is sorted_is = rw (put_is, sorted_is, joined_is, places_is) refl
