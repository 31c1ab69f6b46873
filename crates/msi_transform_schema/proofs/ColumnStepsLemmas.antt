-- A column that comes, step by step.
use Rattle.std.proofs.Common.{◌≡◌, ℕ, ℤ, Bool, true, false, List, [], ◌∷◌, ◌++◌, length, Option, Some, None, Result, Ok, Err, refl, ap, subst, sym, ◌∙◌, inl, inr}
use Rattle.std.specs.Prelude.{IsErrAnd, IfErr}
use Rattle.msi_base.specs.declared.errors.ErrorKind.{ErrorKind}
use Rattle.msi_base.specs.declared.errors.ErrorKind.TheVariants.{InvalidData, InvalidInput, NotFound}
use Rattle.msi_base.specs.Refusals.{IsRefusal, or_refused, unless_refused, ◌>>=◌}
use Rattle.msi_base.proofs.RefusalLemmas.{err_passed, goes_on-Err, refusals-Err}
use Rattle.msi_table_cells.specs.declared.cell.ValueRef.{ValueRef}
use Rattle.msi_table_values.specs.declared.value.Value.{Value}
use Rattle.msi_table_values.specs.Columns.{ColumnDef}
use Rattle.msi_database_schema.specs.Schema.{value_at}
use Rattle.msi_database_changes.specs.Texts.{PoolInUse, cell_put, in_turn}
use Rattle.msi_transform_schema.specs.SchemaChanges.{SchemaChange, SchemaInHand, column_added, column_put, column_told, columns_in_hand, counted_on, describing_row, is_gone, new_column_refusals, number_told, numbered_column_added, table_in_hand, with_column}
use Rattle.msi_transform_schema.specs.TablesInHand.{TableInHand, table_with}

-- what goes on alike comes to the same
pub goes_on_alike : {A B : Type 0} (r : Result A ErrorKind) (f g : A → Result B ErrorKind) → ((x : A) → f x ≡ g x) → (r >>= f) ≡ (r >>= g)
goes_on_alike (Ok x) f g alike = alike x
goes_on_alike (Err k) f g alike = refl

-- a column that is refused behind the others
pub put_refused : {A B : Type 0} {given : ℤ} (x : B) (name : List ℕ) (t : TableInHand) (columns all : List ColumnDef) (column : ColumnDef) (number : ℤ) (row : List Value) (s : SchemaInHand) (r : Result A ErrorKind) (k : ErrorKind)
    → all ≡ columns → given ≡ number → Err k ≡ unless_refused (new_column_refusals t.standing all given column) x → IsErrAnd r (λ e. e ≡ k) → IfErr r (IsRefusal (column_put name t columns column number row s))
put_refused {B = B} x name t columns all column number row s r k same whole refused is =
    let e : ◌≡◌ {A = Result B ErrorKind} (Err k) (unless_refused (new_column_refusals t.standing columns number column) x) =
    subst (λ (cs : List ColumnDef). ◌≡◌ {A = Result B ErrorKind} (Err k) (unless_refused (new_column_refusals t.standing cs number column) x)) same
    (subst (λ (n : ℤ). ◌≡◌ {A = Result B ErrorKind} (Err k) (unless_refused (new_column_refusals t.standing all n column) x)) whole refused) in
    err_passed r k (column_put name t columns column number row s) is
    (goes_on-Err (unless_refused (new_column_refusals t.standing columns number column) s)
    (λ s. or_refused InvalidInput (in_turn (cell_put true) s.pool row) >>= λ r. Ok (with_column name t column number s r)) k
    (inr (refusals-Err (new_column_refusals t.standing columns number column) x s k e)))

module _ (change : SchemaChange) (row : List Value) (s : SchemaInHand) (name : List ℕ) where
  abbrev added_to : TableInHand → Result SchemaInHand ErrorKind
  added_to t = let number = number_told t.standing (length (columns_in_hand change.database name t)) (value_at 1 row) in
      unless_refused ((is_gone t.standing, NotFound) ∷ []) s >>=
      λ s. or_refused InvalidData (column_told (value_at 2 row) (value_at 3 row)) >>=
      λ column. numbered_column_added change name (record { standing = counted_on (value_at 1 row) t.standing; added = t.added })
      column number (describing_row name number (value_at 2 row) (value_at 3 row)) s

  -- the facts of a column that is told, of its table as it was in hand
  pub record AreTold (t told : TableInHand) (table : List ℕ) (column : ColumnDef) (number : ℤ) (values : List Value) : Type 0 where
    pub there : is_gone t.standing ≡ false
    pub column_is : column_told (value_at 2 row) (value_at 3 row) ≡ Some column
    pub number_is : number ≡ number_told t.standing (length (columns_in_hand change.database name t)) (value_at 1 row)
    pub values_are : values ≡ describing_row name number (value_at 2 row) (value_at 3 row)
    pub table_is : table ≡ name
    pub told_is : told ≡ table_with (counted_on (value_at 1 row) t.standing) t.added

  steps_at : (t told : TableInHand) (table : List ℕ) (column : ColumnDef) (number : ℤ) (values : List Value) → AreTold t told table column number values
      → added_to t ≡ numbered_column_added change table told column number values s
  steps_at t told table column number values f =
      let known : added_to t ≡ numbered_column_added change name (table_with (counted_on (value_at 1 row) t.standing) t.added) column
      (number_told t.standing (length (columns_in_hand change.database name t)) (value_at 1 row))
      (describing_row name (number_told t.standing (length (columns_in_hand change.database name t)) (value_at 1 row)) (value_at 2 row) (value_at 3 row)) s
      = rw (f.there, f.column_is) refl in
      known ∙ sym (rw (f.values_are, f.number_is, f.table_is, f.told_is) refl)

  -- what a column that is told does, with its number
  pub numbered : (t told : TableInHand) (table : List ℕ) (column : ColumnDef) (number : ℤ) (values : List Value) → t ≡ table_in_hand change.database s.tables name → AreTold t told table column number values
      → column_added change row s name ≡ numbered_column_added change table told column number values s
  numbered t told table column number values is f = ap added_to (sym is) ∙ steps_at t told table column number values f
