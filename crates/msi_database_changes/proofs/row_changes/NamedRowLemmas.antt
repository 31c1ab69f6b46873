-- Rows of named columns: when they are refused, and the rows of all columns that they stand for.
use Rattle.std.proofs.Common.{◌≡◌, ℕ, ◌==◌, Bool, true, false, ◌&&◌, List, [], ◌∷◌, ◌++◌, length, map, zip, Option, Ok, Err, Result, refl, ap, sym, ◌∙◌, eq-eqb}
use Rattle.std.specs.Prelude.{IsErrAnd}
use Rattle.std.specs.List.{list_all}
use Rattle.std.proofs.lemmas.List.{length-map}
use Rattle.msi_base.specs.declared.errors.ErrorKind.{ErrorKind}
use Rattle.msi_base.specs.Refusals.{Refusals, unless, unless_refused}
use Rattle.msi_table_values.specs.declared.value.Value.{Value}
use Rattle.msi_table_values.specs.Columns.{ColumnDef}
use Rattle.msi_table_values.specs.ValidValues.{is_valid_value}
use Rattle.msi_database_changes.specs.Insert.{count_refusals, misfit_refusals, name_refusals, new_row_refusals, row_fits, value_beside, whole_row, whole_rows}
use Rattle.msi_database_changes.proofs.steps.RefusedLemmas.{behind_passed, first_refused, front_holds, not_refused, refused_first}

each_valid : (f : ColumnDef → Value) (columns : List ColumnDef)
    → list_all (λ c. is_valid_value c (f c)) columns ≡ list_all (λ e. is_valid_value e.0 e.1) (zip columns (map f columns))
each_valid f [] = refl
each_valid f (c ∷ cs) = ap (λ (b : Bool). is_valid_value c (f c) && b) (each_valid f cs)

-- a row of all columns has the right length
fits_where_valid : (f : ColumnDef → Value) (columns : List ColumnDef) → list_all (λ c. is_valid_value c (f c)) columns ≡ row_fits columns (map f columns)
fits_where_valid f columns = each_valid f columns
    ∙ ap (λ (b : Bool). b && list_all (λ e. is_valid_value e.0 e.1) (zip columns (map f columns))) (sym (eq-eqb (length (map f columns)) (length columns) (length-map columns f)))

pub named_row_fits : (columns : List ColumnDef) (names : List (List ℕ)) (row : List Value)
    → list_all (λ c. is_valid_value c (value_beside names row c.name)) columns ≡ row_fits columns (whole_row columns names row)
named_row_fits columns names row = fits_where_valid (λ c. value_beside names row c.name) columns

-- WHETHER COLUMNS ARE NAMED

pub refused_unnamed : (columns : List ColumnDef) (names : List (List ℕ)) (rows : List (List Value)) → (length names == 0) ≡ true
    → new_row_refusals columns names rows ≡ misfit_refusals columns rows
refused_unnamed columns names rows e = rw e refl

pub refused_named : (columns : List ColumnDef) (names : List (List ℕ)) (rows : List (List Value)) → (length names == 0) ≡ false
    → new_row_refusals columns names rows ≡ name_refusals columns names ++ (count_refusals names rows ++ misfit_refusals columns (map (whole_row columns names) rows))
refused_named columns names rows e = rw e refl

pub whole_unnamed : (columns : List ColumnDef) (names : List (List ℕ)) (rows : List (List Value)) → (length names == 0) ≡ true → rows ≡ whole_rows columns names rows
whole_unnamed columns names rows e = rw e refl

pub whole_named : (columns : List ColumnDef) (names : List (List ℕ)) (rows : List (List Value)) → (length names == 0) ≡ false
    → map (whole_row columns names) rows ≡ whole_rows columns names rows
whole_named columns names rows e = rw e refl

-- REFUSALS IN TURN

pub refused_in_turn : (rs ss : Refusals) (r s : Result (Unit {0}) ErrorKind) (k : ErrorKind) → s ≡ unless_refused rs tt → s ≡ Err k → IsErrAnd r (λ e. e ≡ k)
    → r ≡ unless_refused (rs ++ ss) tt
refused_in_turn rs ss (Ok u) s k is was e = absurd e
refused_in_turn rs ss (Err l) s k is was e = ap Err e ∙ sym (first_refused (rs ++ ss) tt k (front_holds rs ss k (refused_first rs tt k (sym is ∙ was))))

pub passed_in_turn : (rs ss : Refusals) (r s : Result (Unit {0}) ErrorKind) (u : Unit {0}) → s ≡ unless_refused rs tt → s ≡ Ok u → r ≡ unless_refused ss tt
    → r ≡ unless_refused (rs ++ ss) tt
passed_in_turn rs ss r s u is was rest = rest ∙ ap (λ (o : Option ErrorKind). unless o tt) (sym (behind_passed rs ss (not_refused rs tt u (sym is ∙ was)).0))
