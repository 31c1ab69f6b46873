-- A row fits its columns where each of its cells does.
use Rattle.std.proofs.Common.{◌≡◌, ℕ, zero, suc, ◌<◌, Bool, List, [], ◌∷◌, length, refl, sym, ap, ◌∙◌, arith, subst, Some, Option}
use Rattle.std.specs.List.{slice_get}
use Rattle.std.specs.Prelude.{slice_index_or, unwrap_or}
use Rattle.std.proofs.lemmas.Option.{slice_get-get_or, same_Some}
use Rattle.msi_base.proofs.OptionLemmas.{none_is}
use Rattle.msi_table_values.specs.declared.column.ColumnType.{ColumnType}
use Rattle.msi_table_values.specs.declared.column.ColumnType.TheVariants as coltype
use Rattle.msi_table_cells.specs.declared.cell.ValueRef.{ValueRef}
use Rattle.msi_table_cells.specs.declared.cell.ValueRef.TheVariants as cell
use Rattle.msi_table_cells.specs.Fitting.{cell_of, FitsColumn, FitsRow}
use Rattle.msi_table_values.specs.Columns.{ColumnDef, types_of}
use Rattle.msi_table_values.proofs.ColumnTypesLemmas.{below_types, type_at}

-- what fits: its length and its cells
pub fits_length : (long : Bool) (types : List ColumnType) (row : List ValueRef) → FitsRow long types row → length row ≡ length types
fits_length long [] [] h = refl
fits_length long [] (c ∷ cs) h = absurd h
fits_length long (t ∷ ts) [] h = absurd h
fits_length long (t ∷ ts) (c ∷ cs) h = ap suc (fits_length long ts cs h.1)

pub fits_at : (long : Bool) (types : List ColumnType) (row : List ValueRef) (j : ℕ) (t : ColumnType) → FitsRow long types row → slice_get types j ≡ Some t → FitsColumn long t (cell_of row j)
fits_at long [] row j t h e = none_is e
fits_at long (s ∷ ts) [] j t h e = absurd h
fits_at long (s ∷ ts) (c ∷ cs) zero t h e = subst (λ x. FitsColumn long x c) (same_Some s t e) h.0
fits_at long (s ∷ ts) (c ∷ cs) (suc j) t h e = fits_at long ts cs j t h.1 e

-- a row as wide as the columns fits them where each of its cells does
pub fits_by_cells : (long : Bool) (types : List ColumnType) (row : List ValueRef) → length row ≡ length types
    → ((j : ℕ) → j < length types → FitsColumn long (slice_index_or types j coltype.Int16) (cell_of row j)) → FitsRow long types row
fits_by_cells long [] [] l f = tt
fits_by_cells long [] (c ∷ cs) l f = absurd (omega arith)
fits_by_cells long (t ∷ ts) [] l f = absurd (omega arith)
fits_by_cells long (t ∷ ts) (c ∷ cs) l f = (f 0 (omega arith), fits_by_cells long ts cs (omega arith) (λ j h. f (suc j) (omega arith)))

cell_is : (row : List ValueRef) (j : ℕ) (x : ValueRef) → j < length row → x ≡ slice_index_or row j x → cell_of row j ≡ x
cell_is row j x h e = ap (λ (o : Option ValueRef). unwrap_or o cell.Null) (slice_get-get_or row j x h ∙ ap Some (sym e))

-- what a test of the cell at a place says of the row
module _ (long : Bool) (columns : List ColumnDef) (row : List ValueRef) (j : ℕ) (t : ColumnType) (d : ColumnDef) (x : ValueRef)
    (inside : j < length columns) (wide : j < length row) (type : t ≡ (slice_index_or columns j d).coltype) (is : x ≡ slice_index_or row j x) where
  pub fits_here : FitsColumn long t x → FitsColumn long (slice_index_or (types_of columns) j coltype.Int16) (cell_of row j)
  fits_here f = subst (λ (s : ColumnType). FitsColumn long s (cell_of row j)) (type_at columns j t d inside type)
      (subst (λ (y : ValueRef). FitsColumn long t y) (sym (cell_is row j x wide is)) f)

  pub fits_if_row_does : FitsRow long (types_of columns) row → FitsColumn long t x
  fits_if_row_does f = subst (λ (y : ValueRef). FitsColumn long t y) (cell_is row j x wide is)
      (fits_at long (types_of columns) row j t f
      (slice_get-get_or (types_of columns) j coltype.Int16 (below_types columns j inside) ∙ ap Some (sym (type_at columns j t d inside type))))
