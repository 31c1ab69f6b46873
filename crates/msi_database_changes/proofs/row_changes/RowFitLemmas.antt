-- Whether a row fits its columns, from a column on.
use Rattle.std.proofs.Common.{◌≡◌, ℕ, ◌+◌, ◌<◌, Bool, ◌&&◌, List, length, get_or, drop, zip, refl, add-one}
use Rattle.std.proofs.Math.Seq.{drop-cons}
use Rattle.std.specs.List.{list_all}
use Rattle.msi_table_values.specs.declared.value.Value.{Value}
use Rattle.msi_table_values.specs.Columns.{ColumnDef}
use Rattle.msi_table_values.specs.ValidValues.{is_valid_value}

abbrev pub fits_from : List ColumnDef → List Value → ℕ → Bool
fits_from columns row i = list_all (λ e. is_valid_value e.0 e.1) (zip (drop i columns) (drop i row))

pub fits_next : (columns : List ColumnDef) (row : List Value) (i : ℕ) (c : ColumnDef) (v : Value) → i < length columns → i < length row
    → c ≡ get_or columns i c → v ≡ get_or row i v → fits_from columns row i ≡ (is_valid_value c v && fits_from columns row (i + 1))
fits_next columns row i c v short enough is has = rw (add-one, drop-cons columns i c, drop-cons row i v, ← is, ← has) refl
