-- Rows put under their keys, the last of them first.
use Rattle.std.proofs.Common.{◌≡◌, List, [], ◌∷◌, ◌++◌, refl, ap}
use Rattle.msi_table_values.specs.declared.value.Value.{Value}
use Rattle.msi_transform_rows.specs.RowChanges.{Rows, by_key, with_row_at}
use Rattle.msi_transform_rows.specs.declared.row.RowInHand.{RowInHand}

-- these over those that are held
abbrev pub put_over : Rows → Rows → Rows
put_over [] held = held
put_over (e ∷ es) held = with_row_at e.0 e.1 (put_over es held)

pub last_over : (es : Rows) (k : List Value) (row : RowInHand) (held : Rows) → put_over (es ++ (k, row) ∷ []) held ≡ put_over es (with_row_at k row held)
last_over [] k row held = refl
last_over (e ∷ es) k row held = ap (with_row_at e.0 e.1) (last_over es k row held)

pub over_none : (es : Rows) → put_over es [] ≡ by_key es
over_none [] = refl
over_none (e ∷ es) = ap (with_row_at e.0 e.1) (over_none es)
