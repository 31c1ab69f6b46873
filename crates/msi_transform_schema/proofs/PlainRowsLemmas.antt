-- Rows of system tables.
use Rattle.std.proofs.Common.{◌≡◌, List, [], ◌∷◌, map, refl, ap}
use Rattle.msi_table_cells.specs.declared.cell.ValueRef.{ValueRef}
use Rattle.msi_transform_rows.specs.RowChanges.{cells_in_hand}
use Rattle.msi_transform_schema.specs.SchemaChanges.{plain_row}

-- as rows in hand they have the same cells
pub plain_cells : (rows : List (List ValueRef)) → cells_in_hand (map plain_row rows) ≡ rows
plain_cells [] = refl
plain_cells (row ∷ rows) = ap (λ (others : List (List ValueRef)). row ∷ others) (plain_cells rows)
