-- Tables of the new package of which a transform that is made has no records: their rows are those of the old package.
use Rattle.std.specs.Prelude.{◌≡◌, ◌<◌, ◌-◌, [], length, None, Ok}
use Rattle.std.specs.List.{AllByRecursion}
use Rattle.msi_transform.specs.Transforms.{TransformDef, records_for}
use Rattle.msi_transform_making.specs.Making.{Pair, columns_before, columns_in_table, made, told_names, told_rows}
use Rattle.msi_transform_laws.specs.CarriedOut.{rows_before}
use Rattle.msi_transform_laws.specs.TableApplied.{CanHaveRecords}

-- the rows stay; and a table that gets columns, or comes, has none
abbrev pub TablesWithoutRecordsStay : Type 0
TablesWithoutRecordsStay = (p : Pair) (t : TransformDef) → made p ≡ Ok t → CanHaveRecords p
    → AllByRecursion (λ name. records_for name t ≡ None → (rows_before p.old p.new name ≡ told_rows p.new name 0)
    × (0 < length (columns_in_table p.new name) - columns_before p.old.database name → told_rows p.new name 0 ≡ []))
    (told_names p.new)
