-- What follows for columns from their being accepted.
use Rattle.std.proofs.Common.{◌≡◌, true, false, List, [], ◌∷◌, refl}
use Rattle.std.specs.Prelude.{IsTrue}
use Rattle.std.specs.List.{AllByRecursion, list_any}
use Rattle.std.proofs.lemmas.Bool.{lt-ltb, or_parts}
use Rattle.msi_table_values.specs.declared.column.ColumnType.{ColumnType}
use Rattle.msi_table_values.specs.declared.column.ColumnType.TheVariants as coltype
use Rattle.msi_table_values.specs.Columns.{ColumnDef, HasShortLength}
use Rattle.msi_database_schema.specs.Description.{have_short_lengths, is_short}
use Rattle.msi_database_changes.specs.Create.{is_too_long}
use Rattle.msi_database_changes.proofs.table_changes.AcceptedTableLemmas.{short_length}

pub short_lengths : (columns : List ColumnDef) → list_any (λ c. is_too_long c.coltype) columns ≡ false → AllByRecursion (λ c. HasShortLength c.coltype) columns
short_lengths [] e = tt
short_lengths (c ∷ cs) e = let parts = or_parts (is_too_long c.coltype) (list_any (λ c. is_too_long c.coltype) cs) e in (short_length c.coltype parts.0, short_lengths cs parts.1)

is_short_by : (t : ColumnType) → HasShortLength t → is_short t ≡ true
is_short_by coltype.Int16 h = refl
is_short_by coltype.Int32 h = refl
is_short_by (coltype.Str n) h = lt-ltb n 256 h
is_short_by coltype.Binary h = refl

pub short_by : (columns : List ColumnDef) → AllByRecursion (λ c. HasShortLength c.coltype) columns → IsTrue (have_short_lengths columns)
short_by [] h = refl
short_by (c ∷ cs) h = rw (is_short_by c.coltype h.0) (short_by cs h.1)
