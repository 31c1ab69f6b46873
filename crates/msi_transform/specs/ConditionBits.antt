-- The conditions under which a transform is applied, as the bits of a number.
use Rattle.std.specs.Prelude.{ℕ, ◌+◌, ◌/◌, ◌%◌, Bool, true, ◌==◌, if◌then◌else◌}
use Rattle.msi_transform.specs.declared.conditions.ErrorConditions.{ErrorConditions}
use Rattle.msi_transform.specs.declared.conditions.Fault.{Fault}
use Rattle.msi_transform.specs.declared.conditions.Fault.TheVariants as fault

-- 1 for a row to add that is there, 2 for a row to remove that isn't, 4 and 8 likewise for tables, 16 for a row to
-- change that isn't there, 32 for another page
abbrev pub has_bit : ℕ → ℕ → Bool
has_bit value bits = bits / value % 2 == 1

abbrev pub conditions_of_bits : ℕ → ErrorConditions
conditions_of_bits bits = record {
  added_row_exists = has_bit 1 bits;
  removed_row_missing = has_bit 2 bits;
  added_table_exists = has_bit 4 bits;
  removed_table_missing = has_bit 8 bits;
  changed_row_missing = has_bit 16 bits;
  other_page = has_bit 32 bits;
}

abbrev pub bit_if : ℕ → Bool → ℕ
bit_if value is_set = if is_set then value else 0

abbrev pub bits_of : ErrorConditions → ℕ
bits_of c = bit_if 1 c.added_row_exists + bit_if 2 c.removed_row_missing + bit_if 4 c.added_table_exists
    + bit_if 8 c.removed_table_missing + bit_if 16 c.changed_row_missing + bit_if 32 c.other_page

abbrev pub passes : ErrorConditions → Fault → Bool
passes c fault.AddedRowExists = c.added_row_exists
passes c fault.RemovedRowMissing = c.removed_row_missing
passes c fault.AddedTableExists = c.added_table_exists
passes c fault.RemovedTableMissing = c.removed_table_missing
passes c fault.ChangedRowMissing = c.changed_row_missing
passes c fault.OtherPage = c.other_page

abbrev pub with_passing : Fault → ErrorConditions → ErrorConditions
with_passing fault.AddedRowExists c = record c { added_row_exists = true }
with_passing fault.RemovedRowMissing c = record c { removed_row_missing = true }
with_passing fault.AddedTableExists c = record c { added_table_exists = true }
with_passing fault.RemovedTableMissing c = record c { removed_table_missing = true }
with_passing fault.ChangedRowMissing c = record c { changed_row_missing = true }
with_passing fault.OtherPage c = record c { other_page = true }
