-- The order of the keys of rows.
use Rattle.std.specs.Prelude.{List}
use Rattle.std.specs.Cmp.Lexicographic.{slice_cmp}
use Rattle.std.specs.declared.cmp.Ordering.{Ordering}
use Rattle.msi_table_values.specs.declared.value.Value.{Value}
use Rattle.msi_table_values.specs.Values.{value_cmp}

-- as keys of values, the first that differs decides
abbrev pub key_cmp : List Value → List Value → Ordering
key_cmp = slice_cmp value_cmp
