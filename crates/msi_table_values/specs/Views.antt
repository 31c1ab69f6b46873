-- Values that are seen where they lie.
use Rattle.msi_table_values.specs.declared.value.Value.{Value}
use Rattle.msi_table_values.specs.declared.value.Value.TheVariants as value
use Rattle.msi_table_values.specs.declared.views.ValueView.{ValueView}
use Rattle.msi_table_values.specs.declared.views.ValueView.TheVariants.{Null, Int, Str, Binary}

abbrev pub seen_value : ValueView → Value
seen_value Null = value.Null
seen_value (Int n) = value.Int n
seen_value (Str s) = value.Str s.now
seen_value Binary = value.Binary
