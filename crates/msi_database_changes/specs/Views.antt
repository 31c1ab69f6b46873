-- Rows of values that are seen where they lie.
use Rattle.std.specs.Prelude.{List, map}
use Rattle.msi_table_values.specs.declared.value.Value.{Value}
use Rattle.msi_table_values.specs.declared.views.ValueView.{ValueView}
use Rattle.msi_table_values.specs.Views.{seen_value}

abbrev pub seen_row : List ValueView → List Value
seen_row row = map seen_value row
