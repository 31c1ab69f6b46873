use Rattle.msi_table_values.specs.OrderLaws.{value_cmp-total, values_tie}
use Rattle.msi_table_values.proofs.laws.values_are_ordered.Goals as goal

pub returns : goal.returns
returns c = (value_cmp-total, values_tie)
