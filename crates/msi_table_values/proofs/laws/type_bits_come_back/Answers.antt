use Rattle.msi_table_values.proofs.TypeBitsLemmas.{bits_tell}
use Rattle.msi_table_values.proofs.laws.type_bits_come_back.Goals as goal

pub returns : goal.returns
returns c = bits_tell
