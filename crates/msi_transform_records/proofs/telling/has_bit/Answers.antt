use Rattle.std.proofs.Common.{arith}
use Rattle.msi_transform_records.proofs.BitLemmas.{no_bit}
use Rattle.msi_transform_records.proofs.telling.has_bit.Goals as goal

pub returns-else-column-lt16 : goal.returns-else-column-lt16
returns-else-column-lt16 c = no_bit c.args.mask c.args.column (omega arith) c.if-column-lt16.false
