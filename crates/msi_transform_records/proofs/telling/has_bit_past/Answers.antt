use Rattle.std.proofs.Common.{arith}
use Rattle.msi_transform_records.proofs.BitLemmas.{bits_past, no_bit_past}
use Rattle.msi_transform_records.proofs.telling.has_bit_past.Goals as goal

pub returns-then-count-lt16 : goal.returns-then-count-lt16
returns-then-count-lt16 c = bits_past c.args.mask c.args.count

pub returns-else-count-lt16 : goal.returns-else-count-lt16
returns-else-count-lt16 c = no_bit_past c.args.mask c.args.count (omega arith) c.if-count-lt16.false
