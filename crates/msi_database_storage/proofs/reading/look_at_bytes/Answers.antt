use Rattle.std.proofs.Common.{arith}
use Rattle.msi_table.proofs.ReadRowsLemmas.{all_bytes}
use Rattle.msi_database_storage.proofs.reading.look_at_bytes.Goals as goal

pub returns : goal.returns
returns c = all_bytes c.args.bytes.now (λ i. omega (arith, c.type_inv.bytes i))
