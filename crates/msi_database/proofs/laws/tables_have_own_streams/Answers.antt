use Rattle.msi_database.proofs.keeping.KeptLawLemmas.{tables_have_own_streams}
use Rattle.msi_database.proofs.laws.tables_have_own_streams.Goals as goal

pub returns : goal.returns
returns c = tables_have_own_streams
