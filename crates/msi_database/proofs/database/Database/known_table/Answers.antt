use Rattle.std.proofs.Common.{option_copied}
use Rattle.msi_database.proofs.calls.RowCallLemmas.{known_by}
use Rattle.msi_database.proofs.database.Database.known_table.Goals as goal

pub returns : goal.returns
returns c = known_by c.args.self.now.database c.requires c.args.name.now (option_copied c.get_table.result) c.get_table.ensures
