use Rattle.std.specs.FinMap.{entries}
use Rattle.msi_database_schema.specs.Keys.{table_key}
use Rattle.msi_transform_applying.proofs.LeavingLemmas.{key_removed, too_long}
use Rattle.msi_transform_applying.proofs.leaving.remove_table.Goals as goal

pub returns-in-Some : goal.returns-in-Some
returns-in-Some c = key_removed (table_key c.args.name.now) c.in-Some.key (entries c.args.streams.now) _ c.in-Some.ensures.value c.remove_stream.ensures

pub returns-in-None : goal.returns-in-None
returns-in-None c = too_long (table_key c.args.name.now) (entries c.args.streams.now) c.look_at.ensures.names c.in-None.ensures.value
