use Rattle.msi_database_schema.specs.Keys.{table_key}
use Rattle.msi_transform.proofs.TableStreamsLemmas.{key_isnt}
use Rattle.msi_transform.proofs.table_streams.is_key_of.Goals as goal

pub returns-in-None : goal.returns-in-None
returns-in-None c = key_isnt (table_key c.args.name.now) c.args.key.now c.in-None.ensures.value c.units-units.ensures.some c.units-units.ensures.most
