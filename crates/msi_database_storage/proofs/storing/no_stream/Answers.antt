use Rattle.msi_database_schema.proofs.KeyLemmas.{table_key_is_name}
use Rattle.msi_database_storage.proofs.storing.no_stream.Goals as goal

pub short_table_key-requires : goal.short_table_key-requires
short_table_key-requires c = table_key_is_name c.args.name.now c.requires
