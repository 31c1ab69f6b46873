use Rattle.std.proofs.Common.{refl}
use Rattle.msi_database_schema.proofs.names.string_data_key.Goals as goal

pub short_table_key-requires : goal.short_table_key-requires
unfolding Rattle.std.specs.Str.chars
short_table_key-requires c = refl
