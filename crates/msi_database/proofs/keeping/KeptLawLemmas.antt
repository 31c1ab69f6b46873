-- The laws of kept databases.
use Rattle.msi_database_changes.proofs.soundness.LawLemmas.{well_formed_to}
use Rattle.msi_database.specs.Keeping.{KeptIsWellFormed, ReadIsKept}
use Rattle.msi_database.specs.OwnStreams.{TablesHaveOwnStreams}
use Rattle.msi_database.proofs.soundness.FitLemmas.{well_formed}
use Rattle.msi_database_schema.proofs.KeyLemmas.{table_keys_tell_names, table_key≢pool, table_key≢summary_key, table_key≢signature_key, table_key≢stream_key}
use Rattle.msi_database.proofs.opening.OpenedLemmas.{opened}
use Rattle.msi_database.proofs.opening.ReadRowsLemmas.{schema_rows_fit}
use Rattle.msi_database_storage.proofs.ReadLemmas.{validation_read_fits}
use Rattle.msi_database.proofs.soundness.SchemaLemmas.{tables_sorted}

pub kept_is_well_formed : KeptIsWellFormed
kept_is_well_formed k h = well_formed_to k.database (well_formed k.database (tables_sorted k.streams k.database h.spelled.schema) h.rows h.unlisted)

pub read_is_kept : ReadIsKept
read_is_kept raw pool tables streams sound h known = opened raw pool tables streams sound h.in_order h.names h.few h.counts h.places h.as_long h.schema
    (schema_rows_fit streams pool tables h.bytes h.schema) (validation_read_fits streams pool.long h.bytes) known

pub tables_have_own_streams : TablesHaveOwnStreams
tables_have_own_streams name is = record {
  tables = λ other other_is same. table_keys_tell_names name other is other_is same;
  pool = (table_key≢pool name is).0;
  texts = (table_key≢pool name is).1;
  summary = table_key≢summary_key name;
  signature = (table_key≢signature_key name).0;
  signature_ex = (table_key≢signature_key name).1;
  users = λ stream stream_is. table_key≢stream_key name stream stream_is;
}
