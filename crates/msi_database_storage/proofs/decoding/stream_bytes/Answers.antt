use Rattle.std.proofs.Common.{◌∙◌, Some, None}
use Rattle.std.specs.FinMap.{entries}
use Rattle.msi_database_schema.specs.Keys.{table_key}
use Rattle.msi_database_storage.proofs.StreamAtLemmas.{nothing_held, held_at}
use Rattle.msi_database_storage.proofs.decoding.stream_bytes.Goals as goal

pub returns-in_default : goal.returns-in_default
returns-in_default c = nothing_held c.table_key.result (table_key c.args.name.now) (entries c.args.streams.now) c.requires c.table_key.ensures.value c.in_default.is

pub returns-in-Some-get : goal.returns-in-Some-get
returns-in-Some-get c = c.as_slice.ensures ∙ held_at c.table_key.result (table_key c.args.name.now) c.in-Some.key c.args.streams.now (Some c.in-Some-get.bytes.now) c.table_key.ensures.value c.in-Some.is c.in-Some-get.ensures

pub returns-in-None : goal.returns-in-None
returns-in-None c = held_at c.table_key.result (table_key c.args.name.now) c.in-Some.key c.args.streams.now None c.table_key.ensures.value c.in-Some.is c.in-None.ensures
