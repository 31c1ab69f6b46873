use Rattle.std.proofs.Common.{◌∙◌, Some, None, ap, sym}
use Rattle.std.specs.FinMap.{entries}
use Rattle.msi_database_schema.specs.Keys.{is_pool_name}
use Rattle.msi_database_storage.specs.Streams.{stream_at}
use Rattle.msi_transform.proofs.TableStreamsLemmas.{held, removed, with_none, with_pool, with_put}
use Rattle.msi_transform.proofs.table_streams.take_one.Goals as goal
use Rattle.msi_transform.proofs.table_streams.take_one.Goals.{in-Some+then-not-is_pool_name+in_ok-insert, in-Some+else-not-is_pool_name, in_default}

pub returns-clause-tables : goal.returns-clause-tables
returns-clause-tables c =
    let t = c.args.stream in
    let streams = c.args.streams.now in
    let tables = entries c.args.tables.now in
    let at = stream_at t.key (entries streams) in
    elim c.match-remove.branch [
      | in-Some+then-not-is_pool_name+in_ok-insert w ↦
          ap entries w.tables-is
          ∙ with_put t at w.in-Some.bytes _ tables _ (held streams t.key (Some w.in-Some.bytes) w.in-Some.ensures.held)
          (ap is_pool_name (sym w.as_str.ensures) ∙ sym w.is_pool_name.ensures ∙ w.if-not-is_pool_name.true) w.into_string.ensures w.in_ok-insert.ensures.ok
      | in-Some+else-not-is_pool_name w ↦
          ap entries w.tables-is ∙ with_pool t at w.in-Some.bytes tables (held streams t.key (Some w.in-Some.bytes) w.in-Some.ensures.held)
          (ap is_pool_name (sym w.as_str.ensures) ∙ sym w.is_pool_name.ensures ∙ w.if-not-is_pool_name.false)
      | in_default w ↦
          ap entries w.tables-is ∙ with_none t at tables (held streams t.key None (sym w.in_default.is ∙ c.remove.ensures.held))
    ]

pub returns-clause-streams : goal.returns-clause-streams
returns-clause-streams c = ap entries c.remove.ensures.gone ∙ removed c.args.streams.now c.args.stream.key
