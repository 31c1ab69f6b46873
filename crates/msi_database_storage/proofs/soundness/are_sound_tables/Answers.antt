use Rattle.std.proofs.Common.{arith}
use Rattle.std.specs.FinMap.{entries}
use Rattle.msi_database_storage.proofs.SoundnessLemmas.{table_sound, table_unsound, tables_sound}
use Rattle.msi_database_storage.proofs.soundness.are_sound_tables.Goals as goal

pub returns-then-not-is_sound_table : goal.returns-then-not-is_sound_table
returns-then-not-is_sound_table c = table_unsound (entries c.args.streams.now) c.args.tables.now c.loop-table.table-index c.table-item.result c.is_sound_table.result c.loop-table-test.true c.table-item.is c.is_sound_table.ensures c.if-not-is_sound_table.true

pub loop-table-preserved : goal.loop-table-preserved
loop-table-preserved c = table_sound (entries c.args.streams.now) c.args.tables.now c.loop-table.table-index c.table-item.result c.is_sound_table.result c.loop-table-test.true c.table-item.is c.is_sound_table.ensures c.if-not-is_sound_table.false
    c.loop-table.invariant

pub returns : goal.returns
returns c = tables_sound (entries c.args.streams.now) c.args.tables.now c.loop-table.table-index (omega (arith, c.loop-table-test.false, c.loop-table.auto.table-index-end)) c.loop-table.invariant
