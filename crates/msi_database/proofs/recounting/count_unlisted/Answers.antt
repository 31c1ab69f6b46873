use Rattle.std.proofs.Common.{◌∙◌}
use Rattle.std.specs.FinMap.{entries}
use Rattle.msi_database.proofs.CellsCensusLemmas.{unlisted_counted}
use Rattle.msi_database.proofs.recounting.count_unlisted.Goals as goal

pub returns : goal.returns
returns c = unlisted_counted (entries c.args.streams.now) c.args.standard.now c.args.tables.now c.stream_bytes-bytes.result.now c.args.census.now c.count_beside.new.census c.is_some-is_listed.result
    (c.is_some-is_listed.ensures ∙ c.table_named.ensures.known) c.requires.standard c.stream_bytes-bytes.ensures c.count_beside.ensures
