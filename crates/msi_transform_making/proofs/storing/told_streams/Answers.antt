use Rattle.std.proofs.Common.{◌∙◌, ap}
use Rattle.std.specs.FinMap.{entries}
use Rattle.std.specs.List.{fold}
use Rattle.msi_container_format.specs.Streams as maps
use Rattle.msi_database_storage.specs.Streams.{Streams}
use Rattle.msi_transform_making.specs.Making.{with_told_streams}
use Rattle.msi_transform_making.proofs.StoringLemmas.{no_streams}
use Rattle.msi_transform_making.proofs.storing.told_streams.Goals as goal

pub loop-table-init : goal.loop-table-init
loop-table-init c = record {
  streams = ap (λ (m : maps.Streams). fold with_told_streams (entries m) c.args.tables.now) c.new-streams.ensures
      ∙ ap (λ (ss : Streams). fold with_told_streams ss c.args.tables.now) no_streams;
}
