use Rattle.std.proofs.Common.{◌≡◌, drop, []}
use Rattle.msi_summary_properties.specs.Reading.{put_values}
use Rattle.msi_summary_properties.proofs.reading.values_of.Given as goal

abbrev pub invariant-loop-id : goal.invariant-loop-id
invariant-loop-id l = put_values l.version l.page l.bytes l.section (drop l.id-index l.pairs) l.values.entries ≡ put_values l.version l.page l.bytes l.section l.pairs []
