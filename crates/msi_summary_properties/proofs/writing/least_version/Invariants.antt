use Rattle.std.proofs.Common.{◌≡◌}
use Rattle.std.specs.List.{list_any}
use Rattle.msi_summary_properties.specs.PropertyStream.{needs_version_1}
use Rattle.msi_summary_properties.proofs.writing.least_version.Given as goal

abbrev pub invariant-loop-value : goal.invariant-loop-value
invariant-loop-value l = list_any (λ e. needs_version_1 e.1) l.value-iterator ≡ list_any (λ e. needs_version_1 e.1) l.values.entries
