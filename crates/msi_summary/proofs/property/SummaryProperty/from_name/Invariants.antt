use Rattle.std.proofs.Common.{◌≡◌, drop, find, bytes_eq}
use Rattle.msi_summary.specs.Property.{property_name, property_named}
use Rattle.msi_summary.proofs.property.SummaryProperty.from_name.Given as goal

abbrev pub invariant-loop-property : goal.invariant-loop-property
invariant-loop-property l =
    find (λ p. bytes_eq (property_name p) l.name) (drop l.property-index l.property-items) ≡ property_named l.name
