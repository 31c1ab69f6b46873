use Rattle.msi_summary_properties.proofs.KeptSetLemmas.{IsKept-without_value}
use Rattle.msi_summary_properties.proofs.PropertiesLemmas.{filter-from_remove}
use Rattle.msi_summary_properties.proofs.propset.PropertySet.remove.Goals as goal

pub invariant_of-self : goal.invariant_of-self
invariant_of-self c = rw (filter-from_remove c.args.id _ _ c.remove.ensures.entries c.remove.ensures.updates.1) (IsKept-without_value c.args.id _ c.self.invariant)

pub returns : goal.returns
returns c = rw (← c.self.view_is, filter-from_remove c.args.id _ _ c.remove.ensures.entries c.remove.ensures.updates.1)
