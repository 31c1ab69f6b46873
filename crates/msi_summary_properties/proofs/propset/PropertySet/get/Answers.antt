use Rattle.std.proofs.Common.{◌∙◌}
use Rattle.msi_summary_properties.proofs.PropertiesLemmas.{value_with_id-lookup}
use Rattle.msi_summary_properties.proofs.propset.PropertySet.get.Goals as goal

pub returns : goal.returns
returns c = rw (← c.self.view_is) (c.get.ensures.value ∙ value_with_id-lookup c.args.id _)
