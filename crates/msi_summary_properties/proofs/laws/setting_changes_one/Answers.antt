use Rattle.msi_summary_properties.proofs.PropertiesLemmas as laws
use Rattle.msi_summary_properties.proofs.laws.setting_changes_one.Goals as goal

pub returns : goal.returns
returns c = laws.setting_changes_one
