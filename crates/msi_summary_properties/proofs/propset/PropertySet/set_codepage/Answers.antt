use Rattle.msi_summary_properties.proofs.PropertiesLemmas.{OnOk-page_of, page_in-page_value}
use Rattle.msi_summary_properties.proofs.propset.PropertySet.set_codepage.Goals as goal

pub put-requires : goal.put-requires
put-requires c = rw (c.page_value.ensures, page_in-page_value c.args.page)

pub returns-clause-page : goal.returns-clause-page
returns-clause-page c = OnOk-page_of c.put.result c.args.page c.args.self.now c.put.new.self (rw c.page_value.ensures at c.put.ensures.ok)
