use Rattle.std.proofs.Common.{ℕ, List, subst}
use Rattle.std.specs.Prelude.{◌↔◌, IsTrue}
use Rattle.std.specs.List.{AllByRecursion}
use Rattle.msi_base.specs.declared.codepage.CodePage.{CodePage}
use Rattle.msi_summary_properties.specs.declared.propset.PropertyValue.{PropertyValue}
use Rattle.msi_summary_properties.specs.PropertyStream.{IsWritableValue}
use Rattle.msi_summary_properties.proofs.propset.PropertySet.is_writable.Goals as goal

pub returns-clause-exact : goal.returns-clause-exact
returns-clause-exact c =
    let same = subst (λ (values : List (ℕ × PropertyValue)). IsTrue c.all_read_back.result ↔ AllByRecursion (λ (e : ℕ × PropertyValue). IsWritableValue c.codepage.result e.1) values)
    c.values.ensures.values c.all_read_back.ensures.exact in
    subst (λ (page : CodePage). IsTrue c.all_read_back.result ↔ AllByRecursion (λ (e : ℕ × PropertyValue). IsWritableValue page e.1) c.args.self.now.values) c.codepage.ensures same
