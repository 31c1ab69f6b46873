use Rattle.std.proofs.Common.{◌≡◌, Some, subst}
use Rattle.std.specs.Prelude.{◌↔◌, IfOk, IsErrOf, IsTrue}
use Rattle.msi_base.specs.declared.errors.ErrorKind.TheVariants.{InvalidInput}
use Rattle.msi_summary_properties.specs.Properties.{Properties}
use Rattle.msi_summary_properties.specs.PropertyStream.{property_stream}
use Rattle.msi_summary_properties.specs.PropertyWriting.{is_refused}
use Rattle.msi_summary.proofs.parts.summary_bytes.Goals as goal

pub returns-clause-ok : goal.returns-clause-ok
returns-clause-ok c =
    subst (λ (set : Properties). IfOk c.stream_of.result (λ bytes. property_stream set ≡ Some bytes.items)) c.properties.ensures.set c.stream_of.ensures.ok

pub returns-clause-refused : goal.returns-clause-refused
returns-clause-refused c =
    subst (λ (set : Properties). IsErrOf c.stream_of.result InvalidInput ↔ IsTrue (is_refused set)) c.properties.ensures.set c.stream_of.ensures.refused
