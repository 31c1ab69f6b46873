use Rattle.std.proofs.Common.{subst, sym}
use Rattle.std.proofs.lemmas.Map.Iter.{rest_more}
use Rattle.std.specs.Map.Iter.{deref_pair}
use Rattle.msi_summary_properties.specs.PropertyStream.{HaveUtf8Texts, IsWritableValue}
use Rattle.msi_summary_properties.proofs.WritableLemmas.{tests_left}
use Rattle.msi_summary_properties.proofs.writable.all_read_back.Goals as goal

pub loop-value-preserved : goal.loop-value-preserved
loop-value-preserved c =
    let here = rest_more deref_pair c.loop-value.value-iterator c.next.new.self c.next.result (c.in-Some.field-0-0, c.in-Some.value) c.in-Some.is c.next.ensures.steps in
    record {
      exact = tests_left (λ v. IsWritableValue c.args.page v) c.args.values.now.entries c.loop-value.value-iterator c.next.new.self c.in-Some.field-0-0.now c.in-Some.value.now c.loop-value.all c.reads_back-all.result here c.loop-value.invariant.exact c.reads_back-all.ensures.exact;
      utf8 = λ h. c.loop-value.invariant.utf8 (subst HaveUtf8Texts (sym here) (c.reads_back-all.ensures.utf8, h));
    }
