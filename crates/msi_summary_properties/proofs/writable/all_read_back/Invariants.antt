use Rattle.std.proofs.Common.{ℕ}
use Rattle.std.specs.Prelude.{◌↔◌, IsTrue}
use Rattle.std.specs.List.{AllByRecursion}
use Rattle.msi_summary_properties.specs.declared.propset.PropertyValue.{PropertyValue}
use Rattle.msi_summary_properties.specs.PropertyStream.{HaveUtf8Texts, IsWritableValue}
use Rattle.msi_summary_properties.proofs.writable.all_read_back.Given as goal

abbrev pub invariant-loop-value : goal.invariant-loop-value
invariant-loop-value l = record {
  exact : (IsTrue l.all × AllByRecursion (λ (e : ℕ × PropertyValue). IsWritableValue l.page e.1) l.value-iterator)
      ↔ AllByRecursion (λ (e : ℕ × PropertyValue). IsWritableValue l.page e.1) l.values.entries;
  utf8 : HaveUtf8Texts l.value-iterator → HaveUtf8Texts l.values.entries;
}
