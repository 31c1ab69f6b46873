use Rattle.std.proofs.Common.{◌∙◌, ℕ, List, set, sym, ap, arith}
use Rattle.std.proofs.lemmas.List.{map-set}
use Rattle.msi_table_values.specs.declared.value.Value.{Value}
use Rattle.msi_database_changes.specs.Setting.{index_of}
use Rattle.msi_table_values.specs.Views.{seen_value}
use Rattle.msi_database_changes.specs.Views.{seen_row}
use Rattle.msi_database_changes.proofs.row_changes.SettingLemmas.{place_at, values_set_more}
use Rattle.msi_database_changes.proofs.setting.set_views.Goals as goal

pub loop-i-preserved : goal.loop-i-preserved
loop-i-preserved c = record {
  set = λ columns are.
      let i = c.loop-i.i in
      let s = c.index-sets-i.result in
      ap seen_row c.set_view.ensures
      ∙ map-set seen_value c.loop-i.row.items _ c.of.result
      ∙ ap (λ (p : ℕ). set (seen_row c.loop-i.row.items) p (seen_value c.of.result)) (place_at columns c.args.sets.now c.args.places.now i s are (omega arith) c.index-sets-i.is)
      ∙ ap (λ (v : Value). set (seen_row c.loop-i.row.items) (index_of columns s) v) (c.of.ensures ∙ c.value.ensures)
      ∙ ap (λ (row : List Value). set row (index_of columns s) s.1) (c.loop-i.invariant.set columns are)
      ∙ sym (values_set_more columns c.args.sets.now (seen_row c.args.row.now.items) i s (omega arith) c.index-sets-i.is);
}
