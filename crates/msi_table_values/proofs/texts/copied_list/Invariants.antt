use Rattle.std.proofs.Common.{◌≡◌, map, take}
use Rattle.msi_table_values.proofs.texts.copied_list.Given as goal

abbrev pub invariant-loop-text : goal.invariant-loop-text
invariant-loop-text l = record {
  copies : l.copies.items ≡ map (λ text. text.now) (take l.text-index l.texts);
}
