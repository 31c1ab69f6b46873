use Rattle.std.proofs.Common.{◌≡◌, map, take}
use Rattle.msi_transform_pair.proofs.StreamNamesLemmas.{key_of_text}
use Rattle.msi_transform_pair.proofs.stream_names.keys_of_texts.Given as goal

abbrev pub invariant-loop-text : goal.invariant-loop-text
invariant-loop-text l = record {
  keys : l.keys.items ≡ map key_of_text (take l.text-index l.texts);
}
