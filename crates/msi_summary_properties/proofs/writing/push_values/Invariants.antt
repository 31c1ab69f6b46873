use Rattle.std.proofs.Common.{◌≡◌, ◌<◌, ◌^◌, ◌++◌, true, length}
use Rattle.msi_summary_properties.specs.PropertyWriting.{is_carried, joined_pieces}
use Rattle.msi_summary_properties.proofs.writing.push_values.Given as goal

abbrev pub invariant-loop-value : goal.invariant-loop-value
invariant-loop-value l = record {
  carried : is_carried l.page l.value-iterator ≡ true;
  room : length (joined_pieces l.page l.value-iterator) < 2 ^ 32;
  written : l.held.items ++ joined_pieces l.page l.value-iterator ≡ l.fn.held.items ++ joined_pieces l.page l.values.entries;
}
