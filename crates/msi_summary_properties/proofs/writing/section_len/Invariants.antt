use Rattle.std.proofs.Common.{◌≡◌, ◌+◌, ◌*◌, ◌<◌, ◌^◌, length}
use Rattle.msi_summary_properties.specs.PropertyWriting.{is_carried, joined_pieces, section_size}
use Rattle.msi_summary_properties.proofs.writing.section_len.Given as goal

abbrev pub invariant-loop-value : goal.invariant-loop-value
invariant-loop-value l = record {
  few : l.size < 2 ^ 32;
  sizes : l.size + 8 * length l.value-iterator + length (joined_pieces l.page l.value-iterator) ≡ section_size l.page l.values.entries;
  carried : is_carried l.page l.value-iterator ≡ is_carried l.page l.values.entries;
}
