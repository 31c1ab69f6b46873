use Rattle.std.proofs.Common.{◌≡◌, ◌+◌, ◌*◌, ◌<◌, ◌^◌, ◌++◌, true, length}
use Rattle.std.specs.List.{flat_map}
use Rattle.msi_summary_properties.specs.PropertyStream.{pair_bytes}
use Rattle.msi_summary_properties.specs.PropertyWriting.{is_carried, joined_pieces, pairs_from}
use Rattle.msi_summary_properties.proofs.writing.push_pairs.Given as goal

abbrev pub invariant-loop-id : goal.invariant-loop-id
invariant-loop-id l = record {
  carried : is_carried l.page l.id-iterator ≡ true;
  room : l.place + length (joined_pieces l.page l.id-iterator) < 2 ^ 32;
  written : l.held.items ++ flat_map pair_bytes (pairs_from l.page l.place l.id-iterator) ≡ l.fn.held.items ++ flat_map pair_bytes (pairs_from l.page (8 + 8 * length l.values.entries) l.values.entries);
}
