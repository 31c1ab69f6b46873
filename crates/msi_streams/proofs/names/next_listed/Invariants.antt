use Rattle.std.proofs.Common.{◌≡◌, filter}
use Rattle.std.specs.Map.{keys_of}
use Rattle.msi_streams.specs.Listing.{is_listed}
use Rattle.msi_streams.proofs.names.next_listed.Given as goal

-- no name was listed so far
abbrev pub invariant-loop-name : goal.invariant-loop-name
invariant-loop-name l = record {
  can : (goal.iterator-loop-name).can_next l.entries;
  ends : (goal.iterator-loop-name).is_finite l.entries;
  unlisted : filter is_listed (keys_of l.fn.entries) ≡ filter is_listed (keys_of l.entries);
}
