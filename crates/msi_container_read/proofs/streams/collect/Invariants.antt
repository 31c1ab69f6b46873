use Rattle.std.proofs.Common.{◌≡◌, length, take}
use Rattle.std.specs.BTreeSet.{contains}
use Rattle.std.specs.FinMap.{from_entries, contains_key}
use Rattle.msi_container_format.specs.Names.{name_cmp}
use Rattle.msi_container_format.specs.Container.{named_bytes}
use Rattle.msi_container_tables.specs.Reading.{views}
use Rattle.msi_container_tables.proofs.entry_names.MapNamesLemmas.{Begun}
use Rattle.msi_container_read.proofs.streams.collect.Given as goal

abbrev pub invariant-loop-entry : goal.invariant-loop-entry
invariant-loop-entry l = record {
  held : l.streams ≡ from_entries (take (length l.yielded) (named_bytes l.directory.bytes.now l.mini_stream l.directory.sectors.now l.entries (views l.chains)));
  names : Begun l.directory.bytes.now l.directory.sectors.now l.entries (λ q. contains name_cmp l.taken q) (λ q. contains_key l.streams q) (length l.yielded);
}
