use Rattle.std.proofs.Common.{◌≡◌, take}
use Rattle.std.specs.BTreeSet.{contains}
use Rattle.std.specs.FinMap.{from_entries, contains_key}
use Rattle.msi_container_format.specs.Names.{name_cmp}
use Rattle.msi_container_read.specs.Listings.{named_sizes}
use Rattle.msi_container_tables.proofs.entry_names.MapNamesLemmas.{Begun}
use Rattle.msi_container_read.proofs.listing.sizes_of.Given as goal

abbrev pub invariant-loop-entry : goal.invariant-loop-entry
invariant-loop-entry l = record {
  held : l.sizes ≡ from_entries (take l.entry-index (named_sizes l.directory.bytes.now l.directory.sectors.now l.entries));
  names : Begun l.directory.bytes.now l.directory.sectors.now l.entries (λ q. contains name_cmp l.taken q) (λ q. contains_key l.sizes q) l.entry-index;
}
