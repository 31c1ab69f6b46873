use Rattle.std.proofs.Common.{◌≡◌, ℕ, List, length, take}
use Rattle.std.specs.BTreeSet.{contains}
use Rattle.std.specs.FinMap.{from_entries, contains_key}
use Rattle.msi_container_format.specs.Names.{name_cmp}
use Rattle.msi_container_format.specs.Container.{sector_size, size}
use Rattle.msi_container_tables.specs.Reading.{views}
use Rattle.msi_container_tables.proofs.entry_names.MapNamesLemmas.{Begun}
use Rattle.msi_container_view.specs.Extents.{bytes_stored}
use Rattle.msi_container_view.specs.Views.{streams_in}
use Rattle.msi_container_view.proofs.located_lemmas.NamedLemmas.{named}
use Rattle.msi_container_view.proofs.located.locate_streams.Given as goal

abbrev pub invariant-loop-entry : goal.invariant-loop-entry
invariant-loop-entry l = record {
  held : (file : List ℕ) → sector_size file ≡ sector_size l.directory.bytes.now
      → streams_in file l.located
      ≡ from_entries (take (length l.yielded) (named l.directory.bytes.now l.directory.sectors.now
      (λ k c. bytes_stored file l.mini_stream (size l.directory.bytes.now l.directory.sectors.now k) c) l.streams (views l.chains)));
  names : Begun l.directory.bytes.now l.directory.sectors.now l.streams (λ q. contains name_cmp l.taken q) (λ q. contains_key l.located q) (length l.yielded);
}
