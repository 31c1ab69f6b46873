use Rattle.std.proofs.Common.{◌≡◌, ℕ, ◌<◌, List, slice_index}
use Rattle.std.specs.BTreeSet.{contains}
use Rattle.msi_container_format.specs.Names.{name_cmp}
use Rattle.msi_container_format.specs.Container.{name, HasName}
use Rattle.msi_container_tables.proofs.entry_names.OwnNameLemmas.{is_known, AreOwn}
use Rattle.msi_container_tables.proofs.names.names_of.Given as goal

abbrev pub invariant-loop-entry : goal.invariant-loop-entry
invariant-loop-entry l =
    let bytes = l.directory.bytes.now in
    let sectors = l.directory.sectors.now in
    record {
      named : (k : ℕ) → k < l.entry-index → HasName bytes sectors (slice_index l.entries k);
      own : AreOwn (name bytes sectors) l.entries l.entry-index;
      known : (q : List ℕ) → contains name_cmp l.names q ≡ is_known (name bytes sectors) l.entries l.entry-index q;
    }
