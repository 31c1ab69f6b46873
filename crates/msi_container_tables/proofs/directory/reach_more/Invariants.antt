use Rattle.std.proofs.Common.{◌≡◌, ◌+◌, ◌-◌, ◌*◌, ◌++◌, vec_len}
use Rattle.msi_container_format.specs.Container.{left, right, entry_count}
use Rattle.msi_container_tables.proofs.parts.TreeLemmas.{Completes, Remains}
use Rattle.msi_container_tables.proofs.directory.reach_more.Given as goal

abbrev pub invariant-loop-link : goal.invariant-loop-link
invariant-loop-link l =
    let bytes = l.directory.bytes.now in
    let sectors = l.directory.sectors.now in
    record {
      same : l.claims.list.items ≡ l.fn.claims.list.items ++ l.reached.items;
      limit : vec_len l.claims.marks ≡ entry_count bytes sectors;
      whole : Completes (left bytes sectors) (right bytes sectors) (entry_count bytes sectors) l.child l.reached.items l.pending.items;
      only : Remains (left bytes sectors) (right bytes sectors) (entry_count bytes sectors) l.child l.reached.items l.pending.items;
    }

abbrev pub decreases-loop-link : goal.decreases-loop-link
decreases-loop-link l =
    2 * (entry_count l.directory.bytes.now l.directory.sectors.now - vec_len l.claims.list) + vec_len l.pending
