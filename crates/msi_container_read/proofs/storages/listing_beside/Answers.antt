use Rattle.std.proofs.Common.{subst}
use Rattle.msi_container_format.specs.Chains.{AreBelow, AreDistinct}
use Rattle.msi_container_format.specs.Container.{left, right, entry_count}
use Rattle.msi_container_tables.proofs.parts.TreeLemmas.{members_below}
use Rattle.msi_container_read.proofs.plans.StorageLemmas.{lies_in}
use Rattle.msi_container_read.proofs.storages.listing_beside.Goals as goal

pub returns-clause-below : goal.returns-clause-below
returns-clause-below c =
    let bytes = c.args.directory.now.bytes.now in
    let sectors = c.args.directory.now.sectors.now in
    let found = c.in_ok-entries.ensures.found in
    subst (AreBelow (entry_count bytes sectors)) found.2 (members_below (left bytes sectors) (right bytes sectors) (entry_count bytes sectors) _ found.0 found.1)

pub check_kinds-requires : goal.check_kinds-requires
check_kinds-requires c =
    let bytes = c.args.directory.now.bytes.now in
    let sectors = c.args.directory.now.sectors.now in
    let found = c.in_ok-entries.ensures.found in
    rw c.deref.ensures.value (subst (AreBelow (entry_count bytes sectors)) found.2 (members_below (left bytes sectors) (right bytes sectors) (entry_count bytes sectors) _ found.0 found.1))

pub names_of-requires : goal.names_of-requires
names_of-requires c =
    let bytes = c.args.directory.now.bytes.now in
    let sectors = c.args.directory.now.sectors.now in
    let found = c.in_ok-entries.ensures.found in
    rw c.deref-2.ensures.value (subst (AreBelow (entry_count bytes sectors)) found.2 (members_below (left bytes sectors) (right bytes sectors) (entry_count bytes sectors) _ found.0 found.1))

pub returns-clause-found : goal.returns-clause-found
returns-clause-found c =
    let bytes = c.args.directory.now.bytes.now in
    let sectors = c.args.directory.now.sectors.now in
    let found = c.in_ok-entries.ensures.found in
    let distinct = subst AreDistinct found.3 c.reach_more.new.claims.distinct in (
      found.0,
      lies_in bytes sectors c.args.storage _ found.0 c.args.claims.now.list.items c.in_ok-entries.entries.items _ _
          c.child.ensures found.1 found.2 distinct c.deref.ensures.value c.in_ok-check_kinds.ensures.ok c.deref-2.ensures.value c.in_ok-names_of.ensures.names,
      found.2,
      found.3,
    )
