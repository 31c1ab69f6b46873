use Rattle.msi_container_tables.proofs.parts.ListingLemmas.{listing_found}
use Rattle.msi_container_tables.proofs.directory.read_listing.Goals as goal

pub check_kinds-requires : goal.check_kinds-requires
check_kinds-requires c = rw c.deref.ensures.value c.in_ok-entries.ensures.below

pub returns-clause-found : goal.returns-clause-found
returns-clause-found c =
    let reached = c.in_ok-entries.ensures.found in (
      reached.0,
      listing_found c.args.directory.now.bytes.now c.args.directory.now.sectors.now c.args.storage _ reached.0 c.in_ok-entries.entries.items c.deref.result.now
          c.child.ensures reached.1 reached.2 reached.3 c.deref.ensures.value c.in_ok-check_kinds.ensures.ok,
      reached.2,
    )

pub returns-clause-only : goal.returns-clause-only
returns-clause-only c = λ tree listing. c.in_ok-entries.ensures.only tree (rw c.child.ensures listing.spelled) listing.once

pub returns-clause-below : goal.returns-clause-below
returns-clause-below c = c.in_ok-entries.ensures.below
