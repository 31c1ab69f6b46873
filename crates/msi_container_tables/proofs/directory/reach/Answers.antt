use Rattle.std.proofs.Common.{[], ◌∙◌, vec_len}
use Rattle.msi_container_format.specs.Container.{left, right, entry_count}
use Rattle.msi_container_format.specs.Trees.{members}
use Rattle.msi_container_tables.specs.Claims.{CanClaim}
use Rattle.msi_container_tables.proofs.parts.TreeLemmas.{members_below}
use Rattle.msi_container_tables.proofs.directory.reach.Goals as goal

pub returns-clause-only : goal.returns-clause-only
returns-clause-only c = λ tree spelled distinct.
    let bytes = c.args.directory.now.bytes.now in
    let sectors = c.args.directory.now.sectors.now in
    let can : CanClaim (entry_count bytes sectors) [] (members tree) = record {
      below = members_below (left bytes sectors) (right bytes sectors) (entry_count bytes sectors) c.args.child tree spelled;
      distinct = distinct;
    } in
    let claims = c.in_ok-claims.claims in
    let room : CanClaim (vec_len claims.marks) claims.list.items (members tree) = rw (c.in_ok-claims.ensures.limit ∙ c.entry_count.ensures, c.in_ok-claims.ensures.none) can in
    c.reach_more.ensures.only tree spelled room
