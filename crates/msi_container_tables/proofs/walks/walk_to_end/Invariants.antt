use Rattle.std.proofs.Common.{◌≡◌, ℕ, List, ◌+◌, ◌-◌, ◌<◌, ◌++◌, vec_len, Some}
use Rattle.msi_container_format.specs.Chains.{IsChain}
use Rattle.msi_container_tables.specs.Claims.{CanClaim}
use Rattle.msi_container_tables.specs.Walks.{follower}
use Rattle.msi_container_format.specs.Container.{successor, IsWholeChain}
use Rattle.msi_container_format.specs.Format.{END_OF_CHAIN}
use Rattle.msi_container_tables.proofs.chains.WholeChainLemmas.{IsFront}
use Rattle.msi_container_tables.proofs.walks.walk_to_end.Given as goal

abbrev pub invariant-loop-link : goal.invariant-loop-link
invariant-loop-link l =
    let next = successor l.table.bytes.now l.table.sectors.now in
    record {
      so_far : IsChain next l.start (vec_len l.chain) l.chain.items;
      follows : follower next l.start l.chain.items ≡ Some l.link;
      filled : l.link ≡ END_OF_CHAIN → 0 < vec_len l.chain;
      claimed : l.claims.list.items ≡ l.fn.claims.list.items ++ l.chain.items;
      limit : vec_len l.claims.marks ≡ vec_len l.fn.claims.marks;
      only : (c : List ℕ)
          → IsWholeChain next l.start c
          → CanClaim (vec_len l.fn.claims.marks) l.fn.claims.list.items c
          → IsFront c l.chain.items;
      counted : l.steps ≡ l.fn.steps + vec_len l.chain;
    }

-- each iteration claims a sector
abbrev pub decreases-loop-link : goal.decreases-loop-link
decreases-loop-link l = vec_len l.claims.marks - vec_len l.claims.list
