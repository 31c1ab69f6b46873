use Rattle.std.proofs.Common.{◌≡◌, ℕ, List, ◌+◌, ◌-◌, ◌++◌, vec_len, take}
use Rattle.msi_container_format.specs.Chains.{IsChain}
use Rattle.msi_container_tables.specs.Claims.{CanClaim}
use Rattle.msi_container_format.specs.Container.{successor}
use Rattle.msi_container_tables.proofs.walks.walk.Given as goal

abbrev pub invariant-loop : goal.invariant-loop
invariant-loop l =
    let next = successor l.table.bytes.now l.table.sectors.now in
    record {
      so_far : IsChain next l.start l.counter l.chain.items;
      claimed : l.claims.list.items ≡ l.fn.claims.list.items ++ l.chain.items;
      limit : vec_len l.claims.marks ≡ vec_len l.fn.claims.marks;
      only : (chain : List ℕ)
          → IsChain next l.start l.count chain
          → CanClaim (vec_len l.fn.claims.marks) l.fn.claims.list.items chain
          → l.chain.items ≡ take l.counter chain;
      steps : l.steps ≡ l.fn.steps + (l.counter - 1);
    }
