use Rattle.std.proofs.Common.{◌≡◌, ℕ, List, ◌+◌, ◌≤◌, ◌++◌, take, vec_len, sum_by}
use Rattle.std.specs.List.{AllZip}
use Rattle.msi_container_tables.specs.Claims.{CanClaim}
use Rattle.msi_container_format.specs.Container.{IsMembers, all_sectors, all_mini_sectors}
use Rattle.msi_container_tables.specs.Reading.{views}
use Rattle.msi_container_tables.specs.Counts.{links}
use Rattle.msi_container_tables.proofs.streams.walk_each.Given as goal

abbrev pub invariant-loop-entry : goal.invariant-loop-entry
invariant-loop-entry l =
    let bytes = l.directory.bytes.now in
    let directory = l.directory.sectors.now in
    let AreMembers = IsMembers bytes l.tables.fat.sectors.now l.tables.mini_fat.sectors.now directory in
    let done = views l.chains.items in
    record {
      so_far : AllZip AreMembers (take l.entry-index l.entries) done;
      sectors : l.uses.sectors.list.items ≡ l.fn.uses.sectors.list.items ++ all_sectors bytes directory l.entries done;
      mini_sectors : l.uses.mini_sectors.list.items ≡ l.fn.uses.mini_sectors.list.items ++ all_mini_sectors bytes directory l.entries done;
      limit : vec_len l.uses.sectors.marks ≡ vec_len l.fn.uses.sectors.marks;
      mini_limit : vec_len l.uses.mini_sectors.marks ≡ vec_len l.fn.uses.mini_sectors.marks;
      only : (chains : List (List ℕ))
          → AllZip AreMembers l.entries chains
          → CanClaim (vec_len l.fn.uses.sectors.marks) l.fn.uses.sectors.list.items (all_sectors bytes directory l.entries chains)
          → CanClaim (vec_len l.fn.uses.mini_sectors.marks) l.fn.uses.mini_sectors.list.items (all_mini_sectors bytes directory l.entries chains)
          → done ≡ take l.entry-index chains;
      bounded : l.steps + vec_len l.fn.uses.sectors.list + vec_len l.fn.uses.mini_sectors.list
          ≤ l.fn.steps + vec_len l.uses.sectors.list + vec_len l.uses.mini_sectors.list;
      exact : l.steps ≡ l.fn.steps + sum_by links done;
    }
