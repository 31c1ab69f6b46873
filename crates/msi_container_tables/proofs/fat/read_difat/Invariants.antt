use Rattle.std.proofs.Common.{◌≡◌, List, ℕ, ◌++◌, vec_len, take}
use Rattle.msi_container_format.specs.Bytes.{number32}
use Rattle.msi_container_format.specs.Chains.{IsChain}
use Rattle.msi_container_tables.specs.Claims.{CanClaim}
use Rattle.msi_container_format.specs.Container.{next_difat, IsDifat}
use Rattle.msi_container_tables.proofs.fat.read_difat.Given as goal

abbrev pub invariant-loop : goal.invariant-loop
invariant-loop l = record {
  so_far : IsChain (next_difat l.bytes) (number32 l.bytes 68) l.counter l.difat.items;
  claimed : l.claims.list.items ≡ l.fn.claims.list.items ++ l.difat.items;
  limit : vec_len l.claims.marks ≡ vec_len l.fn.claims.marks;
  only : (difat : List ℕ)
      → IsDifat l.bytes difat
      → CanClaim (vec_len l.fn.claims.marks) l.fn.claims.list.items difat
      → l.difat.items ≡ take l.counter difat;
}
