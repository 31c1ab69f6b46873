use Rattle.std.proofs.Common.{◌≡◌, List, ℕ, ◌++◌, length, take, vec_len}
use Rattle.msi_container_format.specs.Chains.{IsChain}
use Rattle.msi_container_format.specs.Container.{next_difat, difat_start, IsDifat}
use Rattle.msi_container_tables.specs.Claims.{CanClaim}
use Rattle.msi_container_view.specs.Reading.{Tells}
use Rattle.msi_container_view.specs.Tables.{ReadsOn, StandAt}
use Rattle.msi_container_view.proofs.looking.look_difat.Given as goal

abbrev pub invariant-loop : goal.invariant-loop
invariant-loop g l = record {
  so_far : (file : List ℕ) → Tells l.fn.tables.held file → IsChain (next_difat file) (difat_start file) l.counter l.difat.sectors.items;
  many : length l.difat.sectors.items ≡ l.counter;
  reads : ReadsOn l.fn.tables l.tables l.counter;
  stand : StandAt l.fn.tables.held l.tables.copy l.difat.sectors.items l.difat.places.items;
  claimed : l.claims.list.items ≡ l.fn.claims.list.items ++ l.difat.sectors.items;
  limit : vec_len l.claims.marks ≡ vec_len l.fn.claims.marks;
  only : (file : List ℕ)
      → Tells l.fn.tables.held file
      → (difat : List ℕ)
      → IsDifat file difat
      → CanClaim (vec_len l.fn.claims.marks) l.fn.claims.list.items difat
      → l.difat.sectors.items ≡ take l.counter difat;
}
