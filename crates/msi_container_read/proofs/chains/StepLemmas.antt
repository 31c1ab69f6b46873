-- How often a successor is looked up, and what its bounds follow from.
use Rattle.std.proofs.Common.{◌≡◌, ℕ, ◌+◌, ◌-◌, ◌≤◌, List, ◌++◌, inl, inr, subst, arith}
use Rattle.msi_container_format.specs.Container.{fat_of}
use Rattle.msi_container_tables.specs.Claims.{CanClaim}
use Rattle.msi_container_tables.specs.Reading.{IsStart, IsMini, mini_limit}
use Rattle.msi_container_tables.specs.Counts.{sectors_inside}
use Rattle.msi_container_read.specs.Steps.{HasMiniStream, IsWithinSectors}

-- what can be claimed below a limit can be below a higher one
raised : (limit more : ℕ) (used c : List ℕ) → limit ≤ more → CanClaim limit used c → CanClaim more used c
raised limit more used c h can = record { below = λ i l. omega (arith, can.below i l); distinct = can.distinct }

-- the parts that are read before the streams lead to the mini stream
pub has_mini_stream : (bytes : List ℕ) (limit : ℕ) (difat fat directory mini_fat mini_stream : List ℕ)
    → limit ≤ sectors_inside bytes
    → IsStart bytes limit difat fat directory
    → IsMini bytes limit (difat ++ fat ++ directory) fat directory mini_fat mini_stream
    → HasMiniStream bytes mini_stream
has_mini_stream bytes limit difat fat directory mini_fat mini_stream h s m =
    let inside = sectors_inside bytes in
    let P : List ℕ → Type 0 = λ f. IsStart bytes inside difat f directory × IsMini bytes inside (difat ++ f ++ directory) f directory mini_fat mini_stream in
    let start : IsStart bytes inside difat fat directory =
    record { header = s.header; difats = s.difats; fats = s.fats; chain = s.chain; room = raised limit inside _ _ h s.room } in
    let mini : IsMini bytes inside (difat ++ fat ++ directory) fat directory mini_fat mini_stream =
    record { table = m.table; stream = m.stream; room = raised limit inside _ _ h m.room } in
    let both : P (fat_of bytes difat) = subst P s.fats (start, mini) in
    (difat, directory, mini_fat, both.0, both.1)

-- before the mini stream was found, no more was looked up than what was claimed
pub within_sectors : (bytes : List ℕ) (old new claimed limit : ℕ) → new ≤ old + claimed → claimed ≤ limit → limit ≤ sectors_inside bytes → IsWithinSectors bytes (new - old)
within_sectors bytes old new claimed limit a b c = inl (omega arith)

-- and with it no more than there are sectors and mini sectors
pub within_both : (bytes mini_stream : List ℕ) (old new limit : ℕ)
    → HasMiniStream bytes mini_stream
    → new ≤ old + limit + mini_limit bytes mini_stream
    → limit ≤ sectors_inside bytes
    → IsWithinSectors bytes (new - old)
within_both bytes mini_stream old new limit h a b = inr (mini_stream, h, omega arith)

-- steps that were counted from none on
pub within_from_none : (bytes : List ℕ) (old new : ℕ) → old ≡ 0 → IsWithinSectors bytes (new - old) → IsWithinSectors bytes new
within_from_none bytes old new none h = subst (IsWithinSectors bytes) (omega (arith, none)) h
