-- Bytes in sectors that follow one another lie in one piece.
use Rattle.std.proofs.Common.{◌≡◌, ℕ, ◌+◌, ◌*◌, ◌/◌, ◌<◌, ◌≤◌, ◌==◌, Bool, true, false, cond, List, length, get_or, map, ◌∙◌, ap, arith}
use Rattle.std.specs.List.{range_with_len}
use Rattle.std.proofs.lemmas.List.FromFn.{length-map-range_with_len, get_or-map-range_with_len, fill_by_all}
use Rattle.msi_container_format.specs.Bytes.{bytes_at, place}
use Rattle.msi_container_format.specs.Container.{version, sector_size, sector_byte}
use Rattle.msi_container_read.specs.Runs.{IsRun}

-- byte k of what lies in them stands k behind the first
run_place : (large : Bool) (first : ℕ) (sectors : List ℕ) (k : ℕ)
    → IsRun first sectors
    → k < length sectors * cond large 4096 512
    → (first + 1) * cond large 4096 512 + k ≡ place (cond large 4096 512) sectors k
run_place true first sectors k run l =
    let inside : k / 4096 < length sectors = omega arith in
    let at : get_or sectors (k / 4096) 0 ≡ first + k / 4096 = run (k / 4096) inside in
    omega (arith, at)
run_place false first sectors k run l =
    let inside : k / 512 < length sectors = omega arith in
    let at : get_or sectors (k / 512) 0 ≡ first + k / 512 = run (k / 512) inside in
    omega (arith, at)

pub run_bytes : (bytes : List ℕ) (first : ℕ) (sectors : List ℕ) (start count : ℕ)
    → IsRun first sectors
    → start ≡ (first + 1) * sector_size bytes
    → count ≤ length sectors * sector_size bytes
    → bytes_at bytes start count ≡ map (sector_byte bytes sectors) (range_with_len 0 count)
run_bytes bytes first sectors start count run from enough =
    let there : ℕ → ℕ = λ k. get_or bytes (start + k) 0 in
    fill_by_all (sector_byte bytes sectors) (bytes_at bytes start count) count 0 (length-map-range_with_len there 0 count) (λ k l.
    let at : start + k ≡ place (sector_size bytes) sectors k = ap (λ s. s + k) from ∙ run_place (version bytes == 4) first sectors k run (omega arith) in
    get_or-map-range_with_len there 0 count k k 0 l (omega arith) ∙ ap (λ p. get_or bytes p 0) at)
