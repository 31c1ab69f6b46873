use Rattle.std.proofs.Common.{◌≡◌, ◌-◌, ◌*◌, ℕ, List, length, min, arith, ◌∙◌, ap}
use Rattle.std.proofs.lemmas.List.FromFn.{length-map-range_with_len}
use Rattle.msi_container_format.specs.Container.{sector_size}
use Rattle.msi_container_read.proofs.chains.SectorBytesLemmas.{sector_bytes_more}
use Rattle.msi_container_read.proofs.streams.sector_bytes.Goals as goal

pub overflow_sub-count : goal.overflow_sub-count
overflow_sub-count c =
    let long = ap (λ (xs : List ℕ). length xs) c.loop-sector.invariant ∙ length-map-range_with_len _ 0 _ in
    omega arith

pub loop-sector-preserved : goal.loop-sector-preserved
loop-sector-preserved c =
    let bytes = c.args.bytes.now in
    let count = c.args.count in
    let i = c.loop-sector.sector-index in
    let size = c.sector_size-size.ensures.value in
    let long = ap (λ (xs : List ℕ). length xs) c.loop-sector.invariant ∙ length-map-range_with_len _ 0 _ in
    let so_far : c.len.result ≡ min count (i * sector_size bytes) = omega arith in
    let wanted : c.min-wanted.result ≡ min (sector_size bytes) (count - min count (i * sector_size bytes)) = c.min-wanted.ensures ∙ rw (size, so_far) in
    c.in_ok-push_bytes.ensures ∙ rw (c.loop-sector.invariant, wanted, size) (sector_bytes_more bytes c.args.sectors.now i count)
