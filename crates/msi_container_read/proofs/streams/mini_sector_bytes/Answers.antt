use Rattle.std.proofs.Common.{◌≡◌, ◌-◌, ◌*◌, ℕ, List, length, get_or, min, arith, ◌∙◌, ap}
use Rattle.std.proofs.lemmas.List.FromFn.{length-map-range_with_len}
use Rattle.msi_container_format.specs.Bytes.{place}
use Rattle.msi_container_format.specs.Container.{sector_size}
use Rattle.msi_container_read.proofs.chains.SectorBytesLemmas.{mini_sector_bytes_more}
use Rattle.msi_container_read.proofs.streams.mini_sector_bytes.Goals as goal

pub overflow_sub-count : goal.overflow_sub-count
overflow_sub-count c =
    let long = ap (λ (xs : List ℕ). length xs) c.loop-mini_sector.invariant ∙ length-map-range_with_len _ 0 _ in
    omega arith

pub loop-mini_sector-preserved : goal.loop-mini_sector-preserved
loop-mini_sector-preserved c =
    let bytes = c.args.bytes.now in
    let mini_stream = c.args.mini_stream.now in
    let mini_sectors = c.args.mini_sectors.now in
    let count = c.args.count in
    let i = c.loop-mini_sector.mini_sector-index in
    let long = ap (λ (xs : List ℕ). length xs) c.loop-mini_sector.invariant ∙ length-map-range_with_len _ 0 _ in
    let wanted : c.min-wanted.result ≡ min 64 (count - min count (i * 64)) = omega (arith, c.min-wanted.ensures) in
    let from : c.place-from.result ≡ place (sector_size bytes) mini_stream (64 * get_or mini_sectors i 0) =
    c.place-from.ensures.value ∙ ap (λ s. place s mini_stream (64 * get_or mini_sectors i 0)) c.sector_size-size.ensures.value in
    c.in_ok-push_bytes.ensures ∙ rw (c.loop-mini_sector.invariant, wanted, from) (mini_sector_bytes_more bytes mini_stream mini_sectors i count)
