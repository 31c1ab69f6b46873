use Rattle.std.proofs.Common.{◌+◌, ◌*◌, ap}
use Rattle.msi_container_read.proofs.chains.RunLemmas.{run_bytes}
use Rattle.msi_container_read.proofs.runs.run_start.Goals as goal

pub returns-then-count-bytes-clause-same : goal.returns-then-count-bytes-clause-same
returns-then-count-bytes-clause-same c =
    let first = c.in_ok-first.field-0.now in
    run_bytes c.args.bytes.now first c.args.sectors.now ((first + 1) * c.sector_size.result) c.args.count
    (c.is_run.ensures c.if-is_run.true) (ap (λ size. (first + 1) * size) c.sector_size.ensures.value) c.requires
