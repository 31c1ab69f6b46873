use Rattle.std.proofs.lemmas.Result.{IfOk-weaker}
use Rattle.msi_container_tables.specs.Reading.{views}
use Rattle.msi_container_view.proofs.outline.look_streams.Goals as goal

pub returns-clause-found : goal.returns-clause-found
returns-clause-found c =
    IfOk-weaker c.locate.result _ _ (λ located found file h f d n.
    let told = found file h d in
    let chained = c.in_ok-chains.ensures.found file h f n d in
    (views c.in_ok-chains.chains.items, rw c.as_slice.ensures.value at chained, told.0, rw (c.as_slice-2.ensures.value, c.as_slice-3.ensures.value) at told.1))
    c.locate.ensures.found
