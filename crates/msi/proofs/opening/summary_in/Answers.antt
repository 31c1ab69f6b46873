use Rattle.std.proofs.Common.{◌∙◌, ap, sym, Some}
use Rattle.std.specs.FinMap.{entries}
use Rattle.msi_database_storage.specs.Streams.{stream_at}
use Rattle.msi.proofs.reading.OpenStepLemmas.{summary_stops}
use Rattle.msi.proofs.opening.summary_in.Goals as goal

pub returns-clause-kind : goal.returns-clause-kind
returns-clause-kind c =
    let streams = entries c.args.contents.now.streams in
    summary_stops c.args.contents.now c.summary_of.result c.as_slice.result.now (ap (λ name. stream_at name streams) (sym c.summary_key.ensures) ∙ c.in_ok-bytes.ensures.ok ∙ ap Some (sym c.as_slice.ensures))
    c.summary_of.ensures.only c.summary_of.ensures.kinds
