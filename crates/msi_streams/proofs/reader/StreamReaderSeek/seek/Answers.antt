use Rattle.std.proofs.Common.{◌∙◌, ap, sym, Err}
use Rattle.std.proofs.lemmas.Result.{err_from_is_err_and}
use Rattle.msi_streams.proofs.CursorLemmas.{refused_stays}
use Rattle.msi_streams.proofs.reader.StreamReaderSeek.seek.Goals as goal

pub returns-in_err-place-clause-outcome : goal.returns-in_err-place-clause-outcome
returns-in_err-place-clause-outcome c =
    let e = err_from_is_err_and c.from_residual.result c.from_residual.ensures.1 in
    refused_stays c.args.self.now (record { bytes = c.self.inside.bytes.now; place = c.self.inside.place }) c.args.to c.from_residual.result c.seek_place.result e.0 e.1
    (c.in_err-place.was ∙ ap Err (sym e.2)) c.self.view_is c.seek_place.ensures.place
