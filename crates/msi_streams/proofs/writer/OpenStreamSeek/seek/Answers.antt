use Rattle.std.proofs.Common.{◌∙◌, ap, sym, Err, List, ℕ}
use Rattle.std.proofs.lemmas.Result.{err_from_is_err_and}
use Rattle.msi_streams.specs.Cursor.{Cursor}
use Rattle.msi_streams.proofs.CursorLemmas.{refused_stays}
use Rattle.msi_streams.proofs.writer.OpenStreamSeek.seek.Goals as goal

pub returns-in_err-place-clause-outcome : goal.returns-in_err-place-clause-outcome
returns-in_err-place-clause-outcome c =
    let e = err_from_is_err_and c.from_residual.result c.from_residual.ensures.1 in
    let cursor : List ℕ → Cursor = λ bytes. record { bytes = bytes; place = c.self.inside.place } in
    refused_stays c.args.self.now (cursor c.as_slice.result.now) c.args.to c.from_residual.result c.seek_place.result e.0 e.1
    (c.in_err-place.was ∙ ap Err (sym e.2)) (ap cursor c.as_slice.ensures.value ∙ c.self.view_is) c.seek_place.ensures.place
