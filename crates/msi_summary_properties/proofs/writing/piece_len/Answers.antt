use Rattle.std.proofs.lemmas.Result.{err_from_is_err_and}
use Rattle.msi_summary_properties.specs.PropertyStream.{value_bytes}
use Rattle.msi_summary_properties.proofs.PlainSectionLemmas.{sized_padded, untold_padded}
use Rattle.msi_summary_properties.proofs.writing.piece_len.Goals as goal

pub returns-clause-len : goal.returns-clause-len
returns-clause-len c = sized_padded (value_bytes c.args.page c.args.value.now) c.in_ok-len.len c.padding.result c.in_ok-len.ensures.len c.padding.ensures.value

pub returns-in_err-len-clause-refused : goal.returns-in_err-len-clause-refused
returns-in_err-len-clause-refused c =
    let p = err_from_is_err_and c.from_residual.result c.from_residual.ensures.1 in
    rw p.1 (untold_padded (value_bytes c.args.page c.args.value.now) c.in_err-len.ensures.refused)
