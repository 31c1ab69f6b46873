use Rattle.msi_summary.proofs.NumeralLemmas.{u16_in-ok, u16_in-err}
use Rattle.msi_summary.proofs.summary.template.language_in.Goals as goal

pub returns-in-Ok : goal.returns-in-Ok
returns-in-Ok c = rw c.from_id.ensures (u16_in-ok c.args.text.now c.in-Ok.id c.in-Ok.ensures.value.0)

pub returns-in-Err : goal.returns-in-Err
returns-in-Err c = u16_in-err c.args.text.now c.in-Err.ensures.value.0
