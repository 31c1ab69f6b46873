use Rattle.std.proofs.Common.{sym}
use Rattle.msi_exchange.proofs.NumeralLemmas.{parsed_err, parsed_ok, u16_decides}
use Rattle.msi_exchange.proofs.type_fields.u16_of.Goals as goal

pub returns-in-Ok : goal.returns-in-Ok
returns-in-Ok c = sym (parsed_ok c.parse.result _ _ c.in-Ok.number (u16_decides c.args.text.now) c.parse.ensures.value.0 c.in-Ok.is)

pub returns-in-Err : goal.returns-in-Err
returns-in-Err c = sym (parsed_err c.parse.result _ _ c.in-Err.field-0 (u16_decides c.args.text.now) c.parse.ensures.value.0 c.in-Err.is)
