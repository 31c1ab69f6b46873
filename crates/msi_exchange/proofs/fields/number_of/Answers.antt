use Rattle.std.proofs.Common.{◌∙◌, Some, ap, subst, sym, w32}
use Rattle.std.specs.Int.RustNames.{FitsSigned}
use Rattle.std.proofs.lemmas.Int.{to_z-of_z}
use Rattle.std.proofs.lemmas.Result.{OkIff-at_ok}
use Rattle.msi_exchange.specs.Fields.{number_in}
use Rattle.msi_exchange.proofs.ListLemmas.{refused}
use Rattle.msi_exchange.proofs.NumeralLemmas.{number_decides, parsed_err, parsed_ok}
use Rattle.msi_exchange.proofs.fields.number_of.Goals as goal

pub returns-in-Ok : goal.returns-in-Ok
returns-in-Ok c =
    let p = OkIff-at_ok c.parse.result _ _ c.in-Ok.number c.parse.ensures.value.0 c.in-Ok.is in
    parsed_ok c.parse.result _ _ c.in-Ok.number (number_decides c.args.field.now) c.parse.ensures.value.0 c.in-Ok.is
    ∙ ap Some (sym (to_z-of_z w32 c.in-Ok.number (subst (FitsSigned w32) (sym p.1) p.0.1)))

pub returns-in-Err : goal.returns-in-Err
returns-in-Err c =
    refused c.new.result (number_in c.args.field.now) c.new.ensures
    (parsed_err c.parse.result _ _ c.in-Err.field-0 (number_decides c.args.field.now) c.parse.ensures.value.0 c.in-Err.is)
