use Rattle.std.proofs.Common.{ap}
use Rattle.msi_base.specs.declared.errors.ErrorKind.TheVariants.{InvalidData}
use Rattle.msi_base.specs.Refusals.{or_refused}
use Rattle.msi_transform_applying.specs.LeftInHand.{left_in_hand}
use Rattle.msi_database.proofs.TransformingLemmas.{opened_refused, refused_nowhere}
use Rattle.msi_database.proofs.applying.opened.Goals as goal

pub returns-in_err-recount-clause-kind : goal.returns-in_err-recount-clause-kind
returns-in_err-recount-clause-kind c = let kind = c.in_err-recount.field-0.0 in
    refused_nowhere c.from_residual-in_err-recount.result kind _ c.from_residual-in_err-recount.ensures.1
    (opened_refused (left_in_hand c.args.left) c.in_ok-database.database (ap (or_refused InvalidData) c.in_ok-database.ensures.read) kind c.in_err-recount.ensures.kind)
