use Rattle.std.proofs.Common.{rules, ◌≡◌}
use Rattle.msi_container_device.specs.Held.{bytes_told}
use Rattle.msi_container_view.proofs.outline_lemmas.PassedAnswers.{broken_for}
use Rattle.msi_container_view.proofs.view.ContainerView.open.Goals as goal

pub returns-in_err-outline-clause-invalid : goal.returns-in_err-outline-clause-invalid
returns-in_err-outline-clause-invalid g c =
    let told : bytes_told c.in_ok-tables.tables.held ≡ bytes_told (g.S.Source.held c.args.source) = search rules in
    broken_for g.S.Source.can_fail _ c.in_ok-tables.tables.held _ c.from_residual-in_err-outline.result _ c.from_residual-in_err-outline.ensures.1 told c.in_err-outline.ensures.answer
