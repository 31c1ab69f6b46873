use Rattle.std.proofs.Common.{rules, ◌≡◌, is_some, ap, ◌∙◌}
use Rattle.std.specs.FinMap.{entries, get}
use Rattle.msi_database_schema.specs.Keys.{signature_key}
use Rattle.msi_container_view.specs.Views.{extents_at}
use Rattle.msi_container_view.proofs.ViewLemmas.{extents_are}
use Rattle.msi_view.proofs.ViewLemmas.{is_some_copied}
use Rattle.msi_view.proofs.view.View.has_digital_signature.Goals as goal

pub returns : goal.returns
returns g c =
    let listed : entries c.streams.result.now ≡ c.args.self.now.streams = search rules in
    c.is_some.ensures ∙ is_some_copied c.get.result ∙ ap is_some c.get.ensures
    ∙ ap (λ name. is_some (get c.streams.result.now name)) c.signature_key.ensures
    ∙ ap is_some (extents_are c.streams.result.now signature_key)
    ∙ ap (λ located. is_some (extents_at signature_key located)) listed
