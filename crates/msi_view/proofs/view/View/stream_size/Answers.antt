use Rattle.std.proofs.Common.{rules, ◌≡◌, ◌∙◌, Some, ap, sym, option_map}
use Rattle.std.specs.Option.{option_copied}
use Rattle.msi_view.specs.Looking.{bytes_counted}
use Rattle.msi_view.proofs.view.View.stream_size.Goals as goal

pub returns-in-Some : goal.returns-in-Some
returns-in-Some g c =
    let counted : c.byte_count.result ≡ bytes_counted c.in-Some.extents.now = search rules in
    ap Some counted ∙ ap (λ o. option_map bytes_counted (option_copied o)) (sym c.in-Some.is) ∙ ap (option_map bytes_counted) c.extents_of_stream.ensures

pub returns-in-None : goal.returns-in-None
returns-in-None g c = ap (λ o. option_map bytes_counted (option_copied o)) (sym c.in-None.is) ∙ ap (option_map bytes_counted) c.extents_of_stream.ensures
