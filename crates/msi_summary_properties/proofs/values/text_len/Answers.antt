use Rattle.std.proofs.Common.{◌≡◌, Some, subst}
use Rattle.std.specs.Int.{w32}
use Rattle.msi_base.specs.Numbers.{number_at}
use Rattle.msi_summary_properties.proofs.SharedTextsLemmas.{begins_text}
use Rattle.msi_summary_properties.proofs.values.text_len.Goals as goal

pub returns-then-rest-size-eq0 : goal.returns-then-rest-size-eq0
returns-then-rest-size-eq0 c =
    let bytes = c.args.bytes.now in
    let kind = subst (λ k. number_at w32 bytes ≡ Some (k, c.in-Ok.rest.now)) c.if-kind-eq30.true c.in-Ok.ensures in
    rw c.saturating_sub-size.ensures (begins_text bytes c.in-Ok.rest.now c.in-Ok-u32_at.rest.now c.in-Ok-u32_at.count kind c.in-Ok-u32_at.ensures (rw (← c.saturating_sub-size.ensures) c.if-size-rest.true) (rw (← c.saturating_sub-size.ensures) c.if-rest-size-eq0.true))
