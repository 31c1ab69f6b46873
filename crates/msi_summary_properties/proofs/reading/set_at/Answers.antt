use Rattle.std.proofs.Common.{◌≡◌, Some, arith}
use Rattle.std.proofs.lemmas.Result.{err_from_is_err_and}
use Rattle.msi_summary_properties.specs.HeaderView.{view_head}
use Rattle.msi_summary_properties.specs.Reading.{set_put, set_with}
use Rattle.msi_summary_properties.proofs.SetPartsLemmas.{put_made, put_fails}
use Rattle.msi_summary_properties.proofs.SetReadLemmas.{kept_read}
use Rattle.msi_summary_properties.proofs.reading.set_at.Goals as goal

pub from_parts-requires : goal.from_parts-requires
from_parts-requires c =
    let made : set_put c.args.bytes.now ≡ Some (set_with (view_head c.in_ok-head.head) c.in_ok-values.values.entries) = put_made c.args.bytes.now c.rest_from-rest.result.now (view_head c.in_ok-head.head) c.in_ok-pairs.pairs.items c.in_ok-page.page c.in_ok-values.values.entries c.in_ok-head.ensures c.rest_from-rest.ensures c.in_ok-pairs.ensures (rw (← c.deref.ensures.value) c.in_ok-page.ensures) (rw (← c.deref-2.ensures.value) c.in_ok-values.ensures) in
    kept_read c.args.bytes.now (set_with (view_head c.in_ok-head.head) c.in_ok-values.values.entries) (λ i. omega (arith, c.type_inv.bytes i)) made

pub returns : goal.returns
returns c = rw c.from_parts.ensures (put_made c.args.bytes.now c.rest_from-rest.result.now (view_head c.in_ok-head.head) c.in_ok-pairs.pairs.items c.in_ok-page.page c.in_ok-values.values.entries c.in_ok-head.ensures c.rest_from-rest.ensures c.in_ok-pairs.ensures (rw (← c.deref.ensures.value) c.in_ok-page.ensures) (rw (← c.deref-2.ensures.value) c.in_ok-values.ensures))

pub returns-in_err-values : goal.returns-in_err-values
returns-in_err-values c =
    let p = err_from_is_err_and c.from_residual-in_err-values.result c.from_residual-in_err-values.ensures.1 in
    rw (p.1, p.2) (put_fails c.args.bytes.now c.rest_from-rest.result.now (view_head c.in_ok-head.head) c.in_ok-pairs.pairs.items c.in_ok-page.page c.in_err-values.field-0.0 c.in_ok-head.ensures c.rest_from-rest.ensures c.in_ok-pairs.ensures (rw (← c.deref.ensures.value) c.in_ok-page.ensures) (rw (← c.deref-2.ensures.value) c.in_err-values.ensures))
