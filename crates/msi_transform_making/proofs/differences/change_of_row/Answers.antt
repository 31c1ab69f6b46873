use Rattle.std.proofs.Common.{◌≡◌, ◌∙◌, ap, sym, true}
use Rattle.msi_transform_making.specs.Making.{can_be_marked}
use Rattle.msi_transform_making.proofs.MaskLemmas.{mask_small}
use Rattle.msi_transform_making.proofs.differences.change_of_row.Goals as goal

pub changing-requires-clause-small : goal.changing-requires-clause-small
changing-requires-clause-small c =
    let bits : can_be_marked c.as_slice-2.result.now ≡ true =
    ap can_be_marked (c.as_slice-2.ensures.value ∙ sym c.as_slice.ensures.value) ∙ sym c.can_be_marked.ensures ∙ c.if-not-can_be_marked.false in
    mask_small c.as_slice-2.result.now c.in-Some.other.now c.args.row.now (c.as_slice-2.ensures.value ∙ c.in_ok-marked.ensures.ok) bits
