use Rattle.std.proofs.Common.{◌+◌, ◌≤◌, ◌⊎◌, ◌∙◌, Bool, ap, arith, inl, inr, length, sym}
use Rattle.std.specs.Prelude.{◌||◌}
use Rattle.std.proofs.lemmas.Bool.{cases_lt}
use Rattle.msi_transform_making.specs.Making.{tells_stream}
use Rattle.msi_transform_making.proofs.SideLemmas.{marked_end, marked_from, stream_more}
use Rattle.msi_transform_making.proofs.record.tells_stream.Goals as goal

pub returns-then-tells : goal.returns-then-tells
returns-then-tells c =
    let rest = tells_stream (marked_from c.args.columns.now c.args.marked.now c.args.values.now (c.loop-i.i + 1)) in
    let more = stream_more c.args.columns.now c.args.marked.now c.args.values.now c.loop-i.i c.index-columns-i.result c.tells.result (omega arith) (omega arith) c.index-columns-i.is c.tells.ensures in
    sym (sym c.loop-i.invariant.same ∙ more ∙ ap (λ (b : Bool). b || rest) c.if-tells.true)

pub loop-i-preserved : goal.loop-i-preserved
loop-i-preserved c =
    let rest = tells_stream (marked_from c.args.columns.now c.args.marked.now c.args.values.now (c.loop-i.i + 1)) in
    let more = stream_more c.args.columns.now c.args.marked.now c.args.values.now c.loop-i.i c.index-columns-i.result c.tells.result (omega arith) (omega arith) c.index-columns-i.is c.tells.ensures in
    record { same = sym (more ∙ ap (λ (b : Bool). b || rest) c.if-tells.false) ∙ c.loop-i.invariant.same }

pub returns : goal.returns
returns c =
    let past : (length c.args.columns.now ≤ c.loop-i.i) ⊎ (length c.args.values.now ≤ c.loop-i.i) =
    elim (cases_lt (length c.args.columns.now) (length c.args.values.now)) [ inl f ↦ inl (omega arith) | inr g ↦ inr (omega arith) ] in
    sym (sym c.loop-i.invariant.same ∙ ap tells_stream (marked_end c.args.columns.now c.args.marked.now c.args.values.now c.loop-i.i past))
