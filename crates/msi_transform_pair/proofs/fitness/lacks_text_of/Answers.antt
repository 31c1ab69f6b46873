use Rattle.std.proofs.Common.{◌+◌, ◌∙◌, Bool, ap, arith, drop, sym}
use Rattle.std.specs.Prelude.{◌||◌}
use Rattle.msi_base.specs.declared.codepage.CodePage.{CodePage}
use Rattle.msi_pool.specs.FirstFitLaws.{count_at, text_at}
use Rattle.msi_transform_pair.specs.Pair.{is_lacking}
use Rattle.msi_transform_pair.proofs.FitnessLemmas.{is_lacked, lacked_more}
use Rattle.msi_transform_pair.proofs.fitness.lacks_text_of.Goals as goal

pub returns-then-lacking : goal.returns-then-lacking
returns-then-lacking c =
    let pool = c.args.pool.now in
    let rest = is_lacked pool.page (drop (c.loop-at.at + 1) pool.places) in
    let more = lacked_more pool.page pool.places c.loop-at.at c.refcount.result c.get.result.now c.is_lacking-lacking.result (omega arith)
    (c.refcount.ensures ∙ ap (count_at pool.places) c.string_ref-reference.ensures) (c.get.ensures ∙ ap (text_at pool.places) c.string_ref-reference.ensures) (c.is_lacking-lacking.ensures ∙ ap (λ (p : CodePage). is_lacking p (record { text = c.get.result.now; count = c.refcount.result })) c.codepage.ensures) in
    sym (sym c.loop-at.invariant.same ∙ more ∙ ap (λ (b : Bool). b || rest) c.if-lacking.true)

pub loop-at-preserved : goal.loop-at-preserved
loop-at-preserved c =
    let pool = c.args.pool.now in
    let rest = is_lacked pool.page (drop (c.loop-at.at + 1) pool.places) in
    let more = lacked_more pool.page pool.places c.loop-at.at c.refcount.result c.get.result.now c.is_lacking-lacking.result (omega arith)
    (c.refcount.ensures ∙ ap (count_at pool.places) c.string_ref-reference.ensures) (c.get.ensures ∙ ap (text_at pool.places) c.string_ref-reference.ensures) (c.is_lacking-lacking.ensures ∙ ap (λ (p : CodePage). is_lacking p (record { text = c.get.result.now; count = c.refcount.result })) c.codepage.ensures) in
    record { same = sym (more ∙ ap (λ (b : Bool). b || rest) c.if-lacking.false) ∙ c.loop-at.invariant.same }
