use Rattle.std.proofs.Common.{◌+◌, ◌∙◌, arith, drop, length, take}
use Rattle.std.specs.Prelude.{bytes_eq}
use Rattle.msi_transform.specs.TransformFiles.{begin_with_texts}
use Rattle.msi_transform.proofs.KeptTextsLemmas.{next_text, text_missing, text_passed, texts_passed}
use Rattle.msi_transform.proofs.kept_texts.begin_with_texts.Goals as goal

pub loop-at-preserved : goal.loop-at-preserved
loop-at-preserved c =
    let places = c.args.pool.now.places in
    let at = c.loop-at.at in
    let text = c.as_bytes.result.now in
    let rest = c.loop-at.rest.now in
    text_passed (bytes_eq (take (length text) rest) text) c.in-Some.left.now (drop (length text) rest) (drop (at + 1) places) (begin_with_texts places c.args.bytes.now)
    (c.loop-at.invariant ∙ next_text places at c.string_ref.result text rest (omega (arith, c.loop-at-test.true, c.num_strings-at-end.ensures.many)) c.string_ref.ensures (c.as_bytes.ensures.value ∙ c.get-text.ensures))
    c.in-Some.ensures.cases.0 c.in-Some.ensures.cases.1

pub returns-in-None : goal.returns-in-None
returns-in-None c =
    let places = c.args.pool.now.places in
    let at = c.loop-at.at in
    let text = c.as_bytes.result.now in
    let rest = c.loop-at.rest.now in
    text_missing (bytes_eq (take (length text) rest) text) (begin_with_texts (drop (at + 1) places) (drop (length text) rest)) (begin_with_texts places c.args.bytes.now)
    (c.loop-at.invariant ∙ next_text places at c.string_ref.result text rest (omega (arith, c.loop-at-test.true, c.num_strings-at-end.ensures.many)) c.string_ref.ensures (c.as_bytes.ensures.value ∙ c.get-text.ensures))
    c.in-None.ensures.cases

pub returns : goal.returns
returns c =
    let places = c.args.pool.now.places in
    texts_passed places c.loop-at.at c.loop-at.rest.now (begin_with_texts places c.args.bytes.now) c.loop-at.invariant
    (omega (arith, c.loop-at-test.false, c.loop-at.auto.at-end, c.num_strings-at-end.ensures.many))
