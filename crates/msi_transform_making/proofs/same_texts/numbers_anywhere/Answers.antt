use Rattle.std.proofs.Common.{◌+◌, ◌∙◌, ℕ, ap, length}
use Rattle.std.proofs.lemmas.List.{length_push}
use Rattle.msi_transform_making.proofs.SameTextsLemmas.{texts_push}
use Rattle.msi_transform_making.proofs.same_texts.numbers_anywhere.Goals as goal

pub loop-at-preserved : goal.loop-at-preserved
loop-at-preserved c = record {
  texts = texts_push c.args.old.now.places c.args.new.now.places c.loop-at.numbers.items c.push.new.self.items (c.loop-at.at + 1) c.number_anywhere.result
      c.in_ok-push.ensures.items c.loop-at.invariant.many c.number_anywhere.ensures c.loop-at.invariant.texts;
  many = ap length c.in_ok-push.ensures.items ∙ length_push c.loop-at.numbers.items c.number_anywhere.result ∙ ap (λ (n : ℕ). n + 1) c.loop-at.invariant.many;
}
