use Rattle.std.proofs.Common.{ap, map, sym, ◌∙◌}
use Rattle.std.specs.Str.{trim_end}
use Rattle.std.proofs.lemmas.Simd.{map-map}
use Rattle.std.proofs.lemmas.Iterator.Consumers.{YieldsList-at, YieldsList-end}
use Rattle.msi_summary.proofs.KeywordLemmas.{YieldsList-from_keyword_pieces}
use Rattle.msi_summary.proofs.summary.keywords.trimmed_pieces.Goals as goal

pub returns-clause-ok : goal.returns-clause-ok
returns-clause-ok c =
    let pieces = YieldsList-from_keyword_pieces c.args.text.now c.split-piece-items.ensures.text c.split-piece-items.ensures.has_more (ap (λ p. p.now) c.split-piece-items.ensures.pattern) in
    let all = YieldsList-end (YieldsList-at c.into_iter-piece-iterator.ensures.into_iter_gives pieces) c.loop-piece.yielded c.loop-piece.piece-iterator c.loop-piece.yielded_by c.next.result c.next.new.self c.in-None.is c.next.ensures.steps in
    c.loop-piece.invariant.so_far ∙ sym (map-map trim_end (λ piece. piece.now) c.loop-piece.yielded) ∙ ap (map trim_end) all.0
