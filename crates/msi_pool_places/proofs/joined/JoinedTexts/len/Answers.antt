use Rattle.std.proofs.Common.{arith}
use Rattle.msi_pool_places.proofs.JoinedTextsLemmas.{length-cut}
use Rattle.msi_pool_places.proofs.joined.JoinedTexts.len.Goals as goal

pub returns : goal.returns
returns c =
    let texts = c.args.self.now in
    omega (arith, c.len.ensures, texts.counts.ok.0, length-cut texts.whole 0 texts.ends texts.counts.items)
