use Rattle.std.proofs.Common.{◌≡◌, length, arith, ◌∙◌}
use Rattle.msi_pool_places.proofs.ForgettingLemmas.{gone_through-all, gone_through-more}
use Rattle.msi_pool_places.proofs.places.forget_texts.Goals as goal

pub loop-i-preserved : goal.loop-i-preserved
loop-i-preserved c =
    let same : length c.args.is_named.now ≡ length c.args.places.now.items = omega (arith, c.requires, c.args.places.now.ok.0) in
    gone_through-more c.args.is_named.now c.args.places.now.items c.loop-i.places.items c.loop-i.i _ c.index_mut.result.now c.forget_text.new.place
    c.loop-i-test.true same c.loop-i.invariant c.index_mut.ensures.value c.forget_text.ensures

pub returns-clause-items : goal.returns-clause-items
returns-clause-items c =
    let same : length c.args.is_named.now ≡ length c.args.places.now.items = omega (arith, c.requires, c.args.places.now.ok.0) in
    c.loop-i.invariant ∙ gone_through-all c.args.is_named.now c.args.places.now.items c.loop-i.i same c.loop-i-test.false
