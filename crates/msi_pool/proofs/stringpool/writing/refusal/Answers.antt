use Rattle.std.proofs.Common.{◌≡◌, true, is_some, sym, ap, ◌∙◌}
use Rattle.msi_base.specs.declared.codepage.CodePage.{CodePage}
use Rattle.msi_pool_places.specs.Pool.{Place, place_bytes}
use Rattle.msi_pool.specs.PoolWriting.{is_refused_spelling}
use Rattle.msi_pool_places.proofs.PlaceLoopLemmas.{none_more, one_passes}
use Rattle.msi_pool.proofs.stringpool.writing.refusal.Goals as goal

pub returns-then-is_some-clause-refused : goal.returns-then-is_some-clause-refused
returns-then-is_some-clause-refused c =
    let pool = c.args.pool.now in
    let refused = λ (page : CodePage) (p : Place). is_refused_spelling (place_bytes page p) in
    let yes : is_some c.place_refusal-reason.result ≡ true = sym c.is_some.ensures ∙ c.if-is_some.true in
    yes ∙ sym (one_passes (refused pool.page) pool.places c.loop-at.at c.place.result c.place.ensures
    (ap (λ page. refused page c.place.result) (sym c.codepage-page.ensures) ∙ sym c.place_refusal-reason.ensures ∙ yes))

pub loop-at-preserved : goal.loop-at-preserved
loop-at-preserved c =
    let pool = c.args.pool.now in
    let refused = λ (page : CodePage) (p : Place). is_refused_spelling (place_bytes page p) in
    none_more (refused pool.page) pool.places c.loop-at.at c.place.result c.place.ensures c.loop-at.invariant
    (ap (λ page. refused page c.place.result) (sym c.codepage-page.ensures) ∙ sym c.place_refusal-reason.ensures ∙ sym c.is_some.ensures ∙ c.if-is_some.false)
