use Rattle.std.proofs.Common.{◌<◌, subst}
use Rattle.std.specs.Prelude.{◌↔◌, IsTrue, IsUtf8}
use Rattle.msi_base.specs.declared.codepage.CodePage.{CodePage}
use Rattle.msi_base.specs.Pages.{IsWritable}
use Rattle.msi_pool_places.specs.Pool.{Place}
use Rattle.msi_pool_places.proofs.PlaceLoopLemmas.{all_more, all_then}
use Rattle.msi_pool.proofs.stringpool.pool.StringPool.is_writable.Goals as goal

pub loop-at-preserved : goal.loop-at-preserved
loop-at-preserved c =
    let pool = c.args.self.now in
    let place = c.place.result in
    let here = subst (λ (page : CodePage). IsTrue c.reads_back-all.result ↔ ((0 < place.count) → IsWritable page place.text)) c.codepage.ensures c.reads_back-all.ensures.exact in
    record {
      exact = all_more (λ (p : Place). (0 < p.count) → IsWritable pool.page p.text) c.loop-at.all c.reads_back-all.result pool.places c.loop-at.at place c.place.ensures c.loop-at.invariant.exact here;
      utf8 = all_then (λ (p : Place). IsUtf8 p.text) pool.places c.loop-at.at place c.place.ensures c.loop-at.invariant.utf8 c.reads_back-all.ensures.utf8;
    }
