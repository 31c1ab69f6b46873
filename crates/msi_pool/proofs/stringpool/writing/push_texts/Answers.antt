use Rattle.msi_pool.specs.PoolWriting.{piece_of}
use Rattle.msi_pool.proofs.PoolWritingLemmas.{told_at, bytes_more}
use Rattle.msi_pool.proofs.stringpool.writing.push_texts.Goals as goal

pub push_text-requires : goal.push_text-requires
push_text-requires c = rw c.codepage-page.ensures (told_at c.args.pool.now.page c.args.pool.now.places c.loop-at.at c.place.result c.requires c.place.ensures)

pub loop-at-preserved : goal.loop-at-preserved
loop-at-preserved c =
    bytes_more (piece_of c.codepage-page.result) c.args.held.now.items c.loop-at.held.items c.push_text.new.held.items c.args.pool.now.places c.loop-at.at c.place.result
    c.place.ensures c.loop-at.invariant c.in_ok-push_text.ensures.ok
