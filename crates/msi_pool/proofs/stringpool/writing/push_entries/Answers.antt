use Rattle.msi_pool.specs.PoolWriting.{entry_in}
use Rattle.msi_pool.proofs.PoolWritingLemmas.{told_at, bytes_more}
use Rattle.msi_pool.proofs.stringpool.writing.push_entries.Goals as goal

pub push_place-requires : goal.push_place-requires
push_place-requires c = rw c.codepage-page.ensures (told_at c.args.pool.now.page c.args.pool.now.places c.loop-at.at c.place.result c.requires c.place.ensures)

pub loop-at-preserved : goal.loop-at-preserved
loop-at-preserved c =
    bytes_more (entry_in c.codepage-page.result) c.args.held.now.items c.loop-at.held.items c.push_place.new.held.items c.args.pool.now.places c.loop-at.at c.place.result
    c.place.ensures c.loop-at.invariant c.in_ok-push_place.ensures
