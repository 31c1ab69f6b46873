use Rattle.std.proofs.Common.{List}
use Rattle.msi_pool_places.specs.Pool.{Place}
use Rattle.msi_recode.specs.PoolReading.{AreWritten}
use Rattle.msi_recode.specs.Readers.{page_of}
use Rattle.msi_recode.proofs.TextsLemmas.{AreInFront}
use Rattle.msi_recode.proofs.pool.RecodedPool.push_places.Given as goal

abbrev pub invariant-loop-index : goal.invariant-loop-index
invariant-loop-index l = (front : List Place) × AreInFront (page_of l.reader) l.entries l.bytes l.index front l.rest
    × AreWritten front l.fn.self.entries.items l.fn.self.texts.items l.self.entries.items l.self.texts.items
