use Rattle.std.proofs.Common.{sym, ◌∙◌}
use Rattle.msi_pool_places.specs.Pool.{place_bytes}
use Rattle.msi_pool.proofs.PoolWritingLemmas.{none_refused}
use Rattle.msi_pool.proofs.stringpool.writing.place_refusal.Goals as goal

-- src/stringpool/writing.rt
pub returns-in-None : goal.returns-in-None
returns-in-None c = none_refused (place_bytes c.args.page c.args.place.now) (sym c.in-None.is ∙ c.place_len.ensures)
