-- Which database a pool and the streams of a container's root make.
use Rattle.std.specs.Prelude.{◌≡◌}
use Rattle.msi_pool.specs.Pool.{Pool, with_named_texts}
use Rattle.msi_database_storage.specs.Streams.{Streams}
use Rattle.msi_database_storage.specs.Kept.{Kept}
use Rattle.msi_database_storage.specs.Agreement.{DatabaseIs, is_shown}

-- The database that is read of a pool and the streams of a root: all streams are kept, and spell it; the pool is as its
-- own streams spell it, but that a free place has no text where no cell names it
pub record IsDatabaseOf (raw : Pool) (root : Streams) (k : Kept) : Type 0 where
  pub streams : k.streams ≡ root
  pub page : k.database.pool.page ≡ raw.page
  pub long : k.database.pool.long ≡ raw.long
  pub places : k.database.pool.places ≡ with_named_texts (is_shown root k.database) raw.places
  pub spelled : DatabaseIs root k.database
