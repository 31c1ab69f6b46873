-- What is known of a container before its streams are read.
use Rattle.std.specs.Prelude.{◌≡◌, ℕ, Bool, List}
use Rattle.msi_container_format.specs.Container.{Plan, has_storage, stream_entries}
use Rattle.msi_container_format.specs.Trees.{members}
use Rattle.msi_container_tables.specs.Paths.{storage_clsid}
use Rattle.msi_container_tables.specs.Reading.{storages_among}

-- where a plan's streams stand, and what its directory tells beside them
pub record IsOutline (bytes : List ℕ) (storage : ℕ) (plan : Plan) (clsid : List ℕ) (has_storages : Bool)
    (directory mini_stream storages streams : List ℕ) (chains : List (List ℕ)) : Type 0 where
  pub rooted : clsid ≡ storage_clsid bytes plan.directory storage
  pub told : has_storages ≡ has_storage bytes plan.directory (members plan.tree)
  pub directories : directory ≡ plan.directory
  pub mini_streams : mini_stream ≡ plan.mini_stream
  pub stored : storages ≡ storages_among bytes plan.directory (members plan.tree)
  pub entries : streams ≡ stream_entries bytes plan
  pub chained : chains ≡ plan.chains
