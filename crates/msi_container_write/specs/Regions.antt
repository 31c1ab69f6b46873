-- Where the regions of a file start, as its code holds them.
use Rattle.std.specs.Prelude.{◌≡◌, ℕ, ◌+◌, List, ◌∷◌, length}
use Rattle.msi_container_write.specs.declared.regions.Regions.{Regions}
use Rattle.msi_container_write.specs.Extents.{units, all_units}
use Rattle.msi_container_write.specs.Layout.{large_parts, directory_sectors, mini_stream_first, large_first, taken_by}

-- The regions of a file of these streams: the directory stands first, and the FAT behind all that they take.
pub record AreRegions (streams : List (List ℕ × List ℕ)) (regions : Regions) : Type 0 where
  pub mini_fat : regions.mini_fat ≡ directory_sectors (length streams)
  pub mini_stream : regions.mini_stream ≡ mini_stream_first streams
  pub large : regions.large ≡ large_first streams
  pub fat : regions.fat ≡ taken_by streams

-- The parts of a file that stand in its regions: three before the large streams.
pub record StandIn (regions : Regions) (streams : List (List ℕ × List ℕ)) (parts : List (List ℕ)) : Type 0 where
  pub directory : List ℕ
  pub mini_fat : List ℕ
  pub mini_stream : List ℕ
  pub are : parts ≡ directory ∷ mini_fat ∷ mini_stream ∷ large_parts streams
  pub mini_fat_first : regions.mini_fat ≡ units 512 directory
  pub mini_stream_first : regions.mini_stream ≡ regions.mini_fat + units 512 mini_fat
  pub large_first : regions.large ≡ regions.mini_stream + units 512 mini_stream
  pub fat_first : regions.fat ≡ regions.large + all_units 512 (large_parts streams)
