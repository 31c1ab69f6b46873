-- The parts of a layout stand in its regions.
use Rattle.std.proofs.Common.{◌≡◌, ℕ, List, length, sym, ◌∙◌, arith, refl}
use Rattle.msi_container_write.specs.declared.regions.Regions.{Regions}
use Rattle.msi_container_write.specs.Layout.{mini_fat, mini_stream, directory_of, parts_of}
use Rattle.msi_container_write.specs.Regions.{AreRegions, StandIn}
use Rattle.msi_container_write.proofs.directories.DirectoryLengthLemmas.{length-directory_of}
use Rattle.msi_container_write.proofs.placing.LaidPartsLemmas.{filled, mini_fat_units, mini_stream_units}

pub layout_stands : (clsid : List ℕ) (streams : List (List ℕ × List ℕ)) (regions : Regions) → length clsid ≡ 16 → AreRegions streams regions → StandIn regions streams (parts_of clsid streams)
layout_stands clsid streams regions long are =
    record {
      directory = directory_of clsid streams;
      mini_fat = mini_fat streams;
      mini_stream = mini_stream streams;
      are = refl;
      mini_fat_first = are.mini_fat ∙ sym (filled _ _ (length-directory_of clsid streams long));
      mini_stream_first = omega (arith, are.mini_stream, are.mini_fat, mini_fat_units streams);
      large_first = omega (arith, are.large, are.mini_stream, mini_stream_units streams);
      fat_first = omega (arith, are.fat, are.large);
    }
