-- The file sector by sector.
use Rattle.std.specs.Prelude.{◌≡◌, ℕ, ◌+◌, ◌*◌, ◌^◌, ◌<◌, ◌≤◌, List, length, map}
use Rattle.std.specs.List.{range_with_len}
use Rattle.msi_container_write.specs.declared.layout.Layout.{Layout}
use Rattle.msi_container_write.specs.Image.{Run, fat_sectors, difat_sectors, image_byte, image}
use Rattle.msi_container_write.specs.Index.{streams_of, IsIndex}
use Rattle.msi_container_write.specs.Layout.{mini_fat_run, mini_sectors, parts_of, taken_by}
use Rattle.msi_container_write.specs.LayoutLaw.{HaveNames}

-- sector n, the header being sector 0
abbrev pub image_sector : List (List ℕ) → Run → ℕ → ℕ → List ℕ
image_sector parts mini_fat total n = map (image_byte parts mini_fat total) (range_with_len (512 * n) 512)

-- the same of the file of streams below a root
abbrev pub file_sector : List ℕ → List (List ℕ × List ℕ) → ℕ → ℕ → List ℕ
file_sector clsid streams total n = image_sector (parts_of clsid streams) (mini_fat_run streams) total n

-- all of them
abbrev pub file : List ℕ → List (List ℕ × List ℕ) → ℕ → List ℕ
file clsid streams total = image (parts_of clsid streams) (mini_fat_run streams) total

-- A LAYOUT, as the code holds it

abbrev pub streams_in : Layout → List (List ℕ × List ℕ)
streams_in layout = streams_of layout.places.now

-- its file, and sector n of that
abbrev pub file_of : Layout → List ℕ
file_of layout = file layout.clsid (streams_in layout) layout.extent.total

abbrev pub sector_of : Layout → ℕ → List ℕ
sector_of layout n = file_sector layout.clsid (streams_in layout) layout.extent.total n

-- what it holds are an index and what its streams take, in a file that has room for them
pub record IsLaidOut (layout : Layout) : Type 0 where
  pub clsid : length layout.clsid ≡ 16
  pub indexed : IsIndex layout.places.now
  pub names : HaveNames (streams_in layout)
  pub minis : layout.extent.mini_sectors ≡ mini_sectors (streams_in layout)
  pub taken : layout.extent.taken ≡ taken_by (streams_in layout)
  pub room : layout.extent.taken + fat_sectors layout.extent.total + difat_sectors layout.extent.total
      ≤ layout.extent.total
  pub few : layout.extent.total < 2 ^ 22
