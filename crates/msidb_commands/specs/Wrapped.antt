-- What a wrapped file holds.
use Rattle.std.specs.Prelude.{ℕ, false, List, [], ◌∷◌}
use Rattle.std.specs.FinMap.{empty, insert}
use Rattle.msi.specs.Container.Contents.{Contents}

-- 000C1084-0000-0000-C000-000000000046, as the root stores it
abbrev pub installer_clsid : List ℕ
installer_clsid = 0x84 ∷ 0x10 ∷ 0x0C ∷ 0 ∷ 0 ∷ 0 ∷ 0 ∷ 0 ∷ 0xC0 ∷ 0 ∷ 0 ∷ 0 ∷ 0 ∷ 0 ∷ 0 ∷ 0x46 ∷ []

-- one stream in an installer's container
abbrev pub wrapped : List ℕ → List ℕ → Contents
wrapped name bytes = record { clsid = installer_clsid; streams = insert empty name bytes; has_storages = false }
