-- What a package is for.
use Rattle.std.specs.Prelude.{ℕ, List, [], ◌∷◌, codes}
use Rattle.msi.specs.declared.kinds.PackageType.{PackageType}
use Rattle.msi.specs.declared.kinds.PackageType.TheVariants as kind

-- the root's CLSID in the bytes of a file
abbrev pub clsid_of_number : ℕ → List ℕ
clsid_of_number low = low ∷ 0x10 ∷ 0x0C ∷ 0 ∷ 0 ∷ 0 ∷ 0 ∷ 0 ∷ 0xC0 ∷ 0 ∷ 0 ∷ 0 ∷ 0 ∷ 0 ∷ 0 ∷ 0x46 ∷ []

abbrev pub clsid_of : PackageType → List ℕ
clsid_of kind.Installer = clsid_of_number 0x84
clsid_of kind.Patch = clsid_of_number 0x86
clsid_of kind.Transform = clsid_of_number 0x82

abbrev pub title_of : PackageType → List ℕ
title_of kind.Installer = codes "Installation Database"
title_of kind.Patch = codes "Patch"
title_of kind.Transform = codes "Transform"
