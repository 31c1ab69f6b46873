-- A layout holds its contents, as the grammar reads it.
use Rattle.std.specs.Prelude.{◌≡◌, ℕ, ◌<◌, ◌≤◌, false, List, length, IsTrue}
use Rattle.std.specs.List.{AllByRecursion}
use Rattle.std.specs.FinMap.{entries}
use Rattle.msi_container_format.specs.declared.contents.Contents.{Contents}
use Rattle.msi_container_format.specs.Chains.{AreBelow}
use Rattle.msi_container_format.specs.Names.{is_text}
use Rattle.msi_container_format.specs.Container.{Holds}
use Rattle.msi_container_write.specs.Layout.{layout, refuses}

-- what each value of the type of names is: 1 to 31 units of 16 bits, well formed
pub record IsName (name : List ℕ) : Type 0 where
  pub some : 0 < length name
  pub most : length name ≤ 31
  pub units : AreBelow 65536 name
  pub text : IsTrue (is_text name)

abbrev pub HaveNames : List (List ℕ × List ℕ) → Type 0
HaveNames streams = AllByRecursion (λ stream. IsName stream.0) streams

-- what each value of the type of contents is
pub record IsContents (contents : Contents) : Type 0 where
  pub clsid : length contents.clsid ≡ 16
  pub names : HaveNames (entries contents.streams)

-- What isn't refused is held by its layout, over an earlier file of whatever length.
abbrev pub LayoutsHoldContents : Type 0
LayoutsHoldContents =
    (contents : Contents) (earlier : ℕ) → IsContents contents
    → refuses contents earlier ≡ false → Holds (layout contents earlier) contents
