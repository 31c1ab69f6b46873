-- The tree of a directory: its entries by number, linked left and right.
use Rattle.std.specs.Prelude.{◌≡◌, ◌≢◌, ℕ, ◌<◌, List, [], ◌∷◌, ◌++◌}
use Rattle.msi_container_format.specs.Format.{NO_ENTRY}

pub data Tree : Type 0 where
  Leaf : Tree
  Node : Tree → ℕ → Tree → Tree

-- an entry's number, then those of its left tree, then those of its right tree
abbrev pub members : Tree → List ℕ
members Leaf = []
members (Node l k r) = k ∷ (members l ++ members r)

-- the tree that a link spells among count entries: no entry, or that entry with the trees of its own two links
abbrev pub IsSpelled : (left right : ℕ → ℕ) → ℕ → ℕ → Tree → Type 0
IsSpelled left right count link Leaf = link ≡ NO_ENTRY
IsSpelled left right count link (Node l k r) =
    (link ≡ k) × (k ≢ NO_ENTRY) × (k < count)
    × IsSpelled left right count (left k) l × IsSpelled left right count (right k) r
