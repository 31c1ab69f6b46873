-- Lists that are read element by element, each of which may mean nothing.
use Rattle.std.specs.Prelude.{List, [], ◌∷◌, Option, Some, None}
use Rattle.msi_base.specs.Results.{◌>>=◌}

-- what each element means
abbrev pub each : {X Y : Type 0} → (X → Option Y) → List X → Option (List Y)
each f [] = Some []
each f (x ∷ xs) = f x >>= λ y. each f xs >>= λ ys. Some (y ∷ ys)

-- what each element means beside that of the other list, which is as long
abbrev pub each_pair : {X Y Z : Type 0} → (X → Y → Option Z) → List X → List Y → Option (List Z)
each_pair f [] [] = Some []
each_pair f [] (y ∷ ys) = None
each_pair f (x ∷ xs) [] = None
each_pair f (x ∷ xs) (y ∷ ys) = f x y >>= λ z. each_pair f xs ys >>= λ zs. Some (z ∷ zs)
