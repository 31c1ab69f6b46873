-- Products of relations.
use Rattle.std.specs.Prelude.{List, [], ◌∷◌, ◌++◌, map}
use Rattle.std.specs.List.{flat_map}

-- the rows of a product: each row of the last relation behind each of those before it, the first varying fastest
abbrev pub product : {X : Type 0} → List (List (List X)) → List (List X)
product [] = [] ∷ []
product (rows ∷ others) = flat_map (λ behind. map (λ row. row ++ behind) rows) (product others)
