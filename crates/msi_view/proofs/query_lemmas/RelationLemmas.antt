-- What a query gives is told by the tables that it is for.
use Rattle.std.proofs.Common.{◌≡◌, ℕ, List, [], ◌∷◌, ◌++◌, map, Option, refl}
use Rattle.std.specs.Prelude.{All, Result, Ok}
use Rattle.std.specs.List.{AllByRecursion}
use Rattle.std.proofs.lemmas.List.Elements.{recursion_from_All}
use Rattle.msi_base.specs.declared.errors.ErrorKind.{ErrorKind}
use Rattle.msi_base.specs.declared.errors.ErrorKind.TheVariants.{InvalidData, NotFound}
use Rattle.msi_base.specs.Refusals.{or_refused, unless_refused, ◌>>=◌}
use Rattle.msi_query.specs.Queries.{Query, Side, table, join, product}
use Rattle.msi_query.specs.Selection.{Relation, TableValues, kept_of, kept_of_join, product_of, relation_of, side_refusals, sides_of}
use Rattle.msi_view.specs.Looking.{tables_read}

-- what holds of all holds of the first of them, and of the others
pub first_part : {X : Type 0} (P : X → Type 0) (xs ys : List X) → AllByRecursion P (xs ++ ys) → AllByRecursion P xs
first_part P [] ys h = tt
first_part P (x ∷ xs) ys h = (h.0, first_part P xs ys h.1)

pub last_part : {X : Type 0} (P : X → Type 0) (xs ys : List X) → AllByRecursion P (xs ++ ys) → AllByRecursion P ys
last_part P [] ys h = h
last_part P (x ∷ xs) ys h = last_part P xs ys h.1

-- what is kept of a whole table, if it is there and can be read
abbrev kept_of_table : List ℕ → (Relation → Result Relation ErrorKind) → Option TableValues → Result Relation ErrorKind
kept_of_table name keep found = or_refused NotFound found >>=
    λ t. or_refused InvalidData t.rows >>=
    λ rows. keep (record { name = name; columns = t.columns; rows = rows })

module _ (a b : List ℕ → Option TableValues) where
  abbrev IsSame : List ℕ → Type 0
  IsSame name = a name ≡ b name

  sides_same : (sides : List Side) → AllByRecursion IsSame (map (λ side. side.table) sides) → sides_of a sides ≡ sides_of b sides
  sides_same [] h = refl
  sides_same (side ∷ sides) h = λ i. kept_of_table side.name (λ r. Ok r) (h.0 i) >>= λ r. sides_same sides h.1 i >>= λ rs. Ok (r ∷ rs)

  -- tables that are the same at the names of a query give the same
  relation_same : (q : Query) → AllByRecursion IsSame (tables_read q) → relation_of a q ≡ relation_of b q
  relation_same (table name c) h = λ i. kept_of_table name (kept_of c) (h.0 i)
  relation_same (join kind l r on c) h = λ i.
      relation_same l (first_part IsSame (tables_read l) (tables_read r) h) i >>= λ left.
      relation_same r (last_part IsSame (tables_read l) (tables_read r) h) i >>= λ right. kept_of_join kind on c left right
  relation_same (product sides c) h = λ i.
      sides_same sides h i >>= λ rs. unless_refused (side_refusals sides) (product_of rs) >>= λ r. kept_of c r

  pub relation_reads : (q : Query) → All (λ name. a name ≡ b name) (tables_read q) → relation_of a q ≡ relation_of b q
  relation_reads q h = relation_same q (recursion_from_All IsSame (tables_read q) h)
