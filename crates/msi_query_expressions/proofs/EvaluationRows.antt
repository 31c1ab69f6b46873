-- Worked values of expressions, by computation.
use Rattle.std.specs.Prelude.{◌≡◌, ℕ, List, [], ◌∷◌, refl, codes, map, pos, negsuc, ℤ, if◌then◌else◌, bytes_eq}
use Rattle.msi_table_values.specs.declared.value.Value.{Value}
use Rattle.msi_table_values.specs.declared.value.Value.TheVariants.{Null, Int, Str}
use Rattle.msi_query_expressions.specs.declared.operators.UnaryOp.TheVariants as one
use Rattle.msi_query_expressions.specs.declared.operators.BinaryOp.TheVariants as two
use Rattle.msi_query_expressions.specs.Expressions.{Expression, literal, column, unary, binary, both, either, names_in}
use Rattle.msi_query_expressions.specs.Evaluation.{value_of}
use Rattle.msi_query_expressions.specs.Folding.{folded_unary, folded_binary}

abbrev num : ℤ → Expression
num n = literal (Int n)

abbrev text : List ℕ → Expression
text t = literal (Str t)

-- 42 in Int1, -17 in Int2, Null elsewhere
abbrev sample : List ℕ → Value
sample name = if bytes_eq name (codes "Int1") then Int (pos 42) else if bytes_eq name (codes "Int2") then Int (negsuc 16) else Null

abbrev worth : Expression → Value
worth e = value_of sample e

mixed : worth (binary two.BitXor (binary two.Shl (column (codes "Int1")) (num (pos 2))) (column (codes "Int2"))) ≡ Int (negsuc 184)
mixed = refl

-- a column of no value equals Null
compared : worth (binary two.Eq (literal Null) (column (codes "None"))) ≡ Int (pos 1)
compared = refl

counted : map worth (both (num (pos 7)) (text (codes "a")) ∷ either (literal Null) (num (pos 0)) ∷ [])
    ≡ Int (pos 1) ∷ Int (pos 0) ∷ []
counted = refl

-- literals fold under unary and binary operators; the tree of `and` stays
folded : folded_binary two.Sub (folded_binary two.Mul (num (pos 3)) (num (pos 4))) (folded_unary one.Neg (num (pos 2))) ≡ num (pos 14)
folded = refl

named : names_in (both (binary two.Eq (column (codes "A")) (column (codes "B"))) (unary one.Neg (column (codes "A")))) ≡ codes "A" ∷ codes "B" ∷ codes "A" ∷ []
named = refl
