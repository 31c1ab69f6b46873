-- Worked values of operators, by computation.
use Rattle.std.specs.Prelude.{◌≡◌, [], ◌∷◌, refl, codes, pos, negsuc}
use Rattle.msi_table_values.specs.declared.value.Value.TheVariants.{Null, Int, Str, Binary}
use Rattle.msi_query_expressions.specs.declared.operators.UnaryOp.TheVariants as one
use Rattle.msi_query_expressions.specs.declared.operators.BinaryOp.TheVariants as two
use Rattle.msi_query_expressions.specs.OperatorValues.{unary_value, binary_value, of_numbers}

outside : of_numbers two.Add (pos 2147483647) (pos 1) ∷ unary_value one.Neg (Int (negsuc 2147483647)) ∷ of_numbers two.Div (negsuc 2147483647) (negsuc 0)
    ∷ of_numbers two.Shl (pos 1) (pos 32) ∷ of_numbers two.Shl (pos 1) (negsuc 0) ∷ of_numbers two.Div (pos 7) (pos 0) ∷ []
    ≡ Null ∷ Null ∷ Null ∷ Null ∷ Null ∷ Null ∷ []
outside = refl

shifted : of_numbers two.Shl (pos 1) (pos 31) ∷ of_numbers two.Shr (negsuc 16) (pos 2) ∷ of_numbers two.Shr (negsuc 0) (pos 31) ∷ []
    ≡ Int (negsuc 2147483647) ∷ Int (negsuc 4) ∷ Int (negsuc 0) ∷ []
shifted = refl

-- division cuts towards zero
divided : of_numbers two.Div (pos 7) (negsuc 1) ∷ of_numbers two.Div (negsuc 6) (pos 2) ∷ [] ≡ Int (negsuc 2) ∷ Int (negsuc 2) ∷ []
divided = refl

bits : unary_value one.BitNot (Int (pos 0)) ∷ unary_value one.BitNot (Int (negsuc 2147483647)) ∷ of_numbers two.BitAnd (negsuc 16) (pos 255) ∷ of_numbers two.BitOr (pos 5) (negsuc 7) ∷ []
    ≡ Int (negsuc 0) ∷ Int (pos 2147483647) ∷ Int (pos 239) ∷ Int (negsuc 2) ∷ []
bits = refl

-- Null equals Null and comes first; numbers come before texts
compared : binary_value two.Eq Null Null ∷ binary_value two.Lt Null (Int (negsuc 2147483647)) ∷ binary_value two.Ge (Str []) (Int (pos 9)) ∷ binary_value two.Ne Null Null ∷ []
    ≡ Int (pos 1) ∷ Int (pos 1) ∷ Int (pos 1) ∷ Int (pos 0) ∷ []
compared = refl

joined : binary_value two.Add (Str (codes "a")) (Str (codes "b")) ∷ binary_value two.Add (Str (codes "a")) (Int (pos 1)) ∷ binary_value two.Sub (Str (codes "a")) (Str (codes "b")) ∷ []
    ≡ Str (codes "ab") ∷ Null ∷ Null ∷ []
joined = refl

counted : unary_value one.BoolNot (Str []) ∷ unary_value one.BoolNot Binary ∷ [] ≡ Int (pos 1) ∷ Int (pos 0) ∷ []
counted = refl
