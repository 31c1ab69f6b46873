-- What the constructors make of what they made: numbers of 32 bits, and nothing that stands for a stream.
use Rattle.std.proofs.Common.{◌≡◌, Bool, true, false, ℤ, refl, if◌then◌else◌}
use Rattle.std.specs.Prelude.{IsTrue, nat_abs, neg_ℤ, pos, ◌+ℤ◌, ◌-ℤ◌, ◌*ℤ◌, int_div}
use Rattle.std.specs.Int.{w32, int_bit_and, int_bit_or, int_bit_xor, int_shl, int_shr}
use Rattle.std.proofs.lemmas.Bool.{and_parts}
use Rattle.msi_table_values.specs.declared.value.Value.{Value}
use Rattle.msi_table_values.specs.declared.value.Value.TheVariants.{Null, Int, Str}
use Rattle.msi_query_expressions.specs.declared.operators.UnaryOp.{UnaryOp}
use Rattle.msi_query_expressions.specs.declared.operators.UnaryOp.TheVariants as one
use Rattle.msi_query_expressions.specs.declared.operators.BinaryOp.{BinaryOp}
use Rattle.msi_query_expressions.specs.declared.operators.BinaryOp.TheVariants as two
use Rattle.msi_query_expressions.specs.Expressions.{Expression, literal}
use Rattle.msi_query_expressions.specs.OperatorValues.{is_i32, is_zero, is_distance, number, truth, of_numbers, of_operands, unary_value, binary_value}
use Rattle.msi_query_expressions.specs.Folding.{folded_unary, folded_binary, fits_literal, literals_fit, is_folded, is_built}
use Rattle.msi_query_expressions.proofs.FoldingLemmas.{and_both, is_folded-folded_unary, is_folded-folded_binary}

fits_literal-number : (n : ℤ) → fits_literal (number n) ≡ true
fits_literal-number n = go (is_i32 n) refl
  where
    go : (b : Bool) → is_i32 n ≡ b → fits_literal (if b then Int n else Null) ≡ true
    go true e = e
    go false e = refl

pub fits_literal-truth : (b : Bool) → fits_literal (truth b) ≡ true
fits_literal-truth true = refl
fits_literal-truth false = refl

number_if : (b : Bool) (n : ℤ) → fits_literal (if b then number n else Null) ≡ true
number_if true n = fits_literal-number n
number_if false n = refl

number_unless : (b : Bool) (n : ℤ) → fits_literal (if b then Null else number n) ≡ true
number_unless true n = refl
number_unless false n = fits_literal-number n

fits_literal-of_numbers : (op : BinaryOp) (m n : ℤ) → fits_literal (of_numbers op m n) ≡ true
fits_literal-of_numbers two.Add m n = fits_literal-number (m +ℤ n)
fits_literal-of_numbers two.Sub m n = fits_literal-number (m -ℤ n)
fits_literal-of_numbers two.Mul m n = fits_literal-number (m *ℤ n)
fits_literal-of_numbers two.Div m n = number_unless (is_zero n) (int_div m n)
fits_literal-of_numbers two.BitAnd m n = fits_literal-number (int_bit_and w32 m n)
fits_literal-of_numbers two.BitOr m n = fits_literal-number (int_bit_or w32 m n)
fits_literal-of_numbers two.BitXor m n = fits_literal-number (int_bit_xor w32 m n)
fits_literal-of_numbers two.Shl m n = number_if (is_distance n) (int_shl w32 m (nat_abs n))
fits_literal-of_numbers two.Shr m n = number_if (is_distance n) (int_shr m (nat_abs n))
fits_literal-of_numbers _ m n = refl

fits_literal-of_operands : (op : BinaryOp) (v w : Value) → fits_literal (of_operands op v w) ≡ true
fits_literal-of_operands op (Int m) (Int n) = fits_literal-of_numbers op m n
fits_literal-of_operands two.Add (Str s) (Str t) = refl
fits_literal-of_operands op _ _ = refl

fits_literal-binary_value : (op : BinaryOp) (v w : Value) → fits_literal (binary_value op v w) ≡ true
fits_literal-binary_value two.Eq v w = fits_literal-truth _
fits_literal-binary_value two.Ne v w = fits_literal-truth _
fits_literal-binary_value two.Lt v w = fits_literal-truth _
fits_literal-binary_value two.Le v w = fits_literal-truth _
fits_literal-binary_value two.Gt v w = fits_literal-truth _
fits_literal-binary_value two.Ge v w = fits_literal-truth _
fits_literal-binary_value op v w = fits_literal-of_operands op v w

fits_literal-unary_value : (op : UnaryOp) (v : Value) → fits_literal (unary_value op v) ≡ true
fits_literal-unary_value one.Neg (Int n) = fits_literal-number (neg_ℤ n)
fits_literal-unary_value one.BitNot (Int n) = fits_literal-number (neg_ℤ n -ℤ pos 1)
fits_literal-unary_value one.BoolNot v = fits_literal-truth _
fits_literal-unary_value _ _ = refl

literals_fit-folded_unary : (op : UnaryOp) (e : Expression) → IsTrue (literals_fit e)
    → IsTrue (literals_fit (folded_unary op e))
literals_fit-folded_unary op (literal v) h = fits_literal-unary_value op v
literals_fit-folded_unary op e h = h

literals_fit-folded_binary : (op : BinaryOp) (l r : Expression) → IsTrue (literals_fit l) → IsTrue (literals_fit r)
    → IsTrue (literals_fit (folded_binary op l r))
literals_fit-folded_binary op (literal v) (literal w) h k = fits_literal-binary_value op v w
literals_fit-folded_binary op (literal v) r h k = and_both (fits_literal v) (literals_fit r) h k
literals_fit-folded_binary op l r h k = and_both (literals_fit l) (literals_fit r) h k

pub is_built-folded_unary : (op : UnaryOp) (e : Expression) → IsTrue (is_built e)
    → IsTrue (is_built (folded_unary op e))
is_built-folded_unary op e h = let parts = and_parts (is_folded e) (literals_fit e) h in
    and_both _ _ (is_folded-folded_unary op e parts.0) (literals_fit-folded_unary op e parts.1)

pub is_built-folded_binary : (op : BinaryOp) (l r : Expression) → IsTrue (is_built l) → IsTrue (is_built r)
    → IsTrue (is_built (folded_binary op l r))
is_built-folded_binary op l r h k =
    let left = and_parts (is_folded l) (literals_fit l) h in
    let right = and_parts (is_folded r) (literals_fit r) k in
    and_both _ _ (is_folded-folded_binary op l r left.0 right.0) (literals_fit-folded_binary op l r left.1 right.1)
