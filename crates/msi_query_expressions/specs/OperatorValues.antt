-- What operators return: whole numbers without bounds, and Null where a result is none of 32 bits.
use Rattle.std.specs.Prelude.{◌^◌, Bool, true, false, not, ◌++◌, nat_abs, ◌&&◌, if◌then◌else◌, ℤ, pos, neg_ℤ}
use Rattle.std.specs.Prelude.{◌+ℤ◌, ◌-ℤ◌, ◌*ℤ◌, int_le, int_div}
use Rattle.std.specs.Ordering.{is_eq, is_lt, is_le, int_cmp}
use Rattle.std.specs.Int.{w32, int_bit_and, int_bit_or, int_bit_xor, int_shl, int_shr}
use Rattle.msi_table_values.specs.declared.value.Value.{Value}
use Rattle.msi_table_values.specs.declared.value.Value.TheVariants.{Null, Int, Str}
use Rattle.msi_table_values.specs.Values.{value_cmp, is_true}
use Rattle.msi_query_expressions.specs.declared.operators.UnaryOp.{UnaryOp}
use Rattle.msi_query_expressions.specs.declared.operators.UnaryOp.TheVariants as one
use Rattle.msi_query_expressions.specs.declared.operators.BinaryOp.{BinaryOp}
use Rattle.msi_query_expressions.specs.declared.operators.BinaryOp.TheVariants as two

abbrev pub is_i32 : ℤ → Bool
is_i32 n = int_le (neg_ℤ (pos (2 ^ 31))) n && int_le n (pos 2147483647)

abbrev pub number : ℤ → Value
number n = if is_i32 n then Int n else Null

abbrev pub truth : Bool → Value
truth b = Int (pos (if b then 1 else 0))

abbrev pub is_zero : ℤ → Bool
is_zero n = is_eq (int_cmp n (pos 0))

abbrev pub is_distance : ℤ → Bool
is_distance n = int_le (pos 0) n && int_le n (pos 31)

-- of two numbers; division cuts towards zero, and shifts go by 0 to 31
abbrev pub of_numbers : BinaryOp → ℤ → ℤ → Value
of_numbers two.Add m n = number (m +ℤ n)
of_numbers two.Sub m n = number (m -ℤ n)
of_numbers two.Mul m n = number (m *ℤ n)
of_numbers two.Div m n = if is_zero n then Null else number (int_div m n)
of_numbers two.BitAnd m n = number (int_bit_and w32 m n)
of_numbers two.BitOr m n = number (int_bit_or w32 m n)
of_numbers two.BitXor m n = number (int_bit_xor w32 m n)
of_numbers two.Shl m n = if is_distance n then number (int_shl w32 m (nat_abs n)) else Null
of_numbers two.Shr m n = if is_distance n then number (int_shr m (nat_abs n)) else Null
of_numbers _ m n = Null

-- `add` joins two texts, and other operators want two numbers
abbrev pub of_operands : BinaryOp → Value → Value → Value
of_operands op (Int m) (Int n) = of_numbers op m n
of_operands two.Add (Str s) (Str t) = Str (s ++ t)
of_operands op _ _ = Null

-- comparisons go by the order of values
abbrev pub binary_value : BinaryOp → Value → Value → Value
binary_value two.Eq v w = truth (is_eq (value_cmp v w))
binary_value two.Ne v w = truth (not (is_eq (value_cmp v w)))
binary_value two.Lt v w = truth (is_lt (value_cmp v w))
binary_value two.Le v w = truth (is_le (value_cmp v w))
binary_value two.Gt v w = truth (not (is_le (value_cmp v w)))
binary_value two.Ge v w = truth (not (is_lt (value_cmp v w)))
binary_value op v w = of_operands op v w

abbrev pub unary_value : UnaryOp → Value → Value
unary_value one.Neg (Int n) = number (neg_ℤ n)
unary_value one.BitNot (Int n) = number (neg_ℤ n -ℤ pos 1)
unary_value one.BoolNot v = truth (not (is_true v))
unary_value _ _ = Null

-- what takes memory: a sum, since texts may be joined
abbrev pub is_sum : BinaryOp → Bool
is_sum two.Add = true
is_sum _ = false
