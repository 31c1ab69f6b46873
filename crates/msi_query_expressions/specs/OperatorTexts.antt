-- How operators print, and how tightly they bind: the loosest have level 3, since `OR` has 1 and `AND` 2.
use Rattle.std.specs.Prelude.{ℕ, ◌+◌, List, codes}
use Rattle.msi_query_expressions.specs.declared.operators.UnaryOp.{UnaryOp}
use Rattle.msi_query_expressions.specs.declared.operators.UnaryOp.TheVariants as one
use Rattle.msi_query_expressions.specs.declared.operators.BinaryOp.{BinaryOp}
use Rattle.msi_query_expressions.specs.declared.operators.BinaryOp.TheVariants as two

abbrev pub op_level : BinaryOp → ℕ
op_level two.BitOr = 4
op_level two.BitXor = 5
op_level two.BitAnd = 6
op_level two.Shl = 7
op_level two.Shr = 7
op_level two.Add = 8
op_level two.Sub = 8
op_level two.Mul = 9
op_level two.Div = 9
op_level _ = 3

-- equal levels group to the left, so what stands to the right needs a level more
abbrev pub right_level : BinaryOp → ℕ
right_level op = op_level op + 1

abbrev pub op_text : BinaryOp → List ℕ
op_text two.Eq = codes " = "
op_text two.Ne = codes " != "
op_text two.Lt = codes " < "
op_text two.Le = codes " <= "
op_text two.Gt = codes " > "
op_text two.Ge = codes " >= "
op_text two.BitOr = codes " | "
op_text two.BitXor = codes " ^ "
op_text two.BitAnd = codes " & "
op_text two.Shl = codes " << "
op_text two.Shr = codes " >> "
op_text two.Add = codes " + "
op_text two.Sub = codes " - "
op_text two.Mul = codes " * "
op_text two.Div = codes " / "

abbrev pub unary_text : UnaryOp → List ℕ
unary_text one.Neg = codes "-"
unary_text one.BitNot = codes "~"
unary_text one.BoolNot = codes "NOT "
