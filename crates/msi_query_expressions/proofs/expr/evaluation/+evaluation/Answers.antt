use Rattle.std.proofs.Common.{◌≡◌, true, false, Result, Ok, Err, IsErr}
use Rattle.std.specs.Prelude.{IfOk}
use Rattle.msi_query_expressions.proofs.expr.evaluation.+evaluation.Goals as goal

-- an error has no value
no_value : {T E : Type 0} (P : T → Type 0) (r : Result T E) → IsErr r → IfOk r P
no_value P (Ok x) e = let no : false ≡ true = e in cc
no_value P (Err x) _ = tt

pub operand_of-returns-in_err-operand-in-Unary-clause-ok : goal.operand_of-returns-in_err-operand-in-Unary-clause-ok
operand_of-returns-in_err-operand-in-Unary-clause-ok g t c = no_value _ _ c.from_residual.ensures.0

pub operand_of-returns-in_err-left-in-Binary-clause-ok : goal.operand_of-returns-in_err-left-in-Binary-clause-ok
operand_of-returns-in_err-left-in-Binary-clause-ok g t c = no_value _ _ c.from_residual-in_err-left-in-Binary.ensures.0

pub operand_of-returns-in_err-both-in-And-clause-ok : goal.operand_of-returns-in_err-both-in-And-clause-ok
operand_of-returns-in_err-both-in-And-clause-ok g t c = no_value _ _ c.from_residual-in_err-both-in-And.ensures.0

pub operand_of-returns-in_err-both-in-And-2-clause-ok : goal.operand_of-returns-in_err-both-in-And-2-clause-ok
operand_of-returns-in_err-both-in-And-2-clause-ok g t c = no_value _ _ c.from_residual-in_err-both-in-And-2.ensures.0

pub operand_of-returns-in_err-either-in-Or-clause-ok : goal.operand_of-returns-in_err-either-in-Or-clause-ok
operand_of-returns-in_err-either-in-Or-clause-ok g t c = no_value _ _ c.from_residual-in_err-either-in-Or.ensures.0

pub operand_of-returns-in_err-either-in-Or-2-clause-ok : goal.operand_of-returns-in_err-either-in-Or-2-clause-ok
operand_of-returns-in_err-either-in-Or-2-clause-ok g t c = no_value _ _ c.from_residual-in_err-either-in-Or-2.ensures.0
