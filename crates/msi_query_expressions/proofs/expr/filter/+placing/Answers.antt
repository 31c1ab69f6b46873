use Rattle.std.proofs.Common.{◌≡◌, true, false, Result, Ok, Err, IsErr}
use Rattle.std.specs.Prelude.{IfOk}
use Rattle.msi_query_expressions.proofs.expr.filter.+placing.Goals as goal

-- an error has no value
no_value : {T E : Type 0} (P : T → Type 0) (r : Result T E) → IsErr r → IfOk r P
no_value P (Ok x) e = let no : false ≡ true = e in cc
no_value P (Err x) _ = tt

pub placed-returns-in_err-placed_in_box-in-Unary-clause-values : goal.placed-returns-in_err-placed_in_box-in-Unary-clause-values
placed-returns-in_err-placed_in_box-in-Unary-clause-values t c = no_value _ _ c.from_residual-in_err-placed_in_box-in-Unary.ensures.0

pub placed-returns-in_err-placed_in_box-in-Unary-clause-sums : goal.placed-returns-in_err-placed_in_box-in-Unary-clause-sums
placed-returns-in_err-placed_in_box-in-Unary-clause-sums t c = no_value _ _ c.from_residual-in_err-placed_in_box-in-Unary.ensures.0

pub placed-returns-in_err-left-in-Binary-clause-values : goal.placed-returns-in_err-left-in-Binary-clause-values
placed-returns-in_err-left-in-Binary-clause-values t c = no_value _ _ c.from_residual-in_err-left-in-Binary.ensures.0

pub placed-returns-in_err-left-in-Binary-clause-sums : goal.placed-returns-in_err-left-in-Binary-clause-sums
placed-returns-in_err-left-in-Binary-clause-sums t c = no_value _ _ c.from_residual-in_err-left-in-Binary.ensures.0

pub placed-returns-in_err-placed_in_box-in-Binary-clause-values : goal.placed-returns-in_err-placed_in_box-in-Binary-clause-values
placed-returns-in_err-placed_in_box-in-Binary-clause-values t c = no_value _ _ c.from_residual-in_err-placed_in_box-in-Binary.ensures.0

pub placed-returns-in_err-placed_in_box-in-Binary-clause-sums : goal.placed-returns-in_err-placed_in_box-in-Binary-clause-sums
placed-returns-in_err-placed_in_box-in-Binary-clause-sums t c = no_value _ _ c.from_residual-in_err-placed_in_box-in-Binary.ensures.0

pub placed-returns-in_err-left-in-And-clause-values : goal.placed-returns-in_err-left-in-And-clause-values
placed-returns-in_err-left-in-And-clause-values t c = no_value _ _ c.from_residual-in_err-left-in-And.ensures.0

pub placed-returns-in_err-left-in-And-clause-sums : goal.placed-returns-in_err-left-in-And-clause-sums
placed-returns-in_err-left-in-And-clause-sums t c = no_value _ _ c.from_residual-in_err-left-in-And.ensures.0

pub placed-returns-in_err-placed_in_box-in-And-clause-values : goal.placed-returns-in_err-placed_in_box-in-And-clause-values
placed-returns-in_err-placed_in_box-in-And-clause-values t c = no_value _ _ c.from_residual-in_err-placed_in_box-in-And.ensures.0

pub placed-returns-in_err-placed_in_box-in-And-clause-sums : goal.placed-returns-in_err-placed_in_box-in-And-clause-sums
placed-returns-in_err-placed_in_box-in-And-clause-sums t c = no_value _ _ c.from_residual-in_err-placed_in_box-in-And.ensures.0

pub placed-returns-in_err-left-in-Or-clause-values : goal.placed-returns-in_err-left-in-Or-clause-values
placed-returns-in_err-left-in-Or-clause-values t c = no_value _ _ c.from_residual-in_err-left-in-Or.ensures.0

pub placed-returns-in_err-left-in-Or-clause-sums : goal.placed-returns-in_err-left-in-Or-clause-sums
placed-returns-in_err-left-in-Or-clause-sums t c = no_value _ _ c.from_residual-in_err-left-in-Or.ensures.0

pub placed-returns-in_err-placed_in_box-in-Or-clause-values : goal.placed-returns-in_err-placed_in_box-in-Or-clause-values
placed-returns-in_err-placed_in_box-in-Or-clause-values t c = no_value _ _ c.from_residual-in_err-placed_in_box-in-Or.ensures.0

pub placed-returns-in_err-placed_in_box-in-Or-clause-sums : goal.placed-returns-in_err-placed_in_box-in-Or-clause-sums
placed-returns-in_err-placed_in_box-in-Or-clause-sums t c = no_value _ _ c.from_residual-in_err-placed_in_box-in-Or.ensures.0
