use Rattle.std.proofs.Common.{List, ℕ, sym, subst}
use Rattle.std.specs.List.{AllByRecursion}
use Rattle.std.proofs.lemmas.Result.{IfOk-weaker}
use Rattle.msi_query_expressions.specs.Equated.{AreEqualAt}
use Rattle.msi_query_expressions.proofs.EquatedLemmas.{equations_hold}
use Rattle.msi_query_expressions.proofs.parts.equations.Goals as goal

pub returns-clause-equal : goal.returns-clause-equal
returns-clause-equal c =
    IfOk-weaker c.equations.result _ _
    (λ equations e row t. subst (λ (places : List (ℕ × ℕ)). AllByRecursion (AreEqualAt row) places) (sym e) (equations_hold c.args.columns.now row c.args.condition.now t))
    c.equations.ensures.ok
