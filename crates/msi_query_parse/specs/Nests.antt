-- Function values that read what stands one level below.
use Rattle.std.specs.Prelude.{ℕ, Result}
use Rattle.std.specs.declared.alloc.Global.{Global}
use denote.Ref.{MutBor}
use Rattle.msi_query_expressions.specs.Expressions.{Expression}
use Rattle.msi_query.specs.Queries.{Query}
use Rattle.msi_query_tokens.specs.declared.refusal.ParseError.{ParseError}
use Rattle.msi_query_tokens.specs.Input.{Input, Reads}
use Rattle.msi_query_parse.specs.Reading.{expression, query}

pub record Nests (depth : ℕ) (pre : Global → MutBor Input → ℕ → ℕ → Type 0)
    (post : Global → MutBor Input → ℕ → ℕ → Result Expression ParseError → MutBor Input → Type 0) : Type 0 where
  pub callable : (alloc : Global) (old : MutBor Input) (least : ℕ) → pre alloc old depth least
  pub reads : (alloc : Global) (old new : MutBor Input) (least : ℕ) (r : Result Expression ParseError)
      → post alloc old depth least r new → Reads (expression depth least old.now) r new.now

pub record NestsQueries (depth : ℕ) (pre : Global → MutBor Input → ℕ → Type 0)
    (post : Global → MutBor Input → ℕ → Result Query ParseError → MutBor Input → Type 0) : Type 0 where
  pub callable : (alloc : Global) (old : MutBor Input) → pre alloc old depth
  pub reads : (alloc : Global) (old new : MutBor Input) (r : Result Query ParseError)
      → post alloc old depth r new → Reads (query depth old.now) r new.now
