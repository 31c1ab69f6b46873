use Rattle.std.proofs.Common.{rules, sym, ◌∙◌}
use denote.Enum.Bare.{same_true}
use Rattle.msi_query_tokens.specs.contracts.token.Kind.{the_type}
use Rattle.msi_query_tokens.specs.Tokens.{same_kind}
use Rattle.msi_query_tokens.proofs.lex.same_kind.Goals as goal

pub returns-clause-value : goal.returns-clause-value
unfolding same_kind
returns-clause-value c = search rules

pub returns-clause-same : goal.returns-clause-same
returns-clause-same c is = same_true the_type (search rules) _ _ (sym c.eq.ensures ∙ is)
