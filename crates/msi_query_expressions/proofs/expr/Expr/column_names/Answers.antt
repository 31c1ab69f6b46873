use Rattle.std.proofs.Common.{◌||◌, ◌∙◌, ap, bytes_eq}
use Rattle.std.specs.List.{list_any}
use Rattle.msi_query_expressions.specs.Expressions.{names_in}
use Rattle.msi_query_expressions.specs.Names.{has_name}
use Rattle.msi_query_expressions.proofs.NamesLemmas.{has_name-collected, IsTrue-list_any}
use Rattle.msi_query_expressions.proofs.expr.Expr.column_names.Goals as goal

pub returns-clause-ok : goal.returns-clause-ok
returns-clause-ok c name =
    IsTrue-list_any (has_name c.collect_names.new.names name) name (names_in c.args.self.now)
    (has_name-collected c.new-names.result c.collect_names.new.names name (names_in c.args.self.now) c.new-names.ensures.empty
    (c.in_ok-collect_names.ensures.ok name ∙ ap (λ e. has_name c.new-names.result name || list_any (bytes_eq name) (names_in e)) c.self.view_is))
