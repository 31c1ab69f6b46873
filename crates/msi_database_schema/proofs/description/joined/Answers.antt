use Rattle.std.proofs.Common.{◌∙◌}
use Rattle.std.specs.Prelude.{string_bytes}
use Rattle.msi_database_schema.proofs.DescriptionLemmas.{joined_text}
use Rattle.std.proofs.lemmas.Result.{err_from_is_err_and}
use Rattle.msi_database_schema.proofs.description.joined.Goals as goal

pub returns-clause-ok : goal.returns-clause-ok
returns-clause-ok c = joined_text c.args.texts.now c.in-Some.first.now c.in-Some.others.now c.loop-other.other-index (string_bytes c.loop-other.text) (string_bytes c.in_ok-text.text) c.from_string.result
    c.in-Some.ensures.cases.0 c.loop-other-test.false (c.in_ok-text.ensures.ok ∙ c.as_str.ensures) c.loop-other.invariant.so_far c.from_string.ensures

pub returns-in_err-text-clause-ok : goal.returns-in_err-text-clause-ok
returns-in_err-text-clause-ok c = let p = err_from_is_err_and c.from_residual.result c.from_residual.ensures.1 in rw p.1 tt

pub returns-in_err-push-clause-ok : goal.returns-in_err-push-clause-ok
returns-in_err-push-clause-ok c = let p = err_from_is_err_and c.from_residual-in_err-push.result c.from_residual-in_err-push.ensures.1 in rw p.1 tt

pub returns-in_err-push_str-clause-ok : goal.returns-in_err-push_str-clause-ok
returns-in_err-push_str-clause-ok c = let p = err_from_is_err_and c.from_residual-in_err-push_str.result c.from_residual-in_err-push_str.ensures.1 in rw p.1 tt
