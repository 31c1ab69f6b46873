use Rattle.std.specs.Vec.Iter.{into_iter_items}
use Rattle.std.proofs.Common.{◌∙◌}
use Rattle.msi_database_changes.proofs.steps.PutBackLemmas.{contains_inserted, put_back_all, removed_last}
use Rattle.msi_database_changes.proofs.storing.+store_all.Goals as goal

pub put_back-requires : goal.put_back-requires
put_back-requires t c = contains_inserted c.args.streams.now _ _ _ _ (c.in-Err.ensures.err ∙ c.in_ok-before-in-Some-bytes.ensures.ok) c.duplicate.ensures

pub returns-in-Err-clause-err : goal.returns-in-Err-clause-err
returns-in-Err-clause-err t c = put_back_all c.args.streams.now _ _ _ _ _ _ (c.in-Err.ensures.err ∙ c.in_ok-before-in-Some-bytes.ensures.ok) c.duplicate.ensures c.in_ok-before-in-Some-bytes.ensures.held c.put_back.ensures

pub returns-in_ok-store_all-in-None-clause-ok : goal.returns-in_ok-store_all-in-None-clause-ok
returns-in_ok-store_all-in-None-clause-ok t c = removed_last c.args.streams.now _ _ c.in-Some.field-0 (into_iter_items c.next.new.self) (into_iter_items c.args.changes) c.in-None.is c.requires c.in-Some.ensures.cases.0 c.in_ok-store_all-in-None.ensures.ok c.remove.ensures.gone
