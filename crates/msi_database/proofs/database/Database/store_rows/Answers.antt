use Rattle.std.proofs.Common.{◌∙◌, ap, [], ◌∷◌, ◌++◌, List}
use Rattle.std.specs.Vec.Iter.{into_iter_items}
use Rattle.msi_database_changes.specs.declared.storing.Stored.{Stored}
use Rattle.msi_database.proofs.calls.ChangingLemmas.{rows_moved_in, streams_stored}
use Rattle.std.proofs.lemmas.Result.{err_from_is_err_and}
use Rattle.msi_database.proofs.database.Database.store_rows.Goals as goal

pub invariant_of-self-2 : goal.invariant_of-self-2
invariant_of-self-2 c = let d = c.self.inside in let es : List Stored = c.args.stored ∷ [] in
    (rows_moved_in d.pool c.args.pool d.tables d.streams c.store_all.new.streams es d.is_sound c.args.self.now c.self.view_is c.self.invariant c.requires.sound c.requires.kept
    (streams_stored d.streams c.store_all.new.streams es (into_iter_items c.into_iter.result) c.in_ok-store_all.ensures.ok
    (c.into_iter.ensures.rest ∙ c.in_ok-push.ensures.items ∙ ap (λ (xs : List Stored). xs ++ es) c.new-changes.ensures.items))).kept

pub returns-clause-ok : goal.returns-clause-ok
returns-clause-ok c = let d = c.self.inside in let es : List Stored = c.args.stored ∷ [] in
    (rows_moved_in d.pool c.args.pool d.tables d.streams c.store_all.new.streams es d.is_sound c.args.self.now c.self.view_is c.self.invariant c.requires.sound c.requires.kept
    (streams_stored d.streams c.store_all.new.streams es (into_iter_items c.into_iter.result) c.in_ok-store_all.ensures.ok
    (c.into_iter.ensures.rest ∙ c.in_ok-push.ensures.items ∙ ap (λ (xs : List Stored). xs ++ es) c.new-changes.ensures.items))).same

pub returns-in_err-push-clause-ok : goal.returns-in_err-push-clause-ok
returns-in_err-push-clause-ok c = let p = err_from_is_err_and c.from_residual.result c.from_residual.ensures.1 in rw p.1 tt

pub returns-in_err-store_all-clause-ok : goal.returns-in_err-store_all-clause-ok
returns-in_err-store_all-clause-ok c = let p = err_from_is_err_and c.from_residual-in_err-store_all.result c.from_residual-in_err-store_all.ensures.1 in rw p.1 tt
