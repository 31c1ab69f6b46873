use Rattle.std.proofs.Common.{◌≡◌, sym, subst, Some, true}
use Rattle.std.proofs.lemmas.Result.{IfOk-weaker}
use Rattle.std.specs.FinMap.{entries}
use Rattle.msi_database_changes.specs.Database.{is_sound}
use Rattle.msi_database_storage.specs.Kept.{Kept}
use Rattle.msi_database_storage.specs.Streams.{stored_rows}
use Rattle.msi_database.specs.Listed.{table_def_at}
use Rattle.msi_database.proofs.calls.ChangingLemmas.{found_with, only_memory}
use Rattle.msi_database.proofs.database.Database.sound_rows.Goals as goal

pub returns-clause-ok : goal.returns-clause-ok
returns-clause-ok c = let d = c.self.inside in let t = c.args.table.now in
    rw (← c.self.view_is) (IfOk-weaker c.stored_rows.result (λ rows. stored_rows (entries d.streams) t.long t.columns t.name ≡ Some rows.items) _
    (λ rows e. found_with d.pool d.tables (entries d.streams) c.self.invariant.as_long t (subst (λ (k : Kept). table_def_at t.name k.database ≡ Some t) (sym c.self.view_is) c.requires.listed) rows.items e)
    c.stored_rows.ensures.ok)

pub returns-clause-kind : goal.returns-clause-kind
returns-clause-kind c = let d = c.self.inside in let t = c.args.table.now in
    only_memory d.pool d.tables (entries d.streams) c.self.invariant.as_long t (subst (λ (k : Kept). table_def_at t.name k.database ≡ Some t) (sym c.self.view_is) c.requires.listed) c.stored_rows.result
    (subst (λ (k : Kept). is_sound k.database ≡ true) (sym c.self.view_is) c.requires.sound) c.stored_rows.ensures.kind
