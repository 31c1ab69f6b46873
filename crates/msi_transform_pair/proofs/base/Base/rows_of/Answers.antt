use Rattle.std.proofs.Common.{◌∙◌, ap, Some, None}
use Rattle.std.proofs.lemmas.Result.{IfOk-weaker}
use Rattle.std.specs.FinMap.{entries}
use Rattle.msi_database_storage.specs.Streams.{stored_rows}
use Rattle.msi_transform_schema.proofs.PackagePartsLemmas.{no_rows, none_read, rows_at, rows_found, some_read}
use Rattle.msi_transform_pair.specs.Pair.{Side}
use Rattle.msi_transform_pair.proofs.base.Base.rows_of.Goals as goal

pub returns-in_default-clause-ok : goal.returns-in_default-clause-ok
returns-in_default-clause-ok c = let p = c.self.inside in
    c.new.ensures.items ∙ no_rows p.pool.now p.tables.now (entries p.streams.now) c.args.name.now c.in_default.ensures.found
    ∙ ap (λ (s : Side). rows_at s.kept.database c.args.name.now) c.self.view_is

pub returns-in-Some-table_rows-clause-ok : goal.returns-in-Some-table_rows-clause-ok
returns-in-Some-table_rows-clause-ok c = let p = c.self.inside in let t = c.in-Some.table.now in
    IfOk-weaker c.all.result _ _ (λ rows is. is
    ∙ rows_found p.pool.now p.tables.now (entries p.streams.now) c.args.name.now t (Some c.in-Some-table_rows.rows.rows) c.self.invariant.1 c.in-Some.ensures.found
    (some_read t.columns (stored_rows (entries p.streams.now) t.long t.columns t.name) c.in-Some-table_rows.rows c.in-Some-table_rows.ensures)
    ∙ ap (λ (s : Side). rows_at s.kept.database c.args.name.now) c.self.view_is) c.all.ensures.ok

pub returns-in-None-clause-ok : goal.returns-in-None-clause-ok
returns-in-None-clause-ok c = let p = c.self.inside in let t = c.in-Some.table.now in
    c.new-in-None.ensures.items
    ∙ rows_found p.pool.now p.tables.now (entries p.streams.now) c.args.name.now t None c.self.invariant.1 c.in-Some.ensures.found
    (none_read t.columns (stored_rows (entries p.streams.now) t.long t.columns t.name) c.in-None.ensures)
    ∙ ap (λ (s : Side). rows_at s.kept.database c.args.name.now) c.self.view_is
