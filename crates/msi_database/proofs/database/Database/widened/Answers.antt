use Rattle.std.proofs.Common.{ap, subst, ◌∙◌, fold, List, map}
use Rattle.std.specs.FinMap.{entries}
use Rattle.msi_container_format.specs.Streams as maps
use Rattle.msi_table.specs.Tables.{TableDef, long_table_of}
use Rattle.msi_database_storage.specs.Kept.{Kept}
use Rattle.msi_database_storage.specs.Streams.{Streams}
use Rattle.msi_database_storage.specs.Widening.{unlisted_table, with_long_rows}
use Rattle.msi_database.specs.Keeping.{IsKeptDatabase}
use Rattle.msi_database.proofs.widths.WideningCallLemmas.{wide_parts}
use Rattle.msi_database.proofs.widths.WideRefusalLemmas.{long_pool}
use Rattle.std.proofs.lemmas.Result.{err_from_is_err_and}
use Rattle.msi_database.proofs.database.Database.widened.Goals as goal

pub invariant_of-result : goal.invariant_of-result
invariant_of-result c = let d = c.self.inside in let old = c.args.self.now in
    (wide_parts old (subst IsKeptDatabase c.self.view_is c.self.invariant.kept) c.requires d.pool (ap (λ (k : Kept). k.database.pool) c.self.view_is)
    c.widen.new.self (c.widen.ensures ∙ ap long_pool c.in_ok-pool.ensures.ok)
    c.in_ok-tables.tables (c.in_ok-tables.ensures.ok ∙ ap (λ (ts : List TableDef). map long_table_of ts) c.tables.ensures)
    (entries c.store_unlisted_long.new.streams) (c.in_ok-store_unlisted_long.ensures.ok
    ∙ ap (λ (s : Streams). with_long_rows s (unlisted_table old.database)) (c.in_ok-store_tables_long.ensures.ok
    ∙ ap (λ (m : maps.Streams). fold with_long_rows (entries m) old.database.tables) c.in_ok-streams.ensures.ok
    ∙ ap (λ (k : Kept). fold with_long_rows k.streams old.database.tables) c.self.view_is))).1

pub returns-clause-ok : goal.returns-clause-ok
returns-clause-ok c = let d = c.self.inside in let old = c.args.self.now in
    (wide_parts old (subst IsKeptDatabase c.self.view_is c.self.invariant.kept) c.requires d.pool (ap (λ (k : Kept). k.database.pool) c.self.view_is)
    c.widen.new.self (c.widen.ensures ∙ ap long_pool c.in_ok-pool.ensures.ok)
    c.in_ok-tables.tables (c.in_ok-tables.ensures.ok ∙ ap (λ (ts : List TableDef). map long_table_of ts) c.tables.ensures)
    (entries c.store_unlisted_long.new.streams) (c.in_ok-store_unlisted_long.ensures.ok
    ∙ ap (λ (s : Streams). with_long_rows s (unlisted_table old.database)) (c.in_ok-store_tables_long.ensures.ok
    ∙ ap (λ (m : maps.Streams). fold with_long_rows (entries m) old.database.tables) c.in_ok-streams.ensures.ok
    ∙ ap (λ (k : Kept). fold with_long_rows k.streams old.database.tables) c.self.view_is))).0

pub returns-in_err-streams-clause-ok : goal.returns-in_err-streams-clause-ok
returns-in_err-streams-clause-ok c = let p = err_from_is_err_and c.from_residual.result c.from_residual.ensures.1 in rw p.1 tt

pub returns-in_err-store_tables_long-clause-ok : goal.returns-in_err-store_tables_long-clause-ok
returns-in_err-store_tables_long-clause-ok c = let p = err_from_is_err_and c.from_residual-in_err-store_tables_long.result c.from_residual-in_err-store_tables_long.ensures.1 in rw p.1 tt

pub returns-in_err-store_unlisted_long-clause-ok : goal.returns-in_err-store_unlisted_long-clause-ok
returns-in_err-store_unlisted_long-clause-ok c = let p = err_from_is_err_and c.from_residual-in_err-store_unlisted_long.result c.from_residual-in_err-store_unlisted_long.ensures.1 in rw p.1 tt

pub returns-in_err-tables-clause-ok : goal.returns-in_err-tables-clause-ok
returns-in_err-tables-clause-ok c = let p = err_from_is_err_and c.from_residual-in_err-tables.result c.from_residual-in_err-tables.ensures.1 in rw p.1 tt

pub returns-in_err-pool-clause-ok : goal.returns-in_err-pool-clause-ok
returns-in_err-pool-clause-ok c = let p = err_from_is_err_and c.from_residual-in_err-pool.result c.from_residual-in_err-pool.ensures.1 in rw p.1 tt
