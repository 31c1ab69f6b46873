use Rattle.std.proofs.Common.{List, ap, subst, sym, ◌∙◌}
use Rattle.std.specs.FinMap.{entries}
use Rattle.msi_table_cells.specs.declared.cell.ValueRef.{ValueRef}
use Rattle.msi_table.specs.Tables.{CanStore}
use Rattle.msi_database_changes.specs.Insert.{table_with}
use Rattle.msi_database_storage.specs.Widening.{with_long_rows}
use Rattle.msi_database.specs.Keeping.{IsKeptDatabase}
use Rattle.msi_database.proofs.widths.WideningCallLemmas.{listed_def, listed_fits, listed_more, listed_named}
use Rattle.std.proofs.lemmas.Result.{err_from_is_err_and}
use Rattle.msi_database.proofs.database.Database.store_tables_long.Goals as goal

pub sound_rows-requires-clause-listed : goal.sound_rows-requires-clause-listed
sound_rows-requires-clause-listed c = listed_def c.args.self.now (subst IsKeptDatabase c.self.view_is c.self.invariant.kept) c.requires c.tables-table-items.result.now c.tables-table-items.ensures c.loop-table.table-index c.table-item.result c.loop-table-test.true c.table-item.is

pub store_long-requires-clause-named : goal.store_long-requires-clause-named
store_long-requires-clause-named c = listed_named c.args.self.now (subst IsKeptDatabase c.self.view_is c.self.invariant.kept) c.requires c.tables-table-items.result.now c.tables-table-items.ensures c.loop-table.table-index c.table-item.result c.loop-table-test.true c.table-item.is

pub store_long-requires-clause-storable : goal.store_long-requires-clause-storable
store_long-requires-clause-storable c = subst (CanStore c.table-item.result) (sym c.as_slice.ensures.value)
    (listed_fits c.args.self.now (subst IsKeptDatabase c.self.view_is c.self.invariant.kept) c.requires c.tables-table-items.result.now c.tables-table-items.ensures c.loop-table.table-index c.table-item.result c.loop-table-test.true c.table-item.is
    c.in_ok-rows.rows.items c.in_ok-rows.ensures.ok)

pub loop-table-preserved : goal.loop-table-preserved
loop-table-preserved c = record {
  so_far = listed_more c.args.self.now (subst IsKeptDatabase c.self.view_is c.self.invariant.kept) c.requires c.tables-table-items.result.now c.tables-table-items.ensures c.loop-table.table-index c.table-item.result c.loop-table-test.true c.table-item.is
      c.in_ok-rows.rows.items c.in_ok-rows.ensures.ok (entries c.args.streams.now) (entries c.loop-table.streams) (entries c.store_long.new.streams) c.loop-table.invariant.so_far
      (c.in_ok-store_long.ensures.ok ∙ ap (λ (rows : List (List ValueRef)). with_long_rows (entries c.loop-table.streams) (c.table-item.result.name, table_with c.table-item.result.columns rows)) c.as_slice.ensures.value);
}

pub returns-in_err-rows-clause-ok : goal.returns-in_err-rows-clause-ok
returns-in_err-rows-clause-ok c = let p = err_from_is_err_and c.from_residual.result c.from_residual.ensures.1 in rw p.1 tt

pub returns-in_err-store_long-clause-ok : goal.returns-in_err-store_long-clause-ok
returns-in_err-store_long-clause-ok c = let p = err_from_is_err_and c.from_residual-in_err-store_long.result c.from_residual-in_err-store_long.ensures.1 in rw p.1 tt
