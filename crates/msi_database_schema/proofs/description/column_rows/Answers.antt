use Rattle.std.proofs.Common.{arith, refl, ◌+◌}
use Rattle.msi_database_schema.proofs.DescriptionLemmas.{rows_more, short_at}
use Rattle.std.proofs.lemmas.Result.{err_from_is_err_and}
use Rattle.msi_database_schema.proofs.description.column_rows.Goals as goal

pub column_row-requires : goal.column_row-requires
column_row-requires c = short_at c.args.columns.now c.loop-i.i c.index-columns-i.result c.requires.short (omega arith) c.index-columns-i.is

pub loop-i-preserved : goal.loop-i-preserved
loop-i-preserved c = record {
  rows = rows_more c.args.table.now c.args.columns.now c.loop-i.i c.index-columns-i.result (c.loop-i.i + 1) c.loop-i.rows.items c.push.new.self.items c.in_ok-column_row.field-0
      (omega arith) c.index-columns-i.is refl c.loop-i.invariant.rows c.in_ok-column_row.ensures.ok c.in_ok-push.ensures.items;
}

pub returns-in_err-column_row-clause-ok : goal.returns-in_err-column_row-clause-ok
returns-in_err-column_row-clause-ok c = let p = err_from_is_err_and c.from_residual.result c.from_residual.ensures.1 in rw p.1 tt

pub returns-in_err-push-clause-ok : goal.returns-in_err-push-clause-ok
returns-in_err-push-clause-ok c = let p = err_from_is_err_and c.from_residual-in_err-push.result c.from_residual-in_err-push.ensures.1 in rw p.1 tt
