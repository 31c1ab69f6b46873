use Rattle.msi_database.proofs.widths.CallAtBothWidthsLemmas.{same_anew, same_stores, wide_anew, wide_named, wide_stores}
use Rattle.std.proofs.lemmas.Result.{err_from_is_err_and}
use Rattle.msi_database.proofs.database.Database.rows_anew.Goals as goal

pub stream_of-requires-clause-named : goal.stream_of-requires-clause-named
stream_of-requires-clause-named c = wide_named c.args.self.now c.args.pool c.is_widened.result c.is_widened.ensures c.if-is_widened.true c.args.table.now c.in_ok-long.long c.in_ok-long.ensures.ok c.args.rows.items c.requires.named

pub stream_of-requires-clause-storable : goal.stream_of-requires-clause-storable
stream_of-requires-clause-storable c = wide_stores c.args.self.now c.args.pool c.is_widened.result c.is_widened.ensures c.if-is_widened.true c.args.table.now c.in_ok-long.long c.in_ok-long.ensures.ok c.args.rows.items c.requires.storable

pub returns-then-is_widened-clause-ok : goal.returns-then-is_widened-clause-ok
returns-then-is_widened-clause-ok c = wide_anew c.args.self.now c.args.pool c.is_widened.result c.is_widened.ensures c.if-is_widened.true c.args.table.now c.in_ok-long.long c.in_ok-long.ensures.ok c.args.rows.items
    c.in_ok-wide.wide c.in_ok-wide.ensures.ok c.in_ok-stored.stored c.in_ok-stored.ensures.name c.in_ok-stored.ensures.bytes c.into_pool.result c.into_pool.ensures c.is_used.result c.is_used.ensures

pub stream_of-requires-2-clause-storable : goal.stream_of-requires-2-clause-storable
stream_of-requires-2-clause-storable c = same_stores c.args.self.now c.args.pool c.is_widened.result c.is_widened.ensures c.if-is_widened.false c.args.table.now c.args.rows.items c.requires.long c.requires.storable

pub returns-clause-ok : goal.returns-clause-ok
returns-clause-ok c = same_anew c.args.self.now c.args.pool c.is_widened.result c.is_widened.ensures c.if-is_widened.false c.args.table.now c.args.rows.items c.requires.long
    c.in_ok-stored-2.stored c.in_ok-stored-2.ensures.name c.in_ok-stored-2.ensures.bytes c.into_pool-2.result c.into_pool-2.ensures c.is_used-2.result c.is_used-2.ensures

pub returns-in_err-long-clause-ok : goal.returns-in_err-long-clause-ok
returns-in_err-long-clause-ok c = let p = err_from_is_err_and c.from_residual.result c.from_residual.ensures.1 in rw p.1 tt

pub returns-in_err-stored-clause-ok : goal.returns-in_err-stored-clause-ok
returns-in_err-stored-clause-ok c = let p = err_from_is_err_and c.from_residual-in_err-stored.result c.from_residual-in_err-stored.ensures.1 in rw p.1 tt

pub returns-in_err-wide-clause-ok : goal.returns-in_err-wide-clause-ok
returns-in_err-wide-clause-ok c = let p = err_from_is_err_and c.from_residual-in_err-wide.result c.from_residual-in_err-wide.ensures.1 in rw p.1 tt

pub returns-in_err-stored-2-clause-ok : goal.returns-in_err-stored-2-clause-ok
returns-in_err-stored-2-clause-ok c = let p = err_from_is_err_and c.from_residual-in_err-stored-2.result c.from_residual-in_err-stored-2.ensures.1 in rw p.1 tt
