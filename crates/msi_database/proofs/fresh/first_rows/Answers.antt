use Rattle.msi_database.proofs.FreshCallLemmas.{first_some, first_storable, first_begins}
use Rattle.msi_database.proofs.fresh.first_rows.Goals as goal

pub first_cells-requires : goal.first_cells-requires
first_cells-requires c = first_some c.args.table.now c.args.pool.now c.columns.result.now c.args.rows.items c.requires.long c.columns.ensures.columns c.requires.fits

pub stream_of-requires-clause-storable : goal.stream_of-requires-clause-storable
stream_of-requires-clause-storable c =
    first_storable c.args.table.now c.args.pool.now c.columns.result.now c.args.rows.items c.requires.long c.columns.ensures.columns c.requires.fits c.in_ok-all.all.items _ c.in_ok-all.ensures.ok

pub returns-clause-ok : goal.returns-clause-ok
returns-clause-ok c =
    first_begins c.args.table.now c.args.pool.now c.columns.result.now c.args.rows.items c.requires.long c.columns.ensures.columns c.requires.fits c.in_ok-all.all.items _ c.in_ok-all.ensures.ok
    c.stream_of.result c.stream_of.ensures.name c.stream_of.ensures.bytes
