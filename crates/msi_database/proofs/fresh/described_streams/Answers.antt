use Rattle.msi_database.proofs.FreshMadeLemmas.{short, columns_key, tables_key, validation_key, columns_long, tables_long, validation_long, columns_can, tables_can, validation_can, streams_made, pool_made}
use Rattle.msi_database_storage.proofs.PassedLemmas.{memory_passed, no_value}
use Rattle.msi_base.specs.declared.errors.ErrorKind.TheVariants.{OutOfMemory}
use Rattle.msi_database.proofs.fresh.described_streams.Goals as goal
use Rattle.std.proofs.Common.{◌∙◌, refl}

pub column_rows-requires-clause-short : goal.column_rows-requires-clause-short
column_rows-requires-clause-short c = short c.args.system.now.validation c.columns.result.now c.requires.validation c.columns.ensures.columns

pub first_rows-requires-clause-long : goal.first_rows-requires-clause-long
first_rows-requires-clause-long c = let s = c.args.system.now in
    columns_long s.columns s.tables s.validation c.requires.columns c.requires.tables c.requires.validation c.args.pool.now c.requires.pool

pub first_rows-requires-clause-named : goal.first_rows-requires-clause-named
first_rows-requires-clause-named c = columns_key c.args.system.now.columns c.requires.columns

pub first_rows-requires-clause-fits : goal.first_rows-requires-clause-fits
first_rows-requires-clause-fits c = let s = c.args.system.now in
    columns_can s.columns s.tables s.validation c.requires.columns c.requires.tables c.requires.validation c.args.pool.now c.requires.pool
    c.columns.result.now c.columns.ensures.columns c.in_ok-described.described.items c.in_ok-described.ensures.ok

pub first_rows-requires-2-clause-long : goal.first_rows-requires-2-clause-long
first_rows-requires-2-clause-long c = let s = c.args.system.now in
    tables_long s.columns s.tables s.validation c.requires.columns c.requires.tables c.requires.validation c.args.pool.now c.requires.pool
    c.first_rows.new.pool c.in_ok-columns.ensures.long

pub first_rows-requires-2-clause-named : goal.first_rows-requires-2-clause-named
first_rows-requires-2-clause-named c = tables_key c.args.system.now.tables c.requires.tables

pub first_rows-requires-2-clause-fits : goal.first_rows-requires-2-clause-fits
first_rows-requires-2-clause-fits c = let s = c.args.system.now in
    tables_can s.columns s.tables s.validation c.requires.columns c.requires.tables c.requires.validation c.args.pool.now c.requires.pool
    c.columns.result.now c.columns.ensures.columns c.in_ok-described.described.items c.in_ok-described.ensures.ok
    c.in_ok-columns.columns c.first_rows.new.pool c.in_ok-columns.ensures.ok c.in_ok-tables_row.field-0 c.in_ok-tables_row.ensures.ok c.in_ok-listed.listed.items c.in_ok-listed.ensures.items

pub first_rows-requires-3-clause-long : goal.first_rows-requires-3-clause-long
first_rows-requires-3-clause-long c = let s = c.args.system.now in
    validation_long s.columns s.tables s.validation c.requires.columns c.requires.tables c.requires.validation c.args.pool.now c.requires.pool
    c.first_rows.new.pool c.first_rows-2.new.pool c.in_ok-columns.ensures.long c.in_ok-tables.ensures.long

pub first_rows-requires-3-clause-named : goal.first_rows-requires-3-clause-named
first_rows-requires-3-clause-named c = validation_key c.args.system.now.validation c.requires.validation

pub first_rows-requires-3-clause-fits : goal.first_rows-requires-3-clause-fits
first_rows-requires-3-clause-fits c = let s = c.args.system.now in
    validation_can s.columns s.tables s.validation c.requires.columns c.requires.tables c.requires.validation c.args.pool.now c.requires.pool
    c.columns.result.now c.columns.ensures.columns c.in_ok-described.described.items c.in_ok-described.ensures.ok
    c.in_ok-columns.columns c.first_rows.new.pool c.in_ok-columns.ensures.ok c.in_ok-tables_row.field-0 c.in_ok-tables_row.ensures.ok c.in_ok-listed.listed.items c.in_ok-listed.ensures.items
    c.in_ok-tables.tables c.first_rows-2.new.pool c.in_ok-tables.ensures.ok c.columns-2.result.now c.columns-2.ensures.columns c.in_ok-validated.validated.items c.in_ok-validated.ensures.ok

pub returns-clause-ok : goal.returns-clause-ok
returns-clause-ok c = let s = c.args.system.now in
    c.in_ok-from_array.ensures.items
    ∙ streams_made s.columns s.tables s.validation c.requires.columns c.requires.tables c.requires.validation c.args.pool.now c.requires.pool
    c.columns.result.now c.columns.ensures.columns c.in_ok-described.described.items c.in_ok-described.ensures.ok
    c.in_ok-columns.columns c.first_rows.new.pool c.in_ok-columns.ensures.ok c.in_ok-tables_row.field-0 c.in_ok-tables_row.ensures.ok c.in_ok-listed.listed.items c.in_ok-listed.ensures.items
    c.in_ok-tables.tables c.first_rows-2.new.pool c.in_ok-tables.ensures.ok c.columns-2.result.now c.columns-2.ensures.columns c.in_ok-validated.validated.items c.in_ok-validated.ensures.ok
    c.in_ok-validation.validation c.first_rows-3.new.pool c.in_ok-validation.ensures.ok

pub returns-clause-pool : goal.returns-clause-pool
returns-clause-pool c = let s = c.args.system.now in
    pool_made s.columns s.tables s.validation c.requires.columns c.requires.tables c.requires.validation c.args.pool.now c.requires.pool
    c.columns.result.now c.columns.ensures.columns c.in_ok-described.described.items c.in_ok-described.ensures.ok
    c.in_ok-columns.columns c.first_rows.new.pool c.in_ok-columns.ensures.ok c.in_ok-tables_row.field-0 c.in_ok-tables_row.ensures.ok c.in_ok-listed.listed.items c.in_ok-listed.ensures.items
    c.in_ok-tables.tables c.first_rows-2.new.pool c.in_ok-tables.ensures.ok c.columns-2.result.now c.columns-2.ensures.columns c.in_ok-validated.validated.items c.in_ok-validated.ensures.ok
    c.in_ok-validation.validation c.first_rows-3.new.pool c.in_ok-validation.ensures.ok
    c.in_ok-columns.ensures.page c.in_ok-tables.ensures.page c.in_ok-validation.ensures.page c.in_ok-columns.ensures.long c.in_ok-tables.ensures.long c.in_ok-validation.ensures.long

pub returns-in_err-described-clause-ok : goal.returns-in_err-described-clause-ok
returns-in_err-described-clause-ok c = no_value _ c.from_residual.result c.in_err-described.field-0.0 c.from_residual.ensures.1

pub returns-in_err-described-clause-pool : goal.returns-in_err-described-clause-pool
returns-in_err-described-clause-pool c = no_value _ c.from_residual.result c.in_err-described.field-0.0 c.from_residual.ensures.1

pub returns-in_err-described-clause-kind : goal.returns-in_err-described-clause-kind
returns-in_err-described-clause-kind c = memory_passed c.from_residual.result c.in_err-described.field-0.0 c.from_residual.ensures.1 c.in_err-described.ensures.kind

pub returns-in_err-columns-clause-ok : goal.returns-in_err-columns-clause-ok
returns-in_err-columns-clause-ok c = no_value _ c.from_residual-in_err-columns.result c.in_err-columns.field-0.0 c.from_residual-in_err-columns.ensures.1

pub returns-in_err-columns-clause-pool : goal.returns-in_err-columns-clause-pool
returns-in_err-columns-clause-pool c = no_value _ c.from_residual-in_err-columns.result c.in_err-columns.field-0.0 c.from_residual-in_err-columns.ensures.1

pub returns-in_err-columns-clause-kind : goal.returns-in_err-columns-clause-kind
returns-in_err-columns-clause-kind c = memory_passed c.from_residual-in_err-columns.result c.in_err-columns.field-0.0 c.from_residual-in_err-columns.ensures.1 c.in_err-columns.ensures.kind

pub returns-in_err-tables_row-clause-ok : goal.returns-in_err-tables_row-clause-ok
returns-in_err-tables_row-clause-ok c = no_value _ c.from_residual-in_err-tables_row.result c.in_err-tables_row.field-0.0 c.from_residual-in_err-tables_row.ensures.1

pub returns-in_err-tables_row-clause-pool : goal.returns-in_err-tables_row-clause-pool
returns-in_err-tables_row-clause-pool c = no_value _ c.from_residual-in_err-tables_row.result c.in_err-tables_row.field-0.0 c.from_residual-in_err-tables_row.ensures.1

pub returns-in_err-tables_row-clause-kind : goal.returns-in_err-tables_row-clause-kind
returns-in_err-tables_row-clause-kind c = memory_passed c.from_residual-in_err-tables_row.result c.in_err-tables_row.field-0.0 c.from_residual-in_err-tables_row.ensures.1 c.in_err-tables_row.ensures.kind

pub returns-in_err-listed-clause-ok : goal.returns-in_err-listed-clause-ok
returns-in_err-listed-clause-ok c = no_value _ c.from_residual-in_err-listed.result OutOfMemory c.from_residual-in_err-listed.ensures.1

pub returns-in_err-listed-clause-pool : goal.returns-in_err-listed-clause-pool
returns-in_err-listed-clause-pool c = no_value _ c.from_residual-in_err-listed.result OutOfMemory c.from_residual-in_err-listed.ensures.1

pub returns-in_err-listed-clause-kind : goal.returns-in_err-listed-clause-kind
returns-in_err-listed-clause-kind c = memory_passed c.from_residual-in_err-listed.result OutOfMemory c.from_residual-in_err-listed.ensures.1 refl

pub returns-in_err-tables-clause-ok : goal.returns-in_err-tables-clause-ok
returns-in_err-tables-clause-ok c = no_value _ c.from_residual-in_err-tables.result c.in_err-tables.field-0.0 c.from_residual-in_err-tables.ensures.1

pub returns-in_err-tables-clause-pool : goal.returns-in_err-tables-clause-pool
returns-in_err-tables-clause-pool c = no_value _ c.from_residual-in_err-tables.result c.in_err-tables.field-0.0 c.from_residual-in_err-tables.ensures.1

pub returns-in_err-tables-clause-kind : goal.returns-in_err-tables-clause-kind
returns-in_err-tables-clause-kind c = memory_passed c.from_residual-in_err-tables.result c.in_err-tables.field-0.0 c.from_residual-in_err-tables.ensures.1 c.in_err-tables.ensures.kind

pub returns-in_err-validated-clause-ok : goal.returns-in_err-validated-clause-ok
returns-in_err-validated-clause-ok c = no_value _ c.from_residual-in_err-validated.result c.in_err-validated.field-0.0 c.from_residual-in_err-validated.ensures.1

pub returns-in_err-validated-clause-pool : goal.returns-in_err-validated-clause-pool
returns-in_err-validated-clause-pool c = no_value _ c.from_residual-in_err-validated.result c.in_err-validated.field-0.0 c.from_residual-in_err-validated.ensures.1

pub returns-in_err-validated-clause-kind : goal.returns-in_err-validated-clause-kind
returns-in_err-validated-clause-kind c = memory_passed c.from_residual-in_err-validated.result c.in_err-validated.field-0.0 c.from_residual-in_err-validated.ensures.1 c.in_err-validated.ensures.kind

pub returns-in_err-validation-clause-ok : goal.returns-in_err-validation-clause-ok
returns-in_err-validation-clause-ok c = no_value _ c.from_residual-in_err-validation.result c.in_err-validation.field-0.0 c.from_residual-in_err-validation.ensures.1

pub returns-in_err-validation-clause-pool : goal.returns-in_err-validation-clause-pool
returns-in_err-validation-clause-pool c = no_value _ c.from_residual-in_err-validation.result c.in_err-validation.field-0.0 c.from_residual-in_err-validation.ensures.1

pub returns-in_err-validation-clause-kind : goal.returns-in_err-validation-clause-kind
returns-in_err-validation-clause-kind c = memory_passed c.from_residual-in_err-validation.result c.in_err-validation.field-0.0 c.from_residual-in_err-validation.ensures.1 c.in_err-validation.ensures.kind

pub returns-in_err-from_array-clause-ok : goal.returns-in_err-from_array-clause-ok
returns-in_err-from_array-clause-ok c = no_value _ c.from_residual-in_err-from_array.result OutOfMemory c.from_residual-in_err-from_array.ensures.1

pub returns-in_err-from_array-clause-pool : goal.returns-in_err-from_array-clause-pool
returns-in_err-from_array-clause-pool c = no_value _ c.from_residual-in_err-from_array.result OutOfMemory c.from_residual-in_err-from_array.ensures.1

pub returns-in_err-from_array-clause-kind : goal.returns-in_err-from_array-clause-kind
returns-in_err-from_array-clause-kind c = memory_passed c.from_residual-in_err-from_array.result OutOfMemory c.from_residual-in_err-from_array.ensures.1 refl
