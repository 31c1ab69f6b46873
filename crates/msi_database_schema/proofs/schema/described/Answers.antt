use Rattle.std.proofs.Common.{◌∙◌, Some, ap, sym}
use Rattle.std.specs.Prelude.{option_map}
use Rattle.std.proofs.lemmas.Result.{err_from_is_err_and}
use Rattle.std.proofs.lemmas.Bool.{or_parts}
use Rattle.msi_database_schema.specs.ListedTables.{listed_tables, with_system}
use Rattle.msi_database_schema.specs.RowOrders.{number_in, numbers_cmp, rows_of, texts_at, texts_cmp}
use Rattle.msi_database_schema.specs.Schema.{has_long_number, has_odd_name, tables_of}
use Rattle.msi_database_schema.proofs.ListingLemmas.{nothing_described, short_sorted, tables_given}
use Rattle.msi_database_schema.proofs.OrderLemmas.{ascending}
use Rattle.msi_database_schema.proofs.ReadColumnLemmas.{fails_on}
use Rattle.msi_database_schema.proofs.RowOrderLemmas.{numbers_total, texts_total}
use Rattle.msi_database_schema.proofs.schema.described.Goals as goal

pub listed_tables-requires-clause-by_number : goal.listed_tables-requires-clause-by_number
listed_tables-requires-clause-by_number c = ascending number_in numbers_cmp numbers_total c.as_slice-2.result.now c.args.columns.items (c.as_slice-2.ensures.value ∙ c.in_ok-sort_by_numbers.ensures.ok)

pub listed_tables-requires-clause-by_name : goal.listed_tables-requires-clause-by_name
listed_tables-requires-clause-by_name c = ascending (texts_at 1) texts_cmp texts_total c.as_slice-3.result.now c.args.validation.items (c.as_slice-3.ensures.value ∙ c.in_ok-sort_by_texts.ensures.ok)

pub listed_tables-requires-clause-short : goal.listed_tables-requires-clause-short
listed_tables-requires-clause-short c = short_sorted c.args.columns.items c.as_slice-2.result.now (c.as_slice-2.ensures.value ∙ c.in_ok-sort_by_numbers.ensures.ok)
    (or_parts (has_odd_name c.args.tables.items) (has_long_number c.args.columns.items) c.requires.fits).1

pub returns-in_err-read : goal.returns-in_err-read
returns-in_err-read c =
    let s = rows_of c.args.tables.items c.args.columns.items c.args.validation.items in
    let p = err_from_is_err_and c.from_residual-in_err-read.result c.from_residual-in_err-read.ensures.1 in
    rw (p.1, p.2) (fails_on _ (option_map (with_system c.args.long) (listed_tables c.args.long (rows_of c.as_slice.result.now c.as_slice-2.result.now c.as_slice-3.result.now))) (tables_of c.args.long s)
    (nothing_described c.args.long s c.as_slice.result.now c.as_slice-2.result.now c.as_slice-3.result.now c.as_slice.ensures.value (c.as_slice-2.ensures.value ∙ c.in_ok-sort_by_numbers.ensures.ok)
    (c.as_slice-3.ensures.value ∙ c.in_ok-sort_by_texts.ensures.ok) c.requires.fits) c.in_err-read.ensures)

pub returns : goal.returns
returns c =
    let s = rows_of c.args.tables.items c.args.columns.items c.args.validation.items in
    tables_given c.args.long s c.as_slice.result.now c.as_slice-2.result.now c.as_slice-3.result.now c.as_slice.ensures.value (c.as_slice-2.ensures.value ∙ c.in_ok-sort_by_numbers.ensures.ok)
    (c.as_slice-3.ensures.value ∙ c.in_ok-sort_by_texts.ensures.ok) c.requires.fits c.in_ok-read.read.items c.in_ok-read.ensures c.requires.sound
    ∙ ap Some (sym (c.from_vec.ensures ∙ c.in_ok-sort_by_names.ensures.ok))
