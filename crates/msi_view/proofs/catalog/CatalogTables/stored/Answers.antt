use Rattle.std.proofs.Common.{◌≡◌, ap, sym, ◌∙◌, None, Some}
use Rattle.std.specs.Prelude.{option_copied}
use Rattle.std.specs.FinMap.{entries}
use Rattle.msi_database_storage.specs.Kept.{table_kept_at}
use Rattle.msi_database.proofs.keeping.WholeTableLemmas.{whole_in_place, whole_none, whole_refused}
use Rattle.msi_view.proofs.catalog.CatalogTables.stored.Goals as goal

pub returns-in_default-clause-kind : goal.returns-in_default-clause-kind
returns-in_default-clause-kind c = let d = c.self.inside in
    let absent : table_kept_at c.args.name.now d.tables ≡ None =
    sym (ap (table_kept_at c.args.name.now) c.as_slice.ensures) ∙ sym c.table_named.ensures.found ∙ ap option_copied c.in_default.is in
    rw (← c.self.view_is, c.new.ensures) (whole_none d.pool d.tables (entries d.streams) c.args.name.now absent)

pub returns-in-Some-table_rows-clause-ok : goal.returns-in-Some-table_rows-clause-ok
returns-in-Some-table_rows-clause-ok c = let d = c.self.inside in let table = c.in-Some.table.now in
    let found : table_kept_at c.args.name.now d.tables ≡ Some table = sym (ap (table_kept_at c.args.name.now) c.as_slice.ensures) ∙ sym c.in-Some.ensures.found in
    rw (← c.self.view_is) (whole_in_place d.pool d.tables (entries d.streams) c.args.name.now table c.in-Some-table_rows.stored c.self.invariant found
    (sym c.table_rows.ensures ∙ c.in-Some-table_rows.is))

pub returns-in-None-clause-kind : goal.returns-in-None-clause-kind
returns-in-None-clause-kind c = let d = c.self.inside in let table = c.in-Some.table.now in
    let found : table_kept_at c.args.name.now d.tables ≡ Some table = sym (ap (table_kept_at c.args.name.now) c.as_slice.ensures) ∙ sym c.in-Some.ensures.found in
    rw (← c.self.view_is, c.new-in-None.ensures) (whole_refused d.pool d.tables (entries d.streams) c.args.name.now table c.self.invariant found
    (sym c.table_rows.ensures ∙ c.in-None.is))
