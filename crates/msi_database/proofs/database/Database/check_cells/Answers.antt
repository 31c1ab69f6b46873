use Rattle.std.proofs.Common.{◌≡◌, ◌∙◌, true, sym}
use Rattle.std.specs.FinMap.{entries}
use Rattle.msi_database_changes.specs.Database.{names_stay_in_pool, validation_is_standard}
use Rattle.msi_database.proofs.CellsCensusLemmas.{counts_fit_is}
use Rattle.msi_database.proofs.keeping.RecountingLemmas.{none_refused, refused_for_columns, refused_for_counts, standard_here}
use Rattle.msi_database.proofs.database.Database.check_cells.Goals as goal

pub returns-then-not-is_standard-clause-answer : goal.returns-then-not-is_standard-clause-answer
returns-then-not-is_standard-clause-answer c = let d = c.self.inside in let now = c.args.self.now.database in
    refused_for_columns now c.invalid.result c.invalid.ensures
    (sym (standard_here d.pool d.tables c.as_slice.result.now (entries d.streams) c.as_slice.ensures c.args.self.now c.self.view_is c.is_standard.result c.args.standard.now c.requires.standard c.is_standard.ensures)
    ∙ c.if-not-is_standard.true)

pub returns-then-not-fits-clause-answer : goal.returns-then-not-fits-clause-answer
returns-then-not-fits-clause-answer c = let d = c.self.inside in let now = c.args.self.now.database in
    let standard : validation_is_standard now ≡ true =
    sym (standard_here d.pool d.tables c.as_slice.result.now (entries d.streams) c.as_slice.ensures c.args.self.now c.self.view_is c.is_standard.result c.args.standard.now c.requires.standard c.is_standard.ensures)
    ∙ c.if-not-is_standard.false in
    let within : names_stay_in_pool now ≡ true = sym c.requires.census.within ∙ sym c.is_within.ensures ∙ c.if-not-is_within.false in
    refused_for_counts now standard within c.invalid-then-not-fits.result c.invalid-then-not-fits.ensures
    (sym (counts_fit_is now c.args.census.now c.requires.census) ∙ sym c.fits.ensures ∙ c.if-not-fits.true)

pub returns-clause-answer : goal.returns-clause-answer
returns-clause-answer c = let d = c.self.inside in let now = c.args.self.now.database in
    let standard : validation_is_standard now ≡ true =
    sym (standard_here d.pool d.tables c.as_slice.result.now (entries d.streams) c.as_slice.ensures c.args.self.now c.self.view_is c.is_standard.result c.args.standard.now c.requires.standard c.is_standard.ensures)
    ∙ c.if-not-is_standard.false in
    let within : names_stay_in_pool now ≡ true = sym c.requires.census.within ∙ sym c.is_within.ensures ∙ c.if-not-is_within.false in
    none_refused now standard within (sym (counts_fit_is now c.args.census.now c.requires.census) ∙ sym c.fits.ensures ∙ c.if-not-fits.false)
