use Rattle.std.proofs.Common.{◌≡◌, true, ◌+◌, ◌&&◌, sym, ap, ◌∙◌, arith}
use Rattle.msi_table_values.specs.ValidValues.{is_valid_value}
use Rattle.msi_database_changes.proofs.row_changes.RowFitLemmas.{fits_from, fits_next}
use Rattle.msi_database_changes.proofs.insert.row_fits.Goals as goal

pub loop-i-preserved : goal.loop-i-preserved
loop-i-preserved c =
    let columns = c.args.columns.now in
    let row = c.args.row.now in
    let i = c.loop-i.i in
    let valid : is_valid_value c.index-columns-i.result c.index-row-i.result ≡ true = sym c.is_valid_value.ensures ∙ c.if-not-is_valid_value.false in
    let next = fits_next columns row i c.index-columns-i.result c.index-row-i.result c.loop-i-test.true (omega (arith, c.loop-i-test.true, c.loop-i.invariant.wide))
    c.index-columns-i.is c.index-row-i.is in
    record {
      passed = sym (next ∙ ap (λ b. b && fits_from columns row (i + 1)) valid) ∙ c.loop-i.invariant.passed;
      wide = c.loop-i.invariant.wide;
    }
