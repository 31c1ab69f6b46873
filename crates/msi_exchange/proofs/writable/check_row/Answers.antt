use Rattle.std.proofs.Common.{◌≡◌, ◌==◌, not, true, false, length, sym, ap, ◌∙◌, subst}
use Rattle.msi_base.specs.declared.errors.ErrorKind.TheVariants as kind
use Rattle.msi_exchange.specs.Places.{Fault, IsAt, at, uneven, unless}
use Rattle.msi_exchange.specs.Writing.{Checks}
use Rattle.msi_exchange.proofs.CheckLemmas.{checks_on}
use Rattle.msi_exchange.proofs.PlaceLemmas.{at_first, at_later, input_at, is_even, placed_later, placed_on}
use Rattle.msi_exchange.proofs.WritableLemmas.{line_is, no_line, row_uneven, some_columns}
use Rattle.msi_exchange.proofs.writable.check_row.Goals as goal

pub returns-then-columns-row : goal.returns-then-columns-row
returns-then-columns-row c = record {
  kind = (ap (λ (e : Fault). e.kind) c.new.ensures, row_uneven c.args.columns.now c.args.row.now c.if-columns-row.true);
  place = at_first c.new.result.place c.new.result.kind _ _ (input_at c.new.result c.uneven-place.result _ c.new.ensures c.uneven-place.ensures);
}

pub returns-in_err-check : goal.returns-in_err-check
returns-in_err-check c =
    let empty : not c.is_empty.result ≡ not (length c.args.columns.now == 0) = ap not c.is_empty.ensures in
    record {
      kind = checks_on c.from_residual.result c.in_err-check.field-0.0 _ c.from_residual.ensures.1 c.in_err-check.ensures.kind.0
          (no_line c.args.columns.now c.args.row.now (sym empty ∙ c.in_err-check.ensures.kind.1));
      place = placed_on c.from_residual.result c.in_err-check.field-0.0 _ c.from_residual.ensures.1
          (at_later c.in_err-check.field-0.0.place c.in_err-check.field-0.0.kind (uneven c.args.line (length c.args.columns.now) (length c.args.row.now)) _
          (is_even c.args.line (length c.args.columns.now) (length c.args.row.now) c.if-columns-row.false)
          (at_first c.in_err-check.field-0.0.place c.in_err-check.field-0.0.kind _ _
          (subst (λ b. IsAt c.in_err-check.field-0.0.place c.in_err-check.field-0.0.kind (unless b (at c.args.line 1))) empty c.in_err-check.ensures.place)));
    }

pub returns : goal.returns
returns c =
    let empty : not c.is_empty.result ≡ not (length c.args.columns.now == 0) = ap not c.is_empty.ensures in
    record {
      kind = subst (Checks c.check_values.result) (sym (line_is c.args.columns.now c.args.row.now (some_columns c.args.columns.now (sym empty ∙ c.in_ok-check.ensures.kind)))) c.check_values.ensures.kind;
      place = placed_later c.check_values.result _ _ (is_even c.args.line (length c.args.columns.now) (length c.args.row.now) c.if-columns-row.false)
          (placed_later c.check_values.result _ _ (ap (λ b. unless b (at c.args.line 1)) (sym empty) ∙ c.in_ok-check.ensures.place) c.check_values.ensures.place);
    }
