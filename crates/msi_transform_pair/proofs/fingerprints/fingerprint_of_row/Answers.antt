use Rattle.std.proofs.Common.{◌+◌, ◌∙◌, ◌≤◌, ◌⊎◌, ℕ, List, ap, arith, get_or, inl, inr, length, sym}
use Rattle.std.specs.Prelude.{fold}
use Rattle.std.proofs.lemmas.Bool.{cases_lt}
use Rattle.std.proofs.lemmas.List.{get_or_default}
use Rattle.msi_table_cells.specs.declared.cell.ValueRef.TheVariants as cell
use Rattle.msi_table_values.specs.declared.value.Value.{Value}
use Rattle.msi_transform_pair.specs.Fingerprints.{with_value}
use Rattle.msi_transform_pair.proofs.FingerprintLemmas.{key_ends, key_rest, key_skips, key_takes}
use Rattle.msi_transform_pair.proofs.fingerprints.fingerprint_of_row.Goals as goal

pub loop-i-preserved-then-not-is_primary_key : goal.loop-i-preserved-then-not-is_primary_key
loop-i-preserved-then-not-is_primary_key c =
    let row = c.args.row.now in let i = c.loop-i.i in let x = get_or row i cell.Null in record {
      same = ap (λ (vs : List Value). fold with_value c.loop-i.print vs)
          (sym (key_skips c.args.pool.now.places c.args.columns.now row i c.index-columns-i.result x (omega arith) (omega arith) c.index-columns-i.is
          (get_or_default row i cell.Null x (omega arith)) (sym c.is_primary_key.ensures ∙ c.if-not-is_primary_key.true)))
          ∙ c.loop-i.invariant.same;
    }

pub loop-i-preserved : goal.loop-i-preserved
loop-i-preserved c =
    let places = c.args.pool.now.places in let row = c.args.row.now in let i = c.loop-i.i in record {
      same = ap (λ (n : ℕ). fold with_value n (key_rest places c.args.columns.now row (i + 1))) (c.with_value-print.ensures ∙ ap (with_value c.loop-i.print) c.view_of_cell.ensures)
          ∙ ap (λ (vs : List Value). fold with_value c.loop-i.print vs)
          (sym (key_takes places c.args.columns.now row i c.index-columns-i.result c.index-row-i.result (omega arith) (omega arith) c.index-columns-i.is
          c.index-row-i.is (sym c.is_primary_key.ensures ∙ c.if-not-is_primary_key.false)))
          ∙ c.loop-i.invariant.same;
    }

pub returns : goal.returns
returns c =
    let past : (length c.args.columns.now ≤ c.loop-i.i) ⊎ (length c.args.row.now ≤ c.loop-i.i) =
    elim (cases_lt (length c.args.columns.now) (length c.args.row.now)) [ inl f ↦ inl (omega arith) | inr g ↦ inr (omega arith) ] in
    ap (λ (vs : List Value). fold with_value c.loop-i.print vs) (sym (key_ends c.args.pool.now.places c.args.columns.now c.args.row.now c.loop-i.i past)) ∙ c.loop-i.invariant.same
