use Rattle.std.proofs.Common.{◌∙◌, None, ap, map, refl}
use Rattle.std.proofs.lemmas.List.{take_all}
use Rattle.std.proofs.lemmas.Result.{err_from_is_err_and}
use Rattle.msi_table.specs.Rows.{cell_at}
use Rattle.msi_table.proofs.PlacesLemmas.{mapped_push}
use Rattle.msi_table.proofs.picked.projected_row.Goals as goal

pub returns-in_err-cells : goal.returns-in_err-cells
returns-in_err-cells c =
    let p = err_from_is_err_and c.from_residual.result c.from_residual.ensures.1 in
    rw (p.1, p.2) (record { ok = tt; kind = refl })

pub returns-in_err-push : goal.returns-in_err-push
returns-in_err-push c =
    let p = err_from_is_err_and c.from_residual-in_err-push.result c.from_residual-in_err-push.ensures.1 in
    rw (p.1, p.2) (record { ok = tt; kind = refl })

pub loop-place-preserved : goal.loop-place-preserved
loop-place-preserved c = record {
  cells = mapped_push (cell_at c.args.row.now) c.args.places.now c.loop-place.cells.items c.push.new.self.items c.loop-place.place-index None c.cell_of.result
      c.loop-place-test.true c.in_ok-push.ensures.items c.loop-place.invariant.cells c.cell_of.ensures;
}

pub returns : goal.returns
returns c = record {
  ok = c.from_vec.ensures ∙ c.loop-place.invariant.cells ∙ ap (map (cell_at c.args.row.now)) (take_all c.loop-place.place-index c.args.places.now c.loop-place-test.false);
  kind = tt;
}
