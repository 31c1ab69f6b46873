use Rattle.std.proofs.Common.{◌++◌, Some, codes, refl}
use Rattle.std.specs.Prelude.{option_copied}
use Rattle.msi_query_tokens.specs.Names.{name_text}
use Rattle.msi_query.specs.QueryTexts.{sets_text, where_text}
use Rattle.msi_query.proofs.QueryTextLemmas.{failed_write, three_writes}
use Rattle.msi_query.proofs.query.update.UpdateDisplay.fmt.Goals as goal

pub returns-in_err-write_named : goal.returns-in_err-write_named
returns-in_err-write_named g c = record { writes = failed_write g.W.Write.write_str_gives _ _ _ _ c.from_residual.ensures.0; styled = tt }

pub returns-in_err-write_sets : goal.returns-in_err-write_sets
returns-in_err-write_sets g c = record { writes = failed_write g.W.Write.write_str_gives _ _ _ _ c.from_residual-in_err-write_sets.ensures.0; styled = tt }

pub returns : goal.returns
returns g c = record {
  writes = three_writes g.W.Write.write_str_gives c.args.f.now c.write_named.new.f c.write_sets.new.f c.write_condition.new.f
      c.write_named.result c.write_sets.result c.write_condition.result
      (Some (codes "UPDATE " ++ name_text c.self.inside.table)) (sets_text c.as_slice.result.now) (where_text (option_copied c.as_ref.result)) _
      (rw (← c.self.view_is, c.as_slice.ensures, c.as_ref.ensures.value) refl)
      (rw c.in_ok-write_named.was refl) (rw c.in_ok-write_sets.was refl)
      c.write_named.ensures c.write_sets.ensures c.write_condition.ensures;
  styled = tt;
}
