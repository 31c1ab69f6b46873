use Rattle.std.proofs.Common.{◌++◌, Some, codes, refl}
use Rattle.std.specs.Prelude.{option_copied}
use Rattle.msi_query_tokens.specs.Names.{name_text}
use Rattle.msi_query.specs.QueryTexts.{where_text}
use Rattle.msi_query.proofs.QueryTextLemmas.{failed_write, two_writes}
use Rattle.msi_query.proofs.query.delete.DeleteDisplay.fmt.Goals as goal

pub returns-in_err-write_named : goal.returns-in_err-write_named
returns-in_err-write_named g c = record { writes = failed_write g.W.Write.write_str_gives _ _ _ _ c.from_residual.ensures.0; styled = tt }

pub returns : goal.returns
returns g c = record {
  writes = two_writes g.W.Write.write_str_gives c.args.f.now c.write_named.new.f c.write_condition.new.f c.write_named.result c.write_condition.result
      (Some (codes "DELETE FROM " ++ name_text c.self.inside.table)) (where_text (option_copied c.as_ref.result)) _
      (rw (← c.self.view_is, c.as_ref.ensures.value) refl)
      (rw c.in_ok-write_named.was refl) c.write_named.ensures c.write_condition.ensures;
  styled = tt;
}
