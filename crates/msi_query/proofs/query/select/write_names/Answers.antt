use Rattle.std.proofs.Common.{◌∙◌, sym}
use Rattle.std.proofs.Output.{displays_on_ok_of_eq}
use Rattle.msi_query.proofs.ListedLemmas.{listed-columns}
use Rattle.msi_query.proofs.query.select.write_names.Goals as goal

pub returns-else-is_empty : goal.returns-else-is_empty
returns-else-is_empty g c =
    displays_on_ok_of_eq g.W.Write.write_str_gives c.args.f.now c.write_name_list.new.f c.write_name_list.result _ _
    (listed-columns c.args.columns.now (sym c.is_empty.ensures ∙ c.if-is_empty.false)) c.write_name_list.ensures
