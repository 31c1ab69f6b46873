use Rattle.std.proofs.Output.{displays_on_ok_of_eq}
use Rattle.msi_query.specs.QueryTexts.{named_table}
use Rattle.msi_query.proofs.ListedLemmas.{listed-each}
use Rattle.msi_query.proofs.query.select.write_sides.Goals as goal

pub returns : goal.returns
returns g c =
    displays_on_ok_of_eq g.W.Write.write_str_gives c.args.f.now c.write_list.new.f c.write_list.result _ _
    (listed-each named_table c.args.sides.now) c.write_list.ensures
