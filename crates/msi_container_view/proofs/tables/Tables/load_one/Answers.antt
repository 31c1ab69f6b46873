use Rattle.std.proofs.Common.{rules, ◌≡◌, ◌+◌, ◌*◌, refl}
use Rattle.msi_container_format.specs.Container.{sector_size}
use Rattle.msi_container_view.proofs.table_lemmas.StandLemmas.{first_behind, one_stands}
use Rattle.msi_container_view.proofs.tables.Tables.load_one.Goals as goal

pub returns-clause-stand : goal.returns-clause-stand
returns-clause-stand g c =
    let t = c.args.self.now in
    let size : c.sector_size-size.result ≡ sector_size t.copy = search rules in
    let first = first_behind t c.len.result c.sector_size-size.result c.requires.copied (search rules) size in
    one_stands t c.args.self.now.held c.append.new.into.items c.args.sector ((c.args.sector + 1) * c.sector_size-size.result) c.sector_size-size.result _ c.requires.copied first refl (search rules) size (search rules)
