use Rattle.std.proofs.Common.{rules, ◌≡◌, ◌-◌, ◌++◌, length, take}
use Rattle.std.specs.Prelude.{replicate}
use Rattle.msi_container_view.specs.Reading.{IsAppended}
use Rattle.msi_container_format.specs.Container.{IsHeader}
use Rattle.msi_container_view.proofs.HeaderLemmas.{header_read, length_read, first_sector}
use Rattle.msi_container_view.proofs.copies.HeaderCopyLemmas.{header_of_copy}
use Rattle.msi_container_view.proofs.tables.Tables.open.Goals as goal

pub returns-clause-answer : goal.returns-clause-answer
returns-clause-answer g c = λ file told.
    let copy = c.append.new.into.items in
    let read : IsAppended c.args.reading.held 0 512 c.new-copy.result.items copy = search rules in
    let header : IsHeader copy = search rules in
    header_of_copy file copy (header_read c.args.reading.held c.new-copy.result.items copy c.new-copy.ensures.items read file told) header

pub returns-clause-copied : goal.returns-clause-copied
returns-clause-copied g c =
    let copy = c.append.new.into.items in
    let read : IsAppended c.args.reading.held 0 512 c.new-copy.result.items copy = search rules in
    let long : length copy ≡ 512 = length_read c.args.reading.held c.new-copy.result.items copy c.new-copy.ensures.items read in
    let whole : c.resize.new.self.items ≡ take c.sector_size-size.result copy ++ replicate (c.sector_size-size.result - length copy) 0 = search rules in
    first_sector c.args.reading.held _ copy c.sector_size-size.result long (search rules) (search rules) whole (search rules) (search rules)
    (header_read c.args.reading.held c.new-copy.result.items copy c.new-copy.ensures.items read)
