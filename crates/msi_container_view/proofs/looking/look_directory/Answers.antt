use Rattle.std.proofs.Common.{rules, ◌≡◌, ◌∙◌}
use Rattle.msi_container_format.specs.Container.{IsDirectory, IsWholeChain, successor, directory_start}
use Rattle.msi_container_view.proofs.table_lemmas.AnswerLemmas.{broken_or_refused, not_memory}
use Rattle.msi_container_view.proofs.table_lemmas.LookLemmas.{directory_is, directory_was}
use Rattle.msi_container_view.proofs.looking.look_directory.Goals as goal

pub returns-in_err-sectors-clause-answer : goal.returns-in_err-sectors-clause-answer
returns-in_err-sectors-clause-answer g c =
    let t = c.args.tables.now in
    let fat = c.args.fat.now in
    let bytes = c.new-table.ensures.bytes ∙ c.copy.ensures in
    let places = c.new-table.ensures.sectors ∙ c.as_slice.ensures.value in
    let first : c.number32-first.result ≡ directory_start t.copy = search rules in
    broken_or_refused g.S.Source.can_fail _ _ _ c.from_residual.result _ c.from_residual.ensures.1 c.in_err-sectors.ensures.kinds
    (λ invalid file told directory is can.
    let was : IsDirectory t.copy fat.places.items directory = directory_was t fat.sectors.items fat.places.items directory c.requires.copied c.requires.stand file told is in
    let chain : IsWholeChain (successor c.new-table.result.bytes.now c.new-table.result.sectors.now) c.number32-first.result directory = rw (bytes, places, first) was in
    not_memory _ invalid (c.in_err-sectors.ensures.only directory chain can))

pub returns-clause-answer : goal.returns-clause-answer
returns-clause-answer g c =
    let t = c.args.tables.now in
    let fat = c.args.fat.now in
    let bytes = c.new-table.ensures.bytes ∙ c.copy.ensures in
    let places = c.new-table.ensures.sectors ∙ c.as_slice.ensures.value in
    let first : c.number32-first.result ≡ directory_start t.copy = search rules in
    let found : IsDirectory t.copy fat.places.items c.in_ok-sectors.sectors.items = rw (bytes, places, first) at c.in_ok-sectors.ensures.found.0 in
    directory_is t fat.sectors.items fat.places.items c.in_ok-sectors.sectors.items c.requires.copied c.requires.stand found
