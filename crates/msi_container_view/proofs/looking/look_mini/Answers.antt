use Rattle.std.proofs.Common.{◌<◌, length, vec_len, arith, ◌∙◌}
use Rattle.msi_container_tables.specs.Reading.{IsMini}
use Rattle.msi_container_view.proofs.table_lemmas.AnswerLemmas.{broken_or_refused, not_memory}
use Rattle.msi_container_view.proofs.table_lemmas.LookLemmas.{mini_is, mini_was}
use Rattle.msi_container_view.proofs.looking.look_mini.Goals as goal

pub returns-in_err-mini-clause-answer : goal.returns-in_err-mini-clause-answer
returns-in_err-mini-clause-answer g c =
    let t = c.args.tables.now in
    let fat = c.args.fat.now in
    let directory = c.args.directory.now in
    let limit = vec_len c.args.claims.now.marks in
    let used = c.args.claims.now.list.items in
    let places = c.new-table.ensures.sectors ∙ c.as_slice.ensures.value in
    let bytes = c.new-entries.ensures.bytes ∙ c.copy-2.ensures in
    let directory_places = c.new-entries.ensures.sectors ∙ c.as_slice-2.ensures.value in
    let some : 0 < length directory.sectors.items = omega (arith, c.requires.some, directory.sectors.ok.0) in
    broken_or_refused g.S.Source.can_fail _ _ _ c.from_residual.result _ c.from_residual.ensures.1 c.in_err-mini.ensures.kinds
    (λ invalid file told mini_fat mini_stream is.
    let was : IsMini t.copy limit used fat.places.items directory.places.items mini_fat mini_stream =
    mini_was t fat.sectors.items fat.places.items directory.sectors.items directory.places.items limit used mini_fat mini_stream c.requires.copied c.requires.fat c.requires.directory some file told is in
    not_memory _ invalid (c.in_err-mini.ensures.only mini_fat mini_stream (rw (bytes, places, directory_places) was)))

pub returns-clause-answer : goal.returns-clause-answer
returns-clause-answer g c =
    let t = c.args.tables.now in
    let fat = c.args.fat.now in
    let directory = c.args.directory.now in
    let limit = vec_len c.args.claims.now.marks in
    let used = c.args.claims.now.list.items in
    let places = c.new-table.ensures.sectors ∙ c.as_slice.ensures.value in
    let bytes = c.new-entries.ensures.bytes ∙ c.copy-2.ensures in
    let directory_places = c.new-entries.ensures.sectors ∙ c.as_slice-2.ensures.value in
    let some : 0 < length directory.sectors.items = omega (arith, c.requires.some, directory.sectors.ok.0) in
    let found : IsMini t.copy limit used fat.places.items directory.places.items c.in_ok-mini.mini.fat.items c.in_ok-mini.mini.stream.items =
    rw (bytes, places, directory_places) at c.in_ok-mini.ensures.found.0 in
    rw c.replace-sectors.ensures.value
    (mini_is t fat.sectors.items fat.places.items directory.sectors.items directory.places.items limit used c.in_ok-mini.mini.fat.items c.in_ok-mini.mini.stream.items c.requires.copied c.requires.fat c.requires.directory some found)
