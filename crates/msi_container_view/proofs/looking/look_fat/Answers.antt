use Rattle.std.proofs.Common.{◌≡◌, sym, ◌∙◌}
use Rattle.msi_container_view.proofs.table_lemmas.AnswerLemmas.{broken_or_refused, not_memory}
use Rattle.msi_container_view.proofs.table_lemmas.LookLemmas.{fat_is}
use Rattle.msi_container_view.proofs.looking.look_fat.Goals as goal

pub returns-in_err-sectors-clause-answer : goal.returns-in_err-sectors-clause-answer
returns-in_err-sectors-clause-answer g c =
    let t = c.args.tables.now in
    let count = sym c.args.difat.now.sectors.ok.0 ∙ c.requires.count in
    let same = fat_is t c.args.difat.now.sectors.items c.args.difat.now.places.items c.requires.copied c.requires.stand count in
    let bytes : c.copy.result.now ≡ t.copy = c.copy.ensures in
    let places : c.as_slice.result.now ≡ c.args.difat.now.places.items = c.as_slice.ensures.value in
    broken_or_refused g.S.Source.can_fail _ _ _ c.from_residual.result _ c.from_residual.ensures.1 c.in_err-sectors.ensures.kinds
    (λ invalid file told can. not_memory _ invalid (c.in_err-sectors.ensures.only (rw (bytes, places, same file told) can)))

pub returns-clause-answer : goal.returns-clause-answer
returns-clause-answer g c = λ file told.
    let t = c.args.tables.now in
    let count = sym c.args.difat.now.sectors.ok.0 ∙ c.requires.count in
    let same = fat_is t c.args.difat.now.sectors.items c.args.difat.now.places.items c.requires.copied c.requires.stand count in
    let bytes : c.copy.result.now ≡ t.copy = c.copy.ensures in
    let places : c.as_slice.result.now ≡ c.args.difat.now.places.items = c.as_slice.ensures.value in
    c.in_ok-sectors.ensures.found.0 ∙ rw (bytes, places) (same file told)
