use Rattle.std.proofs.Common.{ℕ, ◌==◌, Bool, ◌||◌, get_or, sym, ap, ◌∙◌, take_all}
use Rattle.std.specs.List.{list_any}
use Rattle.std.proofs.lemmas.Bool.{eq-eqb, ne_eqb}
use Rattle.std.proofs.lemmas.List.Folds.{list_any_at, list_any_more}
use Rattle.msi_container_format.specs.Container.{kind}
use Rattle.msi_container_tables.proofs.streams.has_storage.Goals as goal

pub loop-entry-preserved : goal.loop-entry-preserved
loop-entry-preserved c =
    let is_storage : ℕ → Bool = λ entry. kind c.args.directory.now.bytes.now c.args.directory.now.sectors.now entry == 1 in
    let entries = c.args.entries.now in
    let i = c.loop-entry.entry-index in
    list_any_more is_storage entries i 0 c.loop-entry-test.true
    ∙ ap (λ before. before || is_storage (get_or entries i 0)) c.loop-entry.invariant
    ∙ ap (λ k. k == 1) (sym c.kind.ensures) ∙ ne_eqb c.kind.result 1 c.if-kind-eq-STORAGE.false

pub returns-then-kind-eq-STORAGE : goal.returns-then-kind-eq-STORAGE
returns-then-kind-eq-STORAGE c =
    let is_storage : ℕ → Bool = λ entry. kind c.args.directory.now.bytes.now c.args.directory.now.sectors.now entry == 1 in
    sym (list_any_at is_storage c.args.entries.now c.loop-entry.entry-index 0 c.loop-entry-test.true
    (ap (λ k. k == 1) (sym c.kind.ensures) ∙ eq-eqb c.kind.result 1 c.if-kind-eq-STORAGE.true))

pub returns : goal.returns
returns c =
    let is_storage : ℕ → Bool = λ entry. kind c.args.directory.now.bytes.now c.args.directory.now.sectors.now entry == 1 in
    sym c.loop-entry.invariant ∙ ap (list_any is_storage) (take_all c.loop-entry.entry-index c.args.entries.now c.loop-entry-test.false)
