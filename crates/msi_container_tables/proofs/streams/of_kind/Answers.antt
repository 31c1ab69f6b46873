use Rattle.std.proofs.Common.{ℕ, ◌<◌, Bool, List, Vec, Global, eqb, get_or, take, sym, ap, ◌∙◌, refl, filter, arith}
use Rattle.std.proofs.lemmas.Result.{IfOk-from_err}
use Rattle.std.proofs.lemmas.Bool.{eq-eqb, ne_eqb, false≢true}
use Rattle.std.proofs.lemmas.List.{take_all}
use Rattle.std.proofs.lemmas.List.Elements.{All-filter, All-from_get_or, All-same, All-take}
use Rattle.msi_container_format.specs.Container as container
use Rattle.msi_container_tables.proofs.parts.KindLemmas.{kept_one, kept_none}
use Rattle.msi_container_tables.proofs.streams.of_kind.Goals.{then-kind+in_ok-push, else-kind}
use Rattle.msi_base.specs.declared.errors.ErrorKind.TheVariants.{OutOfMemory}
use Rattle.msi_container_tables.proofs.parts.PassedLemmas.{refused_memory}
use Rattle.msi_container_tables.proofs.streams.of_kind.Goals as goal

-- what a vector holds
abbrev held : Vec ℕ Global → List ℕ
held v = v.items

pub returns-clause-below : goal.returns-clause-below
returns-clause-below c =
    let bytes = c.args.directory.now.bytes.now in
    let sectors = c.args.directory.now.sectors.now in
    let entries = c.args.entries.now in
    let n = c.loop-entry.entry-index in
    let IsBelow : ℕ → Type 0 = λ k. k < container.entry_count bytes sectors in
    let is_of_kind : ℕ → Bool = λ k. eqb (container.kind bytes sectors k) c.args.kind in
    let all = All-filter is_of_kind IsBelow (take n entries) (All-take IsBelow n entries (All-from_get_or IsBelow entries 0 c.requires)) in
    λ i l. All-same IsBelow _ _ c.loop-entry.invariant all i 0 l

pub loop-entry-preserved : goal.loop-entry-preserved
loop-entry-preserved c =
    let is_of_kind : ℕ → Bool = λ k. eqb (container.kind c.args.directory.now.bytes.now c.args.directory.now.sectors.now k) c.args.kind in
    let entries = c.args.entries.now in
    let at = c.loop-entry.entry-index in
    let entry = get_or entries at 0 in
    let there = c.loop-entry-test.true in
    elim c.if-kind.branch [
      | then-kind+in_ok-push w ↦ kept_one is_of_kind entries at entry there refl c.loop-entry.found.items _ (eq-eqb _ _ (sym c.kind.ensures ∙ w.if-kind.true)) c.loop-entry.invariant (ap held w.found-is ∙ w.in_ok-push.ensures.items)
      | else-kind w ↦ ap held w.found-is ∙ kept_none is_of_kind entries at entry there refl c.loop-entry.found.items (ne_eqb _ _ (λ e. w.if-kind.false (c.kind.ensures ∙ e))) c.loop-entry.invariant
    ]

pub returns-in_err-push-clause-ok : goal.returns-in_err-push-clause-ok
returns-in_err-push-clause-ok c = IfOk-from_err c.from_residual.result _ c.from_residual.ensures.0

pub returns-in_err-push-clause-below : goal.returns-in_err-push-clause-below
returns-in_err-push-clause-below c = IfOk-from_err c.from_residual.result _ c.from_residual.ensures.0

pub returns-in_err-push-clause-memory : goal.returns-in_err-push-clause-memory
returns-in_err-push-clause-memory c = λ _. refused_memory c.from_residual.result OutOfMemory c.from_residual.ensures.1 refl

pub kind-requires : goal.kind-requires
kind-requires c = c.requires c.loop-entry.entry-index c.loop-entry-test.true

pub loop-entry-init : goal.loop-entry-init
loop-entry-init c = c.new-found.ensures.items

pub returns-clause-ok : goal.returns-clause-ok
returns-clause-ok c =
    let is_of_kind : ℕ → Bool = λ k. eqb (container.kind c.args.directory.now.bytes.now c.args.directory.now.sectors.now k) c.args.kind in
    c.loop-entry.invariant ∙ ap (filter is_of_kind) (take_all _ _ (omega arith))

pub returns-clause-memory : goal.returns-clause-memory
returns-clause-memory c = λ h. absurd (false≢true h)
