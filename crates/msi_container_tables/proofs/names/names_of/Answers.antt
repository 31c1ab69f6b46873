use Rattle.std.proofs.Common.{sym, ◌∙◌, arith, below_more, refl, inl, inr}
use Rattle.std.proofs.lemmas.Result.{IfOk-from_err}
use Rattle.std.proofs.lemmas.Bool.{not-true, not-false}
use Rattle.msi_container_format.specs.Container.{name}
use Rattle.msi_container_tables.proofs.entry_names.OwnNameLemmas.{known_more, known_has_place, own_more, known_all}
use Rattle.msi_base.specs.declared.errors.ErrorKind.TheVariants.{OutOfMemory}
use Rattle.msi_container_tables.proofs.parts.PassedLemmas.{kind_passed, memory_is_valid, kind_of}
use Rattle.msi_container_tables.proofs.names.names_of.Goals as goal

-- the set has the name, so an entry before this one has it too
pub returns-then-not-branch-clause-invalid : goal.returns-then-not-branch-clause-invalid
returns-then-not-branch-clause-invalid c = λ broken have.
    let names = name c.args.directory.now.bytes.now c.args.directory.now.sectors.now in
    let at = c.loop-entry.entry-index in
    let key = c.in_ok-name.field-0 in
    let there = not-false _ (sym c.in_ok-insert.ensures.added ∙ c.if-not-branch.true) in
    let earlier = known_has_place names c.args.entries.now at key (omega arith) (sym (c.loop-entry.invariant.known key) ∙ there) in
    have.own earlier.0 at earlier.1 (omega arith) (earlier.2 ∙ c.in_ok-name.ensures.found)

pub loop-entry-preserved : goal.loop-entry-preserved
loop-entry-preserved c =
    let i = c.loop-entry.invariant in
    let names = name c.args.directory.now.bytes.now c.args.directory.now.sectors.now in
    let ks = c.args.entries.now in
    let at = c.loop-entry.entry-index in
    let key = c.in_ok-name.field-0 in
    let named = c.in_ok-name.ensures.found in
    let absent = not-true _ (sym c.in_ok-insert.ensures.added ∙ c.if-not-branch.false) in
    record {
      named = below_more _ _ i.named c.in_ok-name.ensures.ok;
      own = own_more names ks at key (omega arith) named (sym (i.known key) ∙ absent) i.own;
      known = λ q. known_more names ks at key q _ _ (omega arith) named (i.known q) (c.in_ok-insert.ensures.updates.0 q);
    }

pub returns-clause-names : goal.returns-clause-names
returns-clause-names c = record {
  named = λ i l. c.loop-entry.invariant.named i (omega arith);
  own = λ i j l h. c.loop-entry.invariant.own i j l (omega arith);
}

pub returns-clause-known : goal.returns-clause-known
returns-clause-known c = λ q.
    c.loop-entry.invariant.known q
    ∙ known_all (name c.args.directory.now.bytes.now c.args.directory.now.sectors.now) c.args.entries.now c.loop-entry.entry-index q (omega arith)

pub returns-in_err-name-clause-names : goal.returns-in_err-name-clause-names
returns-in_err-name-clause-names c = IfOk-from_err c.from_residual.result _ c.from_residual.ensures.0

pub returns-in_err-name-clause-known : goal.returns-in_err-name-clause-known
returns-in_err-name-clause-known c = IfOk-from_err c.from_residual.result _ c.from_residual.ensures.0

pub returns-in_err-name-clause-kinds : goal.returns-in_err-name-clause-kinds
returns-in_err-name-clause-kinds c = kind_passed c.from_residual.result c.in_err-name.field-0.0 c.from_residual.ensures.1 (inl (kind_of c.in_err-name.field-0.0 _ c.in_err-name.ensures.kinds))

pub returns-in_err-insert-clause-names : goal.returns-in_err-insert-clause-names
returns-in_err-insert-clause-names c = IfOk-from_err c.from_residual-in_err-insert.result _ c.from_residual-in_err-insert.ensures.0

pub returns-in_err-insert-clause-known : goal.returns-in_err-insert-clause-known
returns-in_err-insert-clause-known c = IfOk-from_err c.from_residual-in_err-insert.result _ c.from_residual-in_err-insert.ensures.0

pub returns-in_err-insert-clause-kinds : goal.returns-in_err-insert-clause-kinds
returns-in_err-insert-clause-kinds c = kind_passed c.from_residual-in_err-insert.result OutOfMemory c.from_residual-in_err-insert.ensures.1 (inr refl)

pub returns-in_err-insert-clause-invalid : goal.returns-in_err-insert-clause-invalid
returns-in_err-insert-clause-invalid c = λ broken have. memory_is_valid c.from_residual-in_err-insert.result OutOfMemory c.from_residual-in_err-insert.ensures.1 refl broken

pub name-requires : goal.name-requires
name-requires c = c.requires c.loop-entry.entry-index c.loop-entry-test.true

pub returns-in_err-name-clause-invalid : goal.returns-in_err-name-clause-invalid
returns-in_err-name-clause-invalid c = λ broken have. c.in_err-name.ensures.invalid (have.named c.loop-entry.entry-index c.loop-entry-test.true)
