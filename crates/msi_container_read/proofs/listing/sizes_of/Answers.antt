use Rattle.std.proofs.Common.{◌≡◌, ℕ, List, Bool, refl, get_or, arith, ◌∙◌, sym, ap, inl}
use Rattle.std.specs.BTreeSet.{contains}
use Rattle.std.specs.FinMap.{from_entries, contains_key}
use Rattle.std.proofs.lemmas.List.{take_all}
use Rattle.std.proofs.lemmas.Result.{IfOk-from_err, err_from_is_err_and}
use Rattle.msi_container_format.specs.Names.{name_cmp}
use Rattle.msi_container_format.specs.Container.{name, size}
use Rattle.msi_container_tables.proofs.entry_names.MapNamesLemmas.{begun_none, begun_more, begun_all, taken_clash, held_clash}
use Rattle.msi_container_read.proofs.entry_names.NamedSizesLemmas.{length-named_sizes, from_named_sizes_more}
use Rattle.msi_container_read.proofs.entry_names.SharedNamesLemmas.{refused}
use Rattle.msi_container_tables.proofs.parts.PassedLemmas.{kind_passed, kind_of}
use Rattle.msi_container_read.proofs.listing.sizes_of.Goals as goal

pub loop-entry-init : goal.loop-entry-init
loop-entry-init c = record {
  held = c.new-sizes.ensures;
  names = rw c.new-sizes.ensures (begun_none c.args.directory.now.bytes.now c.args.directory.now.sectors.now c.args.storages.now c.args.entries.now (λ q. contains name_cmp c.in_ok-taken.taken q) ℕ);
}

pub returns-in_err-taken-clause-invalid : goal.returns-in_err-taken-clause-invalid
returns-in_err-taken-clause-invalid c = λ broken have.
    let p = err_from_is_err_and c.from_residual.result c.from_residual.ensures.1 in
    c.in_err-taken.ensures.invalid (refused _ _ _ p.1 p.2 broken) have.storages_named

pub returns-in_err-name-clause-invalid : goal.returns-in_err-name-clause-invalid
returns-in_err-name-clause-invalid c = λ broken have.
    let bytes = c.args.directory.now.bytes.now in
    let sectors = c.args.directory.now.sectors.now in
    let entries = c.args.entries.now in
    let i = c.loop-entry.entry-index in
    let k = get_or entries i 0 in
    let taken : List ℕ → Bool = λ q. contains name_cmp c.in_ok-taken.taken q in
    taken_clash bytes sectors c.args.storages.now entries taken (name bytes sectors k) i c.loop-entry-test.true refl
    c.in_ok-taken.ensures.known (c.in_err-name.ensures.invalid (have.streams_named.named i c.loop-entry-test.true)) have

pub returns-in_err-insert_size-clause-invalid : goal.returns-in_err-insert_size-clause-invalid
returns-in_err-insert_size-clause-invalid c = λ broken have.
    let bytes = c.args.directory.now.bytes.now in
    let sectors = c.args.directory.now.sectors.now in
    let entries = c.args.entries.now in
    let l = c.loop-entry in
    let taken : List ℕ → Bool = λ q. contains name_cmp c.in_ok-taken.taken q in
    let p = err_from_is_err_and c.from_residual-in_err-insert_size.result c.from_residual-in_err-insert_size.ensures.1 in
    held_clash bytes sectors c.args.storages.now entries taken (λ q. contains_key l.sizes q) c.in_ok-name.name l.entry-index c.loop-entry-test.true c.in_ok-name.ensures.found
    (c.in_err-insert_size.ensures.invalid (refused _ _ _ p.1 p.2 broken)) l.invariant.names have

pub loop-entry-preserved : goal.loop-entry-preserved
loop-entry-preserved c =
    let bytes = c.args.directory.now.bytes.now in
    let sectors = c.args.directory.now.sectors.now in
    let entries = c.args.entries.now in
    let l = c.loop-entry in
    let i = l.entry-index in
    let k = get_or entries i 0 in
    let taken : List ℕ → Bool = λ q. contains name_cmp c.in_ok-taken.taken q in
    let named : c.in_ok-name.name ≡ name bytes sectors k = c.in_ok-name.ensures.found in
    let sized : c.size.result ≡ size bytes sectors k = c.size.ensures in
    let grown = begun_more bytes sectors c.args.storages.now entries taken l.sizes c.in_ok-name.name c.size.result i c.loop-entry-test.true named c.in_ok-name.ensures.ok c.in_ok-name.ensures.free c.in_ok-insert_size.ensures.free l.invariant.names in
    let more = from_named_sizes_more bytes sectors entries i grown.own c.loop-entry-test.true in
    record {
      held = c.in_ok-insert_size.ensures.ok ∙ rw (l.invariant.held, named, sized) (sym more);
      names = rw c.in_ok-insert_size.ensures.ok grown;
    }

pub returns-clause-ok : goal.returns-clause-ok
returns-clause-ok c =
    let bytes = c.args.directory.now.bytes.now in
    let sectors = c.args.directory.now.sectors.now in
    let entries = c.args.entries.now in
    c.loop-entry.invariant.held
    ∙ ap (λ es. from_entries es) (take_all _ _ (omega (arith, length-named_sizes bytes sectors entries)))

pub returns-clause-names : goal.returns-clause-names
returns-clause-names c =
    let l = c.loop-entry in
    begun_all c.args.directory.now.bytes.now c.args.directory.now.sectors.now c.args.storages.now c.args.entries.now (λ q. contains name_cmp c.in_ok-taken.taken q)
    (λ q. contains_key l.sizes q) l.entry-index (omega arith) c.in_ok-taken.ensures.names c.in_ok-taken.ensures.known l.invariant.names

pub returns-in_err-taken-clause-ok : goal.returns-in_err-taken-clause-ok
returns-in_err-taken-clause-ok c = IfOk-from_err c.from_residual.result _ c.from_residual.ensures.0

pub returns-in_err-taken-clause-names : goal.returns-in_err-taken-clause-names
returns-in_err-taken-clause-names c = IfOk-from_err c.from_residual.result _ c.from_residual.ensures.0

pub returns-in_err-taken-clause-kinds : goal.returns-in_err-taken-clause-kinds
returns-in_err-taken-clause-kinds c = kind_passed c.from_residual.result c.in_err-taken.field-0.0 c.from_residual.ensures.1 c.in_err-taken.ensures.kinds

pub returns-in_err-name-clause-ok : goal.returns-in_err-name-clause-ok
returns-in_err-name-clause-ok c = IfOk-from_err c.from_residual-in_err-name.result _ c.from_residual-in_err-name.ensures.0

pub returns-in_err-name-clause-names : goal.returns-in_err-name-clause-names
returns-in_err-name-clause-names c = IfOk-from_err c.from_residual-in_err-name.result _ c.from_residual-in_err-name.ensures.0

pub returns-in_err-name-clause-kinds : goal.returns-in_err-name-clause-kinds
returns-in_err-name-clause-kinds c = kind_passed c.from_residual-in_err-name.result c.in_err-name.field-0.0 c.from_residual-in_err-name.ensures.1 (inl (kind_of c.in_err-name.field-0.0 _ c.in_err-name.ensures.kinds))

pub returns-in_err-insert_size-clause-ok : goal.returns-in_err-insert_size-clause-ok
returns-in_err-insert_size-clause-ok c = IfOk-from_err c.from_residual-in_err-insert_size.result _ c.from_residual-in_err-insert_size.ensures.0

pub returns-in_err-insert_size-clause-names : goal.returns-in_err-insert_size-clause-names
returns-in_err-insert_size-clause-names c = IfOk-from_err c.from_residual-in_err-insert_size.result _ c.from_residual-in_err-insert_size.ensures.0

pub returns-in_err-insert_size-clause-kinds : goal.returns-in_err-insert_size-clause-kinds
returns-in_err-insert_size-clause-kinds c = kind_passed c.from_residual-in_err-insert_size.result c.in_err-insert_size.field-0.0 c.from_residual-in_err-insert_size.ensures.1 c.in_err-insert_size.ensures.kinds
