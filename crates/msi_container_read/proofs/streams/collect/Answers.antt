use Rattle.std.proofs.Common.{◌≡◌, ℕ, ◌<◌, Bool, false, refl, List, [], length, get_or, arith, ◌∙◌, sym, ap, Vec, Global, inl, inr}
use Rattle.std.specs.BTreeSet.{contains}
use Rattle.std.specs.FinMap.{from_entries, contains_key}
use Rattle.std.specs.Slice.Iter.{iter_rest}
use Rattle.std.specs.Iterator.Adapters.{zip_first, zip_second}
use Rattle.std.proofs.lemmas.List.{length-map, length_push, get_or-map, take_all}
use Rattle.std.proofs.lemmas.Result.{IfOk-from_err, err_from_is_err_and}
use Rattle.std.proofs.lemmas.Slice.Zip.{zip_turn, zip_end, AllZip-long}
use Rattle.msi_container_format.specs.Names.{name_cmp}
use Rattle.msi_container_format.specs.Container.{name, stream_bytes, HasName}
use Rattle.msi_container_tables.specs.Reading.{views}
use Rattle.msi_container_tables.proofs.parts.ListLemmas.{paired_at, below_at}
use Rattle.msi_container_tables.proofs.entry_names.MapNamesLemmas.{begun_none, begun_more, begun_all, taken_clash, held_clash}
use Rattle.msi_container_read.proofs.entry_names.SharedNamesLemmas.{refused}
use Rattle.msi_container_read.proofs.entry_names.NamedBytesLemmas.{length-named_bytes, from_named_bytes_more}
use Rattle.msi_container_tables.proofs.parts.PassedLemmas.{kind_passed, memory_is_valid, kind_of}
use Rattle.msi_container_read.proofs.streams.collect.Goals as goal

-- what a vector holds
abbrev held : Vec ℕ Global → List ℕ
held v = v.items

-- chain i as a slice
chain_at : (chains : List (Vec ℕ Global)) (i : ℕ) (v : Vec ℕ Global) (chain : List ℕ) → i < length chains → v ≡ get_or chains i v → chain ≡ v.items → get_or (views chains) i [] ≡ chain
chain_at chains i v chain l is seen = get_or-map held chains i v [] l ∙ ap held (sym is) ∙ sym seen

pub stream_of-requires-clause-covered : goal.stream_of-requires-clause-covered
stream_of-requires-clause-covered c =
    let entries = c.args.entries.now in
    let chains = c.args.chains.now in
    let l = c.loop-entry in
    let started = c.into_iter-entry-iterator in
    let first : iter_rest (zip_first started.result) ≡ entries = rw (started.ensures.into_iter_gives, c.zip-entry-items.ensures.first) c.iter.ensures.rest in
    let second : iter_rest (zip_second started.result) ≡ chains = rw started.ensures.into_iter_gives c.zip-entry-items.ensures.second.0 in
    let turn = zip_turn entries chains l.yielded started.result l.entry-iterator c.next.new.self _ first second l.yielded_by (c.in-Some.entry, c.in-Some.chain) c.in-Some.is c.next.ensures.steps in
    let i = length l.yielded in
    let chain = chain_at chains i c.in-Some.chain.now c.as_slice.result.now turn.1 (turn.3 _) c.as_slice.ensures.value in
    rw (turn.2 0, ← chain) (paired_at _ entries (views chains) i 0 [] c.requires.covered turn.0)

pub loop-entry-init : goal.loop-entry-init
loop-entry-init c = record {
  held = c.new-streams.ensures;
  names = rw c.new-streams.ensures (begun_none c.args.directory.now.bytes.now c.args.directory.now.sectors.now c.args.storages.now c.args.entries.now (λ q. contains name_cmp c.in_ok-taken.taken q) (List ℕ));
}

-- the storages' names are refused by themselves
pub returns-in_err-taken-clause-invalid : goal.returns-in_err-taken-clause-invalid
returns-in_err-taken-clause-invalid c = λ broken have.
    let p = err_from_is_err_and c.from_residual.result c.from_residual.ensures.1 in
    c.in_err-taken.ensures.invalid (refused _ _ _ p.1 p.2 broken) have.storages_named

pub returns-in_err-name-clause-invalid : goal.returns-in_err-name-clause-invalid
returns-in_err-name-clause-invalid c = λ broken have.
    let bytes = c.args.directory.now.bytes.now in
    let sectors = c.args.directory.now.sectors.now in
    let entries = c.args.entries.now in
    let chains = c.args.chains.now in
    let l = c.loop-entry in
    let started = c.into_iter-entry-iterator in
    let first : iter_rest (zip_first started.result) ≡ entries = rw (started.ensures.into_iter_gives, c.zip-entry-items.ensures.first) c.iter.ensures.rest in
    let second : iter_rest (zip_second started.result) ≡ chains = rw started.ensures.into_iter_gives c.zip-entry-items.ensures.second.0 in
    let turn = zip_turn entries chains l.yielded started.result l.entry-iterator c.next.new.self _ first second l.yielded_by (c.in-Some.entry, c.in-Some.chain) c.in-Some.is c.next.ensures.steps in
    let i = length l.yielded in
    let k = get_or entries i 0 in
    let taken : List ℕ → Bool = λ q. contains name_cmp c.in_ok-taken.taken q in
    let at : c.in-Some.entry.now ≡ k = turn.2 0 in
    let has : HasName bytes sectors c.in-Some.entry.now = rw at (have.streams_named.named i turn.0) in
    taken_clash bytes sectors c.args.storages.now entries taken (name bytes sectors c.in-Some.entry.now) i turn.0 (ap (name bytes sectors) at)
    c.in_ok-taken.ensures.known (c.in_err-name.ensures.invalid has) have

pub returns-in_err-insert_stream-clause-invalid : goal.returns-in_err-insert_stream-clause-invalid
returns-in_err-insert_stream-clause-invalid c = λ broken have.
    let bytes = c.args.directory.now.bytes.now in
    let sectors = c.args.directory.now.sectors.now in
    let entries = c.args.entries.now in
    let chains = c.args.chains.now in
    let l = c.loop-entry in
    let started = c.into_iter-entry-iterator in
    let first : iter_rest (zip_first started.result) ≡ entries = rw (started.ensures.into_iter_gives, c.zip-entry-items.ensures.first) c.iter.ensures.rest in
    let second : iter_rest (zip_second started.result) ≡ chains = rw started.ensures.into_iter_gives c.zip-entry-items.ensures.second.0 in
    let turn = zip_turn entries chains l.yielded started.result l.entry-iterator c.next.new.self _ first second l.yielded_by (c.in-Some.entry, c.in-Some.chain) c.in-Some.is c.next.ensures.steps in
    let i = length l.yielded in
    let k = get_or entries i 0 in
    let taken : List ℕ → Bool = λ q. contains name_cmp c.in_ok-taken.taken q in
    let p = err_from_is_err_and c.from_residual-in_err-insert_stream.result c.from_residual-in_err-insert_stream.ensures.1 in
    let named : c.in_ok-name.name ≡ name bytes sectors k = c.in_ok-name.ensures.found ∙ ap (name bytes sectors) (turn.2 0) in
    held_clash bytes sectors c.args.storages.now entries taken (λ q. contains_key l.streams q) c.in_ok-name.name i turn.0 named
    (c.in_err-insert_stream.ensures.invalid (refused _ _ _ p.1 p.2 broken)) l.invariant.names have

pub loop-entry-preserved : goal.loop-entry-preserved
loop-entry-preserved c =
    let mini_stream = c.args.mini_stream.now in
    let bytes = c.args.directory.now.bytes.now in
    let sectors = c.args.directory.now.sectors.now in
    let entries = c.args.entries.now in
    let chains = c.args.chains.now in
    let l = c.loop-entry in
    let started = c.into_iter-entry-iterator in
    let first : iter_rest (zip_first started.result) ≡ entries = rw (started.ensures.into_iter_gives, c.zip-entry-items.ensures.first) c.iter.ensures.rest in
    let second : iter_rest (zip_second started.result) ≡ chains = rw started.ensures.into_iter_gives c.zip-entry-items.ensures.second.0 in
    let turn = zip_turn entries chains l.yielded started.result l.entry-iterator c.next.new.self _ first second l.yielded_by (c.in-Some.entry, c.in-Some.chain) c.in-Some.is c.next.ensures.steps in
    let i = length l.yielded in
    let k = get_or entries i 0 in
    let taken : List ℕ → Bool = λ q. contains name_cmp c.in_ok-taken.taken q in
    let chain = chain_at chains i c.in-Some.chain.now c.as_slice.result.now turn.1 (turn.3 _) c.as_slice.ensures.value in
    let at : c.in-Some.entry.now ≡ k = turn.2 0 in
    let named : c.in_ok-name.name ≡ name bytes sectors k = c.in_ok-name.ensures.found ∙ ap (name bytes sectors) at in
    let has : HasName bytes sectors k = rw at at c.in_ok-name.ensures.ok in
    let free : taken (name bytes sectors k) ≡ false = rw at at c.in_ok-name.ensures.free in
    let read : c.in_ok-held.held ≡ stream_bytes bytes mini_stream sectors k (get_or (views chains) i []) = c.in_ok-held.ensures.ok ∙ rw (← chain, at) refl in
    let grown = begun_more bytes sectors c.args.storages.now entries taken l.streams c.in_ok-name.name c.in_ok-held.held i turn.0 named has free c.in_ok-insert_stream.ensures.free l.invariant.names in
    let more = from_named_bytes_more bytes mini_stream sectors entries (views chains) i grown.own turn.0 (omega (arith, length-map chains held)) in
    record {
      held = rw length_push (c.in_ok-insert_stream.ensures.ok ∙ rw (l.invariant.held, named, read) (sym more));
      names = rw (length_push, c.in_ok-insert_stream.ensures.ok) grown;
    }

pub returns-clause-ok : goal.returns-clause-ok
returns-clause-ok c =
    let entries = c.args.entries.now in
    let chains = c.args.chains.now in
    let l = c.loop-entry in
    let started = c.into_iter-entry-iterator in
    let first : iter_rest (zip_first started.result) ≡ entries = rw (started.ensures.into_iter_gives, c.zip-entry-items.ensures.first) c.iter.ensures.rest in
    let second : iter_rest (zip_second started.result) ≡ chains = rw started.ensures.into_iter_gives c.zip-entry-items.ensures.second.0 in
    let turns = zip_end entries chains l.yielded started.result l.entry-iterator c.next.new.self _ first second l.yielded_by c.in-None.is c.next.ensures.steps in
    l.invariant.held
    ∙ ap (λ es. from_entries es) (take_all _ _ (omega (arith, length-named_bytes c.args.directory.now.bytes.now c.args.mini_stream.now c.args.directory.now.sectors.now entries (views chains), length-map chains held)))

pub returns-clause-names : goal.returns-clause-names
returns-clause-names c =
    let entries = c.args.entries.now in
    let chains = c.args.chains.now in
    let l = c.loop-entry in
    let started = c.into_iter-entry-iterator in
    let first : iter_rest (zip_first started.result) ≡ entries = rw (started.ensures.into_iter_gives, c.zip-entry-items.ensures.first) c.iter.ensures.rest in
    let second : iter_rest (zip_second started.result) ≡ chains = rw started.ensures.into_iter_gives c.zip-entry-items.ensures.second.0 in
    let turns = zip_end entries chains l.yielded started.result l.entry-iterator c.next.new.self _ first second l.yielded_by c.in-None.is c.next.ensures.steps in
    let long = AllZip-long _ entries (views chains) c.requires.covered in
    begun_all c.args.directory.now.bytes.now c.args.directory.now.sectors.now c.args.storages.now entries (λ q. contains name_cmp c.in_ok-taken.taken q)
    (λ q. contains_key l.streams q) (length l.yielded) (omega (arith, turns, long, length-map chains held)) c.in_ok-taken.ensures.names c.in_ok-taken.ensures.known l.invariant.names

pub own_name-requires : goal.own_name-requires
own_name-requires c =
    let entries = c.args.entries.now in
    let chains = c.args.chains.now in
    let l = c.loop-entry in
    let started = c.into_iter-entry-iterator in
    let first : iter_rest (zip_first started.result) ≡ entries = rw (started.ensures.into_iter_gives, c.zip-entry-items.ensures.first) c.iter.ensures.rest in
    let second : iter_rest (zip_second started.result) ≡ chains = rw started.ensures.into_iter_gives c.zip-entry-items.ensures.second.0 in
    let turn = zip_turn entries chains l.yielded started.result l.entry-iterator c.next.new.self _ first second l.yielded_by (c.in-Some.entry, c.in-Some.chain) c.in-Some.is c.next.ensures.steps in
    below_at _ entries (length l.yielded) c.in-Some.entry.now c.requires.below turn.0 (turn.2 0)

pub stream_of-requires-clause-below : goal.stream_of-requires-clause-below
stream_of-requires-clause-below c =
    let entries = c.args.entries.now in
    let chains = c.args.chains.now in
    let l = c.loop-entry in
    let started = c.into_iter-entry-iterator in
    let first : iter_rest (zip_first started.result) ≡ entries = rw (started.ensures.into_iter_gives, c.zip-entry-items.ensures.first) c.iter.ensures.rest in
    let second : iter_rest (zip_second started.result) ≡ chains = rw started.ensures.into_iter_gives c.zip-entry-items.ensures.second.0 in
    let turn = zip_turn entries chains l.yielded started.result l.entry-iterator c.next.new.self _ first second l.yielded_by (c.in-Some.entry, c.in-Some.chain) c.in-Some.is c.next.ensures.steps in
    below_at _ entries (length l.yielded) c.in-Some.entry.now c.requires.below turn.0 (turn.2 0)

pub returns-in_err-taken-clause-ok : goal.returns-in_err-taken-clause-ok
returns-in_err-taken-clause-ok c = IfOk-from_err c.from_residual.result _ c.from_residual.ensures.0

pub returns-in_err-taken-clause-names : goal.returns-in_err-taken-clause-names
returns-in_err-taken-clause-names c = IfOk-from_err c.from_residual.result _ c.from_residual.ensures.0

pub returns-in_err-taken-clause-kinds : goal.returns-in_err-taken-clause-kinds
returns-in_err-taken-clause-kinds c = kind_passed c.from_residual.result c.in_err-taken.field-0.0 c.from_residual.ensures.1 c.in_err-taken.ensures.kinds

pub returns-in_err-name-clause-ok : goal.returns-in_err-name-clause-ok
returns-in_err-name-clause-ok c = IfOk-from_err c.from_residual-in_err-name.result _ c.from_residual-in_err-name.ensures.0

pub returns-in_err-name-clause-names : goal.returns-in_err-name-clause-names
returns-in_err-name-clause-names c = IfOk-from_err c.from_residual-in_err-name.result _ c.from_residual-in_err-name.ensures.0

pub returns-in_err-name-clause-kinds : goal.returns-in_err-name-clause-kinds
returns-in_err-name-clause-kinds c = kind_passed c.from_residual-in_err-name.result c.in_err-name.field-0.0 c.from_residual-in_err-name.ensures.1 (inl (kind_of c.in_err-name.field-0.0 _ c.in_err-name.ensures.kinds))

pub returns-in_err-held-clause-ok : goal.returns-in_err-held-clause-ok
returns-in_err-held-clause-ok c = IfOk-from_err c.from_residual-in_err-held.result _ c.from_residual-in_err-held.ensures.0

pub returns-in_err-held-clause-names : goal.returns-in_err-held-clause-names
returns-in_err-held-clause-names c = IfOk-from_err c.from_residual-in_err-held.result _ c.from_residual-in_err-held.ensures.0

pub returns-in_err-held-clause-kinds : goal.returns-in_err-held-clause-kinds
returns-in_err-held-clause-kinds c = kind_passed c.from_residual-in_err-held.result c.in_err-held.field-0.0 c.from_residual-in_err-held.ensures.1 (inr (kind_of c.in_err-held.field-0.0 _ (c.in_err-held.ensures.memory refl)))

pub returns-in_err-held-clause-invalid : goal.returns-in_err-held-clause-invalid
returns-in_err-held-clause-invalid c = λ broken have. memory_is_valid c.from_residual-in_err-held.result c.in_err-held.field-0.0 c.from_residual-in_err-held.ensures.1 (kind_of c.in_err-held.field-0.0 _ (c.in_err-held.ensures.memory refl)) broken

pub returns-in_err-insert_stream-clause-ok : goal.returns-in_err-insert_stream-clause-ok
returns-in_err-insert_stream-clause-ok c = IfOk-from_err c.from_residual-in_err-insert_stream.result _ c.from_residual-in_err-insert_stream.ensures.0

pub returns-in_err-insert_stream-clause-names : goal.returns-in_err-insert_stream-clause-names
returns-in_err-insert_stream-clause-names c = IfOk-from_err c.from_residual-in_err-insert_stream.result _ c.from_residual-in_err-insert_stream.ensures.0

pub returns-in_err-insert_stream-clause-kinds : goal.returns-in_err-insert_stream-clause-kinds
returns-in_err-insert_stream-clause-kinds c = kind_passed c.from_residual-in_err-insert_stream.result c.in_err-insert_stream.field-0.0 c.from_residual-in_err-insert_stream.ensures.1 c.in_err-insert_stream.ensures.kinds
