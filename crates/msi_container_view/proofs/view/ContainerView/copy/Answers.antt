use Rattle.std.proofs.Common.{rules, ◌≡◌, ◌∙◌, Some, None, is_none, is_some, ap, sym}
use Rattle.std.proofs.lemmas.Bool.{false≢true}
use Rattle.std.proofs.KnownBytes.{Appends-nil}
use Rattle.std.specs.FinMap.{entries, get}
use Rattle.msi_container_view.specs.Views.{extents_at}
use Rattle.msi_container_view.proofs.ViewLemmas.{found_some, found_none, counted_some, written_found, written_missing}
use Rattle.msi_container_view.proofs.extent_lemmas.PartLemmas.{on_failed}
use Rattle.msi_container_view.proofs.view.ContainerView.copy.Goals as goal

pub returns-in_err-copy_extents-in-Some-clause-same : goal.returns-in_err-copy_extents-in-Some-clause-same
returns-in_err-copy_extents-in-Some-clause-same g c =
    let listed : entries c.self.inside.streams ≡ c.args.self.now.streams = search rules in
    let found : Some c.as_slice.result.now ≡ get c.self.inside.streams c.args.name.now = search rules in
    let there : extents_at c.args.name.now c.args.self.now.streams ≡ Some c.as_slice.result.now = found_some c.self.inside.streams c.args.self.now.streams c.args.name.now c.as_slice.result.now listed found in
    record {
      told = search rules;
      clsids = search rules;
      storages = search rules;
      streams = search rules;
      read = counted_some c.args.self.now.streams c.args.name.now c.as_slice.result.now _ _ there (search rules);
    }

pub returns-in_ok-copy_extents-in-Some-clause-there : goal.returns-in_ok-copy_extents-in-Some-clause-there
returns-in_ok-copy_extents-in-Some-clause-there g c =
    let listed : entries c.self.inside.streams ≡ c.args.self.now.streams = search rules in
    let found : Some c.as_slice.result.now ≡ get c.self.inside.streams c.args.name.now = search rules in
    let there : extents_at c.args.name.now c.args.self.now.streams ≡ Some c.as_slice.result.now = found_some c.self.inside.streams c.args.self.now.streams c.args.name.now c.as_slice.result.now listed found in
    sym (ap is_some there)

pub returns-in_ok-copy_extents-in-Some-clause-ok : goal.returns-in_ok-copy_extents-in-Some-clause-ok
returns-in_ok-copy_extents-in-Some-clause-ok g c = λ file told.
    let listed : entries c.self.inside.streams ≡ c.args.self.now.streams = search rules in
    let held : c.self.inside.reading.held ≡ c.args.self.now.held = search rules in
    let found : Some c.as_slice.result.now ≡ get c.self.inside.streams c.args.name.now = search rules in
    let there : extents_at c.args.name.now c.args.self.now.streams ≡ Some c.as_slice.result.now = found_some c.self.inside.streams c.args.self.now.streams c.args.name.now c.as_slice.result.now listed found in
    rw (written_found file c.args.self.now.streams c.args.name.now c.as_slice.result.now there) (c.in_ok-copy_extents-in-Some.ensures.ok file (rw held told))

pub returns-in_ok-copy_extents-in-Some-clause-same : goal.returns-in_ok-copy_extents-in-Some-clause-same
returns-in_ok-copy_extents-in-Some-clause-same g c =
    let listed : entries c.self.inside.streams ≡ c.args.self.now.streams = search rules in
    let found : Some c.as_slice.result.now ≡ get c.self.inside.streams c.args.name.now = search rules in
    let there : extents_at c.args.name.now c.args.self.now.streams ≡ Some c.as_slice.result.now = found_some c.self.inside.streams c.args.self.now.streams c.args.name.now c.as_slice.result.now listed found in
    record {
      told = search rules;
      clsids = search rules;
      storages = search rules;
      streams = search rules;
      read = counted_some c.args.self.now.streams c.args.name.now c.as_slice.result.now _ _ there (search rules);
    }

pub returns-in-None-clause-there : goal.returns-in-None-clause-there
returns-in-None-clause-there g c =
    let listed : entries c.self.inside.streams ≡ c.args.self.now.streams = search rules in
    let none : None ≡ get c.self.inside.streams c.args.name.now = search rules in
    let missing = found_none c.self.inside.streams c.args.self.now.streams c.args.name.now listed none in
    sym (ap is_some missing)

pub returns-in-None-clause-ok : goal.returns-in-None-clause-ok
returns-in-None-clause-ok g c = λ file told.
    let listed : entries c.self.inside.streams ≡ c.args.self.now.streams = search rules in
    let none : None ≡ get c.self.inside.streams c.args.name.now = search rules in
    let missing = found_none c.self.inside.streams c.args.self.now.streams c.args.name.now listed none in
    rw (written_missing file c.args.self.now.streams c.args.name.now missing) (Appends-nil _)

pub returns-in_err-copy_extents-in-Some-clause-missing : goal.returns-in_err-copy_extents-in-Some-clause-missing
returns-in_err-copy_extents-in-Some-clause-missing g c = λ none.
    let listed : entries c.self.inside.streams ≡ c.args.self.now.streams = search rules in
    let found : Some c.as_slice.result.now ≡ get c.self.inside.streams c.args.name.now = search rules in
    let there : extents_at c.args.name.now c.args.self.now.streams ≡ Some c.as_slice.result.now = found_some c.self.inside.streams c.args.self.now.streams c.args.name.now c.as_slice.result.now listed found in
    absurd (false≢true (ap is_none (sym there) ∙ none))

pub returns-in_err-copy_extents-in-Some-clause-part : goal.returns-in_err-copy_extents-in-Some-clause-part
returns-in_err-copy_extents-in-Some-clause-part g c = on_failed c.from_residual.result (λ file told.
    let listed : entries c.self.inside.streams ≡ c.args.self.now.streams = search rules in
    let found : Some c.as_slice.result.now ≡ get c.self.inside.streams c.args.name.now = search rules in
    let there : extents_at c.args.name.now c.args.self.now.streams ≡ Some c.as_slice.result.now = found_some c.self.inside.streams c.args.self.now.streams c.args.name.now c.as_slice.result.now listed found in
    let held : c.self.inside.reading.held ≡ c.args.self.now.held = search rules in
    rw (written_found file c.args.self.now.streams c.args.name.now c.as_slice.result.now there) (c.in_err-copy_extents-in-Some.ensures.part file (rw held told)))
