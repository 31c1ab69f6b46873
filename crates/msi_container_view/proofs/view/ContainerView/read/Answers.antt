use Rattle.std.proofs.Common.{rules, ◌≡◌, ◌∙◌, Some, None, is_none, is_some, ap, sym}
use Rattle.std.proofs.lemmas.Bool.{false≢true}
use Rattle.std.specs.FinMap.{entries, get}
use Rattle.msi_container_view.specs.Views.{extents_at}
use Rattle.msi_container_view.proofs.ViewLemmas.{found_some, found_none, counted_some, bytes_found, bytes_missing}
use Rattle.msi_container_view.proofs.view.ContainerView.read.Goals as goal

pub returns-in_err-bytes-in-Some-clause-same : goal.returns-in_err-bytes-in-Some-clause-same
returns-in_err-bytes-in-Some-clause-same g c =
    let listed : entries c.self.inside.streams ≡ c.args.self.now.streams = search rules in
    let found : Some c.as_slice.result.now ≡ get c.self.inside.streams c.args.name.now = search rules in
    let there : extents_at c.args.name.now c.args.self.now.streams ≡ Some c.as_slice.result.now = found_some c.self.inside.streams c.args.self.now.streams c.args.name.now c.as_slice.result.now listed found in
    record {
      told = search rules;
      clsids = search rules;
      storages = search rules;
      streams = search rules;
      read = counted_some c.args.self.now.streams c.args.name.now c.as_slice.result.now _ _ there (search rules);
    }

pub returns-in_ok-bytes-in-Some-clause-ok : goal.returns-in_ok-bytes-in-Some-clause-ok
returns-in_ok-bytes-in-Some-clause-ok g c = λ file told.
    let listed : entries c.self.inside.streams ≡ c.args.self.now.streams = search rules in
    let held : c.self.inside.reading.held ≡ c.args.self.now.held = search rules in
    let found : Some c.as_slice.result.now ≡ get c.self.inside.streams c.args.name.now = search rules in
    let there : extents_at c.args.name.now c.args.self.now.streams ≡ Some c.as_slice.result.now = found_some c.self.inside.streams c.args.self.now.streams c.args.name.now c.as_slice.result.now listed found in
    bytes_found file c.args.self.now.streams c.args.name.now c.in_ok-bytes-in-Some.bytes.items c.as_slice.result.now there (c.in_ok-bytes-in-Some.ensures.ok file (rw held told))

pub returns-in_ok-bytes-in-Some-clause-same : goal.returns-in_ok-bytes-in-Some-clause-same
returns-in_ok-bytes-in-Some-clause-same g c =
    let listed : entries c.self.inside.streams ≡ c.args.self.now.streams = search rules in
    let found : Some c.as_slice.result.now ≡ get c.self.inside.streams c.args.name.now = search rules in
    let there : extents_at c.args.name.now c.args.self.now.streams ≡ Some c.as_slice.result.now = found_some c.self.inside.streams c.args.self.now.streams c.args.name.now c.as_slice.result.now listed found in
    record {
      told = search rules;
      clsids = search rules;
      storages = search rules;
      streams = search rules;
      read = counted_some c.args.self.now.streams c.args.name.now c.as_slice.result.now _ _ there (search rules);
    }

pub returns-in-None-clause-ok : goal.returns-in-None-clause-ok
returns-in-None-clause-ok g c = λ file told.
    let listed : entries c.self.inside.streams ≡ c.args.self.now.streams = search rules in
    let none : None ≡ get c.self.inside.streams c.args.name.now = search rules in
    bytes_missing file c.args.self.now.streams c.args.name.now (found_none c.self.inside.streams c.args.self.now.streams c.args.name.now listed none)

pub returns-in_err-bytes-in-Some-clause-missing : goal.returns-in_err-bytes-in-Some-clause-missing
returns-in_err-bytes-in-Some-clause-missing g c = λ none.
    let listed : entries c.self.inside.streams ≡ c.args.self.now.streams = search rules in
    let found : Some c.as_slice.result.now ≡ get c.self.inside.streams c.args.name.now = search rules in
    let there : extents_at c.args.name.now c.args.self.now.streams ≡ Some c.as_slice.result.now = found_some c.self.inside.streams c.args.self.now.streams c.args.name.now c.as_slice.result.now listed found in
    absurd (false≢true (ap is_none (sym there) ∙ none))

pub returns-in_ok-bytes-in-Some-clause-there : goal.returns-in_ok-bytes-in-Some-clause-there
returns-in_ok-bytes-in-Some-clause-there g c =
    let listed : entries c.self.inside.streams ≡ c.args.self.now.streams = search rules in
    let found : Some c.as_slice.result.now ≡ get c.self.inside.streams c.args.name.now = search rules in
    sym (ap is_some (found_some c.self.inside.streams c.args.self.now.streams c.args.name.now c.as_slice.result.now listed found))

pub returns-in-None-clause-there : goal.returns-in-None-clause-there
returns-in-None-clause-there g c =
    let listed : entries c.self.inside.streams ≡ c.args.self.now.streams = search rules in
    let none : None ≡ get c.self.inside.streams c.args.name.now = search rules in
    sym (ap is_some (found_none c.self.inside.streams c.args.self.now.streams c.args.name.now listed none))
