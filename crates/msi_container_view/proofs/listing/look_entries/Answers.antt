use Rattle.std.proofs.Common.{◌∙◌, arith}
use Rattle.std.proofs.lemmas.Result.{IfOk-weaker}
use Rattle.msi_container_tables.proofs.parts.ListingLemmas.{gives_not_invalid}
use Rattle.msi_container_view.proofs.located_lemmas.RootLemmas.{root_is, root_found, listing_in_root}
use Rattle.msi_container_view.proofs.listing.look_entries.Goals as goal

pub returns-clause-found : goal.returns-clause-found
returns-clause-found c =
    let copy = c.args.copy.now in
    let places = c.args.directory.now.places in
    let bytes = c.new-directory.result.bytes.now in
    let sectors = c.new-directory.result.sectors.now in
    let listed = c.new-directory.ensures.sectors ∙ c.as_slice.ensures.value in
    IfOk-weaker c.read_entries.result _ _ (λ e found file h d.
    root_found copy places.items bytes sectors c.in_ok-root.root e.has_storages e.storages.items e.streams.items c.new-directory.ensures.bytes listed (omega (arith, places.ok, c.requires.some))
    c.in_ok-root.ensures.found found file c.args.directory.now.sectors.items h d)
    c.read_entries.ensures.found

pub returns-clause-broken : goal.returns-clause-broken
returns-clause-broken c = λ broken file h d root tree listing.
    let copy = c.args.copy.now in
    let places = c.args.directory.now.places in
    let bytes = c.new-directory.result.bytes.now in
    let sectors = c.new-directory.result.sectors.now in
    let listed = c.new-directory.ensures.sectors ∙ c.as_slice.ensures.value in
    let first = root_is bytes sectors c.in_ok-root.root c.in_ok-root.ensures.found in
    let seen = listing_in_root copy places.items bytes sectors c.in_ok-root.root c.new-directory.ensures.bytes listed (omega (arith, places.ok, c.requires.some)) first file c.args.directory.now.sectors.items h d tree listing in
    gives_not_invalid _ c.read_entries.result _ (c.read_entries.ensures.only tree seen) broken
