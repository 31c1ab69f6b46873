use Rattle.std.proofs.Common.{◌∙◌}
use Rattle.msi_container_tables.specs.Reading.{views}
use Rattle.msi_container_tables.proofs.parts.ListingLemmas.{if_ok_map3}
use Rattle.msi_container_view.proofs.located_lemmas.LocatedLemmas.{names_found, names_in_copy, streams_found}
use Rattle.msi_container_view.proofs.located.locate.Goals as goal

pub returns-clause-found : goal.returns-clause-found
returns-clause-found c =
    let entries = c.args.entries.now in
    let listed = c.new-directory.ensures.sectors ∙ c.as_slice.ensures.value in
    let stored = c.as_slice-2.ensures.value in
    let streams = c.as_slice-3.ensures.value in
    if_ok_map3 c.locate_streams.result _ _ _ _ (λ located found apart again file h d. (
      names_found c.args.copy.now _ _ _ entries.storages.items _ entries.streams.items _ c.new-directory.ensures.bytes listed stored streams c.requires.storages c.requires.below file c.args.directory.now.sectors.items h d apart,
      streams_found c.args.copy.now _ _ _ entries.storages.items _ entries.streams.items _ c.new-directory.ensures.bytes listed stored streams c.requires.storages c.requires.below c.args.mini_stream.now (views c.args.chains.now) located found apart file c.args.directory.now.sectors.items h d,
    ))
    c.locate_streams.ensures.found c.locate_streams.ensures.names c.locate_streams.ensures.names

pub returns-clause-broken : goal.returns-clause-broken
returns-clause-broken c = λ broken file h d apart.
    let entries = c.args.entries.now in
    let listed = c.new-directory.ensures.sectors ∙ c.as_slice.ensures.value in
    let stored = c.as_slice-2.ensures.value in
    let streams = c.as_slice-3.ensures.value in
    c.locate_streams.ensures.invalid broken
    (names_in_copy c.args.copy.now _ _ _ entries.storages.items _ entries.streams.items _ c.new-directory.ensures.bytes listed stored streams c.requires.storages c.requires.below file c.args.directory.now.sectors.items h d apart)
