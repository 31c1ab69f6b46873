use Rattle.std.proofs.Common.{◌∙◌}
use Rattle.std.proofs.lemmas.Result.{IfOk-weaker}
use Rattle.msi_container_tables.specs.Reading.{views}
use Rattle.msi_container_view.proofs.located_lemmas.MembersLemmas.{chains_found, chains_in_copy, chains_covered, chains_few}
use Rattle.msi_container_view.proofs.listing.look_chains.Goals as goal

pub returns-clause-found : goal.returns-clause-found
returns-clause-found c =
    let fats = c.new-fat.ensures.sectors ∙ c.as_slice.ensures.value in
    let entries = c.new-directory.ensures.sectors ∙ c.as_slice-2.ensures.value in
    IfOk-weaker c.read_chains.result _ _ (λ chains m file h f n d.
    chains_found c.args.copy.now _ _ _ c.args.mini.now.mini.fat.items _ _ _ _ _ c.args.streams.now c.new-directory.ensures.bytes fats entries (views chains.items)
    c.requires.below m file c.args.fat.now.sectors.items c.args.mini.now.sectors.items c.args.directory.now.sectors.items h f n d)
    c.read_chains.ensures.found

pub returns-clause-broken : goal.returns-clause-broken
returns-clause-broken c = λ broken file h f n d chains m.
    let fats = c.new-fat.ensures.sectors ∙ c.as_slice.ensures.value in
    let entries = c.new-directory.ensures.sectors ∙ c.as_slice-2.ensures.value in
    c.read_chains.ensures.invalid broken chains
    (chains_in_copy c.args.copy.now _ _ _ c.args.mini.now.mini.fat.items _ _ _ _ _ c.args.streams.now c.new-directory.ensures.bytes fats entries chains
    c.requires.below file c.args.fat.now.sectors.items c.args.mini.now.sectors.items c.args.directory.now.sectors.items h f n d m)

pub returns-clause-covered : goal.returns-clause-covered
returns-clause-covered c =
    let fats = c.new-fat.ensures.sectors ∙ c.as_slice.ensures.value in
    let entries = c.new-directory.ensures.sectors ∙ c.as_slice-2.ensures.value in
    IfOk-weaker c.read_chains.result _ _ (λ chains m.
    chains_covered c.args.copy.now _ _ _ c.args.mini.now.mini.fat.items _ _ _ _ _ c.args.streams.now c.new-directory.ensures.bytes fats entries (views chains.items) m)
    c.read_chains.ensures.found

pub returns-clause-few : goal.returns-clause-few
returns-clause-few c =
    let fats = c.new-fat.ensures.sectors ∙ c.as_slice.ensures.value in
    let entries = c.new-directory.ensures.sectors ∙ c.as_slice-2.ensures.value in
    IfOk-weaker c.read_chains.result _ _ (λ chains m.
    chains_few c.args.copy.now _ _ _ c.args.mini.now.mini.fat.items _ _ _ _ _ c.args.streams.now c.new-directory.ensures.bytes fats entries (views chains.items) c.requires.regular m)
    c.read_chains.ensures.found
