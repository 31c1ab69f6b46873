use Rattle.std.proofs.Common.{◌≡◌, ◌*◌, ◌/◌, ℕ, List, [], ◌++◌, vec_len, ◌∙◌, ap, refl, arith, Vec, Global}
use Rattle.std.specs.List.{AllZip}
use Rattle.msi_container_format.specs.Container.{sector_size, all_sectors, all_mini_sectors, IsMembers}
use Rattle.msi_container_tables.specs.Claims.{CanClaim}
use Rattle.msi_container_tables.specs.Reading.{views, mini_limit}
use Rattle.msi_container_tables.proofs.parts.ListingLemmas.{if_ok_map3, gives_not_invalid}
use Rattle.msi_container_tables.proofs.chains.ClaimedLemmas.{claimed_room, few_claimed}
use Rattle.msi_container_tables.proofs.chains.RoomLemmas.{unmoved_within}
use Rattle.msi_container_tables.proofs.streams.read_chains.Goals as goal

-- how many mini sectors lie in the mini stream
mini_limit_is : (bytes : List ℕ) (stream : Vec ℕ Global) (count size : ℕ) → count ≡ vec_len stream → size ≡ sector_size bytes → count * (size / 64) ≡ mini_limit bytes stream.items
mini_limit_is bytes stream count size long sized = rw (long, sized, stream.ok.0) refl

pub returns-clause-found : goal.returns-clause-found
returns-clause-found c =
    let bytes = c.args.directory.now.bytes.now in
    let directory = c.args.directory.now.sectors.now in
    let ks = c.args.streams.now in
    let used = c.args.claims.list.items in
    let sectors = c.walk_each.new.uses.sectors in
    let minis = c.walk_each.new.uses.mini_sectors in
    let limit : vec_len c.in_ok-new.field-0.marks ≡ mini_limit bytes c.args.mini.now.stream.items = c.in_ok-new.ensures.limit ∙ mini_limit_is bytes c.args.mini.now.stream _ _ c.len.ensures c.sector_size.ensures.value in
    let fat = c.args.fat.now.sectors.now in
    let table : c.new.result.sectors.now ≡ c.args.mini.now.fat.items = c.new.ensures.sectors ∙ c.deref.ensures.value in
    if_ok_map3 c.walk_each.result
    (λ chains. AllZip (IsMembers bytes fat c.new.result.sectors.now directory) ks (views chains.items))
    (λ chains. sectors.list.items ≡ used ++ all_sectors bytes directory ks (views chains.items))
    (λ chains. minis.list.items ≡ c.in_ok-new.field-0.list.items ++ all_mini_sectors bytes directory ks (views chains.items))
    _
    (λ chains m s n. record {
      chained = rw table at m;
      room = claimed_room sectors.marks _ sectors.list.items used _ c.walk_each.ensures.limit sectors.marked sectors.distinct s;
      mini_room = claimed_room minis.marks _ minis.list.items [] _ (c.walk_each.ensures.mini_limit ∙ limit) minis.marked minis.distinct
          (n ∙ ap (λ xs. xs ++ all_mini_sectors bytes directory ks (views chains.items)) c.in_ok-new.ensures.none);
    })
    c.walk_each.ensures.members c.walk_each.ensures.sectors c.walk_each.ensures.mini_sectors

pub returns-clause-invalid : goal.returns-clause-invalid
returns-clause-invalid c = λ invalid chains a.
    let bytes = c.args.directory.now.bytes.now in
    let directory = c.args.directory.now.sectors.now in
    let ks = c.args.streams.now in
    let limit : vec_len c.in_ok-new.field-0.marks ≡ mini_limit bytes c.args.mini.now.stream.items = c.in_ok-new.ensures.limit ∙ mini_limit_is bytes c.args.mini.now.stream _ _ c.len.ensures c.sector_size.ensures.value in
    let table : c.new.result.sectors.now ≡ c.args.mini.now.fat.items = c.new.ensures.sectors ∙ c.deref.ensures.value in
    let members : AllZip (IsMembers bytes c.args.fat.now.sectors.now c.new.result.sectors.now directory) ks chains = rw table a.chained in
    let minis : CanClaim (vec_len c.in_ok-new.field-0.marks) c.in_ok-new.field-0.list.items (all_mini_sectors bytes directory ks chains) = rw (limit, c.in_ok-new.ensures.none) a.mini_room in
    gives_not_invalid _ c.walk_each.result chains (c.walk_each.ensures.only chains members a.room minis) invalid

pub returns-clause-bounded : goal.returns-clause-bounded
returns-clause-bounded c =
    let bytes = c.args.directory.now.bytes.now in
    let sectors = c.walk_each.new.uses.sectors in
    let minis = c.walk_each.new.uses.mini_sectors in
    let limit : vec_len c.in_ok-new.field-0.marks ≡ mini_limit bytes c.args.mini.now.stream.items = c.in_ok-new.ensures.limit ∙ mini_limit_is bytes c.args.mini.now.stream _ _ c.len.ensures c.sector_size.ensures.value in
    omega (
      arith,
      limit,
      c.walk_each.ensures.bounded,
      c.walk_each.ensures.limit,
      c.walk_each.ensures.mini_limit,
      few_claimed sectors.marks sectors.list sectors.counted,
      few_claimed minis.marks minis.list minis.counted,
    )

pub returns-in_err-new-clause-bounded : goal.returns-in_err-new-clause-bounded
returns-in_err-new-clause-bounded c = unmoved_within _ _ _ _ (few_claimed c.args.claims.marks c.args.claims.list c.args.claims.counted)

pub walk_each-requires-clause-same : goal.walk_each-requires-clause-same
walk_each-requires-clause-same c = c.requires.same

pub walk_each-requires-clause-same_mini : goal.walk_each-requires-clause-same_mini
walk_each-requires-clause-same_mini c = c.new.ensures.bytes

pub walk_each-requires-clause-below : goal.walk_each-requires-clause-below
walk_each-requires-clause-below c = c.requires.below

pub returns-clause-exact : goal.returns-clause-exact
returns-clause-exact c = c.walk_each.ensures.exact

pub returns-clause-grows : goal.returns-clause-grows
returns-clause-grows c = c.walk_each.ensures.grows

pub returns-clause-kinds : goal.returns-clause-kinds
returns-clause-kinds c = c.walk_each.ensures.kinds
