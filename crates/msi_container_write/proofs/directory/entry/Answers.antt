use Rattle.std.proofs.Common.{◌≡◌, ◌+◌, ◌-◌, ◌*◌, ◌<◌, length, map, slice_index, ◌∙◌, sym, ap, arith, refl, rules}
use Rattle.std.specs.List.{range_with_len}
use Rattle.msi_container_write.specs.Index.{streams_of}
use Rattle.msi_container_write.specs.Layout.{large_first, directory_of}
use Rattle.msi_container_write.proofs.directories.EntriesLemmas.{large_place}
use Rattle.msi_container_write.proofs.directories.DirectorySectorLemmas.{length-streams_of, among, name_fits, first_fits, place_entry, root_is, stream_is, unused_is}
use Rattle.msi_container_write.proofs.directory.entry.Goals as goal
use Rattle.msi_container_write.proofs.directory.entry.Goals.{After-index-places-k}

-- where the large streams begin
large : (c : After-index-places-k) → c.directory_sectors.result + c.mini_fat_sectors.result + c.mini_stream_sectors.result ≡ large_first (streams_of c.args.places.now)
large c =
    large_place (streams_of c.args.places.now) (length c.args.places.now) c.args.mini_sectors _ _ _
    (sym (length-streams_of c.args.places.now))
    c.requires.counted
    c.directory_sectors.ensures
    c.mini_fat_sectors.ensures
    c.mini_stream_sectors.ensures

pub stream_entry-requires-clause-fits : goal.stream_entry-requires-clause-fits
stream_entry-requires-clause-fits c =
    let fits = first_fits c.args.places.now (c.args.k - 1) c.index-places-k.result c.requires.indexed (omega arith) c.index-places-k.is c.requires.few in
    omega (arith, fits, large (goal.at.stream_entry-requires-clause-fits c).After-index-places-k)

pub stream_entry-requires-clause-name : goal.stream_entry-requires-clause-name
stream_entry-requires-clause-name c = name_fits c.args.places.now (c.args.k - 1) c.index-places-k.result c.requires.indexed (omega arith) c.index-places-k.is c.requires.names

pub returns-then-k-eq0 : goal.returns-then-k-eq0
returns-then-k-eq0 c =
    let streams = streams_of c.args.places.now in
    c.root_entry.ensures
    ∙ root_is c.args.clsid streams (search rules)
    ∙ ap (λ k. map (slice_index (directory_of c.args.clsid streams)) (range_with_len (128 * k) 128)) (sym c.if-k-eq0.true)

pub returns-then-k-count : goal.returns-then-k-count
returns-then-k-count c =
    let places = c.args.places.now in
    let i = c.args.k - 1 in
    let within : i < length places = omega arith in
    let next : c.args.k ≡ i + 1 = omega arith in
    c.stream_entry.ensures
    ∙ place_entry places i c.index-places-k.result c.requires.indexed within c.index-places-k.is (length places) c.args.k _ refl next (large (goal.at.returns-then-k-count c).After-index-places-k)
    ∙ stream_is c.args.clsid (streams_of places) (search rules) i (among places i c.index-places-k.result c.requires.indexed within c.index-places-k.is)
    ∙ ap (λ k. map (slice_index (directory_of c.args.clsid (streams_of places))) (range_with_len (128 * k) 128)) (sym next)

pub returns-else-k-count : goal.returns-else-k-count
returns-else-k-count c =
    let places = c.args.places.now in
    c.unused_entry.ensures
    ∙ unused_is c.args.clsid (streams_of places) (search rules) c.args.k (omega (arith, length-streams_of places)) (omega (arith, length-streams_of places, c.requires.within))
