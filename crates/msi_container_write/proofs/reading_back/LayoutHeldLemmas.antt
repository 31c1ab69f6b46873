-- A layout holds its contents.
use Rattle.std.proofs.Common.{◌≡◌, ℕ, ◌+◌, ◌-◌, ◌*◌, ◌^◌, ◌<◌, ◌≤◌, false, ltb, List, ◌++◌, length, get_or, map, Option, Some, inl, inr, sym, ◌∙◌, ap, subst, arith, refl}
use Rattle.std.specs.List.{range_with_len}
use Rattle.std.specs.Int.{div_ceil}
use Rattle.std.specs.FinMap.{FinMap, entries, from_entries}
use Rattle.std.proofs.lemmas.Bool.{cases_lt, lt-ltb, false≢true, or_parts}
use Rattle.std.proofs.lemmas.Grind.{div_ceil_times}
use Rattle.std.proofs.lemmas.List.FromFn.{length-range_with_len, get_or-range_with_len}
use Rattle.msi_container_format.specs.declared.contents.Contents.{Contents}
use Rattle.msi_container_format.specs.Bytes.{place}
use Rattle.msi_container_format.specs.Names.{name_cmp}
use Rattle.msi_container_write.specs.Balance.{middle, left_link, right_link}
use Rattle.msi_container_format.specs.Chains.{IsChain, AreDistinct, AreBelow}
use Rattle.msi_container_format.specs.Trees.{Tree, members}
use Rattle.msi_container_format.specs.Container as container
use Rattle.msi_container_format.specs.Format.{END_OF_CHAIN}
use Rattle.msi_container_format.specs.Container.{Plan, IsPlan, IsWholeChain, IsSector, IsDirectoryTree, HaveOwnNames, contents_of, sectors_used, mini_sectors_of_streams}
use Rattle.msi_container_write.specs.Extents.{units, all_units, start_of}
use Rattle.msi_container_write.specs.Image.{fat_sectors, difat_sectors}
use Rattle.msi_container_write.specs.SpelledParts.{IsSpelledImage, fat_behind}
use Rattle.msi_container_write.specs.Layout.{directory_of, directory_sectors, parts_of, taken_by, mini_sectors, mini_stream_sectors, mini_stream_first, mini_fat_run, total, layout, refuses}
use Rattle.msi_container_write.specs.LayoutLaw.{LayoutsHoldContents}
use Rattle.msi_container_write.proofs.directories.BalanceLemmas.{Covers, spelled}
use Rattle.msi_container_write.proofs.placing.PlacedLemmas.{NamedStreams, stream_at, name_at, directory_run, mini_fat_members, mini_stream_members, IsDirectoryRead, AreStreamsRead}
use Rattle.msi_container_write.proofs.reading_back.PlanWrittenLemmas.{plan_of, each_member, no_storage, entries_are, large_are, mini_are, chains_are, contents_are}
use Rattle.msi_container_write.proofs.reading_back.SpelledPartsLemmas.{spelled_image}
use Rattle.msi_container_write.proofs.reading_back.ApartLemmas.{sectors_apart, sectors_below, mini_apart, mini_below, mini_among, large_among}
use Rattle.msi_container_write.proofs.directories.CollectedLemmas.{collected, names_apart}
use Rattle.msi_container_write.proofs.placing.LaidPartsLemmas.{taken}
use Rattle.msi_container_write.proofs.reading_back.StreamsReadLemmas.{streams_read}
use Rattle.msi_container_write.proofs.directories.DirectoryLengthLemmas.{length-directory_of}
use Rattle.msi_container_write.proofs.reading_back.DirectoryReadLemmas.{directory_read}
use Rattle.msi_container_write.proofs.placing.TotalsLemmas.{total_room}

-- what isn't refused has no storages, and few sectors
not_refused : (contents : Contents) (earlier : ℕ) → refuses contents earlier ≡ false → (contents.has_storages ≡ false) × (total contents earlier < 2 ^ 22)
not_refused contents earlier h =
    let both = or_parts contents.has_storages (ltb (2 ^ 31) (512 * (total contents earlier + 1))) h in (
      both.0,
      elim (cases_lt (total contents earlier) (2 ^ 22)) [
        | inl few ↦ few
        | inr many ↦ absurd (false≢true (sym both.1 ∙ lt-ltb (2 ^ 31) (512 * (total contents earlier + 1)) (omega arith)))
      ],
    )

-- the sectors in use, in the grammar's order
abbrev all_among : NamedStreams → List ℕ → ℕ → ℕ → List ℕ
all_among streams ms fat difat =
    range_with_len (taken_by streams + fat) difat ++ range_with_len (taken_by streams) fat ++ directory_run streams ++ mini_fat_members streams ++ mini_stream_members streams ++ large_among streams ms

-- sectors in a row that end are a whole chain
whole_run : (next : ℕ → Option ℕ) (first count : ℕ)
    → 0 < count
    → IsChain next first count (range_with_len first count)
    → next (first + count - 1) ≡ Some END_OF_CHAIN
    → IsWholeChain next first (range_with_len first count)
whole_run next first count some chain ended =
    let size = length-range_with_len first count in
    let last : get_or (range_with_len first count) (length (range_with_len first count) - 1) 0 ≡ first + count - 1 =
    ap (λ n. get_or (range_with_len first count) (n - 1) 0) size ∙ get_or-range_with_len first count (count - 1) 0 (omega arith) ∙ omega arith in
    record {
      filled = omega (arith, size);
      chain = subst (λ n. IsChain next first n (range_with_len first count)) (sym size) chain;
      ended = ap next last ∙ ended;
    }

-- a number below the count of sectors is one that can be used
is_sector : (bytes : List ℕ) (count n : ℕ) {below : ℕ}
    → container.sector_size bytes ≡ 512
    → length bytes ≡ 512 * (count + 1)
    → count < 2 ^ 22
    → n < below
    → below ≤ count
    → IsSector bytes n
is_sector bytes count n size long few l room = (omega arith, rw (size, long) (omega arith))

-- the mini stream's sectors have room for each of its mini sectors
in_mini_stream : (m minis sectors size : ℕ) → m < minis → sectors ≡ div_ceil minis 8 → size ≡ 512 → 64 * m < sectors * size
in_mini_stream m minis sectors size l long is = rw is (omega (arith, div_ceil_times minis 8 (omega arith)))

-- a map is that of its entries in any order
same_streams : (m : FinMap name_cmp (List ℕ)) (ms : List ℕ) (es : List (List ℕ × List ℕ))
    → Covers 1 (length (entries m)) ms
    → es ≡ map (λ k. stream_at (entries m) (k - 1)) ms
    → m ≡ from_entries {R = name_cmp} es
same_streams m ms es covers e = sym (ap (λ fs. from_entries {R = name_cmp} fs) e ∙ collected m ms covers)

module _ (bytes clsid : List ℕ) (streams : NamedStreams) (count : ℕ)
    (long : length (directory_of clsid streams) ≡ 512 * directory_sectors (length streams))
    (sum : all_units 512 (parts_of clsid streams) ≡ taken_by streams)
    (room : taken_by streams + fat_sectors count + difat_sectors count ≤ count)
    (few : count < 2 ^ 22)
    (image : IsSpelledImage bytes (parts_of clsid streams) (mini_fat_run streams) count)
  where
    -- the directory begins the sectors
    directory_units : units 512 (directory_of clsid streams) ≡ directory_sectors (length streams)
    directory_units = omega (arith, long)

    pub directory_bytes : (p : ℕ) → p < length (directory_of clsid streams) → get_or bytes (place 512 (directory_run streams) p) 0 ≡ get_or (directory_of clsid streams) p 0
    directory_bytes p l =
        let first = image.spelled 0 (omega arith) in
        let P : ℕ → Type 0 = λ u. get_or bytes (place 512 (range_with_len 0 u) p) 0 ≡ get_or (directory_of clsid streams) p 0 in
        subst P directory_units (first.content p l)

    directory_chain : IsWholeChain (container.successor bytes (fat_behind (parts_of clsid streams) count)) 0 (directory_run streams)
    directory_chain =
        let first = image.spelled 0 (omega arith) in
        let D = directory_sectors (length streams) in
        let next = container.successor bytes (fat_behind (parts_of clsid streams) count) in
        let chained : IsChain next 0 D (range_with_len 0 D) =
        subst (λ u. IsChain next 0 u (range_with_len 0 u)) directory_units first.chain in
        let last : 0 + units 512 (directory_of clsid streams) - 1 ≡ 0 + D - 1 = omega (arith, directory_units) in
        let ended = first.ended (omega (arith, directory_units)) in
        (whole_run next 0 D (omega arith) chained (ap next (sym last) ∙ ended))

    module _ (read : IsDirectoryRead bytes (directory_run streams) clsid streams) where
      -- the tree of the links
      tree_found : (t : Tree) × IsDirectoryTree bytes (directory_run streams) (middle 1 (length streams)) t × Covers 1 (length streams) (members t)
      tree_found =
          let n = length streams in
          let limit = container.entry_count bytes (directory_run streams) in
          let size = length-range_with_len 0 (directory_sectors n) in
          let entries : limit ≡ 4 * directory_sectors n = rw (image.size, size) (omega arith) in
          spelled (container.left bytes (directory_run streams)) (container.right bytes (directory_run streams)) limit n 1 n (omega arith)
          (omega (arith, entries))
          (omega (arith, entries, room, few))
          (λ k a b.
          let there : k - 1 + 1 ≡ k = omega arith in
          let e = read.streams_read (k - 1) (omega arith) in
          let P : ℕ → Type 0 = λ j. (container.left bytes (directory_run streams) j ≡ left_link n 1 n j) × (container.right bytes (directory_run streams) j ≡ right_link n 1 n j) in
          subst P there (e.left, e.right))

      -- what the grammar finds is a plan
      module _ (chained : AreStreamsRead bytes (fat_behind (parts_of clsid streams) count) streams)
          (apart : (i j : ℕ) → i < length streams → j < length streams → (i ≡ j → ⊥) → name_at streams i ≡ name_at streams j → ⊥)
          (t : Tree)
          (tree : IsDirectoryTree bytes (directory_run streams) (middle 1 (length streams)) t)
          (covers : Covers 1 (length streams) (members t))
        where
          abbrev plan : Plan
          plan = plan_of (parts_of clsid streams) count streams t

          -- each number of a list that is listed otherwise
          used_are : sectors_used bytes plan ≡ all_among streams (members t) (fat_sectors count) (difat_sectors count)
          used_are =
              let tail = large_are bytes clsid streams (parts_of clsid streams) count t covers read in
              rw (tail, sum) refl

          minis_are : mini_sectors_of_streams bytes plan ≡ mini_among streams (members t)
          minis_are = mini_are bytes clsid streams (parts_of clsid streams) count t covers read

          names_differ : HaveOwnNames bytes (directory_run streams) (members t)
          names_differ i j l h same =
              let n = length streams in
              let read_name : (k : ℕ) → k < length (members t) → container.name bytes (directory_run streams) (get_or (members t) k 0) ≡ name_at streams (get_or (members t) k 0 - 1) =
              each_member (λ k. container.name bytes (directory_run streams) k ≡ name_at streams (k - 1)) n (members t) covers
              (λ m b. let e : m + 1 - 1 ≡ m = omega arith in rw e (read.streams_read m b).name) in
              let wi = covers.within i (omega arith) in
              let wj = covers.within j h in
              apart (get_or (members t) i 0 - 1) (get_or (members t) j 0 - 1) (omega (arith, wi.0, wi.1)) (omega (arith, wj.0, wj.1))
              (λ e. covers.distinct i j l h (omega (arith, e, wi.0, wj.0)))
              (sym (read_name i (omega arith)) ∙ same ∙ read_name j h)

          used_within : (i : ℕ) → i < length (sectors_used bytes plan) → IsSector bytes (get_or (sectors_used bytes plan) i 0)
          used_within =
              let below = subst (AreBelow (taken_by streams + fat_sectors count + difat_sectors count)) (sym used_are)
              (sectors_below streams (members t) (fat_sectors count) (difat_sectors count) covers) in
              λ i l. is_sector bytes count (get_or (sectors_used bytes plan) i 0) image.size image.long few (below i l) room

          minis_within : (i : ℕ) → i < length (mini_sectors_of_streams bytes plan) → 64 * get_or (mini_sectors_of_streams bytes plan) i 0 < length (mini_stream_members streams) * container.sector_size bytes
          minis_within =
              let below = subst (AreBelow (mini_sectors streams)) (sym minis_are) (mini_below streams (members t) covers) in
              λ i l. in_mini_stream (get_or (mini_sectors_of_streams bytes plan) i 0) (mini_sectors streams) _ _ (below i l) (length-range_with_len (mini_stream_first streams) (mini_stream_sectors streams)) image.size

          is_plan : IsPlan bytes plan
          is_plan =
              let P = parts_of clsid streams in
              let bytes_size = image.size in
              let eight : mini_stream_sectors streams ≡ div_ceil (64 * mini_sectors streams) 512 = omega arith in
              record {
                header = image.header;
                difat = rw (image.fat_count, bytes_size) image.difat;
                fat = rw image.fat_count image.fat;
                directory = rw image.directory directory_chain;
                listing = record {
                  root = read.root;
                  spelled = rw read.child tree;
                  once = covers.distinct;
                  entries = entries_are bytes clsid streams P count t covers read;
                  names = names_differ;
                };
                mini_fat = chained.mini_fat;
                mini_stream = rw (read.start, read.size, bytes_size) (subst (λ u. IsChain (container.successor bytes (fat_behind P count)) (start_of (mini_stream_first streams) (mini_sectors streams)) u (mini_stream_members streams)) eight chained.mini_stream);
                streams = chains_are bytes clsid streams P count t covers read bytes_size chained;
                sectors = used_within;
                distinct = subst AreDistinct (sym used_are) (sectors_apart streams (members t) (fat_sectors count) (difat_sectors count) covers);
                mini_sectors = minis_within;
                mini_distinct = subst AreDistinct (sym minis_are) (mini_apart streams (members t) covers);
              }

pub layout_holds : LayoutsHoldContents
layout_holds contents earlier h accepted =
    let streams = entries contents.streams in
    let clsid = contents.clsid in
    let bytes = layout contents earlier in
    let count = total contents earlier in
    let limits = not_refused contents earlier accepted in
    let long = length-directory_of clsid streams h.clsid in
    let sum = taken clsid streams long in
    let room = total_room (taken_by streams) earlier in
    let enough : all_units 512 (parts_of clsid streams) + fat_sectors count + difat_sectors count ≤ count = omega (arith, room, sum) in
    let image = spelled_image (parts_of clsid streams) (mini_fat_run streams) count enough (omega (arith, limits.1)) (omega (arith, room, limits.1)) in
    let few : taken_by streams < 2 ^ 22 = omega (arith, room, limits.1) in
    let read = directory_read bytes clsid streams image.size h.clsid h.names few (directory_bytes bytes clsid streams count long sum room limits.1 image) in
    let chained = streams_read bytes clsid streams count long few image in
    let found = tree_found bytes clsid streams count long sum room limits.1 image read in
    let plan = plan_of (parts_of clsid streams) count streams found.0 in
    let written = is_plan bytes clsid streams count long sum room limits.1 image read chained (names_apart contents.streams) found.0 found.1 found.2 in
    let same : contents.streams ≡ (contents_of bytes plan).streams =
    same_streams contents.streams (members found.0) _ found.2 (contents_are bytes clsid streams (parts_of clsid streams) count found.0 found.2 read image.size chained) in
    let storages : contents.has_storages ≡ (contents_of bytes plan).has_storages = limits.0 ∙ sym (no_storage bytes clsid streams (parts_of clsid streams) count found.0 found.2 read) in
    let root : clsid ≡ (contents_of bytes plan).clsid = sym read.clsid in
    (plan, written, λ i. record { clsid = root i; streams = same i; has_storages = storages i })
