-- What is read of the streams of an image that spells the parts of a layout: the chain and the bytes of each.
use Rattle.std.proofs.Common.{◌≡◌, ℕ, ◌+◌, ◌*◌, ◌/◌, ◌%◌, ◌<◌, ◌≤◌, ◌^◌, Bool, cond, List, [], length, get_or, map, inl, inr, sym, ap, subst, arith, refl}
use Rattle.std.specs.List.{range_with_len}
use Rattle.std.specs.Int.{div_ceil}
use Rattle.std.proofs.lemmas.Bool.{cases_lt, lt-ltb, le-ltb}
use Rattle.std.proofs.lemmas.List.FromFn.{fill_by_all}
use Rattle.msi_container_format.specs.Bytes.{place}
use Rattle.msi_container_format.specs.Chains.{IsChain}
use Rattle.msi_container_format.specs.Container.{successor, is_mini}
use Rattle.msi_container_write.specs.Extents.{units, start_of}
use Rattle.msi_container_write.specs.SpelledParts.{IsSpelledPart, IsSpelledImage, fat_behind}
use Rattle.msi_container_write.specs.Layout.{large_part, mini_fat_run, directory_of, directory_sectors, stream_start, parts_of, taken_by}
use Rattle.msi_container_write.proofs.placing.PlacedLemmas.{NamedStreams, AreStreamsRead, stream_at, bytes_of, sector_at, mini_sector_at, members_at, mini_fat_members, mini_stream_members, byte_read}
use Rattle.msi_container_write.proofs.placing.LaidPartsLemmas.{IsLaid, large_spelled}
use Rattle.msi_container_write.proofs.reading_back.MiniReadLemmas.{started, some_of, mini_fat_read, mini_stream_read, small_chain, small_byte}

-- a large stream is a part of its own
large_part_is : (streams : NamedStreams) (i : ℕ) → 4096 ≤ length (bytes_of streams i) → large_part (stream_at streams i) ≡ bytes_of streams i
large_part_is streams i large = ap (λ b. cond b [] (bytes_of streams i)) (le-ltb (length (bytes_of streams i)) 4096 large)

-- so it stands in its sectors
large_stream : {bytes clsid : List ℕ} {streams : NamedStreams} {total : ℕ} (i : ℕ) → IsLaid bytes clsid streams total
    → i < length streams
    → 4096 ≤ length (bytes_of streams i)
    → IsSpelledPart bytes (fat_behind (parts_of clsid streams) total) (sector_at streams i) (units 512 (bytes_of streams i)) (bytes_of streams i)
large_stream {bytes = bytes} {clsid = clsid} {streams = streams} {total = total} i laid l large =
    subst (λ part. IsSpelledPart bytes (fat_behind (parts_of clsid streams) total) (sector_at streams i) (units 512 part) part)
    (large_part_is streams i large)
    (large_spelled i laid l)

-- the members of stream i, by whether it is small
abbrev members_if : NamedStreams → ℕ → Bool → List ℕ
members_if streams i small =
    cond small
    (range_with_len (mini_sector_at streams i) (units 64 (cond small (bytes_of streams i) [])))
    (range_with_len (sector_at streams i) (units 512 (cond small [] (bytes_of streams i))))

-- the chain of stream i
chain_read : {bytes clsid : List ℕ} {streams : NamedStreams} {total : ℕ} (i : ℕ) → IsLaid bytes clsid streams total
    → i < length streams
    → IsChain
    (successor bytes (cond (is_mini (length (bytes_of streams i))) (mini_fat_members streams) (fat_behind (parts_of clsid streams) total)))
    (stream_start (sector_at streams i) (mini_sector_at streams i) (length (bytes_of streams i)))
    (div_ceil (length (bytes_of streams i)) (cond (is_mini (length (bytes_of streams i))) 64 512))
    (members_at streams i)
chain_read {bytes = bytes} {clsid = clsid} {streams = streams} {total = total} i laid l =
    let n = length (bytes_of streams i) in
    let m = mini_sector_at streams i in
    let s = sector_at streams i in
    let fat = fat_behind (parts_of clsid streams) total in
    let P : Bool → Type 0 = λ small.
    IsChain
    (successor bytes (cond small (mini_fat_members streams) fat))
    (start_of (cond small m s) n)
    (div_ceil n (cond small 64 512))
    (members_if streams i small) in
    elim (cases_lt n 4096) [
      | inl small ↦ subst P (sym (lt-ltb n 4096 small)) (small_chain i (start_of m n) laid l small (λ some. started m n (some_of n 64 refl some)))
      | inr large ↦
          subst P (sym (le-ltb n 4096 large))
          (subst (λ start. IsChain (successor bytes fat) start (div_ceil n 512) (range_with_len s (div_ceil n 512))) (sym (started s n (omega arith))) (large_stream i laid l large).chain)
    ]

-- the bytes of stream i
bytes_read : {bytes clsid : List ℕ} {streams : NamedStreams} {total : ℕ} (i : ℕ) → IsLaid bytes clsid streams total
    → i < length streams
    → map (byte_read bytes streams i) (range_with_len 0 (length (bytes_of streams i))) ≡ bytes_of streams i
bytes_read {bytes = bytes} {streams = streams} i laid l =
    let n = length (bytes_of streams i) in
    sym (fill_by_all (byte_read bytes streams i) (bytes_of streams i) n 0 refl (λ p h.
    let P : Bool → Type 0 = λ small.
    get_or (bytes_of streams i) p 0
    ≡ cond small
    (get_or bytes (place 512 (mini_stream_members streams) (64 * get_or (members_if streams i small) (p / 64) 0 + p % 64)) 0)
    (get_or bytes (place 512 (members_if streams i small) p) 0) in
    elim (cases_lt n 4096) [
      | inl small ↦ subst P (sym (lt-ltb n 4096 small)) (sym (small_byte i p laid l small h))
      | inr large ↦ subst P (sym (le-ltb n 4096 large)) (sym ((large_stream i laid l large).content p h))
    ]))

-- an image that spells the parts of a layout is read as its streams
pub streams_read : (bytes clsid : List ℕ) (streams : NamedStreams) (total : ℕ)
    → length (directory_of clsid streams) ≡ 512 * directory_sectors (length streams)
    → taken_by streams < 2 ^ 22
    → IsSpelledImage bytes (parts_of clsid streams) (mini_fat_run streams) total
    → AreStreamsRead bytes (fat_behind (parts_of clsid streams) total) streams
streams_read bytes clsid streams total full few image =
    let laid : IsLaid bytes clsid streams total = record { full = full; few = few; image = image } in
    record {
      mini_fat = mini_fat_read laid;
      mini_stream = mini_stream_read laid;
      chains = λ i l. chain_read i laid l;
      contents = λ i l. bytes_read i laid l;
    }
