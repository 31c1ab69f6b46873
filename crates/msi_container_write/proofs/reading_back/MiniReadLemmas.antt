-- The mini FAT, the mini stream, and the small streams in it, read from an image that spells its parts.
use Rattle.std.proofs.Common.{◌≡◌, ℕ, zero, suc, ◌+◌, ◌-◌, ◌*◌, ◌/◌, ◌%◌, ◌<◌, ◌≤◌, ◌^◌, ◌⊎◌, Bool, true, false, cond, ltb, List, [], length, get_or, take, Option, Some, inl, inr, sym, ◌∙◌, ap, subst, arith, refl, lit<}
use Rattle.std.specs.List.{range_with_len}
use Rattle.std.specs.Int.{div_ceil}
use Rattle.std.proofs.lemmas.Bool.{cases_lt, lt-ltb, eq-eqb, ne_eqb}
use Rattle.std.proofs.lemmas.Grind.{div_ceil_times}
use Rattle.std.proofs.lemmas.List.{get_or-map, length-map}
use Rattle.std.proofs.lemmas.List.FromFn.{get_or-range_with_len, length-range_with_len, get_or-map-range_with_len, length-map-range_with_len}
use Rattle.msi_container_format.specs.Bytes.{number32, place}
use Rattle.msi_container_format.specs.Chains.{IsChain}
use Rattle.msi_container_format.specs.Format.{MAX_REGULAR_SECTOR, END_OF_CHAIN}
use Rattle.msi_container_format.specs.Container.{IsWholeChain, successor, sector_size, mini_fat_start, IsMiniFat}
use Rattle.msi_container_write.specs.Extents.{units, all_units, laid_byte, is_last, link, start_of, number_byte, table_byte}
use Rattle.msi_container_write.specs.SpelledParts.{fat_behind}
use Rattle.msi_container_write.specs.Layout.{mini_part, mini_parts, mini_sectors, mini_fat_sectors, mini_stream_sectors, mini_fat_entry, mini_stream_first, directory_sectors, parts_of}
use Rattle.msi_container_write.proofs.placing.PlacedLemmas.{NamedStreams, bytes_of, mini_sector_at, mini_fat_members, mini_stream_members}
use Rattle.msi_container_write.proofs.placing.LaidLemmas.{laid_at, last_at, units_within, number_from, place_range}
use Rattle.msi_container_write.proofs.placing.LaidPartsLemmas.{IsLaid, few_sectors, mini_fat_spelled, mini_stream_spelled, length-mini_stream}

-- TABLES

-- n sectors from sector a on hold the bytes of a table
abbrev IsTable : List ℕ → (ℕ → ℕ) → ℕ → ℕ → Type 0
IsTable bytes entry a n = (p : ℕ) → p < 512 * n → get_or bytes (place 512 (range_with_len a n) p) 0 ≡ table_byte entry p

-- byte b of entry m
entry_byte : (bytes : List ℕ) (entry : ℕ → ℕ) (a n m b p : ℕ)
    → IsTable bytes entry a n
    → m < 128 * n
    → b < 4
    → p ≡ 512 * (a + 1) + 4 * m + b
    → get_or bytes p 0 ≡ number_byte (entry m) b
entry_byte bytes entry a n m b p table l h at_p =
    let there : place 512 (range_with_len a n) (4 * m + b) ≡ p = place_range a n (4 * m + b) (omega arith) ∙ omega arith in
    let q : (4 * m + b) / 4 ≡ m = omega arith in
    let r : (4 * m + b) % 4 ≡ b = omega arith in
    ap (λ x. get_or bytes x 0) (sym there) ∙ table (4 * m + b) (omega arith) ∙ rw (q, r) refl

-- the successor of m is entry m
table_successor : (bytes : List ℕ) (entry : ℕ → ℕ) (a n m : ℕ)
    → sector_size bytes ≡ 512
    → IsTable bytes entry a n
    → m < 128 * n
    → entry m < 2 ^ 32
    → successor bytes (range_with_len a n) m ≡ Some (entry m)
table_successor bytes entry a n m size table l fits =
    let p = 512 * (a + 1) + 4 * m in
    let inside : ltb (4 * m) (length (range_with_len a n) * 512) ≡ true = lt-ltb _ _ (rw (length-range_with_len a n) (omega arith)) in
    let there : place 512 (range_with_len a n) (4 * m) ≡ p = place_range a n (4 * m) (omega arith) in
    let number : number32 bytes p ≡ entry m =
    number_from _ _ _ _ (entry m) fits
    (entry_byte bytes entry a n m 0 p table l (lit< tt) (omega arith))
    (entry_byte bytes entry a n m 1 (p + 1) table l (lit< tt) (omega arith))
    (entry_byte bytes entry a n m 2 (p + 2) table l (lit< tt) (omega arith))
    (entry_byte bytes entry a n m 3 (p + 2 + 1) table l (lit< tt) (omega arith)) in
    rw (size, inside, there, number) refl

-- the mark and the number of a unit fit in 32 bits
link_bound : (b : Bool) (n : ℕ) → n < 2 ^ 31 → cond b END_OF_CHAIN (n + 1) < 2 ^ 32
link_bound true n h = lit< tt
link_bound false n h = omega arith

-- the successor of a mini sector is its link
mini_successor : (bytes : List ℕ) (parts : List (List ℕ)) (a n m : ℕ)
    → sector_size bytes ≡ 512
    → IsTable bytes (mini_fat_entry parts) a n
    → m < all_units 64 parts
    → all_units 64 parts ≤ 128 * n
    → n < 2 ^ 22
    → successor bytes (range_with_len a n) m ≡ Some (link 64 parts m)
mini_successor bytes parts a n m size table l room few =
    let is : mini_fat_entry parts m ≡ link 64 parts m = rw (lt-ltb m (all_units 64 parts) l) refl in
    table_successor bytes (mini_fat_entry parts) a n m size table (omega arith) (rw is (link_bound (is_last 64 parts m) m (omega arith)))
    ∙ ap Some is

-- the chain of a part whose units' successors are their links
linked_chain : (next : ℕ → Option ℕ) (size : ℕ) (parts : List (List ℕ)) (i start : ℕ)
    → i < length parts
    → ((n : ℕ) → n < all_units size parts → next n ≡ Some (link size parts n))
    → (0 < units size (get_or parts i []) → start ≡ all_units size (take i parts))
    → IsChain next start (units size (get_or parts i [])) (range_with_len (all_units size (take i parts)) (units size (get_or parts i [])))
linked_chain next size parts i start l links starts =
    let s = all_units size (take i parts) in
    let u = units size (get_or parts i []) in
    let long = length-range_with_len s u in
    let within = units_within size parts i l in
    record {
      long = long;
      first = λ z. get_or-range_with_len s u 0 0 (omega arith) ∙ omega (arith, starts (omega arith));
      linked = λ k b.
          let open_end : is_last size parts (s + k) ≡ false = last_at size parts i k l (omega arith) ∙ ne_eqb (k + 1) u (λ e. omega arith) in
          rw (get_or-range_with_len s u k 0 (omega arith), get_or-range_with_len s u (k + 1) 0 (omega arith))
          (links (s + k) (omega arith) ∙ ap Some (rw open_end (omega arith)));
    }

-- WHERE CHAINS START

-- a chain that isn't empty starts at its first unit
pub started : (first n : ℕ) → 0 < n → start_of first n ≡ first
started first n some = ap (λ b. cond b END_OF_CHAIN first) (ne_eqb n 0 (λ e. omega arith))

-- what takes some units isn't empty
pub some_of : (n size : ℕ) → div_ceil 0 size ≡ 0 → 0 < div_ceil n size → 0 < n
some_of zero size none some = absurd (omega arith)
some_of (suc n) size none some = omega arith

-- THE MINI FAT

-- a chain of sectors in a row, to the end mark, is whole; and where there are none, its start is the mark
row_or_none : (next : ℕ → Option ℕ) (start first count : ℕ)
    → start ≡ start_of first count
    → first < 2 ^ 22
    → IsChain next first count (range_with_len first count)
    → (0 < count → next (first + count - 1) ≡ Some END_OF_CHAIN)
    → ((start ≤ MAX_REGULAR_SECTOR) × IsWholeChain next start (range_with_len first count)) ⊎ ((MAX_REGULAR_SECTOR < start) × (range_with_len first count ≡ []))
row_or_none next start first count starts low chain ended =
    elim (cases_lt 0 count) [
      | inl some ↦
          let e : start ≡ first = starts ∙ started first count some in
          let long = length-range_with_len first count in
          let last : first + (count - 1) ≡ first + count - 1 = omega arith in
          inl (
            omega arith,
            record {
              filled = omega arith;
              chain = rw (e, long) chain;
              ended = rw (long, get_or-range_with_len first count (count - 1) 0 (omega arith), last) (ended some);
            },
          )
      | inr none ↦
          let e : start ≡ END_OF_CHAIN = starts ∙ ap (λ b. cond b END_OF_CHAIN first) (eq-eqb count 0 (omega arith)) in
          let empty : count ≡ 0 = omega arith in
          inr (rw e (lit< tt), ap (range_with_len first) empty)
    ]

-- its sectors
pub mini_fat_read : {bytes clsid : List ℕ} {streams : NamedStreams} {total : ℕ} → IsLaid bytes clsid streams total
    → IsMiniFat bytes (fat_behind (parts_of clsid streams) total) (mini_fat_members streams)
mini_fat_read {bytes = bytes} {streams = streams} laid =
    let part = mini_fat_spelled laid in
    row_or_none _ (mini_fat_start bytes) (directory_sectors (length streams)) (mini_fat_sectors streams) laid.image.mini_start (few_sectors laid).0 part.chain part.ended

-- its entries
mini_table : {bytes clsid : List ℕ} {streams : NamedStreams} {total : ℕ} → IsLaid bytes clsid streams total
    → IsTable bytes (mini_fat_entry (mini_parts streams)) (directory_sectors (length streams)) (mini_fat_sectors streams)
mini_table {streams = streams} laid p l =
    let byte : ℕ → ℕ = table_byte (mini_fat_entry (mini_parts streams)) in
    let n = 512 * mini_fat_sectors streams in
    (mini_fat_spelled laid).content p (omega (arith, length-map-range_with_len byte 0 n)) ∙ get_or-map-range_with_len byte 0 n p p 0 l (omega arith)

-- there are entries for n units
covered : (n : ℕ) → n ≤ 128 * div_ceil n 128
covered n = omega (arith, div_ceil_times n 128 (omega arith))

-- the successor of a mini sector in use
mini_link : {bytes clsid : List ℕ} {streams : NamedStreams} {total : ℕ} (n : ℕ) → IsLaid bytes clsid streams total
    → n < mini_sectors streams
    → successor bytes (mini_fat_members streams) n ≡ Some (link 64 (mini_parts streams) n)
mini_link {bytes = bytes} {streams = streams} n laid l =
    mini_successor bytes (mini_parts streams) _ _ n laid.image.size (mini_table laid) l (covered (mini_sectors streams)) (few_sectors laid).1

-- THE MINI STREAM

-- its sectors, which may be none
pub mini_stream_read : {bytes clsid : List ℕ} {streams : NamedStreams} {total : ℕ} → IsLaid bytes clsid streams total
    → IsChain (successor bytes (fat_behind (parts_of clsid streams) total)) (start_of (mini_stream_first streams) (mini_sectors streams)) (mini_stream_sectors streams) (mini_stream_members streams)
mini_stream_read {streams = streams} laid =
    let chain = (mini_stream_spelled laid).chain in
    let m = mini_sectors streams in
    record {
      long = chain.long;
      first = λ z. chain.first z ∙ sym (started (mini_stream_first streams) m (some_of m 8 refl (subst (λ n. 0 < n) chain.long z)));
      linked = chain.linked;
    }

-- its byte p
mini_stream_byte : {bytes clsid : List ℕ} {streams : NamedStreams} {total : ℕ} (p : ℕ) → IsLaid bytes clsid streams total
    → p < 64 * mini_sectors streams
    → get_or bytes (place 512 (mini_stream_members streams) p) 0 ≡ laid_byte 64 (mini_parts streams) p
mini_stream_byte {streams = streams} p laid l =
    (mini_stream_spelled laid).content p (omega (arith, length-mini_stream streams))
    ∙ get_or-map-range_with_len (laid_byte 64 (mini_parts streams)) 0 (64 * mini_sectors streams) p p 0 l (omega arith)

-- SMALL STREAMS

-- a small stream is a part of the mini stream
mini_part_is : (streams : NamedStreams) (i : ℕ) → i < length streams → length (bytes_of streams i) < 4096 → get_or (mini_parts streams) i [] ≡ bytes_of streams i
mini_part_is streams i l small =
    get_or-map mini_part streams i ([], []) [] l ∙ ap (λ b. cond b (bytes_of streams i) []) (lt-ltb (length (bytes_of streams i)) 4096 small)

-- its mini sectors
pub small_chain : {bytes clsid : List ℕ} {streams : NamedStreams} {total : ℕ} (i start : ℕ) → IsLaid bytes clsid streams total
    → i < length streams
    → length (bytes_of streams i) < 4096
    → (0 < units 64 (bytes_of streams i) → start ≡ mini_sector_at streams i)
    → IsChain (successor bytes (mini_fat_members streams)) start (units 64 (bytes_of streams i)) (range_with_len (mini_sector_at streams i) (units 64 (bytes_of streams i)))
small_chain {bytes = bytes} {streams = streams} i start laid l small =
    let next = successor bytes (mini_fat_members streams) in
    let s = mini_sector_at streams i in
    subst (λ part. (0 < units 64 part → start ≡ s) → IsChain next start (units 64 part) (range_with_len s (units 64 part)))
    (mini_part_is streams i l small)
    (linked_chain next 64 (mini_parts streams) i start (omega (arith, length-map streams mini_part)) (λ n b. mini_link n laid b))

-- byte p of part i of what is laid in mini sectors, and where it lies
laid_in : (parts : List (List ℕ)) (i p : ℕ) (part : List ℕ)
    → i < length parts
    → get_or parts i [] ≡ part
    → p < length part
    → (laid_byte 64 parts (all_units 64 (take i parts) * 64 + p) ≡ get_or part p 0) × (all_units 64 (take i parts) * 64 + p < 64 * all_units 64 parts)
laid_in parts i p part l is h =
    let long = ap (λ (q : List ℕ). length q) is in
    let inside : p < units 64 (get_or parts i []) * 64 = omega (arith, div_ceil_times (length (get_or parts i [])) 64 (omega arith)) in
    (laid_at 64 parts i p l inside ∙ ap (λ (q : List ℕ). get_or q p 0) is, omega (arith, units_within 64 parts i l))

-- where byte p of n lies, in mini sectors from s on
mini_place : (s p n : ℕ) → p < n → 64 * get_or (range_with_len s (div_ceil n 64)) (p / 64) 0 + p % 64 ≡ s * 64 + p
mini_place s p n l =
    let inside : p / 64 < div_ceil n 64 = omega arith in
    rw (get_or-range_with_len s (div_ceil n 64) (p / 64) 0 inside) (omega arith)

-- its byte p
pub small_byte : {bytes clsid : List ℕ} {streams : NamedStreams} {total : ℕ} (i p : ℕ) → IsLaid bytes clsid streams total
    → i < length streams
    → length (bytes_of streams i) < 4096
    → p < length (bytes_of streams i)
    → get_or bytes (place 512 (mini_stream_members streams) (64 * get_or (range_with_len (mini_sector_at streams i) (units 64 (bytes_of streams i))) (p / 64) 0 + p % 64)) 0 ≡ get_or (bytes_of streams i) p 0
small_byte {bytes = bytes} {streams = streams} i p laid l small h =
    let s = mini_sector_at streams i in
    let there = laid_in (mini_parts streams) i p (bytes_of streams i) (omega (arith, length-map streams mini_part)) (mini_part_is streams i l small) h in
    ap (λ q. get_or bytes (place 512 (mini_stream_members streams) q) 0) (mini_place s p (length (bytes_of streams i)) h)
    ∙ mini_stream_byte (s * 64 + p) laid there.1
    ∙ there.0
