-- Where the parts of a layout stand in an image that spells them, and how many sectors they take.
use Rattle.std.proofs.Common.{◌≡◌, ℕ, suc, ◌+◌, ◌*◌, ◌<◌, ◌^◌, List, [], ◌∷◌, length, get_or, take, subst, arith}
use Rattle.std.specs.Int.{div_ceil}
use Rattle.std.proofs.lemmas.List.{get_or-map, length-map}
use Rattle.std.proofs.lemmas.List.FromFn.{length-map-range_with_len}
use Rattle.msi_container_write.specs.Extents.{units, all_units, laid_byte, table_byte}
use Rattle.msi_container_write.specs.SpelledParts.{IsSpelledPart, IsSpelledImage, fat_behind}
use Rattle.msi_container_write.specs.Layout.{large_part, mini_parts, large_parts, mini_sectors, mini_fat_sectors, mini_stream_sectors, mini_fat, mini_fat_entry, mini_fat_run, mini_stream, mini_stream_first, large_first, directory_of, directory_sectors, parts_of, taken_by}
use Rattle.msi_container_write.proofs.placing.PlacedLemmas.{NamedStreams, stream_at, sector_at}

-- LENGTHS

-- what fills n sectors takes n
pub filled : (long n : ℕ) → long ≡ 512 * n → div_ceil long 512 ≡ n
filled long n h = omega arith

-- eight mini sectors to a sector
eight_to_one : (long n : ℕ) → long ≡ 64 * n → div_ceil long 512 ≡ div_ceil n 8
eight_to_one long n h = omega arith

-- the mini FAT fills its sectors
pub mini_fat_units : (streams : NamedStreams) → units 512 (mini_fat streams) ≡ mini_fat_sectors streams
mini_fat_units streams =
    let n = mini_fat_sectors streams in
    filled _ n (length-map-range_with_len (table_byte (mini_fat_entry (mini_parts streams))) 0 (512 * n))

-- the mini stream fills its mini sectors
pub length-mini_stream : (streams : NamedStreams) → length (mini_stream streams) ≡ 64 * mini_sectors streams
length-mini_stream streams = length-map-range_with_len (laid_byte 64 (mini_parts streams)) 0 (64 * mini_sectors streams)

-- so it takes its sectors
pub mini_stream_units : (streams : NamedStreams) → units 512 (mini_stream streams) ≡ mini_stream_sectors streams
mini_stream_units streams = eight_to_one _ (mini_sectors streams) (length-mini_stream streams)

-- three parts and others, by their counts
in_order : (a b c d x y z : ℕ) → a ≡ x → b ≡ y → c ≡ z → a + (b + (c + d)) ≡ x + y + z + d
in_order a b c d x y z p q r = omega arith

-- the directory, the mini FAT and the mini stream stand before other parts
with_others : (clsid : List ℕ) (streams : NamedStreams) (others : List (List ℕ))
    → length (directory_of clsid streams) ≡ 512 * directory_sectors (length streams)
    → all_units 512 (directory_of clsid streams ∷ mini_fat streams ∷ mini_stream streams ∷ others) ≡ large_first streams + all_units 512 others
with_others clsid streams others full =
    in_order _ _ _ (all_units 512 others) (directory_sectors (length streams)) (mini_fat_sectors streams) (mini_stream_sectors streams)
    (filled _ _ full) (mini_fat_units streams) (mini_stream_units streams)

-- how many sectors the parts take
pub taken : (clsid : List ℕ) (streams : NamedStreams)
    → length (directory_of clsid streams) ≡ 512 * directory_sectors (length streams)
    → all_units 512 (parts_of clsid streams) ≡ taken_by streams
taken clsid streams full = with_others clsid streams (large_parts streams) full

-- WHERE THE PARTS STAND

-- an image that spells the parts of a layout, whose directory fills its sectors
pub record IsLaid (bytes clsid : List ℕ) (streams : NamedStreams) (total : ℕ) : Type 0 where
  pub full : length (directory_of clsid streams) ≡ 512 * directory_sectors (length streams)
  pub few : taken_by streams < 2 ^ 22
  pub image : IsSpelledImage bytes (parts_of clsid streams) (mini_fat_run streams) total

-- two numbers of a small sum
both_below : (a b c d k : ℕ) → a + b + c + d < k → (a < k) × (b < k)
both_below a b c d k h = (omega arith, omega arith)

-- how many sectors the directory and the mini FAT take
pub few_sectors : {bytes clsid : List ℕ} {streams : NamedStreams} {total : ℕ} → IsLaid bytes clsid streams total
    → (directory_sectors (length streams) < 2 ^ 22) × (mini_fat_sectors streams < 2 ^ 22)
few_sectors {streams = streams} laid =
    both_below (directory_sectors (length streams)) (mini_fat_sectors streams) (mini_stream_sectors streams) (all_units 512 (large_parts streams)) (2 ^ 22) laid.few

-- a part's place by other names of its first sector and of its count
placed : (bytes fat : List ℕ) (f g c d : ℕ) (part : List ℕ) → f ≡ g → c ≡ d → IsSpelledPart bytes fat f c part → IsSpelledPart bytes fat g d part
placed bytes fat f g c d part e h spelled =
    subst (λ n. IsSpelledPart bytes fat g n part) h (subst (λ n. IsSpelledPart bytes fat n c part) e spelled)

-- the mini FAT stands behind the directory
pub mini_fat_spelled : {bytes clsid : List ℕ} {streams : NamedStreams} {total : ℕ} → IsLaid bytes clsid streams total
    → IsSpelledPart bytes (fat_behind (parts_of clsid streams) total) (directory_sectors (length streams)) (mini_fat_sectors streams) (mini_fat streams)
mini_fat_spelled {bytes = bytes} {clsid = clsid} {streams = streams} {total = total} laid =
    placed bytes (fat_behind (parts_of clsid streams) total) _ _ _ _ (mini_fat streams)
    (omega (arith, filled _ _ laid.full)) (mini_fat_units streams) (laid.image.spelled 1 (omega arith))

-- the mini stream stands behind the mini FAT
pub mini_stream_spelled : {bytes clsid : List ℕ} {streams : NamedStreams} {total : ℕ} → IsLaid bytes clsid streams total
    → IsSpelledPart bytes (fat_behind (parts_of clsid streams) total) (mini_stream_first streams) (mini_stream_sectors streams) (mini_stream streams)
mini_stream_spelled {bytes = bytes} {clsid = clsid} {streams = streams} {total = total} laid =
    placed bytes (fat_behind (parts_of clsid streams) total) _ _ _ _ (mini_stream streams)
    (omega (arith, filled _ _ laid.full, mini_fat_units streams)) (mini_stream_units streams) (laid.image.spelled 2 (omega arith))

-- the large streams stand behind the mini stream
pub large_spelled : {bytes clsid : List ℕ} {streams : NamedStreams} {total : ℕ} (i : ℕ) → IsLaid bytes clsid streams total
    → i < length streams
    → IsSpelledPart bytes (fat_behind (parts_of clsid streams) total) (sector_at streams i) (units 512 (large_part (stream_at streams i))) (large_part (stream_at streams i))
large_spelled {bytes = bytes} {clsid = clsid} {streams = streams} {total = total} i laid l =
    let fat = fat_behind (parts_of clsid streams) total in
    subst (λ part. IsSpelledPart bytes fat (sector_at streams i) (units 512 part) part) (get_or-map large_part streams i ([], []) [] l)
    (subst (λ first. IsSpelledPart bytes fat first (units 512 (get_or (large_parts streams) i [])) (get_or (large_parts streams) i []))
    (with_others clsid streams (take i (large_parts streams)) laid.full)
    (laid.image.spelled (suc (suc (suc i))) (omega (arith, length-map streams large_part))))
