-- The entries of a directory by their number, and its sectors, which have four each.
use Rattle.std.proofs.Common.{◌≡◌, ℕ, zero, suc, ◌+◌, ◌-◌, ◌*◌, ◌^◌, ◌<◌, ◌≤◌, List, [], ◌++◌, length, get_or, map, take, drop, replicate, sym, ◌∙◌, ap, arith, refl}
use Rattle.std.specs.List.{concat, range_with_len}
use Rattle.std.proofs.lemmas.List.{ext_get_or, length-append, length-drop, length-map, length-take-le, take_all, take_at, get_or-map, get_or_append_left, get_or-append_right}
use Rattle.std.proofs.lemmas.List.FromFn.{get_or-map-range_with_len, length-map-range_with_len}
use Rattle.msi_container_write.specs.Extents.{all_units}
use Rattle.msi_container_write.specs.Index.{Placed, streams_of, IsIndex}
use Rattle.msi_container_write.specs.Layout.{entry_bytes, unused_entry, large_part, large_parts, root_entry, stream_entry, stream_entries_bytes, directory_sectors, large_first, directory_of, taken_by}
use Rattle.msi_container_write.specs.LayoutLaw.{IsName, HaveNames}
use Rattle.msi_container_write.proofs.sectors.IndexLemmas.{first_at, first_mini_at}
use Rattle.msi_container_write.proofs.placing.LaidLemmas.{units_within}
use Rattle.msi_container_write.proofs.placing.PlacedLemmas.{NamedStreams, stream_at, sector_at, mini_sector_at, entry_at}
use Rattle.msi_container_write.proofs.directories.DirectoryLengthLemmas.{length-entry_bytes, length-stream_entries_bytes}
use Rattle.msi_container_write.proofs.reading_back.DirectoryReadLemmas.{all_at, root_at, stream_entry_at}
use Rattle.msi_container_write.proofs.directories.PutPiecesLemmas.{Puts}
use Rattle.msi_container_write.proofs.placing.RangeLemmas.{range_more}

-- PLACES

-- there are as many places as streams
pub length-streams_of : (places : List Placed) → length (streams_of places) ≡ length places
length-streams_of places = length-map places (λ place. place.stream)

-- place i of an index
module _ (places : List Placed) (i : ℕ) (place : Placed) (indexed : IsIndex places) (within : i < length places) (is : place ≡ get_or places i place) where
  -- it is among the streams
  pub among : i < length (streams_of places)
  among = omega (arith, length-streams_of places)

  stream_told : place.stream ≡ stream_at (streams_of places) i
  stream_told = ap (λ (p : Placed). p.stream) is ∙ sym (get_or-map (λ (p : Placed). p.stream) places i place ([], []) within)

  first_told : place.first ≡ all_units 512 (take i (large_parts (streams_of places)))
  first_told = ap (λ (p : Placed). p.first) is ∙ first_at places indexed i place within

  first_mini_told : place.first_mini ≡ mini_sector_at (streams_of places) i
  first_mini_told = ap (λ (p : Placed). p.first_mini) is ∙ first_mini_at places indexed i place within

  -- it has a name
  pub name_fits : HaveNames (streams_of places) → length place.stream.0 ≤ 31
  name_fits names =
      let name = all_at (λ stream. IsName stream.0) (streams_of places) i ([], []) names among in
      omega (arith, ap (λ (stream : List ℕ × List ℕ). length stream.0) stream_told, name.most)

  -- its first sector lies within those that are taken
  pub first_fits : taken_by (streams_of places) < 2 ^ 22 → large_first (streams_of places) + place.first < 2 ^ 32
  first_fits few =
      let inside = units_within 512 (large_parts (streams_of places)) i (omega (arith, length-map (streams_of places) large_part, among)) in
      omega (arith, first_told, inside)

  -- its entry in the directory
  pub place_entry : (n k large : ℕ) → n ≡ length places → k ≡ i + 1 → large ≡ large_first (streams_of places)
      → entry_bytes (stream_entry n k (large + place.first) place.first_mini place.stream) ≡ entry_bytes (entry_at (streams_of places) i)
  place_entry n k large n_is k_is large_is =
      let streams = streams_of places in
      let p : n ≡ length streams = n_is ∙ sym (length-streams_of places) in
      let q : large + place.first ≡ sector_at streams i = omega (arith, large_is, first_told) in
      λ j. entry_bytes (stream_entry (p j) (k_is j) (q j) (first_mini_told j) (stream_told j))

-- PIECES

-- a piece by its bytes
piece_is : (f : ℕ → ℕ) (piece : List ℕ) (a n : ℕ) → length piece ≡ n → ((o : ℕ) → o < n → f (a + o) ≡ get_or piece o 0) → piece ≡ map f (range_with_len a n)
piece_is f piece a n long same =
    ext_get_or 0 piece (map f (range_with_len a n)) (long ∙ sym (length-map-range_with_len f a n)) (λ o l.
    let inside : o < n = omega arith in
    sym (get_or-map-range_with_len f a n o (a + o) 0 inside refl ∙ same o inside))

-- a byte of pieces of 128 bytes that are the same
repeated_at : (n : ℕ) (piece : List ℕ) (j o : ℕ) → length piece ≡ 128 → j < n → o < 128 → get_or (concat (replicate n piece)) (128 * j + o) 0 ≡ get_or piece o 0
repeated_at zero piece j o long l h = absurd (omega arith)
repeated_at (suc n) piece zero o long l h =
    let rest = concat (replicate n piece) in
    let start : 128 * 0 + o ≡ o = omega arith in
    ap (λ p. get_or (piece ++ rest) p 0) start ∙ get_or_append_left piece rest 0 o (omega arith)
repeated_at (suc n) piece (suc j) o long l h =
    let rest = concat (replicate n piece) in
    let later : 128 * suc j + o - 128 ≡ 128 * j + o = omega arith in
    get_or-append_right piece rest 128 (128 * suc j + o) 0 long (omega arith)
    ∙ ap (λ p. get_or rest p 0) later
    ∙ repeated_at n piece j o long (omega arith) h

-- ENTRIES

-- for a CLSID of 16 bytes
module _ (clsid : List ℕ) (streams : NamedStreams) (fits : length clsid ≡ 16) where
  abbrev byte : ℕ → ℕ
  byte p = get_or (directory_of clsid streams) p 0

  -- the root
  pub root_is : entry_bytes (root_entry clsid streams) ≡ map byte (range_with_len (128 * 0) 128)
  root_is = piece_is byte (entry_bytes (root_entry clsid streams)) (128 * 0) 128 (length-entry_bytes (root_entry clsid streams) fits) (root_at clsid streams fits)

  -- a stream's entry
  pub stream_is : (i : ℕ) → i < length streams → entry_bytes (entry_at streams i) ≡ map byte (range_with_len (128 * (i + 1)) 128)
  stream_is i l = piece_is byte (entry_bytes (entry_at streams i)) (128 * (i + 1)) 128 (length-entry_bytes (entry_at streams i) refl) (λ o h. stream_entry_at clsid streams fits i o l h)

  -- an entry that isn't in use
  pub unused_is : (k : ℕ) → length streams < k → k < 4 * directory_sectors (length streams) → unused_entry ≡ map byte (range_with_len (128 * k) 128)
  unused_is k past within =
      let n = length streams in
      let root = entry_bytes (root_entry clsid streams) in
      let others = stream_entries_bytes n 1 (large_first streams) 0 streams in
      let left = 4 * directory_sectors n - (n + 1) in
      let unused = concat (replicate left unused_entry) in
      let long : length (root ++ others) ≡ 128 * (n + 1) =
      length-append root others ∙ omega (arith, length-entry_bytes (root_entry clsid streams) fits, length-stream_entries_bytes n 1 (large_first streams) 0 streams) in
      piece_is byte unused_entry (128 * k) 128 refl (λ o h.
      let there : 128 * k + o - 128 * (n + 1) ≡ 128 * (k - (n + 1)) + o = omega arith in
      get_or-append_right (root ++ others) unused (128 * (n + 1)) (128 * k + o) 0 long (omega arith)
      ∙ ap (λ p. get_or unused p 0) there
      ∙ repeated_at left unused_entry (k - (n + 1)) o refl (omega arith) h)

-- SECTORS

-- one entry more of a sector
pub entry_put : (f : ℕ → ℕ) (sector entry now : List ℕ) (m slot : ℕ)
    → slot < 4
    → length sector ≡ 512
    → take (128 * slot) sector ≡ map f (range_with_len (512 * m) (128 * slot))
    → entry ≡ map f (range_with_len (128 * (4 * m + slot)) 128)
    → Puts (128 * slot) entry sector now
    → (length now ≡ 512) × (take (128 * (slot + 1)) now ≡ map f (range_with_len (512 * m) (128 * (slot + 1))))
entry_put f sector entry now m slot l long was is put =
    let at = 128 * slot in
    let size : length entry ≡ 128 = ap length is in
    let before : length (take at sector) ≡ at = length-take-le at sector (omega arith) in
    let behind = drop (at + length entry) sector in
    let front : length (take at sector ++ entry) ≡ 128 * (slot + 1) = length-append (take at sector) entry ∙ omega arith in
    let there : 128 * (4 * m + slot) ≡ 512 * m + at = omega arith in
    let more : at + 128 ≡ 128 * (slot + 1) = omega arith in
    let all : length now ≡ 512 = ap length put ∙ length-append (take at sector ++ entry) behind ∙ omega (arith, length-drop (at + length entry) sector) in
    let filled : take (128 * (slot + 1)) now ≡ map f (range_with_len (512 * m) (128 * (slot + 1))) =
    ap (take (128 * (slot + 1))) put
    ∙ take_at (take at sector ++ entry) behind (128 * (slot + 1)) front
    ∙ ap (λ bs. bs ++ entry) was
    ∙ ap (λ bs. map f (range_with_len (512 * m) at) ++ bs) is
    ∙ sym (range_more f (512 * m) (128 * (4 * m + slot)) at 128 there)
    ∙ ap (λ n. map f (range_with_len (512 * m) n)) more in
    (all, filled)

-- the whole sector
pub sector_put : (f : ℕ → ℕ) (sector : List ℕ) (m slot : ℕ)
    → slot ≡ 4
    → length sector ≡ 512
    → take (128 * slot) sector ≡ map f (range_with_len (512 * m) (128 * slot))
    → sector ≡ map f (range_with_len (512 * m) 512)
sector_put f sector m slot four long was =
    sym (take_all (128 * slot) sector (omega arith)) ∙ was ∙ ap (λ s. map f (range_with_len (512 * m) (128 * s))) four
