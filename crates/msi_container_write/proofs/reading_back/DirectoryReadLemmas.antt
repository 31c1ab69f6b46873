-- What the grammar reads in the bytes of a layout's directory.
use Rattle.std.proofs.Common.{◌≡◌, ℕ, zero, suc, ◌+◌, ◌-◌, ◌*◌, ◌^◌, ◌<◌, ◌≤◌, List, [], ◌∷◌, ◌++◌, length, get_or, take, replicate, ◌∙◌, ap, arith, refl}
use Rattle.std.specs.List.{concat, AllByRecursion}
use Rattle.std.proofs.lemmas.List.{get_or_append_left, get_or-append_right}
use Rattle.msi_container_format.specs.Bytes.{place}
use Rattle.msi_container_format.specs.Container.{sector_size}
use Rattle.msi_container_write.specs.Extents.{units, all_units}
use Rattle.msi_container_write.specs.LayoutLaw.{HaveNames, IsName}
use Rattle.msi_container_write.specs.Layout.{entry_bytes, unused_entry, mini_part, large_part, mini_parts, large_parts, root_entry, stream_entry, stream_entries_bytes, directory_sectors, large_first, directory_of, taken_by}
use Rattle.msi_container_write.proofs.placing.PlacedLemmas.{NamedStreams, stream_at, sector_at, mini_sector_at, entry_at, directory_run, IsEntryRead, IsDirectoryRead}
use Rattle.msi_container_write.proofs.directories.DirectoryLengthLemmas.{length-entry_bytes, length-stream_entries_bytes, length-directory_of}
use Rattle.msi_container_write.proofs.directories.DirectoryBoundsLemmas.{left_fits, right_fits, streams_fit, links_fit, root_child_fits, root_start_fits, root_size_fits, size_fits, stream_start_fits}
use Rattle.msi_container_write.proofs.reading_back.EntryReadLemmas.{first_of, second_of}
use Rattle.msi_container_write.proofs.reading_back.EntryReadLemmas as entry

-- what holds of each stream holds of the stream at an index
pub all_at : {X : Type 0} (P : X → Type 0) (xs : List X) (i : ℕ) (d : X) → AllByRecursion P xs → i < length xs → P (get_or xs i d)
all_at P [] i d h l = absurd (omega arith)
all_at P (x ∷ xs) zero d h l = h.0
all_at P (x ∷ xs) (suc i) d h l = all_at P xs i d h.1 (omega arith)

-- THE ENTRIES BY THEIR NUMBER

-- a byte of a stream's entry, by numbers that are known to be the same
same_entry : (n o : ℕ) (stream : List ℕ × List ℕ) (k l a b c d : ℕ) → k ≡ l → a ≡ b → c ≡ d
    → get_or (entry_bytes (stream_entry n k a c stream)) o 0 ≡ get_or (entry_bytes (stream_entry n l b d stream)) o 0
same_entry n o stream k l a b c d p q r = λ i. get_or (entry_bytes (stream_entry n (p i) (q i) (r i) stream)) o 0

-- entry i of those of streams, whose numbers follow from the streams before it
entries_at : (n k next next_mini : ℕ) (streams : NamedStreams) (i o : ℕ) → i < length streams → o < 128
    → get_or (stream_entries_bytes n k next next_mini streams) (128 * i + o) 0
    ≡ get_or (entry_bytes (stream_entry n (i + k) (next + all_units 512 (take i (large_parts streams))) (next_mini + all_units 64 (take i (mini_parts streams))) (stream_at streams i))) o 0
entries_at n k next next_mini [] i o l h = absurd (omega arith)
entries_at n k next next_mini (stream ∷ streams) zero o l h =
    let here = entry_bytes (stream_entry n k next next_mini stream) in
    let rest = stream_entries_bytes n (k + 1) (next + units 512 (large_part stream)) (next_mini + units 64 (mini_part stream)) streams in
    let long : length here ≡ 128 = length-entry_bytes (stream_entry n k next next_mini stream) refl in
    let start : 128 * 0 + o ≡ o = omega arith in
    ap (λ p. get_or (here ++ rest) p 0) start
    ∙ get_or_append_left here rest 0 o (rw long h)
    ∙ same_entry n o stream k (0 + k) next (next + 0) next_mini (next_mini + 0) (omega arith) (omega arith) (omega arith)
entries_at n k next next_mini (stream ∷ streams) (suc i) o l h =
    let large = units 512 (large_part stream) in
    let mini = units 64 (mini_part stream) in
    let before = all_units 512 (take i (large_parts streams)) in
    let before_mini = all_units 64 (take i (mini_parts streams)) in
    let here = entry_bytes (stream_entry n k next next_mini stream) in
    let rest = stream_entries_bytes n (k + 1) (next + large) (next_mini + mini) streams in
    let long : length here ≡ 128 = length-entry_bytes (stream_entry n k next next_mini stream) refl in
    let later : 128 * suc i + o - 128 ≡ 128 * i + o = omega arith in
    get_or-append_right here rest 128 (128 * suc i + o) 0 long (omega arith)
    ∙ ap (λ p. get_or rest p 0) later
    ∙ entries_at n (k + 1) (next + large) (next_mini + mini) streams i o (omega arith) h
    ∙ same_entry n o (stream_at streams i) (i + (k + 1)) (suc i + k) (next + large + before) (next + (large + before)) (next_mini + mini + before_mini) (next_mini + (mini + before_mini)) (omega arith) (omega arith) (omega arith)

-- for a CLSID of 16 bytes
module _ (clsid : List ℕ) (streams : NamedStreams) (fits : length clsid ≡ 16) where
  -- the directory's pieces: the root, the streams, and what isn't used
  abbrev root : List ℕ
  root = entry_bytes (root_entry clsid streams)

  abbrev others : List ℕ
  others = stream_entries_bytes (length streams) 1 (large_first streams) 0 streams

  abbrev unused : List ℕ
  unused = concat (replicate (4 * directory_sectors (length streams) - (length streams + 1)) unused_entry)

  -- the root takes 128 bytes
  root_long : length root ≡ 128
  root_long = length-entry_bytes (root_entry clsid streams) fits

  -- the root's bytes come first
  pub root_at : (o : ℕ) → o < 128 → get_or (directory_of clsid streams) (128 * 0 + o) 0 ≡ get_or root o 0
  root_at o l =
      let start : 128 * 0 + o ≡ o = omega arith in
      ap (λ p. get_or (root ++ others ++ unused) p 0) start ∙ first_of root others unused o (rw root_long l)

  -- then those of each stream
  pub stream_entry_at : (i o : ℕ) → i < length streams → o < 128 → get_or (directory_of clsid streams) (128 * (i + 1) + o) 0 ≡ get_or (entry_bytes (entry_at streams i)) o 0
  stream_entry_at i o l h =
      let later : 128 * (i + 1) + o ≡ 128 + (128 * i + o) = omega arith in
      let inside : 128 * i + o < length others = rw (length-stream_entries_bytes (length streams) 1 (large_first streams) 0 streams) (omega arith) in
      ap (λ p. get_or (root ++ others ++ unused) p 0) later
      ∙ second_of root others unused 128 (128 * i + o) root_long inside
      ∙ entries_at (length streams) 1 (large_first streams) 0 streams i o l h
      ∙ same_entry (length streams) o (stream_at streams i) (i + 1) (i + 1) (sector_at streams i) (sector_at streams i) (0 + mini_sector_at streams i) (mini_sector_at streams i) refl refl (omega arith)

-- entry k lies within the directory
entry_within : (n k o : ℕ) → k ≤ n → o < 128 → 128 * k + o < 512 * directory_sectors n
entry_within n k o l h = omega arith

-- where a stream's entry stands, it is read
entry_read : (bytes : List ℕ) (streams : NamedStreams) (i : ℕ)
    → sector_size bytes ≡ 512
    → taken_by streams < 2 ^ 22
    → i < length streams
    → IsName (stream_at streams i).0
    → ((o : ℕ) → o < 128 → get_or bytes (place 512 (directory_run streams) (128 * (i + 1) + o)) 0 ≡ get_or (entry_bytes (entry_at streams i)) o 0)
    → IsEntryRead bytes (directory_run streams) streams i
entry_read bytes streams i sectors few l name there =
    let directory = directory_run streams in
    let k = i + 1 in
    let e = entry_at streams i in
    let n = length streams in
    let links : 1 + n + n < 2 ^ 32 = links_fit n (streams_fit streams few) in
    record {
      is_stream = entry.read_kind bytes directory k e sectors there;
      left = entry.read_left bytes directory k e sectors there (left_fits n 1 n k links);
      right = entry.read_right bytes directory k e sectors there (right_fits n 1 n k links);
      start = entry.read_start bytes directory k e sectors there refl (stream_start_fits streams few i l);
      size = entry.read_size bytes directory k e sectors there refl (size_fits streams few i l);
      named = entry.read_named bytes directory k e sectors there name.some name.most name.units name.text;
      name = entry.read_name bytes directory k e sectors there name.most name.units;
    }

-- where the directory's bytes stand, it is read
pub directory_read : (bytes clsid : List ℕ) (streams : NamedStreams)
    → sector_size bytes ≡ 512
    → length clsid ≡ 16
    → HaveNames streams
    → taken_by streams < 2 ^ 22
    → ((p : ℕ) → p < length (directory_of clsid streams) → get_or bytes (place 512 (directory_run streams) p) 0 ≡ get_or (directory_of clsid streams) p 0)
    → IsDirectoryRead bytes (directory_run streams) clsid streams
directory_read bytes clsid streams sectors fits names few there =
    let directory = directory_run streams in
    let n = length streams in
    let e = root_entry clsid streams in
    let long = length-directory_of clsid streams fits in
    let root_there : (o : ℕ) → o < 128 → get_or bytes (place 512 directory (128 * 0 + o)) 0 ≡ get_or (entry_bytes e) o 0 =
    λ o l. there (128 * 0 + o) (rw long (entry_within n 0 o (omega arith) l)) ∙ root_at clsid streams fits o l in
    record {
      root = entry.read_kind bytes directory 0 e sectors root_there;
      child = entry.read_child bytes directory 0 e sectors root_there (root_child_fits n (streams_fit streams few));
      start = entry.read_start bytes directory 0 e sectors root_there fits (root_start_fits streams few);
      size = entry.read_size bytes directory 0 e sectors root_there fits (root_size_fits streams few);
      clsid = entry.read_clsid bytes directory 0 e sectors root_there fits;
      streams_read = λ i l. entry_read bytes streams i sectors few l (all_at (λ stream. IsName stream.0) streams i ([], []) names l)
          (λ o h. there (128 * (i + 1) + o) (rw long (entry_within n (i + 1) o (omega arith) h)) ∙ stream_entry_at clsid streams fits i o l h);
    }
