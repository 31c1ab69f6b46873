-- What is read of an entry of the directory, where its 128 bytes stand.
use Rattle.std.proofs.Common.{◌≡◌, ℕ, zero, suc, ◌+◌, ◌-◌, ◌*◌, ◌/◌, ◌%◌, ◌^◌, ◌<◌, ◌≤◌, Bool, true, false, cond, ◌==◌, IsTrue, List, [], ◌∷◌, ◌++◌, length, get_or, replicate, sym, ◌∙◌, ap, arith, refl, lit<}
use Rattle.std.specs.List.{flat_map}
use Rattle.std.specs.Int.{to_le_bytes, w16, w32, w64}
use Rattle.std.proofs.lemmas.Bool.{true≢false}
use Rattle.std.proofs.lemmas.List.{append_assoc, length-append, get_or_append_left, get_or-append_right}
use Rattle.std.proofs.lemmas.List.FromFn.{fill_by_all, get_or-map-range_with_len}
use Rattle.msi_container_write.proofs.placing.LaidLemmas.{number_from}
use Rattle.msi_container_format.specs.Bytes.{number16, number32, bytes_at, place}
use Rattle.msi_container_format.specs.Chains.{AreBelow}
use Rattle.msi_container_format.specs.Container as container
use Rattle.msi_container_format.specs.Names.{is_text}
use Rattle.msi_container_write.specs.Extents.{number_byte}
use Rattle.msi_container_write.specs.Layout.{Entry, name_field, entry_bytes}

-- THE BYTES OF AN ENTRY

-- what stands before its CLSID
abbrev front : Entry → List ℕ
front e =
    name_field e.name
    ++ to_le_bytes w16 (2 * (length e.name + 1))
    ++ e.kind ∷ 1 ∷ []
    ++ flat_map (to_le_bytes w32) (e.left ∷ e.right ∷ e.child ∷ [])

-- what stands behind its name
abbrev behind_name : Entry → List ℕ
behind_name e =
    to_le_bytes w16 (2 * (length e.name + 1))
    ++ e.kind ∷ 1 ∷ []
    ++ flat_map (to_le_bytes w32) (e.left ∷ e.right ∷ e.child ∷ [])
    ++ e.clsid
    ++ replicate 20 0
    ++ to_le_bytes w32 e.start
    ++ to_le_bytes w64 e.size

-- each unit of a name has two bytes
unit_at : (name : List ℕ) (i b : ℕ) → i < length name → b < 2 → get_or (flat_map (to_le_bytes w16) name) (2 * i + b) 0 ≡ get_or (to_le_bytes w16 (get_or name i 0)) b 0
unit_at [] i b l h = absurd (omega arith)
unit_at (unit ∷ name) zero b l h =
    let e : 2 * 0 + b ≡ b = omega arith in
    rw e (get_or_append_left (to_le_bytes w16 unit) (flat_map (to_le_bytes w16) name) 0 b h)
unit_at (unit ∷ name) (suc i) b l h =
    let e : 2 * suc i + b - 2 ≡ 2 * i + b = omega arith in
    get_or-append_right (to_le_bytes w16 unit) (flat_map (to_le_bytes w16) name) 2 (2 * suc i + b) 0 refl (omega arith)
    ∙ rw e (unit_at name i b (omega arith) h)

-- and they stand first in the entry
name_at : (e : Entry) (i b : ℕ) → i < length e.name → length e.name ≤ 31 → b < 2 → get_or (entry_bytes e) (2 * i + b) 0 ≡ get_or (to_le_bytes w16 (get_or e.name i 0)) b 0
name_at e i b l most h =
    let units = flat_map (to_le_bytes w16) e.name in
    let o = 2 * i + b in
    let inside : o < 64 = omega arith in
    get_or_append_left (name_field e.name) (behind_name e) 0 o inside
    ∙ get_or-map-range_with_len (λ p. get_or units (0 + p) 0) 0 64 o o 0 inside (omega arith)
    ∙ ap (λ p. get_or units p 0) (omega arith)
    ∙ unit_at e.name i b l h

-- the first of three pieces
pub first_of : (a b c : List ℕ) (i : ℕ) → i < length a → get_or (a ++ b ++ c) i 0 ≡ get_or a i 0
first_of a b c i l = get_or_append_left (a ++ b) c 0 i (omega (arith, length-append a b)) ∙ get_or_append_left a b 0 i l

-- the second of three pieces
pub second_of : (a b c : List ℕ) (n i : ℕ) → length a ≡ n → i < length b → get_or (a ++ b ++ c) (n + i) 0 ≡ get_or b i 0
second_of a b c n i long l =
    let e : n + i - n ≡ i = omega arith in
    get_or_append_left (a ++ b) c 0 (n + i) (omega (arith, length-append a b))
    ∙ get_or-append_right a b n (n + i) 0 long (omega arith)
    ∙ ap (λ p. get_or b p 0) e

-- the last of four pieces
last_of : (a b c d : List ℕ) (n i : ℕ) → length a + length b + length c ≡ n → get_or (a ++ b ++ c ++ d) (n + i) 0 ≡ get_or d i 0
last_of a b c d n i long =
    let e : n + i - n ≡ i = omega arith in
    get_or-append_right (a ++ b ++ c) d n (n + i) 0 (omega (arith, length-append (a ++ b) c, length-append a b)) (omega arith)
    ∙ ap (λ p. get_or d p 0) e

-- its start and its size
abbrev start_and_size : Entry → List ℕ
start_and_size e = to_le_bytes w32 e.start ++ to_le_bytes w64 e.size

-- an entry in four pieces, of 80, 16, 20 and 12 bytes
entry_pieces : (e : Entry) → entry_bytes e ≡ front e ++ e.clsid ++ replicate 20 0 ++ start_and_size e
entry_pieces e = append_assoc (front e ++ e.clsid ++ replicate 20 0) (to_le_bytes w32 e.start) (to_le_bytes w64 e.size)

-- the bytes of its CLSID
clsid_at : (e : Entry) (i : ℕ) → length e.clsid ≡ 16 → i < 16 → get_or (entry_bytes e) (80 + i) 0 ≡ get_or e.clsid i 0
clsid_at e i long l =
    ap (λ xs. get_or xs (80 + i) 0) (entry_pieces e ∙ append_assoc (front e ++ e.clsid) (replicate 20 0) (start_and_size e))
    ∙ second_of (front e) e.clsid (replicate 20 0 ++ start_and_size e) 80 i refl (omega arith)

-- the bytes of its start and its size
last_at : (e : Entry) (i : ℕ) → length e.clsid ≡ 16 → get_or (entry_bytes e) (116 + i) 0 ≡ get_or (start_and_size e) i 0
last_at e i long =
    let sum : length (front e) + length e.clsid + 20 ≡ 116 = omega arith in
    ap (λ xs. get_or xs (116 + i) 0) (entry_pieces e) ∙ last_of (front e) e.clsid (replicate 20 0) (start_and_size e) 116 i sum

-- NUMBERS AND PLACES

-- a number of 16 bits by its bytes
from_two : (n a b : ℕ) → n < 65536 → a ≡ get_or (to_le_bytes w16 n) 0 0 → b ≡ get_or (to_le_bytes w16 n) 1 0 → a + 256 * b ≡ n
from_two n a b h p q = omega arith

-- an entry lies within one sector, so its bytes follow one another
place_step : (members : List ℕ) (k o j : ℕ) → o + j < 128 → place 512 members (128 * k + (o + j)) ≡ place 512 members (128 * k + o) + j
place_step members k o j l =
    let same : (128 * k + (o + j)) / 512 ≡ (128 * k + o) / 512 = omega arith in
    let more : (128 * k + (o + j)) % 512 ≡ (128 * k + o) % 512 + j = omega arith in
    rw (same, more) (omega arith)

-- sectors of 512 bytes are those of a version that isn't 4
other_version : (four : Bool) → ◌≡◌ {A = ℕ} (cond four 4096 512) 512 → four ≡ false
other_version true size = absurd (omega arith)
other_version false size = refl

-- a choice by a test that fails
otherwise : (test : Bool) (x y n : ℕ) → test ≡ false → y ≡ n → cond test x y ≡ n
otherwise true x y n f e = absurd (true≢false f)
otherwise false x y n f e = e

-- THE FIELDS

-- the bytes of entry k of a directory are those of this one
module _ (bytes directory : List ℕ) (k : ℕ) (e : Entry) (sectors : container.sector_size bytes ≡ 512) (there : (o : ℕ) → o < 128 → get_or bytes (place 512 directory (128 * k + o)) 0 ≡ get_or (entry_bytes e) o 0) where
  -- byte j behind the start of a field
  read_byte : (o j p b : ℕ) → o + j < 128 → place 512 directory (128 * k + o) + j ≡ p → get_or (entry_bytes e) (o + j) 0 ≡ b → get_or bytes p 0 ≡ b
  read_byte o j p b l at_p is = ap (λ q. get_or bytes q 0) (sym (place_step directory k o j l ∙ at_p)) ∙ there (o + j) l ∙ is

  -- a number of 16 bits at byte o
  read_two : (o n : ℕ) → o + 1 < 128 → n < 65536
      → get_or (entry_bytes e) o 0 ≡ get_or (to_le_bytes w16 n) 0 0
      → get_or (entry_bytes e) (o + 1) 0 ≡ get_or (to_le_bytes w16 n) 1 0
      → number16 bytes (container.field bytes directory k o) ≡ n
  read_two o n l h p q = rw sectors (from_two n _ _ h (there o (omega arith) ∙ p) (read_byte o 1 _ _ l refl q))

  -- a number of 32 bits at byte o
  read_four : (o n : ℕ) → o + 3 < 128 → n < 2 ^ 32
      → get_or (entry_bytes e) o 0 ≡ number_byte n 0
      → get_or (entry_bytes e) (o + 1) 0 ≡ number_byte n 1
      → get_or (entry_bytes e) (o + 2) 0 ≡ number_byte n 2
      → get_or (entry_bytes e) (o + 3) 0 ≡ number_byte n 3
      → number32 bytes (container.field bytes directory k o) ≡ n
  read_four o n l h p q r s =
      rw sectors
      (number_from _ _ _ _ n h
      (there o (omega arith) ∙ p)
      (read_byte o 1 _ _ (omega arith) refl q)
      (read_byte o 2 _ _ (omega arith) refl r)
      (read_byte o 3 _ _ l (omega arith) s))

  -- each field has its value
  pub read_kind : container.kind bytes directory k ≡ e.kind
  read_kind = rw sectors (there 66 (lit< tt))

  pub read_left : e.left < 2 ^ 32 → container.left bytes directory k ≡ e.left
  read_left h = read_four 68 e.left (lit< tt) h refl refl refl refl

  pub read_right : e.right < 2 ^ 32 → container.right bytes directory k ≡ e.right
  read_right h = read_four 72 e.right (lit< tt) h refl refl refl refl

  pub read_child : e.child < 2 ^ 32 → container.child bytes directory k ≡ e.child
  read_child h = read_four 76 e.child (lit< tt) h refl refl refl refl

  pub read_start : length e.clsid ≡ 16 → e.start < 2 ^ 32 → container.start_sector bytes directory k ≡ e.start
  read_start long h = read_four 116 e.start (lit< tt) h (last_at e 0 long) (last_at e 1 long) (last_at e 2 long) (last_at e 3 long)

  -- a version that isn't 4 reads the low half
  pub read_size : length e.clsid ≡ 16 → e.size < 2 ^ 32 → container.size bytes directory k ≡ e.size
  read_size long h = otherwise _ _ _ _ (other_version (container.version bytes == 4) sectors) (read_four 120 e.size (lit< tt) h (last_at e 4 long) (last_at e 5 long) (last_at e 6 long) (last_at e 7 long))

  pub read_clsid : length e.clsid ≡ 16 → bytes_at bytes (container.field bytes directory k 80) 16 ≡ e.clsid
  read_clsid long = rw sectors (sym (fill_by_all (λ i. get_or bytes (place 512 directory (128 * k + 80) + i) 0) e.clsid 16 0 long (λ i l. sym (read_byte 80 i _ _ (omega arith) refl (clsid_at e i long l)))))

  -- two bytes for each unit of its name, and two for the closing null
  read_name_size : length e.name ≤ 31 → container.name_size bytes directory k ≡ 2 * (length e.name + 1)
  read_name_size most = read_two 64 (2 * (length e.name + 1)) (lit< tt) (omega arith) refl refl

  -- unit i of its name
  read_unit : (i : ℕ) → i < length e.name → length e.name ≤ 31 → get_or e.name i 0 < 65536 → number16 bytes (container.field bytes directory k (2 * i)) ≡ get_or e.name i 0
  read_unit i l most h =
      let o : 2 * i + 0 ≡ 2 * i = omega arith in
      read_two (2 * i) (get_or e.name i 0) (omega arith) h (rw o at (name_at e i 0 l most (lit< tt))) (name_at e i 1 l most (lit< tt))

  -- all of them
  pub read_name : length e.name ≤ 31 → AreBelow 65536 e.name → container.name bytes directory k ≡ e.name
  read_name most units =
      let count : container.name_size bytes directory k / 2 - 1 ≡ length e.name = rw (read_name_size most) (omega arith) in
      rw count (sym (fill_by_all (λ i. number16 bytes (container.field bytes directory k (2 * i))) e.name (length e.name) 0 refl (λ i l. sym (read_unit i l most (units i l)))))

  -- its name is well formed
  pub read_named : 0 < length e.name → length e.name ≤ 31 → AreBelow 65536 e.name → IsTrue (is_text e.name) → container.HasName bytes directory k
  read_named some most units text =
      let size = read_name_size most in
      record {
        even = rw size (omega arith);
        least = rw size (omega arith);
        most = rw size (omega arith);
        text = rw (read_name most units) text;
      }
