-- Bytes that agree give one number, so a copy that begins with a file's header has that header.
use Rattle.std.proofs.Common.{◌≡◌, ℕ, ◌+◌, ◌<◌, ◌≤◌, Bool, true, false, cond, eqb, List, get_or, map, ◌⊎◌, inl, inr, sym, ◌∙◌, ap, arith, refl}
use Rattle.std.specs.List.{range_with_len}
use Rattle.std.proofs.lemmas.List.FromFn.{length-map-range_with_len, get_or-map-range_with_len, fill_by_all}
use Rattle.std.proofs.Math.Nat.{add_assoc, add-zero}
use Rattle.msi_container_format.specs.Bytes.{number16, number32, number64, bytes_at}
use Rattle.msi_container_format.specs.Container.{version, sector_size, fat_count, directory_start, mini_fat_start, difat_start, IsHeader}
use Rattle.msi_container_view.specs.Copied.{HasHeaderOf, AreCopied}

-- BYTES THAT AGREE

-- the count bytes from q on of the copy are those from p on of the file
abbrev pub Agree : (file copy : List ℕ) → ℕ → ℕ → ℕ → Type 0
Agree file copy p q count = (d : ℕ) → d < count → get_or copy (q + d) 0 ≡ get_or file (p + d) 0

-- bytes that agree do so further on
pub agree_on : (file copy : List ℕ) (p q count k m : ℕ) → k + m ≤ count → Agree file copy p q count → Agree file copy (p + k) (q + k) m
agree_on file copy p q count k m l a d h = rw (add_assoc q k d, add_assoc p k d) (a (k + d) (omega arith))

-- the numbers that they make are the same
pub agree_byte : (file copy : List ℕ) (p q count : ℕ) → 1 ≤ count → Agree file copy p q count → get_or copy q 0 ≡ get_or file p 0
agree_byte file copy p q count l a = rw (add-zero q, add-zero p) at (a 0 l)

pub agree_number16 : (file copy : List ℕ) (p q count : ℕ) → 2 ≤ count → Agree file copy p q count → number16 copy q ≡ number16 file p
agree_number16 file copy p q count l a =
    let low = agree_byte file copy p q count (omega arith) a in
    let high = a 1 l in
    cc

pub agree_number32 : (file copy : List ℕ) (p q count : ℕ) → 4 ≤ count → Agree file copy p q count → number32 copy q ≡ number32 file p
agree_number32 file copy p q count l a =
    let low = agree_number16 file copy p q count (omega arith) a in
    let high = agree_number16 file copy (p + 2) (q + 2) 2 (omega arith) (agree_on file copy p q count 2 2 l a) in
    cc

pub agree_number64 : (file copy : List ℕ) (p q count : ℕ) → 8 ≤ count → Agree file copy p q count → number64 copy q ≡ number64 file p
agree_number64 file copy p q count l a =
    let low = agree_number32 file copy p q count (omega arith) a in
    let high = agree_number32 file copy (p + 4) (q + 4) 4 (omega arith) (agree_on file copy p q count 4 4 l a) in
    cc

-- lists that are made from the same numbers are the same
pub same_from_fn : {X : Type 0} (f g : ℕ → X) (count : ℕ) → ((k : ℕ) → k < count → f k ≡ g k) → map f (range_with_len 0 count) ≡ map g (range_with_len 0 count)
same_from_fn f g count same =
    fill_by_all g (map f (range_with_len 0 count)) count (g 0) (length-map-range_with_len f 0 count) (λ k l. get_or-map-range_with_len f 0 count k k (g 0) l (omega arith) ∙ same k l)

pub agree_bytes : (file copy : List ℕ) (p q count : ℕ) → Agree file copy p q count → bytes_at copy q count ≡ bytes_at file p count
agree_bytes file copy p q count a = same_from_fn (λ i. get_or copy (q + i) 0) (λ i. get_or file (p + i) 0) count a

-- THE HEADER

-- a header's bytes agree
pub header_agrees : (file copy : List ℕ) → HasHeaderOf file copy → (p count : ℕ) → p + count ≤ 512 → Agree file copy p p count
header_agrees file copy h p count l d b = h (p + d) (omega arith)

-- so do its fields
pub same_version : (file copy : List ℕ) → HasHeaderOf file copy → version copy ≡ version file
same_version file copy h = agree_number16 file copy 26 26 2 (omega arith) (header_agrees file copy h 26 2 (omega arith))

pub same_size : (file copy : List ℕ) → HasHeaderOf file copy → sector_size copy ≡ sector_size file
same_size file copy h = ap (λ v. cond (eqb v 4) 4096 512) (same_version file copy h)

pub same_fat_count : (file copy : List ℕ) → HasHeaderOf file copy → fat_count copy ≡ fat_count file
same_fat_count file copy h = agree_number32 file copy 44 44 4 (omega arith) (header_agrees file copy h 44 4 (omega arith))

pub same_directory_start : (file copy : List ℕ) → HasHeaderOf file copy → directory_start copy ≡ directory_start file
same_directory_start file copy h = agree_number32 file copy 48 48 4 (omega arith) (header_agrees file copy h 48 4 (omega arith))

pub same_mini_fat_start : (file copy : List ℕ) → HasHeaderOf file copy → mini_fat_start copy ≡ mini_fat_start file
same_mini_fat_start file copy h = agree_number32 file copy 60 60 4 (omega arith) (header_agrees file copy h 60 4 (omega arith))

pub same_difat_start : (file copy : List ℕ) → HasHeaderOf file copy → difat_start copy ≡ difat_start file
same_difat_start file copy h = agree_number32 file copy 68 68 4 (omega arith) (header_agrees file copy h 68 4 (omega arith))

-- the header of the one is that of the other
pub header_swapped : (file copy : List ℕ) → HasHeaderOf file copy → HasHeaderOf copy file
header_swapped file copy h i l = sym (h i l)

pub header_of_copy : (file copy : List ℕ) → HasHeaderOf file copy → IsHeader copy → IsHeader file
header_of_copy file copy h header =
    let signed = agree_bytes file copy 0 0 8 (header_agrees file copy h 0 8 (omega arith)) in
    let versions = same_version file copy h in
    let shift = agree_number16 file copy 30 30 2 (omega arith) (header_agrees file copy h 30 2 (omega arith)) in
    let order = agree_number16 file copy 28 28 2 (omega arith) (header_agrees file copy h 28 2 (omega arith)) in
    let mini_shift = agree_number16 file copy 32 32 2 (omega arith) (header_agrees file copy h 32 2 (omega arith)) in
    let cutoff = agree_number32 file copy 56 56 4 (omega arith) (header_agrees file copy h 56 4 (omega arith)) in
    record {
      signed = sym signed ∙ header.signed;
      versioned = elim header.versioned [
        | inl v ↦ inl (sym versions ∙ v.0, sym shift ∙ v.1)
        | inr v ↦ inr (sym versions ∙ v.0, sym shift ∙ v.1)
      ];
      order = sym order ∙ header.order;
      mini_shift = sym mini_shift ∙ header.mini_shift;
      cutoff = sym cutoff ∙ header.cutoff;
    }

pub header_in_copy : (file copy : List ℕ) → HasHeaderOf file copy → IsHeader file → IsHeader copy
header_in_copy file copy h header = header_of_copy copy file (header_swapped file copy h) header

-- SIZES

-- sectors have one of two sizes
pub sector_size_known : (bytes : List ℕ) → (sector_size bytes ≡ 512) ⊎ (sector_size bytes ≡ 4096)
sector_size_known bytes = sized (eqb (version bytes) 4)
  where
    sized : (b : Bool) → ◌≡◌ {A = ℕ} (cond b 4096 512) 512 ⊎ ◌≡◌ {A = ℕ} (cond b 4096 512) 4096
    sized true = inr refl
    sized false = inl refl

-- sectors that are copied are so from the copy's side too
pub swapped : (file copy sectors places : List ℕ) → HasHeaderOf file copy → AreCopied file copy sectors places → AreCopied copy file places sectors
swapped file copy sectors places h c =
    let size = same_size file copy h in
    record { long = sym c.long; same = λ i j l b. rw size (sym (c.same i j (omega (arith, c.long)) (rw size at b))) }
