-- How many sectors were claimed, how many bytes were read, and what a copy that grew still says of entries.
use Rattle.std.proofs.Common.{◌≡◌, ℕ, ◌+◌, ◌*◌, ◌/◌, ◌<◌, ◌≤◌, ◌^◌, List, ◌++◌, length, length-append, ◌∙◌, sym, ap, subst, arith, Vec, Global, vec_len}
use Rattle.msi_container_format.specs.Chains.{AreBelow}
use Rattle.msi_container_format.specs.Format.{MAX_REGULAR_SECTOR}
use Rattle.msi_container_format.specs.Container.{sector_size, entry_count}
use Rattle.msi_container_tables.specs.Paths.{storage_clsid}
use Rattle.msi_container_tables.proofs.parts.ListingLemmas.{some_entries}
use Rattle.msi_container_view.specs.Copied.{HasHeaderOf, AreCopied}
use Rattle.msi_container_view.specs.Reading.{Tells}
use Rattle.msi_container_view.specs.Tables.{TablesRead, IsCopy, ReadsOn}
use Rattle.msi_container_view.proofs.copies.HeaderCopyLemmas.{same_size}
use Rattle.msi_container_view.proofs.copies.DirectoryCopyLemmas.{same_clsid}

-- CLAIMS

pub used_three : (list a b d : Vec ℕ Global) → list.items ≡ a.items ++ b.items ++ d.items → vec_len list ≡ vec_len a + vec_len b + vec_len d
used_three list a b d e =
    omega (arith, list.ok, a.ok, b.ok, d.ok, ap (λ (xs : List ℕ). length xs) e, length-append (a.items ++ b.items) d.items, length-append a.items b.items)

pub used_two_more : (before after a b : Vec ℕ Global) → after.items ≡ before.items ++ a.items ++ b.items → vec_len after ≡ vec_len before + vec_len a + vec_len b
used_two_more before after a b e = used_three after before a b e

-- sectors of which each was claimed are few
pub few : (n claimed marks limit : ℕ) → n ≤ claimed → claimed ≤ marks → marks ≡ limit → limit ≤ MAX_REGULAR_SECTOR + 1 → n < 2 ^ 32
few n claimed marks limit a b e l = omega arith

-- as many stand in the copy
pub as_many : (places sectors : Vec ℕ Global) → length places.items ≡ length sectors.items → vec_len places ≡ vec_len sectors
as_many places sectors e = omega (arith, places.ok, sectors.ok, e)

-- BYTES

summed : (count read one n size now : ℕ) → read ≤ one → one ≡ size → count ≤ read + n * size → size ≡ now → count ≤ (1 + n) * now
summed count read one n size now a b d e = rw (← e) (omega arith)

-- at most the header's sector and those behind it were read
pub sectors_read : (first now : TablesRead) (n : ℕ) → IsCopy first → length first.copy ≡ sector_size first.copy → ReadsOn first now n → (file : List ℕ) → Tells first.held file → now.bytes_read ≤ (1 + n) * sector_size file
sectors_read first now n c one r file told =
    summed now.bytes_read first.bytes_read (length first.copy) n (sector_size first.copy) (sector_size file) c.read one r.read (same_size file first.copy (c.headed file told))

pub parts_read : (count size : ℕ) (difat fat directory mini_fat : Vec ℕ Global) → count ≤ (1 + (vec_len difat + vec_len fat + vec_len directory + vec_len mini_fat)) * size
    → count ≤ (1 + length difat.items + length fat.items + length directory.items + length mini_fat.items) * size
parts_read count size difat fat directory mini_fat l =
    let many : 1 + (vec_len difat + vec_len fat + vec_len directory + vec_len mini_fat) ≡ 1 + length difat.items + length fat.items + length directory.items + length mini_fat.items =
    omega (arith, difat.ok, fat.ok, directory.ok, mini_fat.ok) in
    rw many at l

-- ENTRIES

-- a copy that grew has as many entries
pub below_later : (first later places ks : List ℕ) → sector_size later ≡ sector_size first → AreBelow (entry_count first places) ks → AreBelow (entry_count later places) ks
below_later first later places ks same b = subst (λ size. AreBelow (length places * (size / 128)) ks) (sym same) b

-- under the names that the code has for it
pub size_later : (first later seen now : List ℕ) → seen ≡ first → now ≡ later → sector_size later ≡ sector_size first → sector_size now ≡ sector_size seen
size_later first later seen now s n same = ap sector_size n ∙ same ∙ sym (ap sector_size s)

-- the root's CLSID
pub clsid_found : (file copy bytes directory places sectors root : List ℕ) → bytes ≡ copy → sectors ≡ places → HasHeaderOf file copy → AreCopied file copy directory places → 0 < length directory → root ≡ storage_clsid bytes sectors 0
    → root ≡ storage_clsid file directory 0
clsid_found file copy bytes directory places sectors root b s h c some is =
    is ∙ ap (λ xs. storage_clsid xs sectors 0) b ∙ ap (λ xs. storage_clsid copy xs 0) s ∙ same_clsid file copy directory places h c 0 (some_entries file directory some)
