-- Tables over sectors are the same over their copies: what stands at a place, successors, chains, and the DIFAT.
use Rattle.std.proofs.Common.{◌≡◌, ℕ, ◌+◌, ◌-◌, ◌*◌, ◌/◌, ◌%◌, ◌<◌, ◌≤◌, Bool, true, false, cond, ltb, List, length, get_or, Option, Some, None, ◌⊎◌, inl, inr, sym, ◌∙◌, ap, arith, refl}
use Rattle.std.specs.Int.{div_ceil}
use Rattle.std.proofs.lemmas.Bool.{cases_lt, ltb-true, lt-ltb, le-ltb}
use Rattle.std.proofs.lemmas.Nat.{div_below}
use Rattle.std.proofs.Math.Nat.{add_assoc}
use Rattle.msi_container_format.specs.Bytes.{number16, number32, number64, place}
use Rattle.msi_container_format.specs.Chains.{IsChain}
use Rattle.msi_container_format.specs.Container.{sector_size, fat_count, successor, IsWholeChain, listed, next_difat, fat_of}
use Rattle.msi_container_tables.proofs.parts.ListingLemmas.{some_size}
use Rattle.msi_container_view.specs.Copied.{HasHeaderOf, AreCopied}
use Rattle.msi_container_view.proofs.copies.HeaderCopyLemmas.{Agree, agree_number16, agree_number32, agree_number64, same_from_fn, header_agrees, same_size, same_fat_count, sector_size_known}

-- BYTES AND NUMBERS

-- the bytes of a sector agree with those of its copy
pub sector_agrees : (file copy sectors places : List ℕ) → HasHeaderOf file copy → AreCopied file copy sectors places → (i j count : ℕ) → i < length sectors → j + count ≤ sector_size file
    → Agree file copy ((get_or sectors i 0 + 1) * sector_size file + j) ((get_or places i 0 + 1) * sector_size copy + j) count
sector_agrees file copy sectors places h c i j count l b d e =
    rw (same_size file copy h, add_assoc ((get_or places i 0 + 1) * sector_size file) j d, add_assoc ((get_or sectors i 0 + 1) * sector_size file) j d) (c.same i (j + d) l (omega arith))

-- the bytes from a place on, up to its sector's end
pub place_agrees : (file copy sectors places : List ℕ) → HasHeaderOf file copy → AreCopied file copy sectors places → (p count : ℕ) → p < length sectors * sector_size file → p % sector_size file + count ≤ sector_size file
    → Agree file copy (place (sector_size file) sectors p) (place (sector_size copy) places p) count
place_agrees file copy sectors places h c p count l b =
    let size = sector_size file in
    let inside : p / size < length sectors = div_below p size (length sectors) (some_size file) l in
    let same = sector_agrees file copy sectors places h c (p / size) (p % size) count inside b in
    let at : (get_or places (p / size) 0 + 1) * sector_size copy + p % size ≡ place (sector_size copy) places p = rw (same_size file copy h) refl in
    rw at at same

pub same_byte : (file copy sectors places : List ℕ) → HasHeaderOf file copy → AreCopied file copy sectors places → (p d : ℕ) → p < length sectors * sector_size file → p % sector_size file + d < sector_size file
    → get_or copy (place (sector_size copy) places p + d) 0 ≡ get_or file (place (sector_size file) sectors p + d) 0
same_byte file copy sectors places h c p d l b = place_agrees file copy sectors places h c p (d + 1) l (omega arith) d (omega arith)

pub same_number16 : (file copy sectors places : List ℕ) → HasHeaderOf file copy → AreCopied file copy sectors places → (p : ℕ) → p < length sectors * sector_size file → p % sector_size file + 2 ≤ sector_size file
    → number16 copy (place (sector_size copy) places p) ≡ number16 file (place (sector_size file) sectors p)
same_number16 file copy sectors places h c p l b = agree_number16 file copy _ _ 2 (omega arith) (place_agrees file copy sectors places h c p 2 l b)

pub same_number32 : (file copy sectors places : List ℕ) → HasHeaderOf file copy → AreCopied file copy sectors places → (p : ℕ) → p < length sectors * sector_size file → p % sector_size file + 4 ≤ sector_size file
    → number32 copy (place (sector_size copy) places p) ≡ number32 file (place (sector_size file) sectors p)
same_number32 file copy sectors places h c p l b = agree_number32 file copy _ _ 4 (omega arith) (place_agrees file copy sectors places h c p 4 l b)

pub same_number64 : (file copy sectors places : List ℕ) → HasHeaderOf file copy → AreCopied file copy sectors places → (p : ℕ) → p < length sectors * sector_size file → p % sector_size file + 8 ≤ sector_size file
    → number64 copy (place (sector_size copy) places p) ≡ number64 file (place (sector_size file) sectors p)
same_number64 file copy sectors places h c p l b = agree_number64 file copy _ _ 8 (omega arith) (place_agrees file copy sectors places h c p 8 l b)

-- SUCCESSORS AND CHAINS

-- a table's entry lies in one sector
in_one : (size n : ℕ) → (size ≡ 512) ⊎ (size ≡ 4096) → 4 * n % size + 4 ≤ size
in_one size n (inl e) = rw e (omega arith)
in_one size n (inr e) = rw e (omega arith)

-- a choice that each side makes by the same test
chosen : {X : Type 0} (b : Bool) (x y z : X) → (b ≡ true → x ≡ y) → cond b x z ≡ cond b y z
chosen true x y z e = e refl
chosen false x y z e = refl

pub same_successor : (file copy sectors places : List ℕ) → HasHeaderOf file copy → AreCopied file copy sectors places → (n : ℕ) → successor copy places n ≡ successor file sectors n
same_successor file copy sectors places h c n =
    let size = same_size file copy h in
    let test : ltb (4 * n) (length places * sector_size copy) ≡ ltb (4 * n) (length sectors * sector_size file) = rw (size, c.long) refl in
    rw test (chosen (ltb (4 * n) (length sectors * sector_size file)) _ _ None (λ t.
    ap Some (same_number32 file copy sectors places h c (4 * n) (ltb-true _ _ t) (in_one (sector_size file) n (sector_size_known file)))))

-- a chain by one table is a chain by another that names the same successors
pub chain_along : (f g : ℕ → Option ℕ) (start count : ℕ) (c : List ℕ) → ((n : ℕ) → f n ≡ g n) → IsChain f start count c → IsChain g start count c
chain_along f g start count c same h = record {
  long = h.long;
  first = h.first;
  linked = λ i l. sym (same (get_or c i 0)) ∙ h.linked i l;
}

pub whole_chain_along : (f g : ℕ → Option ℕ) (start : ℕ) (c : List ℕ) → ((n : ℕ) → f n ≡ g n) → IsWholeChain f start c → IsWholeChain g start c
whole_chain_along f g start c same h = record {
  filled = h.filled;
  chain = chain_along f g start (length c) c same h.chain;
  ended = sym (same (get_or c (length c - 1) 0)) ∙ h.ended;
}

-- THE DIFAT

-- a listed number stands in the header, or in one of the DIFAT's sectors
listed_at : (size count k long : ℕ) → (size ≡ 512) ⊎ (size ≡ 4096) → 109 ≤ k → k < count → long ≡ div_ceil (count - 109) (size / 4 - 1)
    → ((k - 109) / (size / 4 - 1) < long) × (4 * ((k - 109) % (size / 4 - 1)) + 4 ≤ size)
listed_at size count k long (inl e) a l d =
    let many : long ≡ div_ceil (count - 109) 127 = d ∙ rw e refl in
    rw e (omega arith, omega arith)
listed_at size count k long (inr e) a l d =
    let many : long ≡ div_ceil (count - 109) 1023 = d ∙ rw e refl in
    rw e (omega arith, omega arith)

pub same_listed : (file copy difat places : List ℕ) → HasHeaderOf file copy → AreCopied file copy difat places → (k : ℕ) → k < fat_count file → length difat ≡ div_ceil (fat_count file - 109) (sector_size file / 4 - 1) → listed copy places k ≡ listed file difat k
same_listed file copy difat places h c k l d =
    let size = same_size file copy h in
    let each = sector_size file / 4 - 1 in
    elim (cases_lt k 109) [
      | inl b ↦
          let test = lt-ltb k 109 b in
          rw test (agree_number32 file copy (76 + 4 * k) (76 + 4 * k) 4 (omega arith) (header_agrees file copy h (76 + 4 * k) 4 (omega arith)))
      | inr b ↦
          let test = le-ltb k 109 b in
          let at = listed_at (sector_size file) (fat_count file) k (length difat) (sector_size_known file) b l d in
          let same = agree_number32 file copy _ _ 4 (omega arith) (sector_agrees file copy difat places h c ((k - 109) / each) (4 * ((k - 109) % each)) 4 at.0 at.1) in
          rw (test, size) (rw size at same)
    ]

pub same_fat : (file copy difat places : List ℕ) → HasHeaderOf file copy → AreCopied file copy difat places → length difat ≡ div_ceil (fat_count file - 109) (sector_size file / 4 - 1) → fat_of copy places ≡ fat_of file difat
same_fat file copy difat places h c d =
    let count = same_fat_count file copy h in
    rw count (same_from_fn (listed copy places) (listed file difat) (fat_count file) (λ k l. same_listed file copy difat places h c k l d))

-- the last number of a sector is that of its copy
pub same_next_difat : (file copy difat places : List ℕ) → HasHeaderOf file copy → AreCopied file copy difat places → (i : ℕ) → i < length difat → next_difat copy (get_or places i 0) ≡ next_difat file (get_or difat i 0)
same_next_difat file copy difat places h c i l =
    let size = same_size file copy h in
    let last : sector_size file - 4 + 4 ≤ sector_size file = last_four (sector_size file) (sector_size_known file) in
    let same = agree_number32 file copy _ _ 4 (omega arith) (sector_agrees file copy difat places h c i (sector_size file - 4) 4 l last) in
    ap Some (rw size (rw size at same))
  where
    last_four : (size : ℕ) → (size ≡ 512) ⊎ (size ≡ 4096) → size - 4 + 4 ≤ size
    last_four size (inl e) = omega arith
    last_four size (inr e) = omega arith
