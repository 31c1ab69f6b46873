-- The fields of a directory's entries are the same in its copy.
use Rattle.std.proofs.Common.{◌≡◌, ℕ, ◌+◌, ◌-◌, ◌*◌, ◌/◌, ◌%◌, ◌<◌, ◌≤◌, Bool, true, false, cond, eqb, List, length, ◌⊎◌, inl, inr, sym, subst, arith, refl}
use Rattle.std.specs.Prelude.{IsTrue}
use Rattle.msi_container_format.specs.Bytes.{number16}
use Rattle.msi_container_format.specs.Chains.{AreBelow}
use Rattle.msi_container_format.specs.Container.{version, sector_size, field, entry_count, kind, left, right, child, start_sector, size, name_size, name, HasName}
use Rattle.msi_container_format.specs.Names.{is_text}
use Rattle.msi_container_tables.specs.Paths.{storage_clsid}
use Rattle.msi_container_view.specs.Copied.{HasHeaderOf, AreCopied}
use Rattle.msi_container_view.proofs.copies.HeaderCopyLemmas.{Agree, agree_byte, agree_number16, agree_number32, agree_number64, agree_bytes, same_from_fn, same_version, same_size, sector_size_known, header_swapped, swapped}
use Rattle.msi_container_view.proofs.copies.TableCopyLemmas.{place_agrees}

-- FIELDS

-- an entry lies in one sector
entry_in_one : (size long k offset count : ℕ) → (size ≡ 512) ⊎ (size ≡ 4096) → k < long * (size / 128) → offset < 128 → offset + count ≤ 128
    → (128 * k + offset < long * size) × ((128 * k + offset) % size + count ≤ size)
entry_in_one size long k offset count (inl e) l o b = let inside : k < long * 4 = rw e at l in rw e (omega arith, omega arith)
entry_in_one size long k offset count (inr e) l o b = let inside : k < long * 32 = rw e at l in rw e (omega arith, omega arith)

pub same_entry_count : (file copy directory places : List ℕ) → HasHeaderOf file copy → AreCopied file copy directory places → entry_count copy places ≡ entry_count file directory
same_entry_count file copy directory places h c = rw (same_size file copy h, c.long) refl

-- entries of the file are entries of the copy
pub entry_in_copy : (file copy directory places : List ℕ) → HasHeaderOf file copy → AreCopied file copy directory places → (k : ℕ) → k < entry_count file directory → k < entry_count copy places
entry_in_copy file copy directory places h c k l = subst (λ n. k < n) (sym (same_entry_count file copy directory places h c)) l

pub entries_in_copy : (file copy directory places : List ℕ) → HasHeaderOf file copy → AreCopied file copy directory places → (ks : List ℕ) → AreBelow (entry_count file directory) ks → AreBelow (entry_count copy places) ks
entries_in_copy file copy directory places h c ks b = subst (λ n. AreBelow n ks) (sym (same_entry_count file copy directory places h c)) b

-- a field's bytes agree
pub field_agrees : (file copy directory places : List ℕ) → HasHeaderOf file copy → AreCopied file copy directory places → (k : ℕ) → k < entry_count file directory → (offset count : ℕ) → offset < 128 → offset + count ≤ 128
    → Agree file copy (field file directory k offset) (field copy places k offset) count
field_agrees file copy directory places h c k l offset count o b =
    let at = entry_in_one (sector_size file) (length directory) k offset count (sector_size_known file) l o b in
    place_agrees file copy directory places h c (128 * k + offset) count at.0 at.1

-- so each field is the same
pub same_kind : (file copy directory places : List ℕ) → HasHeaderOf file copy → AreCopied file copy directory places → (k : ℕ) → k < entry_count file directory → kind copy places k ≡ kind file directory k
same_kind file copy directory places h c k l = agree_byte file copy _ _ 1 (omega arith) (field_agrees file copy directory places h c k l 66 1 (omega arith) (omega arith))

pub same_left : (file copy directory places : List ℕ) → HasHeaderOf file copy → AreCopied file copy directory places → (k : ℕ) → k < entry_count file directory → left copy places k ≡ left file directory k
same_left file copy directory places h c k l = agree_number32 file copy _ _ 4 (omega arith) (field_agrees file copy directory places h c k l 68 4 (omega arith) (omega arith))

pub same_right : (file copy directory places : List ℕ) → HasHeaderOf file copy → AreCopied file copy directory places → (k : ℕ) → k < entry_count file directory → right copy places k ≡ right file directory k
same_right file copy directory places h c k l = agree_number32 file copy _ _ 4 (omega arith) (field_agrees file copy directory places h c k l 72 4 (omega arith) (omega arith))

pub same_child : (file copy directory places : List ℕ) → HasHeaderOf file copy → AreCopied file copy directory places → (k : ℕ) → k < entry_count file directory → child copy places k ≡ child file directory k
same_child file copy directory places h c k l = agree_number32 file copy _ _ 4 (omega arith) (field_agrees file copy directory places h c k l 76 4 (omega arith) (omega arith))

pub same_start : (file copy directory places : List ℕ) → HasHeaderOf file copy → AreCopied file copy directory places → (k : ℕ) → k < entry_count file directory → start_sector copy places k ≡ start_sector file directory k
same_start file copy directory places h c k l = agree_number32 file copy _ _ 4 (omega arith) (field_agrees file copy directory places h c k l 116 4 (omega arith) (omega arith))

-- a size is read by the version, which is the same too
either : (b : Bool) (w x y z : ℕ) → w ≡ x → y ≡ z → cond b w y ≡ cond b x z
either true w x y z e f = e
either false w x y z e f = f

by_version : (a b w x y z : ℕ) → a ≡ b → w ≡ x → y ≡ z → cond (eqb a 4) w y ≡ cond (eqb b 4) x z
by_version a b w x y z v e f = rw v (either (eqb b 4) w x y z e f)

pub same_entry_size : (file copy directory places : List ℕ) → HasHeaderOf file copy → AreCopied file copy directory places → (k : ℕ) → k < entry_count file directory → size copy places k ≡ size file directory k
same_entry_size file copy directory places h c k l =
    let agree = field_agrees file copy directory places h c k l 120 8 (omega arith) (omega arith) in
    let long = agree_number64 file copy _ _ 8 (omega arith) agree in
    let short = agree_number32 file copy _ _ 8 (omega arith) agree in
    by_version (version copy) (version file) _ _ _ _ (same_version file copy h) long short

pub same_clsid : (file copy directory places : List ℕ) → HasHeaderOf file copy → AreCopied file copy directory places → (k : ℕ) → k < entry_count file directory → storage_clsid copy places k ≡ storage_clsid file directory k
same_clsid file copy directory places h c k l = agree_bytes file copy _ _ 16 (field_agrees file copy directory places h c k l 80 16 (omega arith) (omega arith))

-- NAMES

pub same_name_size : (file copy directory places : List ℕ) → HasHeaderOf file copy → AreCopied file copy directory places → (k : ℕ) → k < entry_count file directory → name_size copy places k ≡ name_size file directory k
same_name_size file copy directory places h c k l = agree_number16 file copy _ _ 2 (omega arith) (field_agrees file copy directory places h c k l 64 2 (omega arith) (omega arith))

-- a name that lies within its entry is the same
pub same_name : (file copy directory places : List ℕ) → HasHeaderOf file copy → AreCopied file copy directory places → (k : ℕ) → k < entry_count file directory → name_size file directory k ≤ 64 → name copy places k ≡ name file directory k
same_name file copy directory places h c k l most =
    rw (same_name_size file copy directory places h c k l)
    (same_from_fn (λ i. number16 copy (field copy places k (2 * i))) (λ i. number16 file (field file directory k (2 * i))) (name_size file directory k / 2 - 1) (λ i b.
    agree_number16 file copy _ _ 2 (omega arith) (field_agrees file copy directory places h c k l (2 * i) 2 (omega arith) (omega arith))))

pub name_of_copy : (file copy directory places : List ℕ) → HasHeaderOf file copy → AreCopied file copy directory places → (k : ℕ) → k < entry_count file directory → HasName copy places k → HasName file directory k
name_of_copy file copy directory places h c k l named =
    let long = same_name_size file copy directory places h c k l in
    let most : name_size file directory k ≤ 64 = rw long at named.most in
    record {
      even = rw long at named.even;
      least = rw long at named.least;
      most = most;
      text = subst (λ units. IsTrue (is_text units)) (same_name file copy directory places h c k l most) named.text;
    }

pub name_in_copy : (file copy directory places : List ℕ) → HasHeaderOf file copy → AreCopied file copy directory places → (k : ℕ) → k < entry_count file directory → HasName file directory k → HasName copy places k
name_in_copy file copy directory places h c k l named =
    name_of_copy copy file places directory (header_swapped file copy h) (swapped file copy directory places h c) k (entry_in_copy file copy directory places h c k l) named
