-- Chains by copied tables are those by the file's: the directory, the mini FAT and the mini stream, and the streams.
use Rattle.std.proofs.Common.{◌≡◌, ℕ, ◌+◌, ◌*◌, ◌/◌, ◌<◌, ◌≤◌, Bool, true, false, cond, ltb, List, [], ◌∷◌, length, get_or, Option, inl, inr, ◌∙◌, ap, subst, arith, refl}
use Rattle.std.specs.Int.{div_ceil}
use Rattle.std.specs.List.{AllZip, zip, flat_map}
use Rattle.msi_container_format.specs.Chains.{AreBelow, IsChain}
use Rattle.msi_container_format.specs.Container.{sector_size, successor, entry_count, size, IsWholeChain, IsDirectory, IsMiniFat, IsMembers, sectors_in, mini_sectors_in, all_sectors, all_mini_sectors}
use Rattle.msi_container_tables.specs.Claims.{CanClaim}
use Rattle.msi_container_tables.specs.Reading.{IsMini, AreChained, mini_limit}
use Rattle.msi_container_tables.proofs.parts.ListingLemmas.{each_rest}
use Rattle.msi_container_view.specs.Copied.{HasHeaderOf, AreCopied}
use Rattle.msi_container_view.proofs.copies.HeaderCopyLemmas.{same_size, same_directory_start, same_mini_fat_start, header_swapped, swapped}
use Rattle.msi_container_view.proofs.copies.TableCopyLemmas.{same_successor, chain_along, whole_chain_along}
use Rattle.msi_container_view.proofs.copies.DirectoryCopyLemmas.{entry_in_copy, entries_in_copy, same_start, same_entry_size}

-- COPIES

-- what is copied further on leaves what was copied
pub copied_further : (file copy longer sectors places : List ℕ) → AreCopied file copy sectors places → ((i : ℕ) → i < length places → (get_or places i 0 + 2) * sector_size file ≤ length copy) → ((k : ℕ) → k < length copy → get_or longer k 0 ≡ get_or copy k 0) → AreCopied file longer sectors places
copied_further file copy longer sectors places c inside same = record {
  long = c.long;
  same = λ i j l b.
      let within : (get_or places i 0 + 2) * sector_size file ≤ length copy = inside i (omega (arith, c.long)) in
      same ((get_or places i 0 + 1) * sector_size file + j) (omega (arith, within)) ∙ c.same i j l b;
}

-- THE DIRECTORY

pub directory_of_copy : (file copy fat fat_places : List ℕ) → HasHeaderOf file copy → AreCopied file copy fat fat_places → (directory : List ℕ) → IsDirectory copy fat_places directory → IsDirectory file fat directory
directory_of_copy file copy fat fat_places h c directory d =
    subst (λ s. IsWholeChain (successor file fat) s directory) (same_directory_start file copy h)
    (whole_chain_along _ _ _ directory (same_successor file copy fat fat_places h c) d)

pub directory_in_copy : (file copy fat fat_places : List ℕ) → HasHeaderOf file copy → AreCopied file copy fat fat_places → (directory : List ℕ) → IsDirectory file fat directory → IsDirectory copy fat_places directory
directory_in_copy file copy fat fat_places h c directory d = directory_of_copy copy file fat_places fat (header_swapped file copy h) (swapped file copy fat fat_places h c) directory d

-- THE MINI FAT AND THE MINI STREAM

-- a chain by the same successors, from the same start on, of as many members
moved_chain : (f g : ℕ → Option ℕ) (start count from many : ℕ) (c : List ℕ) → ((n : ℕ) → f n ≡ g n) → start ≡ from → count ≡ many → IsChain f start count c → IsChain g from many c
moved_chain f g start count from many c same e d h =
    let along = chain_along f g start count c same h in
    record { long = along.long ∙ d; first = λ l. along.first l ∙ e; linked = along.linked }

mini_fat_of_copy : (file copy fat fat_places : List ℕ) → HasHeaderOf file copy → AreCopied file copy fat fat_places → (mini_fat : List ℕ) → IsMiniFat copy fat_places mini_fat → IsMiniFat file fat mini_fat
mini_fat_of_copy file copy fat fat_places h c mini_fat t =
    let start = same_mini_fat_start file copy h in
    elim t [
      | inl a ↦ inl (
        omega (arith, start, a.0),
        subst (λ s. IsWholeChain (successor file fat) s mini_fat) start (whole_chain_along _ _ _ mini_fat (same_successor file copy fat fat_places h c) a.1),
      )
      | inr a ↦ inr (omega (arith, start, a.0), a.1)
    ]

counted : (s t y z : ℕ) → s ≡ t → y ≡ z → div_ceil s y ≡ div_ceil t z
counted s t y z e f = rw (e, f) refl

pub mini_of_copy : (file copy fat fat_places directory directory_places : List ℕ) → HasHeaderOf file copy → AreCopied file copy fat fat_places → AreCopied file copy directory directory_places → 0 < entry_count file directory → (limit : ℕ) (used mini_fat mini_stream : List ℕ)
    → IsMini copy limit used fat_places directory_places mini_fat mini_stream → IsMini file limit used fat directory mini_fat mini_stream
mini_of_copy file copy fat fat_places directory directory_places h c d l limit used mini_fat mini_stream m = record {
  table = mini_fat_of_copy file copy fat fat_places h c mini_fat m.table;
  stream = moved_chain _ _ _ _ _ _ mini_stream (same_successor file copy fat fat_places h c) (same_start file copy directory directory_places h d 0 l)
      (counted _ _ _ _ (same_entry_size file copy directory directory_places h d 0 l) (same_size file copy h)) m.stream;
  room = m.room;
}

pub mini_in_copy : (file copy fat fat_places directory directory_places : List ℕ) → HasHeaderOf file copy → AreCopied file copy fat fat_places → AreCopied file copy directory directory_places → 0 < entry_count file directory → (limit : ℕ) (used mini_fat mini_stream : List ℕ)
    → IsMini file limit used fat directory mini_fat mini_stream → IsMini copy limit used fat_places directory_places mini_fat mini_stream
mini_in_copy file copy fat fat_places directory directory_places h c d l limit used mini_fat mini_stream m =
    mini_of_copy copy file fat_places fat directory_places directory (header_swapped file copy h) (swapped file copy fat fat_places h c) (swapped file copy directory directory_places h d)
    (entry_in_copy file copy directory directory_places h d 0 l) limit used mini_fat mini_stream m

-- STREAMS

-- the members of an entry's stream
choice_counted : (s t y z : ℕ) → s ≡ t → y ≡ z → div_ceil s (cond (ltb s 4096) 64 y) ≡ div_ceil t (cond (ltb t 4096) 64 z)
choice_counted s t y z e f = rw (e, f) refl

choice_of_table : (ours theirs : List ℕ → ℕ → Option ℕ) (s t : ℕ) (a b c d : List ℕ) → s ≡ t → ((n : ℕ) → ours a n ≡ theirs b n) → ((n : ℕ) → ours c n ≡ theirs d n) → (n : ℕ) → ours (cond (ltb s 4096) a c) n ≡ theirs (cond (ltb t 4096) b d) n
choice_of_table ours theirs s t a b c d e x y n = rw e (by_test (ltb t 4096))
  where
    by_test : (p : Bool) → ours (cond p a c) n ≡ theirs (cond p b d) n
    by_test true = x n
    by_test false = y n

members_of_copy : (file copy fat fat_places mini_fat mini_places directory directory_places : List ℕ) → HasHeaderOf file copy → AreCopied file copy fat fat_places → AreCopied file copy mini_fat mini_places → AreCopied file copy directory directory_places → (k : ℕ) (c : List ℕ) → k < entry_count file directory
    → IsMembers copy fat_places mini_places directory_places k c → IsMembers file fat mini_fat directory k c
members_of_copy file copy fat fat_places mini_fat mini_places directory directory_places h tables minis entries k c l m =
    let large = same_entry_size file copy directory directory_places h entries k l in
    moved_chain _ _ _ _ _ _ c
    (choice_of_table (successor copy) (successor file) (size copy directory_places k) (size file directory k) mini_places mini_fat fat_places fat large
    (same_successor file copy mini_fat mini_places h minis) (same_successor file copy fat fat_places h tables))
    (same_start file copy directory directory_places h entries k l)
    (choice_counted (size copy directory_places k) (size file directory k) (sector_size copy) (sector_size file) large (same_size file copy h))
    m

-- what holds of the entries and their members by the one holds of them by the other
all_along : (P Q : ℕ → List ℕ → Type 0) (count : ℕ) → ((k : ℕ) (c : List ℕ) → k < count → P k c → Q k c) → (ks : List ℕ) (cs : List (List ℕ)) → AreBelow count ks → AllZip P ks cs → AllZip Q ks cs
all_along P Q count f [] [] b a = tt
all_along P Q count f [] (c ∷ cs) b a = absurd a
all_along P Q count f (k ∷ ks) [] b a = absurd a
all_along P Q count f (k ∷ ks) (c ∷ cs) b a = (f k c (b 0 (omega arith)) a.0, all_along P Q count f ks cs (each_rest (λ x. x < count) k ks b) a.1)

-- lists that entries and their members make
lists_along : (f g : ℕ × List ℕ → List ℕ) (count : ℕ) → ((k : ℕ) (c : List ℕ) → k < count → f (k, c) ≡ g (k, c)) → (ks : List ℕ) (cs : List (List ℕ)) → AreBelow count ks → flat_map f (zip ks cs) ≡ flat_map g (zip ks cs)
lists_along f g count e [] cs b = refl
lists_along f g count e (k ∷ ks) [] b = refl
lists_along f g count e (k ∷ ks) (c ∷ cs) b =
    let here = e k c (b 0 (omega arith)) in
    let rest = lists_along f g count e ks cs (each_rest (λ x. x < count) k ks b) in
    cc

choice_of : (s t : ℕ) (a c : List ℕ) → s ≡ t → cond (ltb s 4096) a c ≡ cond (ltb t 4096) a c
choice_of s t a c e = rw e refl

same_all_sectors : (file copy directory places : List ℕ) → HasHeaderOf file copy → AreCopied file copy directory places → (ks : List ℕ) (chains : List (List ℕ)) → AreBelow (entry_count file directory) ks → all_sectors copy places ks chains ≡ all_sectors file directory ks chains
same_all_sectors file copy directory places h d ks chains b =
    lists_along (sectors_in copy places) (sectors_in file directory) (entry_count file directory) (λ k c l. choice_of (size copy places k) (size file directory k) [] c (same_entry_size file copy directory places h d k l)) ks chains b

same_all_mini_sectors : (file copy directory places : List ℕ) → HasHeaderOf file copy → AreCopied file copy directory places → (ks : List ℕ) (chains : List (List ℕ)) → AreBelow (entry_count file directory) ks → all_mini_sectors copy places ks chains ≡ all_mini_sectors file directory ks chains
same_all_mini_sectors file copy directory places h d ks chains b =
    lists_along (mini_sectors_in copy places) (mini_sectors_in file directory) (entry_count file directory) (λ k c l. choice_of (size copy places k) (size file directory k) c [] (same_entry_size file copy directory places h d k l)) ks chains b

moved_claim : (limit most : ℕ) (c d : List ℕ) → limit ≡ most → c ≡ d → CanClaim limit [] c → CanClaim most [] d
moved_claim limit most c d e f can = rw (← e, ← f) can

pub chained_of_copy : (file copy fat fat_places mini_fat mini_places directory directory_places : List ℕ) → HasHeaderOf file copy → AreCopied file copy fat fat_places → AreCopied file copy mini_fat mini_places → AreCopied file copy directory directory_places → (mini_stream : List ℕ) (limit : ℕ) (used ks : List ℕ) (chains : List (List ℕ)) → AreBelow (entry_count file directory) ks
    → AreChained copy fat_places mini_places directory_places mini_stream limit used ks chains → AreChained file fat mini_fat directory mini_stream limit used ks chains
chained_of_copy file copy fat fat_places mini_fat mini_places directory directory_places h tables minis entries mini_stream limit used ks chains b m = record {
  chained = all_along (IsMembers copy fat_places mini_places directory_places) (IsMembers file fat mini_fat directory) (entry_count file directory)
      (members_of_copy file copy fat fat_places mini_fat mini_places directory directory_places h tables minis entries) ks chains b m.chained;
  room = subst (λ xs. CanClaim limit used xs) (same_all_sectors file copy directory directory_places h entries ks chains b) m.room;
  mini_room = moved_claim (mini_limit copy mini_stream) (mini_limit file mini_stream) _ _ (ap (λ n. length mini_stream * (n / 64)) (same_size file copy h))
      (same_all_mini_sectors file copy directory directory_places h entries ks chains b) m.mini_room;
}

pub chained_in_copy : (file copy fat fat_places mini_fat mini_places directory directory_places : List ℕ) → HasHeaderOf file copy → AreCopied file copy fat fat_places → AreCopied file copy mini_fat mini_places → AreCopied file copy directory directory_places → (mini_stream : List ℕ) (limit : ℕ) (used ks : List ℕ) (chains : List (List ℕ)) → AreBelow (entry_count file directory) ks
    → AreChained file fat mini_fat directory mini_stream limit used ks chains → AreChained copy fat_places mini_places directory_places mini_stream limit used ks chains
chained_in_copy file copy fat fat_places mini_fat mini_places directory directory_places h tables minis entries mini_stream limit used ks chains b m =
    chained_of_copy copy file fat_places fat mini_places mini_fat directory_places directory (header_swapped file copy h)
    (swapped file copy fat fat_places h tables) (swapped file copy mini_fat mini_places h minis) (swapped file copy directory directory_places h entries)
    mini_stream limit used ks chains (entries_in_copy file copy directory directory_places h entries ks b) m
