-- What is read of a copy is what the file says: the parts of a container, one by one.
use Rattle.std.proofs.Common.{◌≡◌, ℕ, ◌-◌, ◌*◌, ◌/◌, ◌≤◌, ◌<◌, List, length, arith}
use Rattle.std.specs.Int.{div_ceil}
use Rattle.std.proofs.Math.Nat.{mul-le-mul_right}
use Rattle.msi_container_format.specs.Container.{sector_size, fat_count, fat_of, entry_count, IsDirectory}
use Rattle.msi_container_tables.specs.Reading.{IsMini}
use Rattle.msi_container_view.specs.Reading.{Tells}
use Rattle.msi_container_view.specs.Tables.{TablesRead, IsCopy, StandAt}
use Rattle.msi_container_view.proofs.table_lemmas.StandLemmas.{least_size}
use Rattle.msi_container_view.proofs.copies.HeaderCopyLemmas.{same_size, same_fat_count}
use Rattle.msi_container_view.proofs.copies.TableCopyLemmas.{same_fat}
use Rattle.msi_container_view.proofs.copies.PartsCopyLemmas.{directory_of_copy, directory_in_copy, mini_of_copy, mini_in_copy}

-- the sectors of the FAT, by those of the DIFAT in the copy
counted : (long m n s t : ℕ) → m ≡ n → s ≡ t → long ≡ div_ceil (m - 109) (s / 4 - 1) → long ≡ div_ceil (n - 109) (t / 4 - 1)
counted long m n s t e f h = rw (← e, ← f) h

pub fat_is : (t : TablesRead) (difat places : List ℕ) → IsCopy t → StandAt t.held t.copy difat places → length difat ≡ div_ceil (fat_count t.copy - 109) (sector_size t.copy / 4 - 1)
    → (file : List ℕ) → Tells t.held file → fat_of t.copy places ≡ fat_of file difat
fat_is t difat places c s e file told =
    let h = c.headed file told in
    same_fat file t.copy difat places h (s.told file told) (counted (length difat) _ _ _ _ (same_fat_count file t.copy h) (same_size file t.copy h) e)

-- the directory, by the FAT in the copy
pub directory_is : (t : TablesRead) (fat places directory : List ℕ) → IsCopy t → StandAt t.held t.copy fat places → IsDirectory t.copy places directory → (file : List ℕ) → Tells t.held file → IsDirectory file fat directory
directory_is t fat places directory c s d file told = directory_of_copy file t.copy fat places (c.headed file told) (s.told file told) directory d

pub directory_was : (t : TablesRead) (fat places directory : List ℕ) → IsCopy t → StandAt t.held t.copy fat places → (file : List ℕ) → Tells t.held file → IsDirectory file fat directory → IsDirectory t.copy places directory
directory_was t fat places directory c s file told d = directory_in_copy file t.copy fat places (c.headed file told) (s.told file told) directory d

-- a directory that was copied has as many entries
some_entry : (n size : ℕ) → 512 ≤ size → 0 < n → 0 < n * (size / 128)
some_entry n size l some =
    let each : 4 ≤ size / 128 = omega arith in
    let rows = mul-le-mul_right (size / 128) some in
    omega arith

pub has_root : (bytes sectors : List ℕ) → 0 < length sectors → 0 < entry_count bytes sectors
has_root bytes sectors some = some_entry (length sectors) (sector_size bytes) (least_size bytes) some

-- the mini FAT and the mini stream, by the FAT and the directory in the copy
pub mini_is : (t : TablesRead) (fat places directory directory_places : List ℕ) (limit : ℕ) (used mini_fat mini_stream : List ℕ) → IsCopy t → StandAt t.held t.copy fat places → StandAt t.held t.copy directory directory_places → 0 < length directory
    → IsMini t.copy limit used places directory_places mini_fat mini_stream → (file : List ℕ) → Tells t.held file → IsMini file limit used fat directory mini_fat mini_stream
mini_is t fat places directory directory_places limit used mini_fat mini_stream c s d some m file told =
    mini_of_copy file t.copy fat places directory directory_places (c.headed file told) (s.told file told) (d.told file told) (has_root file directory some) limit used mini_fat mini_stream m

pub mini_was : (t : TablesRead) (fat places directory directory_places : List ℕ) (limit : ℕ) (used mini_fat mini_stream : List ℕ) → IsCopy t → StandAt t.held t.copy fat places → StandAt t.held t.copy directory directory_places → 0 < length directory
    → (file : List ℕ) → Tells t.held file → IsMini file limit used fat directory mini_fat mini_stream → IsMini t.copy limit used places directory_places mini_fat mini_stream
mini_was t fat places directory directory_places limit used mini_fat mini_stream c s d some file told m =
    mini_in_copy file t.copy fat places directory directory_places (c.headed file told) (s.told file told) (d.told file told) (has_root file directory some) limit used mini_fat mini_stream m
