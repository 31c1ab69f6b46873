-- The start of a container, part by part: the sectors of the DIFAT, the FAT and the directory.
use Rattle.std.proofs.Common.{◌≡◌, ℕ, ◌+◌, ◌*◌, ◌≤◌, List, [], ◌++◌, length, ◌∙◌, sym, ap, arith, Vec, Global, vec_len}
use Rattle.msi_container_format.specs.Container.{sector_size, fat_of, IsDifat, IsDirectory}
use Rattle.msi_container_format.proofs.PlanOnceLemmas.{chain_once}
use Rattle.msi_container_tables.specs.Claims.{CanClaim}
use Rattle.msi_container_tables.specs.Reading.{IsStart}
use Rattle.msi_container_tables.proofs.chains.ClaimedLemmas.{claim_front, claim_back}
use Rattle.msi_container_view.specs.Tables.{TablesRead, IsCopy, ReadsOn}
use Rattle.msi_container_view.proofs.table_lemmas.StandLemmas.{size_read_on}

-- ROOM

-- each sector in the copy was claimed
filled : (long one n claimed size : ℕ) → one ≡ size → long ≡ one + n * size → claimed ≡ n → long ≤ (1 + claimed) * size
filled long one n claimed size a b d = rw (d, b, a) (omega arith)

pub room_after : (first now : TablesRead) (n claimed : ℕ) → IsCopy first → ReadsOn first now n → length first.copy ≡ sector_size first.copy → claimed ≡ n → length now.copy ≤ (1 + claimed) * sector_size now.copy
room_after first now n claimed c r one e = rw (size_read_on first now n c r) (filled (length now.copy) (length first.copy) n claimed (sector_size first.copy) one r.long e)

-- what is claimed where nothing was
pub none_used : (list : Vec ℕ Global) → list.items ≡ [] → vec_len list ≡ 0
none_used list none = omega (arith, list.ok, ap (λ (xs : List ℕ). length xs) none)

-- what is claimed behind what was
pub claimed_behind : (before after more : Vec ℕ Global) (used : List ℕ) → before.items ≡ used → after.items ≡ before.items ++ more.items → after.items ≡ used ++ more.items
claimed_behind before after more used so_far behind = behind ∙ ap (λ (xs : List ℕ). xs ++ more.items) so_far

-- WHERE NOTHING STARTS

-- no DIFAT can be claimed
pub no_difat : (file used : List ℕ) (limit : ℕ) → used ≡ [] → ((difat : List ℕ) → IsDifat file difat → CanClaim limit used difat → ⊥) → (difat fat directory : List ℕ) → IsStart file limit difat fat directory → ⊥
no_difat file used limit none broken difat fat directory s =
    let can = claim_front limit [] difat fat (claim_front limit [] (difat ++ fat) directory s.room) in
    broken difat s.difats (rw none can)

-- the FAT of the DIFAT that was found can't be claimed
pub no_fat : (file used found : List ℕ) (marks limit : ℕ) → marks ≡ limit → used ≡ found → IsDifat file found → (CanClaim marks used (fat_of file found) → ⊥)
    → (difat fat directory : List ℕ) → IsStart file limit difat fat directory → ⊥
no_fat file used found marks limit m u is broken difat fat directory s =
    let same : found ≡ difat = chain_once _ _ _ found difat is s.difats in
    let fats : fat_of file found ≡ fat = ap (fat_of file) same ∙ sym s.fats in
    let can : CanClaim limit difat fat = claim_back limit [] difat fat (claim_front limit [] (difat ++ fat) directory s.room) in
    broken (rw (m, u, fats, same) can)

-- no directory of the FAT that was found can be claimed
pub no_directory : (file used found listed : List ℕ) (marks limit : ℕ) → marks ≡ limit → used ≡ found ++ listed → IsDifat file found → listed ≡ fat_of file found
    → ((directory : List ℕ) → IsDirectory file listed directory → CanClaim marks used directory → ⊥)
    → (difat fat directory : List ℕ) → IsStart file limit difat fat directory → ⊥
no_directory file used found listed marks limit m u is fats broken difat fat directory s =
    let same : found ≡ difat = chain_once _ _ _ found difat is s.difats in
    let same_fat : listed ≡ fat = fats ∙ ap (fat_of file) same ∙ sym s.fats in
    let can : CanClaim limit (difat ++ fat) directory = claim_back limit [] (difat ++ fat) directory s.room in
    broken directory (rw same_fat s.chain) (rw (m, u, same, same_fat) can)
