-- The entries of the FAT and of the mini FAT, one by one, by what stands from their units on.
use Rattle.std.proofs.Common.{◌≡◌, ℕ, ◌+◌, ◌-◌, ◌<◌, ◌≤◌, Bool, cond, leb, List, ◌∷◌, length, inl, inr, sym, ◌∙◌, ap, arith, refl}
use Rattle.std.proofs.lemmas.Bool.{cases_lt, lt-ltb, le-ltb}
use Rattle.msi_container_format.specs.Format.{END_OF_CHAIN, FREE_SECTOR}
use Rattle.msi_container_write.specs.declared.regions.Regions.{Regions}
use Rattle.msi_container_write.specs.Extents.{units, all_units, is_last}
use Rattle.msi_container_write.specs.Image.{fat_entry}
use Rattle.msi_container_write.specs.Index.{rest_from}
use Rattle.msi_container_write.specs.Layout.{mini_fat_entry, large_parts}
use Rattle.msi_container_write.specs.Regions.{StandIn}
use Rattle.msi_container_write.proofs.sectors.RestLemmas.{last_rest, rest_some, rest_none}

-- the entry of a unit of some part
chained : (parts : List (List ℕ)) (total n : ℕ) (last : Bool) (entry : ℕ)
    → n < all_units 512 parts
    → is_last 512 parts n ≡ last
    → entry ≡ cond last END_OF_CHAIN (n + 1)
    → entry ≡ fat_entry parts total n
chained parts total n last entry l is entry_is =
    rw (lt-ltb n (all_units 512 parts) l, is) entry_is

-- THREE PARTS BEFORE OTHERS

-- what they take together, by where each ends
taken_in_order : (a b c d x y z w : ℕ) → x ≡ a → y ≡ x + b → z ≡ y + c → w ≡ z + d → a + (b + (c + d)) ≡ w
taken_in_order a b c d x y z w p q r s = omega arith

-- whether a unit behind three parts is the last of its own
last_behind_three : (a b c : List ℕ) (parts : List (List ℕ)) (n z : ℕ)
    → z ≡ units 512 a + units 512 b + units 512 c
    → z ≤ n
    → is_last 512 (a ∷ b ∷ c ∷ parts) n ≡ is_last 512 parts (n - z)
last_behind_three a b c parts n z z_is past =
    let U = units 512 a in
    let V = units 512 b in
    let W = units 512 c in
    let e : n - U - V - W ≡ n - z = omega arith in
    rw (le-ltb n U (omega arith), le-ltb (n - U) V (omega arith), le-ltb (n - U - V) W (omega arith), e) refl

-- THE FAT OF PARTS IN THEIR REGIONS

-- all that they take
all_taken : (regions : Regions) (streams : List (List ℕ × List ℕ)) (parts : List (List ℕ)) → StandIn regions streams parts → all_units 512 parts ≡ regions.fat
all_taken regions streams parts stand =
    ap (all_units 512) stand.are
    ∙ taken_in_order (units 512 stand.directory) (units 512 stand.mini_fat) (units 512 stand.mini_stream) (all_units 512 (large_parts streams)) _ _ _ _
    stand.mini_fat_first stand.mini_stream_first stand.large_first stand.fat_first

-- the entries of the large streams
pub large_entry_is : (regions : Regions) (streams : List (List ℕ × List ℕ)) (parts : List (List ℕ)) (total n entry : ℕ)
    → StandIn regions streams parts
    → regions.large ≤ n
    → n < regions.fat
    → entry ≡ cond (leb (length (rest_from 512 (large_parts streams) (n - regions.large))) 512) END_OF_CHAIN (n + 1)
    → entry ≡ fat_entry parts total n
large_entry_is regions streams parts total n entry stand low high is =
    let long : regions.large ≡ units 512 stand.directory + units 512 stand.mini_fat + units 512 stand.mini_stream =
    stand.large_first ∙ ap (λ (k : ℕ). k + units 512 stand.mini_stream) (stand.mini_stream_first ∙ ap (λ (k : ℕ). k + units 512 stand.mini_fat) stand.mini_fat_first) in
    chained parts total n _ entry (omega (arith, all_taken regions streams parts stand))
    (ap (λ (ps : List (List ℕ)). is_last 512 ps n) stand.are
    ∙ last_behind_three stand.directory stand.mini_fat stand.mini_stream (large_parts streams) n regions.large long low
    ∙ last_rest 512 (large_parts streams) (n - regions.large) (omega arith))
    is

-- THE MINI FAT

-- an entry behind the last part
pub mini_free : (parts : List (List ℕ)) (n entry : ℕ) (rest : List ℕ) → rest ≡ rest_from 64 parts n → length rest ≡ 0 → entry ≡ FREE_SECTOR → entry ≡ mini_fat_entry parts n
mini_free parts n entry rest rest_is none is =
    elim (cases_lt n (all_units 64 parts)) [
      | inl low ↦ let some = rest_some 64 parts n (omega arith) low in absurd (omega (arith, ap length rest_is))
      | inr past ↦ rw (le-ltb n (all_units 64 parts) past) is
    ]

-- an entry of a part
pub mini_chained : (parts : List (List ℕ)) (n entry : ℕ) (rest : List ℕ) → rest ≡ rest_from 64 parts n → 0 < length rest
    → entry ≡ cond (leb (length rest) 64) END_OF_CHAIN (n + 1)
    → entry ≡ mini_fat_entry parts n
mini_chained parts n entry rest rest_is some is =
    let last : is_last 64 parts n ≡ leb (length rest) 64 = last_rest 64 parts n (omega arith) ∙ ap (λ (bs : List ℕ). leb (length bs) 64) (sym rest_is) in
    elim (cases_lt n (all_units 64 parts)) [
      | inl low ↦ rw (lt-ltb n (all_units 64 parts) low, last) is
      | inr past ↦ absurd (omega (arith, ap length (rest_is ∙ rest_none 64 parts n past)))
    ]
