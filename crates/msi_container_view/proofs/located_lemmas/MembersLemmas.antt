-- The members of streams that were chained by copied tables: they are those of the file, they cover the streams, and they
-- are few.
use Rattle.std.proofs.Common.{◌≡◌, ◌≢◌, ℕ, suc, ◌+◌, ◌<◌, ◌≤◌, ◌^◌, Bool, true, false, cond, eqb, ◌||◌, List, [], ◌∷◌, length, get_or, inl, inr, subst, arith, refl}
use Rattle.std.specs.List.{AllZip, AllByRecursion, IsDistinct, list_any}
use Rattle.std.specs.Int.{div_ceil}
use Rattle.std.proofs.lemmas.Bool.{false≢true, ltb-true}
use Rattle.std.proofs.lemmas.Grind.{div_ceil_times}
use Rattle.std.proofs.lemmas.Bool.Decides.{eqb_tells}
use Rattle.std.proofs.lemmas.Map.Keys.{IsDistinct-cons}
use Rattle.std.proofs.lemmas.Map.Steps.{length-le_from_distinct_below}
use Rattle.msi_container_format.specs.Chains.{AreBelow, AreDistinct, IsChain}
use Rattle.msi_container_format.specs.Format.{MAX_REGULAR_SECTOR}
use Rattle.msi_container_format.specs.Container.{entry_count, size, sector_size, start_sector, successor, is_mini, IsMembers, sectors_in, all_sectors}
use Rattle.msi_container_tables.specs.Reading.{AreChained, IsCovered}
use Rattle.msi_container_tables.proofs.parts.ListingLemmas.{covered, some_size}
use Rattle.msi_container_tables.proofs.chains.ClaimedLemmas.{below_front, below_back, distinct_front, distinct_back}
use Rattle.msi_container_view.specs.Copied.{HasHeaderOf, AreCopied}
use Rattle.msi_container_view.proofs.copies.DirectoryCopyLemmas.{same_entry_count}
use Rattle.msi_container_view.proofs.copies.PartsCopyLemmas.{chained_of_copy, chained_in_copy}

-- DISTINCT NUMBERS BELOW A LIMIT

apart : (x : ℕ) (xs : List ℕ) → ((j : ℕ) → j < length xs → x ≢ get_or xs j 0) → AllByRecursion (λ y. eqb x y ≡ false) xs
apart x [] h = tt
apart x (y ∷ ys) h =
    let rest = apart x ys (λ j l. h (suc j) (omega arith)) in
    elim (eqb_tells x y) [ inl w ↦ absurd (h 0 (omega arith) w.1) | inr w ↦ (w.0, rest) ]

distinct : (xs : List ℕ) → AreDistinct xs → IsDistinct eqb xs
unfolding IsDistinct
distinct [] d = tt
distinct (x ∷ xs) d =
    IsDistinct-cons eqb x xs (apart x xs (λ j l. d 0 (suc j) (omega arith) (omega arith)))
    (distinct xs (λ i j l h. d (suc i) (suc j) (omega arith) (omega arith)))

or_rest : (a b : Bool) → a ≡ false → (a || b) ≡ true → b ≡ true
or_rest true b e h = absurd cc
or_rest false b e h = h

below : (xs : List ℕ) (n q : ℕ) → AreBelow n xs → list_any (eqb q) xs ≡ true → q < n
below [] n q b h = absurd (false≢true h)
below (x ∷ xs) n q b h =
    let rest : AreBelow n xs = λ i l. b (suc i) (omega arith) in
    let here : x < n = b 0 (omega arith) in
    elim (eqb_tells q x) [ inl w ↦ omega (arith, w.1) | inr w ↦ below xs n q rest (or_rest (eqb q x) (list_any (eqb q) xs) w.0 h) ]

few : (xs : List ℕ) (n : ℕ) → AreDistinct xs → AreBelow n xs → length xs ≤ n
few xs n d b = length-le_from_distinct_below xs n (distinct xs d) (λ q h. below xs n q b h)

-- CHAINS

-- a stream's members are few: mini sectors since the stream is small, and sectors since each has a number of its own
few_one : (bytes fat mini_fat directory : List ℕ) (k limit : ℕ) (c : List ℕ) (b : Bool)
    → is_mini (size bytes directory k) ≡ b
    → limit ≤ MAX_REGULAR_SECTOR + 1
    → IsChain (successor bytes (cond b mini_fat fat)) (start_sector bytes directory k) (div_ceil (size bytes directory k) (cond b 64 (sector_size bytes))) c
    → AreBelow limit (cond b [] c)
    → AreDistinct (cond b [] c)
    → length c < 2 ^ 32
few_one bytes fat mini_fat directory k limit c true z l h b d =
    let small : size bytes directory k < 4096 = ltb-true _ _ z in
    let t = div_ceil_times (size bytes directory k) 64 (omega arith) in
    omega (arith, t.1, h.long)
few_one bytes fat mini_fat directory k limit c false z l h b d = omega (arith, few c limit d b)

few_each : (bytes fat mini_fat directory : List ℕ) (limit : ℕ) (ks : List ℕ) (cs : List (List ℕ))
    → limit ≤ MAX_REGULAR_SECTOR + 1
    → AllZip (IsMembers bytes fat mini_fat directory) ks cs
    → AreBelow limit (all_sectors bytes directory ks cs)
    → AreDistinct (all_sectors bytes directory ks cs)
    → AllZip {A = ℕ} {B = List ℕ} (λ entry chain. length chain < 2 ^ 32) ks cs
few_each bytes fat mini_fat directory limit [] [] l h b d = tt
few_each bytes fat mini_fat directory limit [] (c ∷ cs) l h b d = absurd h
few_each bytes fat mini_fat directory limit (k ∷ ks) [] l h b d = absurd h
few_each bytes fat mini_fat directory limit (k ∷ ks) (c ∷ cs) l h b d =
    let here = sectors_in bytes directory (k, c) in
    let others = all_sectors bytes directory ks cs in (
      few_one bytes fat mini_fat directory k limit c (is_mini (size bytes directory k)) refl l h.0 (below_front limit here others b) (distinct_front here others d),
      few_each bytes fat mini_fat directory limit ks cs l h.1 (below_back limit here others b) (distinct_back here others d),
    )

-- where tables and entries have other names
module _ (copy bytes fat_places fats mini_places places entries mini_stream : List ℕ) (limit : ℕ) (used ks : List ℕ) (same : bytes ≡ copy) (tables : fats ≡ fat_places) (directories : entries ≡ places) where
  seen : (chains : List (List ℕ)) → AreChained bytes fats mini_places entries mini_stream limit used ks chains → AreChained copy fat_places mini_places places mini_stream limit used ks chains
  seen chains m = rw (same, tables, directories) at m

  -- what was chained in the copy is chained in the file
  pub chains_found : (chains : List (List ℕ))
      → AreBelow (entry_count copy places) ks
      → AreChained bytes fats mini_places entries mini_stream limit used ks chains
      → (file fat mini_fat directory : List ℕ) → HasHeaderOf file copy → AreCopied file copy fat fat_places → AreCopied file copy mini_fat mini_places → AreCopied file copy directory places
      → AreChained file fat mini_fat directory mini_stream limit used ks chains
  chains_found chains b m file fat mini_fat directory h f n d =
      let below = subst (λ count. AreBelow count ks) (same_entry_count file copy directory places h d) b in
      chained_of_copy file copy fat fat_places mini_fat mini_places directory places h f n d mini_stream limit used ks chains below (seen chains m)

  -- and what is chained in the file is chained in the copy
  pub chains_in_copy : (chains : List (List ℕ))
      → AreBelow (entry_count copy places) ks
      → (file fat mini_fat directory : List ℕ) → HasHeaderOf file copy → AreCopied file copy fat fat_places → AreCopied file copy mini_fat mini_places → AreCopied file copy directory places
      → AreChained file fat mini_fat directory mini_stream limit used ks chains
      → AreChained bytes fats mini_places entries mini_stream limit used ks chains
  chains_in_copy chains b file fat mini_fat directory h f n d m =
      let below = subst (λ count. AreBelow count ks) (same_entry_count file copy directory places h d) b in
      rw (same, tables, directories) (chained_in_copy file copy fat fat_places mini_fat mini_places directory places h f n d mini_stream limit used ks chains below m)

  pub chains_covered : (chains : List (List ℕ)) → AreChained bytes fats mini_places entries mini_stream limit used ks chains → AllZip (IsCovered copy mini_stream places) ks chains
  chains_covered chains m =
      let chained = seen chains m in
      covered copy fat_places mini_places mini_stream places ks chains (some_size copy) chained.chained chained.mini_room.below

  pub chains_few : (chains : List (List ℕ)) → limit ≤ MAX_REGULAR_SECTOR + 1 → AreChained bytes fats mini_places entries mini_stream limit used ks chains → AllZip {A = ℕ} {B = List ℕ} (λ entry chain. length chain < 2 ^ 32) ks chains
  chains_few chains l m =
      let chained = seen chains m in
      few_each copy fat_places mini_places places limit ks chains l chained.chained chained.room.below (distinct_back used (all_sectors copy places ks chains) chained.room.distinct)
