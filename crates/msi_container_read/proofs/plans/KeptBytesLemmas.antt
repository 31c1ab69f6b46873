-- Why the streams that a file holds have together no more bytes than the file, rounded up to a whole sector.
use Rattle.std.proofs.Common.{◌≡◌, ◌≢◌, ℕ, suc, ◌+◌, ◌-◌, ◌*◌, ◌/◌, ◌<◌, ◌≤◌, Bool, true, false, cond, eqb, ◌||◌, List, [], ◌∷◌, ◌++◌, length, get_or, inl, inr, sym, ◌∙◌, ap, subst, arith}
use Rattle.std.specs.List.{AllZip, AllByRecursion, IsDistinct, list_any, sum_by}
use Rattle.std.specs.Int.{div_ceil}
use Rattle.std.specs.FinMap.{from_entries, entries, entries-insert, len-entries, len-empty}
use Rattle.std.specs.FinMap.Entries.{put, by_order}
use Rattle.std.specs.declared.cmp.Ordering.{Ordering}
use Rattle.std.specs.declared.cmp.Ordering.TheVariants.{Less, Equal, Greater}
use Rattle.std.proofs.Math.Nat.{mul-add}
use Rattle.std.proofs.lemmas.Bool.{false≢true}
use Rattle.std.proofs.lemmas.Bool.Decides.{eqb_tells}
use Rattle.std.proofs.lemmas.Grind.{div_ceil_times}
use Rattle.std.proofs.lemmas.List.{length-append}
use Rattle.std.proofs.lemmas.List.FromFn.{length-map-range_with_len}
use Rattle.std.proofs.lemmas.List.Sums.{sum_by-cons}
use Rattle.std.proofs.lemmas.Map.Keys.{IsDistinct-cons}
use Rattle.std.proofs.lemmas.Map.Steps.{length-le_from_distinct_below}
use Rattle.msi_container_format.specs.Chains.{AreBelow, AreDistinct, IsChain}
use Rattle.msi_container_format.specs.Names.{name_cmp}
use Rattle.msi_container_format.specs.declared.contents.Contents.{Contents}
use Rattle.msi_container_format.specs.Container.{Plan, IsSector, IsMembers, version, sector_size, size, start_sector, successor, is_mini, name, stream_bytes, sectors_in, mini_sectors_in, all_sectors, all_mini_sectors, named_bytes, stream_entries, sectors_used, sectors_of_streams, mini_sectors_of_streams}
use Rattle.msi_container_format.proofs.NamesLemmas.{names_total}
use Rattle.msi_container_tables.specs.Reading.{mini_limit}
use Rattle.msi_container_read.specs.Storages.{IsPlanAt, HoldsAt, contents_at}
use Rattle.msi_container_tables.specs.Counts.{sectors_inside}
use Rattle.msi_container_read.specs.Steps.{bytes_kept, rounded_length}
use Rattle.msi_container_tables.proofs.parts.ListingLemmas.{some_size}
use Rattle.msi_container_read.proofs.plans.PlanPartsLemmas.{mini_below}

-- DISTINCT NUMBERS BELOW A LIMIT

apart : (x : ℕ) (xs : List ℕ) → ((j : ℕ) → j < length xs → x ≢ get_or xs j 0) → AllByRecursion (λ y. eqb x y ≡ false) xs
apart x [] h = tt
apart x (y ∷ ys) h =
    let rest = apart x ys (λ j l. h (suc j) (omega arith)) in
    elim (eqb_tells x y) [ inl w ↦ absurd (h 0 (omega arith) w.1) | inr w ↦ (w.0, rest) ]

distinct : (xs : List ℕ) → AreDistinct xs → IsDistinct eqb xs
unfolding IsDistinct
distinct [] d = tt
distinct (x ∷ xs) d =
    IsDistinct-cons eqb x xs (apart x xs (λ j l. d 0 (suc j) (omega arith) (omega arith)))
    (distinct xs (λ i j l h. d (suc i) (suc j) (omega arith) (omega arith)))

or_rest : (a b : Bool) → a ≡ false → (a || b) ≡ true → b ≡ true
or_rest true b e h = absurd cc
or_rest false b e h = h

below : (xs : List ℕ) (n q : ℕ) → AreBelow n xs → list_any (eqb q) xs ≡ true → q < n
below [] n q b h = absurd (false≢true h)
below (x ∷ xs) n q b h =
    let rest : AreBelow n xs = λ i l. b (suc i) (omega arith) in
    let here : x < n = b 0 (omega arith) in
    elim (eqb_tells q x) [ inl w ↦ omega (arith, w.1) | inr w ↦ below xs n q rest (or_rest (eqb q x) (list_any (eqb q) xs) w.0 h) ]

few : (xs : List ℕ) (n : ℕ) → AreDistinct xs → AreBelow n xs → length xs ≤ n
few xs n d b = length-le_from_distinct_below xs n (distinct xs d) (λ q h. below xs n q b h)

-- THE BYTES OF A MAP'S STREAMS

abbrev weight : List ℕ × List ℕ → ℕ
weight e = length e.1

put_adds : (k v : List ℕ) (e : List ℕ × List ℕ) (es : List (List ℕ × List ℕ)) (o : Ordering)
    → sum_by weight (put name_cmp k v es) ≤ length v + sum_by weight es
    → sum_by weight (by_order o ((k, v) ∷ e ∷ es) ((e.0, v) ∷ es) (e ∷ put name_cmp k v es)) ≤ length v + sum_by weight (e ∷ es)
put_adds k v e es Less h = omega (arith, sum_by-cons weight (k, v) (e ∷ es))
put_adds k v e es Equal h = omega (arith, sum_by-cons weight (e.0, v) es, sum_by-cons weight e es)
put_adds k v e es Greater h = omega (arith, sum_by-cons weight e (put name_cmp k v es), sum_by-cons weight e es)

-- an entry adds no more than its own bytes
put_weight : (k v : List ℕ) (es : List (List ℕ × List ℕ)) → sum_by weight (put name_cmp k v es) ≤ length v + sum_by weight es
put_weight k v [] = omega arith
put_weight k v (e ∷ es) = put_adds k v e es (name_cmp k e.0) (put_weight k v es)

no_weight : (es : List (List ℕ × List ℕ)) → length es ≡ 0 → sum_by weight es ≤ 0
no_weight [] e = omega arith
no_weight (x ∷ es) e = absurd (omega arith)

map_weight : (es : List (List ℕ × List ℕ)) → sum_by weight (entries (from_entries {R = name_cmp} es)) ≤ sum_by weight es
map_weight [] = no_weight _ (sym (len-entries (from_entries {R = name_cmp} [])) ∙ len-empty name_cmp (List ℕ))
map_weight (e ∷ es) =
    let grown = put_weight e.0 e.1 (entries (from_entries {R = name_cmp} es)) in
    rw (entries-insert names_total (from_entries {R = name_cmp} es) e.0 e.1) (omega (arith, map_weight es, sum_by-cons weight e es))

-- THE MEMBERS OF STREAMS

-- a stream's members hold its bytes
held_one : (bytes fat mini_fat directory : List ℕ) (k : ℕ) (c : List ℕ) (b : Bool) (n : ℕ)
    → 0 < sector_size bytes
    → IsChain (successor bytes (cond b mini_fat fat)) (start_sector bytes directory k) (div_ceil n (cond b 64 (sector_size bytes))) c
    → n ≤ sector_size bytes * length (cond b [] c) + 64 * length (cond b c [])
held_one bytes fat mini_fat directory k c true n z h = let t = div_ceil_times n 64 (omega arith) in omega (arith, t.0, h.long)
held_one bytes fat mini_fat directory k c false n z h =
    let t = (div_ceil_times n (sector_size bytes) z).0 in
    let e : div_ceil n (sector_size bytes) * sector_size bytes ≡ sector_size bytes * length c = rw h.long (omega arith) in
    omega arith

held : (bytes fat mini_fat mini_stream directory ks : List ℕ) (cs : List (List ℕ))
    → AllZip (IsMembers bytes fat mini_fat directory) ks cs
    → sum_by weight (named_bytes bytes mini_stream directory ks cs)
    ≤ sector_size bytes * length (all_sectors bytes directory ks cs) + 64 * length (all_mini_sectors bytes directory ks cs)
held bytes fat mini_fat mini_stream directory [] cs h = omega arith
held bytes fat mini_fat mini_stream directory (k ∷ ks) [] h = absurd h
held bytes fat mini_fat mini_stream directory (k ∷ ks) (c ∷ cs) h =
    let s = sector_size bytes in
    let one = held_one bytes fat mini_fat directory k c (is_mini (size bytes directory k)) (size bytes directory k) (some_size bytes) h.0 in
    let rest = held bytes fat mini_fat mini_stream directory ks cs h.1 in
    let here = sectors_in bytes directory (k, c) in
    let mini_here = mini_sectors_in bytes directory (k, c) in
    let others = all_sectors bytes directory ks cs in
    let mini_others = all_mini_sectors bytes directory ks cs in
    let sectors : s * length (here ++ others) ≡ s * length here + s * length others = rw (length-append here others) (mul-add s (length here) (length others)) in
    let long : length (stream_bytes bytes mini_stream directory k c) ≡ size bytes directory k = length-map-range_with_len _ 0 _ in
    omega (
      arith,
      one,
      rest,
      sectors,
      long,
      length-append mini_here mini_others,
      sum_by-cons weight (name bytes directory k, stream_bytes bytes mini_stream directory k c) (named_bytes bytes mini_stream directory ks cs),
    )

-- THE WHOLE

-- a sector is one of those that start inside the file
inside : (bytes : List ℕ) (n : ℕ) → IsSector bytes n → n < sectors_inside bytes
inside bytes n h = sized (eqb (version bytes) 4) h.1
  where
    sized : (b : Bool) → (n + 1) * cond b 4096 512 < length bytes → n < (length bytes - 1) / cond b 4096 512
    sized true l = omega arith
    sized false l = omega arith

used_few : {path : List (List ℕ)} {storage : ℕ} (bytes : List ℕ) (p : Plan) → IsPlanAt bytes path storage p → length (sectors_used bytes p) ≤ sectors_inside bytes
used_few bytes p h = few (sectors_used bytes p) (sectors_inside bytes) h.distinct (λ i l. inside bytes _ (h.sectors i l))

minis_few : {path : List (List ℕ)} {storage : ℕ} (bytes : List ℕ) (p : Plan) → IsPlanAt bytes path storage p → length (mini_sectors_of_streams bytes p) ≤ mini_limit bytes p.mini_stream
minis_few bytes p h =
    few (mini_sectors_of_streams bytes p) (mini_limit bytes p.mini_stream) h.mini_distinct (λ i l. mini_below bytes p.mini_stream _ (h.mini_sectors i l))

-- sectors that start inside a file, with their bytes
room : (bytes : List ℕ) (streams minis stream : ℕ)
    → streams + stream ≤ sectors_inside bytes
    → minis ≤ stream * (sector_size bytes / 64)
    → sector_size bytes * streams + 64 * minis ≤ rounded_length bytes
room bytes streams minis stream = sized (eqb (version bytes) 4)
  where
    sized : (b : Bool)
        → streams + stream ≤ (length bytes - 1) / cond b 4096 512
        → minis ≤ stream * (cond b 4096 512 / 64)
        → cond b 4096 512 * streams + 64 * minis ≤ div_ceil (length bytes) (cond b 4096 512) * cond b 4096 512
    sized true l m = let t = (div_ceil_times (length bytes) 4096 (omega arith)).0 in omega arith
    sized false l m = let t = (div_ceil_times (length bytes) 512 (omega arith)).0 in omega arith

kept_plan : {path : List (List ℕ)} {storage : ℕ} (bytes : List ℕ) (p : Plan) → IsPlanAt bytes path storage p → bytes_kept (contents_at bytes storage p) ≤ rounded_length bytes
kept_plan bytes p h =
    let named = named_bytes bytes p.mini_stream p.directory (stream_entries bytes p) p.chains in
    let streams = sectors_of_streams bytes p in
    let before = p.difat ++ p.fat ++ p.directory ++ p.mini_fat in
    let all : length (sectors_used bytes p) ≡ length before + length p.mini_stream + length streams =
    length-append (before ++ p.mini_stream) streams ∙ ap (λ n. n + length streams) (length-append before p.mini_stream) in
    let whole = room bytes (length streams) (length (mini_sectors_of_streams bytes p)) (length p.mini_stream) (omega (arith, used_few bytes p h, all)) (minis_few bytes p h) in
    omega (arith, whole, map_weight named, held bytes p.fat p.mini_fat p.mini_stream p.directory (stream_entries bytes p) p.chains h.streams)

pub kept : {path : List (List ℕ)} (bytes : List ℕ) (contents : Contents) → HoldsAt bytes path contents → bytes_kept contents ≤ rounded_length bytes
kept bytes contents (k, p, h, e) = let P : Contents → Type 0 = λ x. bytes_kept x ≤ rounded_length bytes in subst P (sym e) (kept_plan bytes p h)
