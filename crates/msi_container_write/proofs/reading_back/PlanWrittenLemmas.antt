-- The plan that the grammar finds in a layout.
use Rattle.std.proofs.Common.{◌≡◌, ℕ, suc, ◌+◌, ◌-◌, ◌<◌, Bool, true, false, cond, eqb, List, [], ◌∷◌, length, get_or, map, inr, sym, ◌∙◌, ap, subst, arith, refl}
use Rattle.std.specs.List.{flat_map, zip, AllZip, list_any}
use Rattle.std.proofs.lemmas.List.Folds.{flat_map-map}
use Rattle.std.proofs.lemmas.Simd.{map-map}
use Rattle.msi_container_format.specs.Container as container
use Rattle.msi_container_format.specs.Container.{Plan, streams_among, IsEntry, IsMembers, is_mini, stream_byte, stream_bytes}
use Rattle.msi_container_format.specs.Trees.{Tree, members}
use Rattle.msi_container_write.specs.SpelledParts.{fat_behind, difat_behind}
use Rattle.msi_container_write.proofs.directories.BalanceLemmas.{Covers}
use Rattle.msi_container_write.proofs.placing.PlacedLemmas.{NamedStreams, stream_at, name_at, bytes_of, members_at, large_at, mini_at, directory_run, mini_fat_members, mini_stream_members, IsDirectoryRead, AreStreamsRead, byte_read}
use Rattle.msi_container_write.proofs.placing.RangeLemmas.{map_range_same}
use Rattle.msi_container_write.proofs.reading_back.ApartLemmas.{large_among, mini_among}
use Rattle.msi_container_write.proofs.placing.ZippedLemmas.{filter_all, zip_map, flat_map_same, map_same, all_zip_map}

-- what holds of each entry from 1 to n holds of each member
pub each_member : (P : ℕ → Type 0) (n : ℕ) (ms : List ℕ) → Covers 1 n ms → ((i : ℕ) → i < n → P (i + 1)) → (j : ℕ) → j < length ms → P (get_or ms j 0)
each_member P n ms covers h j l =
    let within = covers.within j l in
    let next : get_or ms j 0 - 1 + 1 ≡ get_or ms j 0 = omega (arith, within.0) in
    subst P next (h (get_or ms j 0 - 1) (omega (arith, within.0, within.1)))

-- a test that none passes
pub none_passes : (p : ℕ → Bool) (xs : List ℕ) → ((i : ℕ) → i < length xs → p (get_or xs i 0) ≡ false) → list_any p xs ≡ false
none_passes p [] h = refl
none_passes p (x ∷ xs) h = rw (h 0 (omega arith)) (none_passes p xs (λ i l. h (suc i) (omega arith)))

-- the plan: the parts in their sectors, the tree, and each stream's members
abbrev pub plan_of : List (List ℕ) → ℕ → NamedStreams → Tree → Plan
plan_of parts total streams t = record {
  difat = difat_behind parts total;
  fat = fat_behind parts total;
  directory = directory_run streams;
  mini_fat = mini_fat_members streams;
  mini_stream = mini_stream_members streams;
  tree = t;
  chains = map (λ k. members_at streams (k - 1)) (members t);
}

module _ (bytes clsid : List ℕ) (streams : NamedStreams) (parts : List (List ℕ)) (total : ℕ) (t : Tree) (covers : Covers 1 (length streams) (members t)) (read : IsDirectoryRead bytes (directory_run streams) clsid streams) where
  -- a stream's entry and its members
  abbrev HasMembers : ℕ → List ℕ → Type 0
  HasMembers = IsMembers bytes (fat_behind parts total) (mini_fat_members streams) (directory_run streams)

  -- all members are streams
  pub all_streams : streams_among bytes (directory_run streams) (members t) ≡ members t
  all_streams = filter_all (λ k. eqb (container.kind bytes (directory_run streams) k) 2) (members t)
      (each_member (λ k. eqb (container.kind bytes (directory_run streams) k) 2 ≡ true) (length streams) (members t) covers
      (λ i l. rw ((read.streams_read i l).is_stream) refl))

  -- none is a storage
  pub no_storage : container.has_storage bytes (directory_run streams) (members t) ≡ false
  no_storage = none_passes (λ k. eqb (container.kind bytes (directory_run streams) k) 1) (members t)
      (each_member (λ k. eqb (container.kind bytes (directory_run streams) k) 1 ≡ false) (length streams) (members t) covers
      (λ i l. rw ((read.streams_read i l).is_stream) refl))

  pub entries_are : container.AreEntries bytes (directory_run streams) (members t)
  entries_are = each_member (IsEntry bytes (directory_run streams)) (length streams) (members t) covers
      (λ i l. let e = read.streams_read i l in record { kinds = inr e.is_stream; named = e.named })

  -- each entry with its members
  pub streams_are : zip (container.stream_entries bytes (plan_of parts total streams t)) (plan_of parts total streams t).chains ≡ map (λ k. (k, members_at streams (k - 1))) (members t)
  streams_are =
      ap (λ ks. zip ks (map (λ k. members_at streams (k - 1)) (members t))) all_streams
      ∙ zip_map (λ k. members_at streams (k - 1)) (members t)

  -- an entry is small exactly if its stream is
  small_is : (i : ℕ) → i < length streams → is_mini (container.size bytes (directory_run streams) (i + 1)) ≡ is_mini (length (bytes_of streams i))
  small_is i l = rw ((read.streams_read i l).size) refl

  -- the sectors of the large streams, and the mini sectors of the small ones
  large_of : (i : ℕ) → i < length streams → cond (is_mini (container.size bytes (directory_run streams) (i + 1))) [] (members_at streams i) ≡ large_at streams i
  large_of i l = rw (small_is i l) (kept (is_mini (length (bytes_of streams i))) refl)
    where
      kept : (b : Bool) → is_mini (length (bytes_of streams i)) ≡ b → cond b [] (members_at streams i) ≡ large_at streams i
      kept true e = rw e refl
      kept false e = rw e refl

  mini_of : (i : ℕ) → i < length streams → cond (is_mini (container.size bytes (directory_run streams) (i + 1))) (members_at streams i) [] ≡ mini_at streams i
  mini_of i l = rw (small_is i l) (kept (is_mini (length (bytes_of streams i))) refl)
    where
      kept : (b : Bool) → is_mini (length (bytes_of streams i)) ≡ b → cond b (members_at streams i) [] ≡ mini_at streams i
      kept true e = rw e refl
      kept false e = rw e refl

  pub large_are : container.sectors_of_streams bytes (plan_of parts total streams t) ≡ large_among streams (members t)
  large_are =
      ap (flat_map (λ (x : ℕ × List ℕ). cond (is_mini (container.size bytes (directory_run streams) x.0)) [] x.1)) streams_are
      ∙ flat_map-map (λ (x : ℕ × List ℕ). cond (is_mini (container.size bytes (directory_run streams) x.0)) [] x.1) (λ k. (k, members_at streams (k - 1))) (members t)
      ∙ flat_map_same (λ k. cond (is_mini (container.size bytes (directory_run streams) k)) [] (members_at streams (k - 1))) (λ k. large_at streams (k - 1)) (members t)
      (each_member (λ k. cond (is_mini (container.size bytes (directory_run streams) k)) [] (members_at streams (k - 1)) ≡ large_at streams (k - 1)) (length streams) (members t) covers
      (λ i l. let e : i + 1 - 1 ≡ i = omega arith in rw e (large_of i l)))

  pub mini_are : container.mini_sectors_of_streams bytes (plan_of parts total streams t) ≡ mini_among streams (members t)
  mini_are =
      ap (flat_map (λ (x : ℕ × List ℕ). cond (is_mini (container.size bytes (directory_run streams) x.0)) x.1 [])) streams_are
      ∙ flat_map-map (λ (x : ℕ × List ℕ). cond (is_mini (container.size bytes (directory_run streams) x.0)) x.1 []) (λ k. (k, members_at streams (k - 1))) (members t)
      ∙ flat_map_same (λ k. cond (is_mini (container.size bytes (directory_run streams) k)) (members_at streams (k - 1)) []) (λ k. mini_at streams (k - 1)) (members t)
      (each_member (λ k. cond (is_mini (container.size bytes (directory_run streams) k)) (members_at streams (k - 1)) [] ≡ mini_at streams (k - 1)) (length streams) (members t) covers
      (λ i l. let e : i + 1 - 1 ≡ i = omega arith in rw e (mini_of i l)))

  module _ (size : container.sector_size bytes ≡ 512) (chained : AreStreamsRead bytes (fat_behind parts total) streams) where
    -- a stream's members are its chain
    chain_of : (i : ℕ) → i < length streams → HasMembers (i + 1) (members_at streams i)
    chain_of i l = let e = read.streams_read i l in rw (e.size, e.start, size) (chained.chains i l)

    pub chains_are : AllZip HasMembers (container.stream_entries bytes (plan_of parts total streams t)) (plan_of parts total streams t).chains
    chains_are =
        let f : ℕ → List ℕ = λ k. members_at streams (k - 1) in
        let Q : List ℕ → Type 0 = λ ks. AllZip HasMembers ks (map f (members t)) in
        subst Q (sym all_streams) (all_zip_map HasMembers f (members t)
        (each_member (λ k. HasMembers k (f k)) (length streams) (members t) covers
        (λ i l. let e : i + 1 - 1 ≡ i = omega arith in rw e (chain_of i l))))

    -- a stream's name and bytes are read back
    stream_is : (i : ℕ) → i < length streams → (container.name bytes (directory_run streams) (i + 1), stream_bytes bytes (mini_stream_members streams) (directory_run streams) (i + 1) (members_at streams i)) ≡ stream_at streams i
    stream_is i l =
        let e = read.streams_read i l in
        let content : stream_bytes bytes (mini_stream_members streams) (directory_run streams) (i + 1) (members_at streams i) ≡ bytes_of streams i =
        map_range_same (stream_byte bytes (mini_stream_members streams) (directory_run streams) (i + 1) (members_at streams i)) (byte_read bytes streams i) _ (length (bytes_of streams i)) e.size (λ q b. rw (e.size, size) refl)
        ∙ chained.contents i l in
        ap (λ (x : List ℕ). (x, stream_bytes bytes (mini_stream_members streams) (directory_run streams) (i + 1) (members_at streams i))) e.name
        ∙ ap (λ (x : List ℕ). (name_at streams i, x)) content

    pub contents_are : container.named_bytes bytes (mini_stream_members streams) (directory_run streams) (container.stream_entries bytes (plan_of parts total streams t)) (plan_of parts total streams t).chains ≡ map (λ k. stream_at streams (k - 1)) (members t)
    contents_are =
        let g : ℕ × List ℕ → List ℕ × List ℕ = λ x. (container.name bytes (directory_run streams) x.0, stream_bytes bytes (mini_stream_members streams) (directory_run streams) x.0 x.1) in
        ap (map g) streams_are
        ∙ map-map g (λ k. (k, members_at streams (k - 1))) (members t)
        ∙ map_same (λ k. g (k, members_at streams (k - 1))) (λ k. stream_at streams (k - 1)) (members t)
        (each_member (λ k. g (k, members_at streams (k - 1)) ≡ stream_at streams (k - 1)) (length streams) (members t) covers
        (λ i l. let e : i + 1 - 1 ≡ i = omega arith in rw e (stream_is i l)))
