-- The plan that the parts of a file make, in the order in which they are read, and the parts of a plan.
use Rattle.std.proofs.Common.{◌≡◌, ℕ, ◌*◌, ◌/◌, ◌<◌, Bool, true, false, cond, eqb, List, [], ◌++◌, length, inl, inr, ◌∙◌, ap, subst, arith, refl, Result, Err, Some}
use Rattle.std.proofs.lemmas.List.{append_assoc}
use Rattle.msi_base.specs.declared.errors.ErrorKind.{ErrorKind}
use Rattle.msi_base.specs.declared.errors.ErrorKind.TheVariants.{InvalidData, OutOfMemory}
use Rattle.msi_container_format.specs.Chains.{AreBelow}
use Rattle.msi_container_format.specs.Trees.{Tree, members}
use Rattle.msi_container_format.specs.Container.{Plan, IsSector, fat_of, version, sector_size, streams_among, sectors_of_streams, all_sectors}
use Rattle.msi_container_tables.specs.Claims.{CanClaim}
use Rattle.msi_container_tables.specs.Outcomes.{FailsByData}
use Rattle.msi_container_tables.specs.Paths.{IsPath, IsStorageTree}
use Rattle.msi_container_tables.specs.Reading.{mini_limit, IsStart, IsMini, AreChained}
use Rattle.msi_container_tables.proofs.chains.ClaimedLemmas.{below_front, below_back, below_both, claim_front, claim_back}
use Rattle.msi_container_read.specs.Storages.{IsPlanAt, HasDirectory}

-- the limit tells sectors
pub record Limits (bytes : List ℕ) (limit : ℕ) : Type 0 where
  pub within : (n : ℕ) → n < limit → IsSector bytes n
  pub all : (n : ℕ) → IsSector bytes n → n < limit

-- MINI SECTORS

-- sectors are whole numbers of mini sectors
pub mini_in_sector : (bytes : List ℕ) → sector_size bytes ≡ 64 * (sector_size bytes / 64)
mini_in_sector bytes = sized (eqb (version bytes) 4)
  where
    sized : (b : Bool) → cond b 4096 512 ≡ 64 * (cond b 4096 512 / 64)
    sized true = refl
    sized false = refl

pub mini_within : (bytes mini_stream : List ℕ) (m : ℕ) → m < mini_limit bytes mini_stream → 64 * m < length mini_stream * sector_size bytes
mini_within bytes mini_stream m l =
    let q = sector_size bytes / 64 in
    let e : length mini_stream * sector_size bytes ≡ 64 * (length mini_stream * q) = ap (λ n. length mini_stream * n) (mini_in_sector bytes) ∙ omega arith in
    omega arith

pub mini_below : (bytes mini_stream : List ℕ) (m : ℕ) → 64 * m < length mini_stream * sector_size bytes → m < mini_limit bytes mini_stream
mini_below bytes mini_stream m l =
    let q = sector_size bytes / 64 in
    let e : length mini_stream * sector_size bytes ≡ 64 * (length mini_stream * q) = ap (λ n. length mini_stream * n) (mini_in_sector bytes) ∙ omega arith in
    omega arith

-- FROM THE PARTS TO THE PLAN

abbrev pub plan_of : (difat fat directory mini_fat mini_stream : List ℕ) → Tree → List (List ℕ) → Plan
plan_of difat fat directory mini_fat mini_stream tree chains = record {
  difat = difat;
  fat = fat;
  directory = directory;
  mini_fat = mini_fat;
  mini_stream = mini_stream;
  tree = tree;
  chains = chains;
}

pub to_plan : (path : List (List ℕ)) (storage : ℕ) (bytes : List ℕ) (limit : ℕ) (difat fat directory mini_fat mini_stream : List ℕ) (tree : Tree) (cs : List (List ℕ))
    → Limits bytes limit
    → IsStart bytes limit difat fat directory
    → IsPath bytes directory path (Some storage)
    → IsStorageTree bytes directory storage tree
    → IsMini bytes limit (difat ++ fat ++ directory) fat directory mini_fat mini_stream
    → AreChained bytes fat mini_fat directory mini_stream limit (difat ++ fat ++ directory ++ mini_fat ++ mini_stream) (streams_among bytes directory (members tree)) cs
    → IsPlanAt bytes path storage (plan_of difat fat directory mini_fat mini_stream tree cs)
to_plan path storage bytes limit difat fat directory mini_fat mini_stream tree cs limits s reached t m u =
    let start = difat ++ fat ++ directory in
    let all = start ++ mini_fat ++ mini_stream in
    let minis = below_both limit mini_fat mini_stream (below_front limit mini_fat mini_stream m.room.below) (below_back limit mini_fat mini_stream m.room.below) in
    let before : AreBelow limit all = rw append_assoc (below_both limit start (mini_fat ++ mini_stream) s.room.below minis) in
    record {
      header = s.header;
      difat = s.difats;
      fat = s.fats;
      directory = s.chain;
      reached = reached;
      listing = t;
      mini_fat = m.table;
      mini_stream = m.stream;
      streams = u.chained;
      sectors = λ i l. limits.within _ (below_both limit all (all_sectors bytes directory (streams_among bytes directory (members tree)) cs) before u.room.below i l);
      distinct = u.room.distinct;
      mini_sectors = λ i l. mini_within bytes mini_stream _ (u.mini_room.below i l);
      mini_distinct = u.mini_room.distinct;
    }

-- FROM THE PLAN TO THE PARTS

abbrev pub starts : Plan → List ℕ
starts p = p.difat ++ p.fat ++ p.directory

abbrev pub befores : Plan → List ℕ
befores p = starts p ++ p.mini_fat ++ p.mini_stream

room_of : {path : List (List ℕ)} {storage : ℕ} (bytes : List ℕ) (limit : ℕ) (p : Plan) → Limits bytes limit → IsPlanAt bytes path storage p → CanClaim limit [] (befores p ++ sectors_of_streams bytes p)
room_of bytes limit p limits h = record { below = λ i l. limits.all _ (h.sectors i l); distinct = h.distinct }

pub start_of : {path : List (List ℕ)} {storage : ℕ} (bytes : List ℕ) (limit : ℕ) (p : Plan) → Limits bytes limit → IsPlanAt bytes path storage p → IsStart bytes limit p.difat p.fat p.directory
start_of bytes limit p limits h =
    let room = room_of bytes limit p limits h in
    let before = claim_front limit [] (befores p) (sectors_of_streams bytes p) room in
    let fronted : CanClaim limit [] (starts p ++ (p.mini_fat ++ p.mini_stream)) = let P : List ℕ → Type 0 = λ xs. CanClaim limit [] xs in subst P (append_assoc (starts p) p.mini_fat p.mini_stream) before in
    record { header = h.header; difats = h.difat; fats = h.fat; chain = h.directory; room = claim_front limit [] (starts p) (p.mini_fat ++ p.mini_stream) fronted }

pub mini_of : {path : List (List ℕ)} {storage : ℕ} (bytes : List ℕ) (limit : ℕ) (p : Plan) → Limits bytes limit → IsPlanAt bytes path storage p → IsMini bytes limit (starts p) p.fat p.directory p.mini_fat p.mini_stream
mini_of bytes limit p limits h =
    let room = room_of bytes limit p limits h in
    let before = claim_front limit [] (befores p) (sectors_of_streams bytes p) room in
    let fronted : CanClaim limit [] (starts p ++ (p.mini_fat ++ p.mini_stream)) = let P : List ℕ → Type 0 = λ xs. CanClaim limit [] xs in subst P (append_assoc (starts p) p.mini_fat p.mini_stream) before in
    record { table = h.mini_fat; stream = h.mini_stream; room = claim_back limit [] (starts p) (p.mini_fat ++ p.mini_stream) fronted }

pub chained_of : {path : List (List ℕ)} {storage : ℕ} (bytes : List ℕ) (limit : ℕ) (p : Plan) → Limits bytes limit → IsPlanAt bytes path storage p → AreChained bytes p.fat p.mini_fat p.directory p.mini_stream limit (befores p) (streams_among bytes p.directory (members p.tree)) p.chains
chained_of bytes limit p limits h = record {
  chained = h.streams;
  room = claim_back limit [] (befores p) (sectors_of_streams bytes p) (room_of bytes limit p limits h);
  mini_room = record { below = λ i l. mini_below bytes p.mini_stream _ (h.mini_sectors i l); distinct = h.mini_distinct };
}

-- a directory that can be read is one whose sectors can be claimed
pub start_of_directory : (bytes : List ℕ) (limit : ℕ) (difat directory : List ℕ) → Limits bytes limit → HasDirectory bytes difat directory → IsStart bytes limit difat (fat_of bytes difat) directory
start_of_directory bytes limit difat directory limits h = record {
  header = h.header;
  difats = h.difats;
  fats = refl;
  chain = h.chain;
  room = record { below = λ i l. limits.all _ (h.sectors i l); distinct = h.distinct };
}

pub directory_of_start : (bytes : List ℕ) (limit : ℕ) (difat fat directory : List ℕ) → Limits bytes limit → IsStart bytes limit difat fat directory → HasDirectory bytes difat directory
directory_of_start bytes limit difat fat directory limits s =
    let t : IsStart bytes limit difat (fat_of bytes difat) directory = rw s.fats at s in
    record { header = t.header; difats = t.difats; chain = t.chain; sectors = λ i l. limits.within _ (t.room.below i l); distinct = t.room.distinct }

-- an error that isn't the data's is for want of memory
pub memory_left : {X : Type 0} (e : ErrorKind) → FailsByData {X = X} (Err e) → (◌≡◌ {A = Result X ErrorKind} (Err e) (Err InvalidData) → ⊥) → e ≡ OutOfMemory
memory_left e (inl d) n = absurd (n (ap Err d))
memory_left e (inr m) n = m
