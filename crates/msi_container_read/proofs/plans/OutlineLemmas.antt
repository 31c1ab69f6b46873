-- What the parts of a file say of its plan, where the code has sectors and entries under other names: behind a slice, or
-- as they stood before a call. Over plain lists and numbers, since a function that owns all parts has long goals.
use Rattle.std.proofs.Common.{◌≡◌, ℕ, ◌+◌, ◌-◌, ◌<◌, ◌≤◌, ◌^◌, Bool, List, ◌++◌, length, sum_by, inl, sym, ◌∙◌, ap, arith, refl, Option, Some, None}
use Rattle.msi_container_format.specs.Chains.{AreBelow}
use Rattle.msi_container_format.specs.Format.{MAX_REGULAR_SECTOR}
use Rattle.msi_container_format.specs.Trees.{Tree, members}
use Rattle.msi_container_format.specs.Container.{Plan, IsSector, fat_of, entry_count, has_storage, streams_among, stream_entries}
use Rattle.msi_container_tables.specs.Counts.{links, sectors_inside}
use Rattle.msi_container_tables.specs.Reading.{IsStart, IsNamelessListing, IsMini, AreChained, HaveNamesApart, storages_among, mini_limit}
use Rattle.msi_container_read.specs.Outlines.{IsOutline}
use Rattle.msi_container_read.specs.Steps.{steps_of, IsWithinSectors}
use Rattle.msi_container_tables.specs.Paths.{IsPath, storage_clsid}
use Rattle.msi_container_read.specs.Storages.{IsPlanAt, IsMissing}
use Rattle.msi_container_tables.proofs.parts.ListingLemmas.{some_entries}
use Rattle.msi_container_read.proofs.plans.PlanPartsLemmas.{Limits, starts, befores, plan_of, to_plan, start_of_directory, directory_of_start, mini_of, chained_of}
use Rattle.msi_container_read.proofs.entry_names.SharedNamesLemmas.{nameless, with_names}
use Rattle.msi_container_read.proofs.chains.StepLemmas.{has_mini_stream, within_both}

-- NUMBERS

-- sectors are few: each has a regular number
pub few_of : (n marks limit count : ℕ) → n ≤ marks → marks ≡ limit → limit ≡ count → count ≤ MAX_REGULAR_SECTOR + 1 → n ≤ 2 ^ 32
few_of n marks limit count a b d e = omega arith

pub regular_of : (marks limit count : ℕ) → marks ≡ limit → limit ≡ count → count ≤ MAX_REGULAR_SECTOR + 1 → marks ≤ MAX_REGULAR_SECTOR + 1
regular_of marks limit count a b d = omega arith

-- so steps have room for two more rounds, where each one so far was taken for a sector
pub room_of : (s t k l marks limit count : ℕ) → s ≤ 2 ^ 63 → t + k ≤ s + l → l ≤ marks → marks ≡ limit → limit ≡ count → count ≤ MAX_REGULAR_SECTOR + 1 → t + marks + marks + 1 < 2 ^ 64
room_of s t k l marks limit count a b d e f g = omega arith

pub started_late : (s t u k l m : ℕ) → s ≤ 2 ^ 63 → t + k ≤ s + l → u + l ≤ t + m → u ≤ 2 ^ 63 + m
started_late s t u k l m a b d = omega arith

-- THE PARTS

pub limits_are : (bytes : List ℕ) (limit count : ℕ) → limit ≡ count → ((n : ℕ) → n < count → IsSector bytes n) → ((n : ℕ) → IsSector bytes n → n < count) → Limits bytes limit
limits_are bytes limit count e within all = rw e (record { within = within; all = all })

pub entries_seen : (bytes found directory : List ℕ) → directory ≡ found → 0 < length found → 0 < entry_count bytes directory
entries_seen bytes found directory d l = rw d (some_entries bytes found l)

-- what the plan says of a start that was read
pub record IsStarted (plan : Plan) (used fat directory : List ℕ) : Type 0 where
  pub used_are : used ≡ starts plan
  pub fats : fat ≡ plan.fat
  pub directories : directory ≡ plan.directory

pub started : (plan : Plan) (difat fat directory used fat_seen directory_seen : List ℕ)
    → ◌≡◌ {A = List ℕ × List ℕ × List ℕ} (difat, fat, directory) (plan.difat, plan.fat, plan.directory)
    → used ≡ difat ++ fat ++ directory
    → fat_seen ≡ fat
    → directory_seen ≡ directory
    → IsStarted plan used fat_seen directory_seen
started plan difat fat directory used fat_seen directory_seen same u f d = record {
  used_are = u ∙ ap (λ (q : List ℕ × List ℕ × List ℕ). q.0 ++ q.1 ++ q.2) same;
  fats = f ∙ ap (λ (q : List ℕ × List ℕ × List ℕ). q.1) same;
  directories = d ∙ ap (λ (q : List ℕ × List ℕ × List ℕ). q.2) same;
}

pub listing_seen : {path : List (List ℕ)} (bytes directory : List ℕ) (seen storage : ℕ) (plan : Plan) → IsPlanAt bytes path storage plan → directory ≡ plan.directory → seen ≡ storage → IsNamelessListing bytes directory seen plan.tree
listing_seen bytes directory seen storage plan h d s = rw (d, s) (nameless bytes plan.directory storage plan.tree h.listing)

-- the path is that of the directory that was read
pub path_seen : (bytes directory found : List ℕ) (path : List (List ℕ)) (storage : Option ℕ) → directory ≡ found → IsPath bytes found path storage → IsPath bytes directory path storage
path_seen bytes directory found path storage d h = rw d h

-- what is missing by any directory is so by the one that was read, and the other way round
pub missing_seen : (bytes : List ℕ) (limit : ℕ) (difat fat directory seen : List ℕ) (path : List (List ℕ))
    → Limits bytes limit
    → ((d f e : List ℕ) → IsStart bytes limit d f e → ◌≡◌ {A = List ℕ × List ℕ × List ℕ} (difat, fat, directory) (d, f, e))
    → seen ≡ directory
    → IsMissing bytes path
    → IsPath bytes seen path None
missing_seen bytes limit difat fat directory seen path limits only d (other, listed, h, lost) =
    let same = only other (fat_of bytes other) listed (start_of_directory bytes limit other listed limits h) in
    path_seen bytes seen listed path None (d ∙ ap (λ (q : List ℕ × List ℕ × List ℕ). q.2) same) lost

pub missing_found : (bytes : List ℕ) (limit : ℕ) (difat fat directory seen : List ℕ) (path : List (List ℕ))
    → Limits bytes limit
    → IsStart bytes limit difat fat directory
    → seen ≡ directory
    → IsPath bytes seen path None
    → IsMissing bytes path
missing_found bytes limit difat fat directory seen path limits start d lost =
    (difat, directory, directory_of_start bytes limit difat fat directory limits start, path_seen bytes directory seen path None (sym d) lost)

pub mini_seen : {path : List (List ℕ)} {storage : ℕ} (bytes : List ℕ) (limit marks : ℕ) (plan : Plan) (used fat directory : List ℕ)
    → Limits bytes limit
    → IsPlanAt bytes path storage plan
    → marks ≡ limit
    → IsStarted plan used fat directory
    → IsMini bytes marks used fat directory plan.mini_fat plan.mini_stream
mini_seen bytes limit marks plan used fat directory limits h m s = rw (m, s.used_are, s.fats, s.directories) (mini_of bytes limit plan limits h)

pub chained_seen : {path : List (List ℕ)} {storage : ℕ} (bytes : List ℕ) (limit mini_marks marks : ℕ) (plan : Plan) (used fat directory mini_fat mini_stream all ks : List ℕ)
    → Limits bytes limit
    → IsPlanAt bytes path storage plan
    → mini_marks ≡ limit
    → marks ≡ mini_marks
    → IsStarted plan used fat directory
    → ◌≡◌ {A = List ℕ × List ℕ} (mini_fat, mini_stream) (plan.mini_fat, plan.mini_stream)
    → all ≡ used ++ mini_fat ++ mini_stream
    → ks ≡ streams_among bytes directory (members plan.tree)
    → AreChained bytes fat mini_fat directory mini_stream marks all ks plan.chains
chained_seen bytes limit mini_marks marks plan used fat directory mini_fat mini_stream all ks limits h m n s same a k =
    let tables : mini_fat ≡ plan.mini_fat = ap (λ (q : List ℕ × List ℕ). q.0) same in
    let streams : mini_stream ≡ plan.mini_stream = ap (λ (q : List ℕ × List ℕ). q.1) same in
    let before : all ≡ befores plan = a ∙ ap (λ xs. xs ++ mini_fat ++ mini_stream) s.used_are ∙ ap (λ (q : List ℕ × List ℕ). starts plan ++ q.0 ++ q.1) same in
    let among : ks ≡ stream_entries bytes plan = k ∙ ap (λ d. streams_among bytes d (members plan.tree)) s.directories in
    rw (s.fats, tables, s.directories, streams, n ∙ m, before, among) (chained_of bytes limit plan limits h)

-- the entries that were found are the plan's
pub sorted_seen : (bytes directory found storages streams : List ℕ) (plan : Plan)
    → directory ≡ plan.directory
    → directory ≡ found
    → ◌≡◌ {A = List ℕ × List ℕ} (storages, streams) (storages_among bytes directory (members plan.tree), streams_among bytes directory (members plan.tree))
    → ◌≡◌ {A = List ℕ × List ℕ × List ℕ} (found, storages, streams) (plan.directory, storages_among bytes plan.directory (members plan.tree), stream_entries bytes plan)
sorted_seen bytes directory found storages streams plan d f same =
    let stored : storages ≡ storages_among bytes plan.directory (members plan.tree) = ap (λ (q : List ℕ × List ℕ). q.0) same ∙ ap (λ x. storages_among bytes x (members plan.tree)) d in
    let among : streams ≡ stream_entries bytes plan = ap (λ (q : List ℕ × List ℕ). q.1) same ∙ ap (λ x. streams_among bytes x (members plan.tree)) d in
    rw (sym f ∙ d, stored, among) refl

-- THE PLAN

-- what was found of a start, a listing, a mini stream and chains makes a plan, once names are known
pub found_plan : (path : List (List ℕ)) (storage : ℕ) (bytes : List ℕ) (limit mini_marks marks : ℕ) (difat fat directory fat_seen directory_seen used mini_fat mini_stream all ks : List ℕ) (tree : Tree) (chains : List (List ℕ))
    → Limits bytes limit
    → IsStart bytes limit difat fat directory
    → used ≡ difat ++ fat ++ directory
    → fat_seen ≡ fat
    → directory_seen ≡ directory
    → IsPath bytes directory_seen path (Some storage)
    → IsNamelessListing bytes directory_seen storage tree
    → mini_marks ≡ limit
    → IsMini bytes mini_marks used fat_seen directory_seen mini_fat mini_stream
    → all ≡ used ++ mini_fat ++ mini_stream
    → marks ≡ mini_marks
    → ks ≡ streams_among bytes directory_seen (members tree)
    → AreChained bytes fat_seen mini_fat directory_seen mini_stream marks all ks chains
    → HaveNamesApart bytes directory (storages_among bytes directory (members tree)) (streams_among bytes directory (members tree))
    → IsPlanAt bytes path storage (plan_of difat fat directory mini_fat mini_stream tree chains)
found_plan path storage bytes limit mini_marks marks difat fat directory fat_seen directory_seen used mini_fat mini_stream all ks tree chains limits start u f d reached listing m mini a n k chained names =
    let led : IsPath bytes directory path (Some storage) = rw d at reached in
    let listed : IsNamelessListing bytes directory storage tree = rw d at listing in
    let minis : IsMini bytes limit (difat ++ fat ++ directory) fat directory mini_fat mini_stream = rw (m, u, f, d) at mini in
    let before : all ≡ difat ++ fat ++ directory ++ mini_fat ++ mini_stream = a ∙ ap (λ xs. xs ++ mini_fat ++ mini_stream) u in
    let among : ks ≡ streams_among bytes directory (members tree) = k ∙ ap (λ x. streams_among bytes x (members tree)) d in
    let together : AreChained bytes fat mini_fat directory mini_stream limit (difat ++ fat ++ directory ++ mini_fat ++ mini_stream) (streams_among bytes directory (members tree)) chains = rw (f, d, n ∙ m, before, among) at chained in
    to_plan path storage bytes limit difat fat directory mini_fat mini_stream tree chains limits start led (with_names bytes directory storage tree listed names) minis together

pub found_outline : (storage : ℕ) (bytes root : List ℕ) (has : Bool) (difat fat directory directory_seen mini_fat mini_stream storages streams : List ℕ) (tree : Tree) (chains : List (List ℕ))
    → directory_seen ≡ directory
    → root ≡ storage_clsid bytes directory_seen storage
    → has ≡ has_storage bytes directory_seen (members tree)
    → storages ≡ storages_among bytes directory_seen (members tree)
    → streams ≡ streams_among bytes directory_seen (members tree)
    → IsOutline bytes storage (plan_of difat fat directory mini_fat mini_stream tree chains) root has directory mini_stream storages streams chains
found_outline storage bytes root has difat fat directory directory_seen mini_fat mini_stream storages streams tree chains d r h s k = record {
  rooted = r ∙ ap (λ x. storage_clsid bytes x storage) d;
  told = h ∙ ap (λ x. has_storage bytes x (members tree)) d;
  directories = refl;
  mini_streams = refl;
  stored = s ∙ ap (λ x. storages_among bytes x (members tree)) d;
  entries = k ∙ ap (λ x. streams_among bytes x (members tree)) d;
  chained = refl;
}

pub found_steps : (s t u v d f : ℕ) (difat fat directory mini_fat mini_stream : List ℕ) (tree : Tree) (chains : List (List ℕ))
    → d ≡ length directory
    → f ≡ length mini_fat
    → t ≡ s + d
    → u ≡ t + f + links mini_stream
    → v ≡ u + sum_by links chains
    → v ≡ s + steps_of (plan_of difat fat directory mini_fat mini_stream tree chains)
found_steps s t u v d f difat fat directory mini_fat mini_stream tree chains a b x y z = omega (arith, a, b, x, y, z)

-- entries that are below the count by the directory's slice are so by its vector
pub below_seen : (bytes found directory ks : List ℕ) → directory ≡ found → AreBelow (entry_count bytes directory) ks → AreBelow (entry_count bytes found) ks
below_seen bytes found directory ks d h = rw d at h

-- STEPS

-- before the mini stream was found, no more was looked up than what was claimed
pub within_claims : (bytes : List ℕ) (s t k l marks limit count : ℕ) → t + k ≤ s + l → l ≤ marks → marks ≡ limit → limit ≡ count → count ≤ sectors_inside bytes → IsWithinSectors bytes (t - s)
within_claims bytes s t k l marks limit count a b d e f = inl (omega arith)

-- and with it no more than there are sectors and mini sectors
pub within_all : (bytes : List ℕ) (s t u v k l m limit count mini_marks marks : ℕ) (difat fat directory fat_seen directory_seen used mini_fat mini_stream : List ℕ)
    → limit ≡ count
    → count ≤ sectors_inside bytes
    → IsStart bytes limit difat fat directory
    → used ≡ difat ++ fat ++ directory
    → fat_seen ≡ fat
    → directory_seen ≡ directory
    → mini_marks ≡ limit
    → IsMini bytes mini_marks used fat_seen directory_seen mini_fat mini_stream
    → marks ≡ mini_marks
    → t + k ≤ s + l
    → u + l ≤ t + m
    → v + m ≤ u + marks + mini_limit bytes mini_stream
    → IsWithinSectors bytes (v - s)
within_all bytes s t u v k l m limit count mini_marks marks difat fat directory fat_seen directory_seen used mini_fat mini_stream e inside start w f d n mini q x y z =
    let minis : IsMini bytes limit (difat ++ fat ++ directory) fat directory mini_fat mini_stream = rw (n, w, f, d) at mini in
    within_both bytes mini_stream s v limit (has_mini_stream bytes limit difat fat directory mini_fat mini_stream (omega (arith, e, inside)) start minis) (omega (arith, x, y, z, n, q)) (omega (arith, e, inside))

-- sectors in the last of three parts are few, too
pub few_last : (a b d limit count : ℕ) → a + b + d ≤ limit → limit ≡ count → count ≤ MAX_REGULAR_SECTOR + 1 → d ≤ 2 ^ 32
few_last a b d limit count h e r = omega arith
