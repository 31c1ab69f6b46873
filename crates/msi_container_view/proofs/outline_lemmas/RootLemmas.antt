-- The plan that the parts of a file make, and why the bytes hold nothing where a part is missing.
use Rattle.std.proofs.Common.{◌≡◌, ℕ, ◌+◌, ◌*◌, ◌<◌, ◌≤◌, Bool, List, [], ◌++◌, length, Some, inl, inr, ◌∙◌, sym, ap, arith, refl}
use Rattle.std.specs.Prelude.{◌↔◌}
use Rattle.std.specs.FinMap.{FinMap, from_entries}
use Rattle.msi_container_format.specs.declared.contents.Contents.{Contents}
use Rattle.msi_container_format.specs.Chains.{AreBelow}
use Rattle.msi_container_format.specs.Format.{MAX_REGULAR_SECTOR}
use Rattle.msi_container_format.specs.Names.{name_cmp}
use Rattle.msi_container_format.specs.Trees.{Tree, members}
use Rattle.msi_container_format.specs.Container.{Plan, IsPlan, Holds, IsSector, IsMiniFat, fat_of, clsid, kind, left, right, entry_count, sector_size, has_storage, streams_among, named_bytes, contents_of}
use Rattle.msi_container_format.proofs.PlanOnceLemmas.{chain_once, whole_once, tree_once}
use Rattle.msi_container_tables.specs.Reading.{IsStart, IsNamelessListing, IsMini, AreChained, HaveNamesApart, storages_among}
use Rattle.msi_container_tables.specs.Paths.{IsPath, storage_clsid}
use Rattle.msi_container_read.proofs.plans.PlanPartsLemmas.{Limits, start_of, plan_of}
use Rattle.msi_container_tables.proofs.chains.ClaimedLemmas.{below_front, below_back}
use Rattle.msi_container_read.proofs.plans.OutlineLemmas.{IsStarted, started, listing_seen, mini_seen, chained_seen, found_plan}
use Rattle.msi_container_read.proofs.plans.StorageLemmas.{at_root, of_root}
use Rattle.msi_container_read.proofs.entry_names.SharedNamesLemmas.{plan_names}
use Rattle.msi_container_view.specs.Views.{tables_size}

-- AT MOST ONE

-- marks for the sectors that can be used
limits_of : (file : List ℕ) (limit marks : ℕ) → marks ≡ limit → ((n : ℕ) → n < limit ↔ IsSector file n) → Limits file marks
limits_of file limit marks m usable = rw m (record { within = λ n. (usable n).0; all = λ n. (usable n).1 })

-- sectors that can be claimed have regular numbers
regular_below : (limit : ℕ) (xs : List ℕ) → limit ≤ MAX_REGULAR_SECTOR + 1 → AreBelow limit xs → AreBelow (MAX_REGULAR_SECTOR + 1) xs
regular_below limit xs l b = λ i h. omega (arith, b i h)

-- there is one start
start_once : (file : List ℕ) (limit : ℕ) (difat fat directory d f e : List ℕ) → limit ≤ MAX_REGULAR_SECTOR + 1 → IsStart file limit difat fat directory → IsStart file limit d f e
    → ◌≡◌ {A = List ℕ × List ℕ × List ℕ} (difat, fat, directory) (d, f, e)
start_once file limit difat fat directory d f e l s t =
    let difats : difat ≡ d = chain_once _ _ _ difat d s.difats t.difats in
    let fats : fat ≡ f = s.fats ∙ ap (fat_of file) difats ∙ sym t.fats in
    let one = regular_below limit directory l (below_back limit (difat ++ fat) directory s.room.below) in
    let two = regular_below limit e l (below_back limit (d ++ f) e t.room.below) in
    let directories : directory ≡ e = whole_once _ _ _ _ s.chain (rw fats t.chain) (λ i h. omega (arith, one i h)) (λ i h. omega (arith, two i h)) in
    rw (difats, fats, directories) refl

-- one mini FAT
mini_fat_once : (file fat a b : List ℕ) → AreBelow (MAX_REGULAR_SECTOR + 1) a → AreBelow (MAX_REGULAR_SECTOR + 1) b → IsMiniFat file fat a → IsMiniFat file fat b → a ≡ b
mini_fat_once file fat a b l m (inl s) (inl t) = whole_once _ _ _ _ s.1 t.1 (λ i h. omega (arith, l i h)) (λ i h. omega (arith, m i h))
mini_fat_once file fat a b l m (inl s) (inr t) = absurd (omega (arith, s.0, t.0))
mini_fat_once file fat a b l m (inr s) (inl t) = absurd (omega (arith, s.0, t.0))
mini_fat_once file fat a b l m (inr s) (inr t) = s.1 ∙ sym t.1

-- and one mini stream
mini_once : (file : List ℕ) (limit : ℕ) (used fat directory a b c d : List ℕ) → limit ≤ MAX_REGULAR_SECTOR + 1 → IsMini file limit used fat directory a b → IsMini file limit used fat directory c d
    → ◌≡◌ {A = List ℕ × List ℕ} (a, b) (c, d)
mini_once file limit used fat directory a b c d l s t =
    let one = regular_below limit a l (below_front limit a b s.room.below) in
    let two = regular_below limit c l (below_front limit c d t.room.below) in
    let tables : a ≡ c = mini_fat_once file fat a c one two s.table t.table in
    let streams : b ≡ d = chain_once _ _ _ b d s.stream t.stream in
    rw (tables, streams) refl

-- WHERE NOTHING IS HELD

-- the file's sectors have regular numbers, and its start was found, which claimed sectors
pub record IsBegun (file : List ℕ) (limit : ℕ) (difat fat directory used : List ℕ) : Type 0 where
  pub limits : Limits file limit
  pub regular : limit ≤ MAX_REGULAR_SECTOR + 1
  pub start : IsStart file limit difat fat directory
  pub claimed : used ≡ difat ++ fat ++ directory

pub begun_with : (file : List ℕ) (limit marks : ℕ) (difat fat directory used : List ℕ) → marks ≡ limit → ((n : ℕ) → n < limit ↔ IsSector file n) → limit ≤ MAX_REGULAR_SECTOR + 1 → IsStart file marks difat fat directory
    → used ≡ difat ++ fat ++ directory → IsBegun file marks difat fat directory used
begun_with file limit marks difat fat directory used m usable l start claimed = record {
  limits = limits_of file limit marks m usable;
  regular = rw m l;
  start = start;
  claimed = claimed;
}

-- there is no start
pub no_start : (file : List ℕ) (limit marks : ℕ) → marks ≡ limit → ((n : ℕ) → n < limit ↔ IsSector file n) → ((difat fat directory : List ℕ) → IsStart file marks difat fat directory → ⊥)
    → (contents : Contents) → Holds file contents → ⊥
no_start file limit marks m usable broken contents (plan, h, e) =
    broken plan.difat plan.fat plan.directory (start_of file marks plan (limits_of file limit marks m usable) (at_root file plan h))

module _ (file : List ℕ) (limit : ℕ) (difat fat directory used : List ℕ) (begun : IsBegun file limit difat fat directory used) where
  -- the plan has the start that was found
  plan_begun : (plan : Plan) → IsPlan file plan → IsStarted plan used fat directory
  plan_begun plan h =
      let of_plan = start_of file limit plan begun.limits (at_root file plan h) in
      started plan difat fat directory used fat directory (start_once file limit difat fat directory plan.difat plan.fat plan.directory begun.regular begun.start of_plan) begun.claimed refl refl

  -- there is no listing of a root
  pub no_entries : (kind file directory 0 ≡ 5 → (tree : Tree) → IsNamelessListing file directory 0 tree → ⊥) → (contents : Contents) → Holds file contents → ⊥
  no_entries broken contents (plan, h, e) =
      let s = plan_begun plan h in
      broken (rw s.directories h.listing.root) plan.tree (listing_seen file directory 0 0 plan (at_root file plan h) s.directories refl)

  -- there is no mini FAT or mini stream
  pub no_mini : (marks : ℕ) → marks ≡ limit → ((mini_fat mini_stream : List ℕ) → IsMini file marks used fat directory mini_fat mini_stream → ⊥) → (contents : Contents) → Holds file contents → ⊥
  no_mini marks m broken contents (plan, h, e) =
      broken plan.mini_fat plan.mini_stream (mini_seen file limit marks plan used fat directory begun.limits (at_root file plan h) m (plan_begun plan h))

  -- there are no members of streams, or no names
  pub no_streams : (marks mini_marks : ℕ) (mini_fat mini_stream all storages streams : List ℕ) (tree : Tree)
      → marks ≡ limit
      → IsMini file marks used fat directory mini_fat mini_stream
      → all ≡ used ++ mini_fat ++ mini_stream
      → mini_marks ≡ marks
      → IsNamelessListing file directory 0 tree
      → storages ≡ storages_among file directory (members tree)
      → streams ≡ streams_among file directory (members tree)
      → ((chains : List (List ℕ)) → AreChained file fat mini_fat directory mini_stream mini_marks all streams chains → HaveNamesApart file directory storages streams → ⊥)
      → (contents : Contents) → Holds file contents → ⊥
  no_streams marks mini_marks mini_fat mini_stream all storages streams tree m mini a n listing stored listed broken contents (plan, h, e) =
      let rooted = at_root file plan h in
      let s = plan_begun plan h in
      let minis = mini_once file marks used fat directory mini_fat mini_stream plan.mini_fat plan.mini_stream (omega (arith, m, begun.regular)) mini
      (mini_seen file limit marks plan used fat directory begun.limits rooted m s) in
      let lies = listing_seen file directory 0 0 plan rooted s.directories refl in
      let trees : tree ≡ plan.tree = tree_once (left file directory) (right file directory) (entry_count file directory) _ tree plan.tree listing.spelled lies.spelled in
      let first : storages ≡ storages_among file plan.directory (members plan.tree) =
      stored ∙ ap (λ t. storages_among file directory (members t)) trees ∙ ap (λ d. storages_among file d (members plan.tree)) s.directories in
      let second : streams ≡ streams_among file directory (members plan.tree) = listed ∙ ap (λ t. streams_among file directory (members t)) trees in
      let names : HaveNamesApart file directory storages streams =
      rw (first, second, s.directories) (plan_names file plan h) in
      broken plan.chains (chained_seen file limit marks mini_marks plan used fat directory mini_fat mini_stream all streams begun.limits rooted m n s minis a second) names

  -- WHAT IS HELD

  pub outline_found : (marks mini_marks : ℕ) (mini_fat mini_stream all storages streams : List ℕ) (tree : Tree) (chains : List (List ℕ)) (root : List ℕ) (has : Bool) (located : FinMap name_cmp (List ℕ)) (count : ℕ)
      → marks ≡ limit
      → IsMini file marks used fat directory mini_fat mini_stream
      → all ≡ used ++ mini_fat ++ mini_stream
      → mini_marks ≡ marks
      → kind file directory 0 ≡ 5
      → IsNamelessListing file directory 0 tree
      → has ≡ has_storage file directory (members tree)
      → storages ≡ storages_among file directory (members tree)
      → streams ≡ streams_among file directory (members tree)
      → AreChained file fat mini_fat directory mini_stream mini_marks all streams chains
      → HaveNamesApart file directory storages streams
      → root ≡ storage_clsid file directory 0
      → located ≡ from_entries (named_bytes file mini_stream directory streams chains)
      → count ≤ (1 + length difat + length fat + length directory + length mini_fat) * sector_size file
      → (plan : Plan) × IsPlan file plan
      × (root ≡ clsid file plan.directory)
      × (has ≡ (contents_of file plan).has_storages)
      × (located ≡ (contents_of file plan).streams)
      × (count ≤ tables_size file plan)
  outline_found marks mini_marks mini_fat mini_stream all storages streams tree chains root has located count m mini a n kind_is listing told stored listed chained names rooted is read =
      let path : IsPath file directory [] (Some 0) = record { root = kind_is; leads = refl } in
      let apart : HaveNamesApart file directory (storages_among file directory (members tree)) (streams_among file directory (members tree)) = rw (stored, listed) at names in
      let plan = plan_of difat fat directory mini_fat mini_stream tree chains in (
        plan,
        of_root file 0 plan (found_plan [] 0 file limit marks mini_marks difat fat directory fat directory used mini_fat mini_stream all streams tree chains
            begun.limits begun.start begun.claimed refl refl path listing m mini a n listed chained apart),
        rooted,
        told,
        is ∙ ap (λ ks. from_entries {R = name_cmp} (named_bytes file mini_stream directory ks chains)) listed,
        read,
      )
