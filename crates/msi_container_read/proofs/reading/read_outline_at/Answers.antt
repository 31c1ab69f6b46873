use Rattle.std.proofs.Common.{◌≡◌, ℕ, List, vec_len, sym, ◌∙◌, ap, refl, inr}
use Rattle.std.proofs.lemmas.Result.{IfOk-from_err, err_from_is_err_and}
use Rattle.msi_base.specs.declared.errors.ErrorKind.TheVariants.{OutOfMemory}
use Rattle.msi_container_tables.specs.Reading.{views}
use Rattle.msi_container_tables.proofs.parts.ListingLemmas.{some_size, covered}
use Rattle.msi_container_read.proofs.plans.PlanPartsLemmas.{plan_of, start_of, memory_left}
use Rattle.msi_container_tables.proofs.chains.ClaimedLemmas.{few_claimed}
use Rattle.msi_container_tables.proofs.chains.RoomLemmas.{grown, grown_twice, steps_twice}
use Rattle.msi_container_read.proofs.plans.OutlineLemmas.{few_of, regular_of, room_of, started_late}
use Rattle.msi_container_read.proofs.plans.OutlineLemmas.{limits_are, entries_seen, started, path_seen, missing_seen, missing_found, listing_seen, mini_seen, chained_seen, sorted_seen}
use Rattle.msi_container_read.proofs.plans.OutlineLemmas.{found_plan, found_outline, found_steps, below_seen, within_claims, within_all}
use Rattle.msi_container_tables.proofs.parts.PassedLemmas.{kind_passed_along, missing_passed, not_found_passed, memory_viewed}
use Rattle.msi_container_read.proofs.reading.read_outline_at.Goals as goal

-- MEMORY IS REFUSED

pub returns-in_err-claims-clause-found : goal.returns-in_err-claims-clause-found
returns-in_err-claims-clause-found c = IfOk-from_err c.from_residual.result _ c.from_residual.ensures.0

pub returns-in_err-claims-clause-only : goal.returns-in_err-claims-clause-only
returns-in_err-claims-clause-only c = λ storage plan h. memory_viewed _ c.from_residual.result _ OutOfMemory c.from_residual.ensures.1 refl

pub returns-in_err-claims-clause-storages : goal.returns-in_err-claims-clause-storages
returns-in_err-claims-clause-storages c = IfOk-from_err c.from_residual.result _ c.from_residual.ensures.0

pub returns-in_err-claims-clause-below : goal.returns-in_err-claims-clause-below
returns-in_err-claims-clause-below c = IfOk-from_err c.from_residual.result _ c.from_residual.ensures.0

pub returns-in_err-claims-clause-covered : goal.returns-in_err-claims-clause-covered
returns-in_err-claims-clause-covered c = IfOk-from_err c.from_residual.result _ c.from_residual.ensures.0

pub returns-in_err-claims-clause-kinds : goal.returns-in_err-claims-clause-kinds
returns-in_err-claims-clause-kinds c = kind_passed_along _ c.from_residual.result OutOfMemory c.from_residual.ensures.1 (inr refl)

-- THE START

pub returns-in_err-start-clause-found : goal.returns-in_err-start-clause-found
returns-in_err-start-clause-found c = IfOk-from_err c.from_residual-in_err-start.result _ c.from_residual-in_err-start.ensures.0

pub returns-in_err-start-clause-storages : goal.returns-in_err-start-clause-storages
returns-in_err-start-clause-storages c = IfOk-from_err c.from_residual-in_err-start.result _ c.from_residual-in_err-start.ensures.0

pub returns-in_err-start-clause-below : goal.returns-in_err-start-clause-below
returns-in_err-start-clause-below c = IfOk-from_err c.from_residual-in_err-start.result _ c.from_residual-in_err-start.ensures.0

pub returns-in_err-start-clause-covered : goal.returns-in_err-start-clause-covered
returns-in_err-start-clause-covered c = IfOk-from_err c.from_residual-in_err-start.result _ c.from_residual-in_err-start.ensures.0

pub returns-in_err-start-clause-kinds : goal.returns-in_err-start-clause-kinds
returns-in_err-start-clause-kinds c = kind_passed_along _ c.from_residual-in_err-start.result c.in_err-start.field-0.0 c.from_residual-in_err-start.ensures.1 c.in_err-start.ensures.kinds

pub returns-in_err-start-clause-only : goal.returns-in_err-start-clause-only
returns-in_err-start-clause-only c = λ storage plan h.
    let p = err_from_is_err_and c.from_residual-in_err-start.result c.from_residual-in_err-start.ensures.1 in
    let limits = limits_are c.args.bytes.now _ _ c.in_ok-claims.ensures.limit c.sector_count.ensures.within c.sector_count.ensures.all in
    rw (p.1, p.2) (c.in_err-start.ensures.only plan.difat plan.fat plan.directory (start_of c.args.bytes.now _ plan limits h))

pub returns-in_err-start-clause-bounded : goal.returns-in_err-start-clause-bounded
returns-in_err-start-clause-bounded c =
    let claims = c.read_start.new.claims in
    within_claims _ _ _ _ (vec_len claims.list) (vec_len claims.marks) _ _ c.in_err-start.ensures.bounded (few_claimed claims.marks claims.list claims.counted) c.in_err-start.ensures.limit c.in_ok-claims.ensures.limit c.sector_count.ensures.inside

-- THE STORAGE

pub find_storage-requires : goal.find_storage-requires
find_storage-requires c = entries_seen c.args.bytes.now _ _ c.deref-2.ensures.value c.in_ok-start.ensures.found.0.chain.filled

pub returns-in_err-storage-clause-found : goal.returns-in_err-storage-clause-found
returns-in_err-storage-clause-found c = IfOk-from_err c.from_residual-in_err-storage.result _ c.from_residual-in_err-storage.ensures.0

pub returns-in_err-storage-clause-storages : goal.returns-in_err-storage-clause-storages
returns-in_err-storage-clause-storages c = IfOk-from_err c.from_residual-in_err-storage.result _ c.from_residual-in_err-storage.ensures.0

pub returns-in_err-storage-clause-below : goal.returns-in_err-storage-clause-below
returns-in_err-storage-clause-below c = IfOk-from_err c.from_residual-in_err-storage.result _ c.from_residual-in_err-storage.ensures.0

pub returns-in_err-storage-clause-covered : goal.returns-in_err-storage-clause-covered
returns-in_err-storage-clause-covered c = IfOk-from_err c.from_residual-in_err-storage.result _ c.from_residual-in_err-storage.ensures.0

pub returns-in_err-storage-clause-kinds : goal.returns-in_err-storage-clause-kinds
returns-in_err-storage-clause-kinds c =
    let limits = limits_are c.args.bytes.now _ _ c.in_ok-claims.ensures.limit c.sector_count.ensures.within c.sector_count.ensures.all in
    let missing = missing_found c.args.bytes.now _ _ _ _ _ c.args.path.now limits c.in_ok-start.ensures.found.0 c.deref-2.ensures.value in
    missing_passed _ _ c.from_residual-in_err-storage.result c.in_err-storage.field-0.0 c.from_residual-in_err-storage.ensures.1 missing c.in_err-storage.ensures.kinds

pub returns-in_err-storage-clause-missing : goal.returns-in_err-storage-clause-missing
returns-in_err-storage-clause-missing c = λ missing.
    let limits = limits_are c.args.bytes.now _ _ c.in_ok-claims.ensures.limit c.sector_count.ensures.within c.sector_count.ensures.all in
    let lost = missing_seen c.args.bytes.now _ _ _ _ _ c.args.path.now limits c.in_ok-start.ensures.only c.deref-2.ensures.value missing in
    not_found_passed c.from_residual-in_err-storage.result c.in_err-storage.field-0.0 c.from_residual-in_err-storage.ensures.1 (c.in_err-storage.ensures.missing lost)

pub returns-in_err-storage-clause-only : goal.returns-in_err-storage-clause-only
returns-in_err-storage-clause-only c = λ storage plan h.
    let p = err_from_is_err_and c.from_residual-in_err-storage.result c.from_residual-in_err-storage.ensures.1 in
    let limits = limits_are c.args.bytes.now _ _ c.in_ok-claims.ensures.limit c.sector_count.ensures.within c.sector_count.ensures.all in
    let same = c.in_ok-start.ensures.only plan.difat plan.fat plan.directory (start_of c.args.bytes.now _ plan limits h) in
    let directories : c.deref-2.result.now ≡ plan.directory = c.deref-2.ensures.value ∙ ap (λ (q : List ℕ × List ℕ × List ℕ). q.2) same in
    rw (p.1, p.2) (c.in_err-storage.ensures.only storage (path_seen c.args.bytes.now _ plan.directory c.args.path.now _ directories h.reached))

pub returns-in_err-storage-clause-bounded : goal.returns-in_err-storage-clause-bounded
returns-in_err-storage-clause-bounded c =
    let claims = c.read_start.new.claims in
    within_claims _ _ _ _ (vec_len claims.list) (vec_len claims.marks) _ _ c.in_ok-start.ensures.bounded (few_claimed claims.marks claims.list claims.counted) c.in_ok-start.ensures.limit c.in_ok-claims.ensures.limit c.sector_count.ensures.inside

-- THE ENTRIES

pub returns-in_err-entries-clause-found : goal.returns-in_err-entries-clause-found
returns-in_err-entries-clause-found c = IfOk-from_err c.from_residual-in_err-entries.result _ c.from_residual-in_err-entries.ensures.0

pub returns-in_err-entries-clause-storages : goal.returns-in_err-entries-clause-storages
returns-in_err-entries-clause-storages c = IfOk-from_err c.from_residual-in_err-entries.result _ c.from_residual-in_err-entries.ensures.0

pub returns-in_err-entries-clause-below : goal.returns-in_err-entries-clause-below
returns-in_err-entries-clause-below c = IfOk-from_err c.from_residual-in_err-entries.result _ c.from_residual-in_err-entries.ensures.0

pub returns-in_err-entries-clause-covered : goal.returns-in_err-entries-clause-covered
returns-in_err-entries-clause-covered c = IfOk-from_err c.from_residual-in_err-entries.result _ c.from_residual-in_err-entries.ensures.0

pub returns-in_err-entries-clause-kinds : goal.returns-in_err-entries-clause-kinds
returns-in_err-entries-clause-kinds c = kind_passed_along _ c.from_residual-in_err-entries.result c.in_err-entries.field-0.0 c.from_residual-in_err-entries.ensures.1 c.in_err-entries.ensures.kinds

pub read_entries-requires : goal.read_entries-requires
read_entries-requires c = c.in_ok-storage.ensures.below

pub returns-in_err-entries-clause-missing : goal.returns-in_err-entries-clause-missing
returns-in_err-entries-clause-missing c = λ missing.
    let limits = limits_are c.args.bytes.now _ _ c.in_ok-claims.ensures.limit c.sector_count.ensures.within c.sector_count.ensures.all in
    absurd (c.in_ok-storage.ensures.missing (missing_seen c.args.bytes.now _ _ _ _ _ c.args.path.now limits c.in_ok-start.ensures.only c.deref-2.ensures.value missing))

pub returns-in_err-entries-clause-only : goal.returns-in_err-entries-clause-only
returns-in_err-entries-clause-only c = λ storage plan h.
    let p = err_from_is_err_and c.from_residual-in_err-entries.result c.from_residual-in_err-entries.ensures.1 in
    let limits = limits_are c.args.bytes.now _ _ c.in_ok-claims.ensures.limit c.sector_count.ensures.within c.sector_count.ensures.all in
    let same = c.in_ok-start.ensures.only plan.difat plan.fat plan.directory (start_of c.args.bytes.now _ plan limits h) in
    let directories : c.deref-2.result.now ≡ plan.directory = c.deref-2.ensures.value ∙ ap (λ (q : List ℕ × List ℕ × List ℕ). q.2) same in
    let stored = c.in_ok-storage.ensures.only storage (path_seen c.args.bytes.now _ plan.directory c.args.path.now _ directories h.reached) in
    rw (p.1, p.2) (c.in_err-entries.ensures.only plan.tree (listing_seen c.args.bytes.now _ _ storage plan h directories stored))

pub returns-in_err-entries-clause-bounded : goal.returns-in_err-entries-clause-bounded
returns-in_err-entries-clause-bounded c =
    let claims = c.read_start.new.claims in
    within_claims _ _ _ _ (vec_len claims.list) (vec_len claims.marks) _ _ c.in_ok-start.ensures.bounded (few_claimed claims.marks claims.list claims.counted) c.in_ok-start.ensures.limit c.in_ok-claims.ensures.limit c.sector_count.ensures.inside

-- THE MINI STREAM

pub returns-in_err-mini-clause-found : goal.returns-in_err-mini-clause-found
returns-in_err-mini-clause-found c = IfOk-from_err c.from_residual-in_err-mini.result _ c.from_residual-in_err-mini.ensures.0

pub returns-in_err-mini-clause-storages : goal.returns-in_err-mini-clause-storages
returns-in_err-mini-clause-storages c = IfOk-from_err c.from_residual-in_err-mini.result _ c.from_residual-in_err-mini.ensures.0

pub returns-in_err-mini-clause-below : goal.returns-in_err-mini-clause-below
returns-in_err-mini-clause-below c = IfOk-from_err c.from_residual-in_err-mini.result _ c.from_residual-in_err-mini.ensures.0

pub returns-in_err-mini-clause-covered : goal.returns-in_err-mini-clause-covered
returns-in_err-mini-clause-covered c = IfOk-from_err c.from_residual-in_err-mini.result _ c.from_residual-in_err-mini.ensures.0

pub returns-in_err-mini-clause-kinds : goal.returns-in_err-mini-clause-kinds
returns-in_err-mini-clause-kinds c = kind_passed_along _ c.from_residual-in_err-mini.result c.in_err-mini.field-0.0 c.from_residual-in_err-mini.ensures.1 c.in_err-mini.ensures.kinds

pub read_mini-requires-clause-root : goal.read_mini-requires-clause-root
read_mini-requires-clause-root c = entries_seen c.args.bytes.now _ _ c.deref-2.ensures.value c.in_ok-start.ensures.found.0.chain.filled

pub read_mini-requires-clause-regular : goal.read_mini-requires-clause-regular
read_mini-requires-clause-regular c = regular_of _ _ _ c.in_ok-start.ensures.limit c.in_ok-claims.ensures.limit c.sector_count.ensures.regular

pub read_mini-requires-clause-steps : goal.read_mini-requires-clause-steps
read_mini-requires-clause-steps c =
    let claims = c.read_start.new.claims in
    room_of _ _ _ _ _ _ _ c.requires c.in_ok-start.ensures.bounded (few_claimed claims.marks claims.list claims.counted) c.in_ok-start.ensures.limit c.in_ok-claims.ensures.limit c.sector_count.ensures.regular

pub returns-in_err-mini-clause-missing : goal.returns-in_err-mini-clause-missing
returns-in_err-mini-clause-missing c = λ missing.
    let limits = limits_are c.args.bytes.now _ _ c.in_ok-claims.ensures.limit c.sector_count.ensures.within c.sector_count.ensures.all in
    absurd (c.in_ok-storage.ensures.missing (missing_seen c.args.bytes.now _ _ _ _ _ c.args.path.now limits c.in_ok-start.ensures.only c.deref-2.ensures.value missing))

pub returns-in_err-mini-clause-only : goal.returns-in_err-mini-clause-only
returns-in_err-mini-clause-only c = λ storage plan h.
    let p = err_from_is_err_and c.from_residual-in_err-mini.result c.from_residual-in_err-mini.ensures.1 in
    let bytes = c.args.bytes.now in
    let limits = limits_are bytes _ _ c.in_ok-claims.ensures.limit c.sector_count.ensures.within c.sector_count.ensures.all in
    let same = c.in_ok-start.ensures.only plan.difat plan.fat plan.directory (start_of bytes _ plan limits h) in
    let start = started plan _ _ _ _ _ _ same c.in_ok-start.ensures.found.1 (c.new-fat.ensures.sectors ∙ c.deref.ensures.value) c.deref-2.ensures.value in
    rw (p.1, p.2) (c.in_err-mini.ensures.only plan.mini_fat plan.mini_stream (mini_seen bytes _ _ plan _ _ _ limits h c.in_ok-start.ensures.limit start))

pub returns-in_err-mini-clause-bounded : goal.returns-in_err-mini-clause-bounded
returns-in_err-mini-clause-bounded c =
    let claims = c.read_mini.new.claims in
    within_claims _ _ _ _ (vec_len claims.list) (vec_len claims.marks) _ _ (steps_twice _ _ _ _ _ _ c.in_ok-start.ensures.bounded c.in_err-mini.ensures.bounded) (few_claimed claims.marks claims.list claims.counted) (c.in_err-mini.ensures.limit ∙ c.in_ok-start.ensures.limit) c.in_ok-claims.ensures.limit c.sector_count.ensures.inside

pub returns-in_err-mini-clause-grows : goal.returns-in_err-mini-clause-grows
returns-in_err-mini-clause-grows c = grown _ _ _ c.in_ok-start.ensures.grows c.in_err-mini.ensures.grows

-- THE CHAINS

pub returns-in_err-chains-clause-found : goal.returns-in_err-chains-clause-found
returns-in_err-chains-clause-found c = IfOk-from_err c.from_residual-in_err-chains.result _ c.from_residual-in_err-chains.ensures.0

pub returns-in_err-chains-clause-storages : goal.returns-in_err-chains-clause-storages
returns-in_err-chains-clause-storages c = IfOk-from_err c.from_residual-in_err-chains.result _ c.from_residual-in_err-chains.ensures.0

pub returns-in_err-chains-clause-below : goal.returns-in_err-chains-clause-below
returns-in_err-chains-clause-below c = IfOk-from_err c.from_residual-in_err-chains.result _ c.from_residual-in_err-chains.ensures.0

pub returns-in_err-chains-clause-covered : goal.returns-in_err-chains-clause-covered
returns-in_err-chains-clause-covered c = IfOk-from_err c.from_residual-in_err-chains.result _ c.from_residual-in_err-chains.ensures.0

pub returns-in_err-chains-clause-kinds : goal.returns-in_err-chains-clause-kinds
returns-in_err-chains-clause-kinds c = kind_passed_along _ c.from_residual-in_err-chains.result c.in_err-chains.field-0.0 c.from_residual-in_err-chains.ensures.1 c.in_err-chains.ensures.kinds

pub read_chains-requires-clause-same : goal.read_chains-requires-clause-same
read_chains-requires-clause-same c = c.new-fat.ensures.bytes

pub read_chains-requires-clause-below : goal.read_chains-requires-clause-below
read_chains-requires-clause-below c = rw c.deref-3.ensures.value c.in_ok-entries.ensures.below

pub read_chains-requires-clause-few : goal.read_chains-requires-clause-few
read_chains-requires-clause-few c = few_of _ _ _ _ c.in_ok-mini.ensures.few c.in_ok-start.ensures.limit c.in_ok-claims.ensures.limit c.sector_count.ensures.regular

pub read_chains-requires-clause-regular : goal.read_chains-requires-clause-regular
read_chains-requires-clause-regular c = regular_of _ _ _ (c.in_ok-mini.ensures.limit ∙ c.in_ok-start.ensures.limit) c.in_ok-claims.ensures.limit c.sector_count.ensures.regular

pub read_chains-requires-clause-steps : goal.read_chains-requires-clause-steps
read_chains-requires-clause-steps c = started_late _ _ _ _ _ _ c.requires c.in_ok-start.ensures.bounded c.in_ok-mini.ensures.bounded

pub returns-in_err-chains-clause-missing : goal.returns-in_err-chains-clause-missing
returns-in_err-chains-clause-missing c = λ missing.
    let limits = limits_are c.args.bytes.now _ _ c.in_ok-claims.ensures.limit c.sector_count.ensures.within c.sector_count.ensures.all in
    absurd (c.in_ok-storage.ensures.missing (missing_seen c.args.bytes.now _ _ _ _ _ c.args.path.now limits c.in_ok-start.ensures.only c.deref-2.ensures.value missing))

pub returns-in_err-chains-clause-only : goal.returns-in_err-chains-clause-only
returns-in_err-chains-clause-only c = λ storage plan h.
    let p = err_from_is_err_and c.from_residual-in_err-chains.result c.from_residual-in_err-chains.ensures.1 in
    let bytes = c.args.bytes.now in
    let limits = limits_are bytes _ _ c.in_ok-claims.ensures.limit c.sector_count.ensures.within c.sector_count.ensures.all in
    let same = c.in_ok-start.ensures.only plan.difat plan.fat plan.directory (start_of bytes _ plan limits h) in
    let start = started plan _ _ _ _ _ _ same c.in_ok-start.ensures.found.1 (c.new-fat.ensures.sectors ∙ c.deref.ensures.value) c.deref-2.ensures.value in
    let minis = c.in_ok-mini.ensures.only plan.mini_fat plan.mini_stream (mini_seen bytes _ _ plan _ _ _ limits h c.in_ok-start.ensures.limit start) in
    let stored = c.in_ok-storage.ensures.only storage (path_seen bytes _ plan.directory c.args.path.now _ start.directories h.reached) in
    let sorted = c.in_ok-entries.ensures.only plan.tree (listing_seen bytes _ _ storage plan h start.directories stored) in
    let among = c.deref-3.ensures.value ∙ ap (λ (q : List ℕ × List ℕ). q.1) sorted in
    let chained = chained_seen bytes _ _ _ plan _ _ _ _ _ _ _ limits h c.in_ok-start.ensures.limit c.in_ok-mini.ensures.limit start minis c.in_ok-mini.ensures.found.1 among in
    rw (p.1, p.2) (memory_left _ c.in_err-chains.ensures.kinds (λ d. c.in_err-chains.ensures.invalid d plan.chains chained))

pub returns-in_err-chains-clause-grows : goal.returns-in_err-chains-clause-grows
returns-in_err-chains-clause-grows c = grown_twice _ _ _ _ c.in_ok-start.ensures.grows c.in_ok-mini.ensures.grows c.in_err-chains.ensures.grows

pub returns-in_err-chains-clause-bounded : goal.returns-in_err-chains-clause-bounded
returns-in_err-chains-clause-bounded c =
    let begun = c.in_ok-start.ensures.found in
    within_all c.args.bytes.now _ _ _ _ _ _ _ _ _ _ _ _ _ _ _ _ _ _ _ c.in_ok-claims.ensures.limit c.sector_count.ensures.inside begun.0 begun.1
    (c.new-fat.ensures.sectors ∙ c.deref.ensures.value) c.deref-2.ensures.value c.in_ok-start.ensures.limit c.in_ok-mini.ensures.found.0 c.in_ok-mini.ensures.limit
    c.in_ok-start.ensures.bounded c.in_ok-mini.ensures.bounded c.in_err-chains.ensures.bounded

-- THE WHOLE

pub clsid-clsid-requires : goal.clsid-clsid-requires
clsid-clsid-requires c = c.in_ok-storage.ensures.below

pub returns-clause-found : goal.returns-clause-found
returns-clause-found c =
    let bytes = c.args.bytes.now in
    let start = c.in_ok-start.start in
    let mini = c.in_ok-mini.mini in
    let begun = c.in_ok-start.ensures.found in
    let found = c.in_ok-entries.ensures.found in
    let minis = c.in_ok-mini.ensures.found in
    let fats = c.new-fat.ensures.sectors ∙ c.deref.ensures.value in
    let limits = limits_are bytes _ _ c.in_ok-claims.ensures.limit c.sector_count.ensures.within c.sector_count.ensures.all in
    let long = start.directory.ok.0 in
    let mini_long = mini.fat.ok.0 in (
      c.in_ok-storage.storage,
      plan_of start.difat.items start.fat.items start.directory.items mini.fat.items mini.stream.items found.0 (views c.in_ok-chains.chains.items),
      path_seen bytes start.directory.items _ c.args.path.now _ (sym c.deref-2.ensures.value) c.in_ok-storage.ensures.found,
      found_plan c.args.path.now c.in_ok-storage.storage bytes _ _ _ start.difat.items start.fat.items start.directory.items _ _ _ mini.fat.items mini.stream.items _ _ found.0 (views c.in_ok-chains.chains.items)
          limits begun.0 begun.1 fats c.deref-2.ensures.value c.in_ok-storage.ensures.found found.1 c.in_ok-start.ensures.limit minis.0 minis.1 c.in_ok-mini.ensures.limit (c.deref-3.ensures.value ∙ found.4) c.in_ok-chains.ensures.found,
      found_steps _ _ _ _ _ _ start.difat.items start.fat.items start.directory.items mini.fat.items mini.stream.items found.0 (views c.in_ok-chains.chains.items)
          long mini_long c.in_ok-start.ensures.exact c.in_ok-mini.ensures.exact c.in_ok-chains.ensures.exact,
      found_outline c.in_ok-storage.storage bytes _ _ start.difat.items start.fat.items start.directory.items _ mini.fat.items mini.stream.items _ _ found.0 (views c.in_ok-chains.chains.items)
          c.deref-2.ensures.value c.clsid-clsid.ensures found.2 found.3 found.4,
    )

pub returns-clause-missing : goal.returns-clause-missing
returns-clause-missing c = λ missing.
    let limits = limits_are c.args.bytes.now _ _ c.in_ok-claims.ensures.limit c.sector_count.ensures.within c.sector_count.ensures.all in
    absurd (c.in_ok-storage.ensures.missing (missing_seen c.args.bytes.now _ _ _ _ _ c.args.path.now limits c.in_ok-start.ensures.only c.deref-2.ensures.value missing))

pub returns-clause-only : goal.returns-clause-only
returns-clause-only c = λ storage plan h.
    let bytes = c.args.bytes.now in
    let limits = limits_are bytes _ _ c.in_ok-claims.ensures.limit c.sector_count.ensures.within c.sector_count.ensures.all in
    let same = c.in_ok-start.ensures.only plan.difat plan.fat plan.directory (start_of bytes _ plan limits h) in
    let directories : c.deref-2.result.now ≡ plan.directory = c.deref-2.ensures.value ∙ ap (λ (q : List ℕ × List ℕ × List ℕ). q.2) same in
    let stored = c.in_ok-storage.ensures.only storage (path_seen bytes _ plan.directory c.args.path.now _ directories h.reached) in
    let sorted = c.in_ok-entries.ensures.only plan.tree (listing_seen bytes _ _ storage plan h directories stored) in
    sorted_seen bytes _ _ _ _ plan directories c.deref-2.ensures.value sorted

pub returns-clause-storages : goal.returns-clause-storages
returns-clause-storages c = below_seen c.args.bytes.now _ _ _ c.deref-2.ensures.value c.in_ok-entries.ensures.storages

pub returns-clause-below : goal.returns-clause-below
returns-clause-below c = below_seen c.args.bytes.now _ _ _ c.deref-2.ensures.value c.in_ok-entries.ensures.below

pub returns-clause-covered : goal.returns-clause-covered
returns-clause-covered c =
    let bytes = c.args.bytes.now in
    let chained = c.in_ok-chains.ensures.found in
    let whole = covered bytes c.new-fat.result.sectors.now c.in_ok-mini.mini.fat.items c.in_ok-mini.mini.stream.items c.deref-2.result.now c.deref-3.result.now (views c.in_ok-chains.chains.items) (some_size bytes) chained.chained chained.mini_room.below in
    rw (c.deref-2.ensures.value, c.deref-3.ensures.value) at whole

pub returns-clause-grows : goal.returns-clause-grows
returns-clause-grows c = grown_twice _ _ _ _ c.in_ok-start.ensures.grows c.in_ok-mini.ensures.grows c.in_ok-chains.ensures.grows

pub returns-clause-bounded : goal.returns-clause-bounded
returns-clause-bounded c =
    let begun = c.in_ok-start.ensures.found in
    within_all c.args.bytes.now _ _ _ _ _ _ _ _ _ _ _ _ _ _ _ _ _ _ _ c.in_ok-claims.ensures.limit c.sector_count.ensures.inside begun.0 begun.1
    (c.new-fat.ensures.sectors ∙ c.deref.ensures.value) c.deref-2.ensures.value c.in_ok-start.ensures.limit c.in_ok-mini.ensures.found.0 c.in_ok-mini.ensures.limit
    c.in_ok-start.ensures.bounded c.in_ok-mini.ensures.bounded c.in_ok-chains.ensures.bounded
