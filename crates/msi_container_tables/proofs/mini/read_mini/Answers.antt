use Rattle.std.proofs.Common.{◌≡◌, ◌+◌, ◌++◌, vec_len, ◌∙◌, ap}
use Rattle.std.specs.Int.{div_ceil}
use Rattle.std.proofs.lemmas.List.{append_assoc}
use Rattle.std.proofs.lemmas.Result.{err_from_is_err_and}
use Rattle.msi_container_tables.specs.Claims.{CanClaim}
use Rattle.msi_container_format.specs.Chains.{IsChain}
use Rattle.msi_container_format.specs.Container.{successor, sector_size, size, IsMiniFat}
use Rattle.msi_container_tables.proofs.chains.ClaimedLemmas.{claim_front, claim_back, claimed_room}
use Rattle.msi_container_tables.specs.Counts.{links}
use Rattle.msi_container_tables.proofs.chains.RoomLemmas.{grown, steps_twice}
use Rattle.msi_container_tables.proofs.chains.RoomLemmas.{few_taken}
use Rattle.msi_container_tables.proofs.mini.read_mini.Goals as goal

pub returns-in_err-mini_fat-clause-only : goal.returns-in_err-mini_fat-clause-only
returns-in_err-mini_fat-clause-only c = λ mini_fat mini_stream m.
    let p = err_from_is_err_and c.from_residual.result c.from_residual.ensures.1 in
    let table : IsMiniFat c.args.fat.now.bytes.now c.args.fat.now.sectors.now mini_fat = rw c.requires.same m.table in
    rw (p.1, p.2) (c.in_err-mini_fat.ensures.only mini_fat table (claim_front _ _ mini_fat mini_stream m.room))

pub returns-in_err-stream-clause-only : goal.returns-in_err-stream-clause-only
returns-in_err-stream-clause-only c = λ mini_fat mini_stream m.
    let p = err_from_is_err_and c.from_residual-in_err-stream.result c.from_residual-in_err-stream.ensures.1 in
    let table : IsMiniFat c.args.fat.now.bytes.now c.args.fat.now.sectors.now mini_fat = rw c.requires.same m.table in
    let same = c.in_ok-mini_fat.ensures.only mini_fat table (claim_front _ _ mini_fat mini_stream m.room) in
    let count : c.div_ceil-count.result ≡ div_ceil (size c.args.directory.now.bytes.now c.args.directory.now.sectors.now 0) (sector_size c.args.directory.now.bytes.now) = cc in
    let chain : IsChain (successor c.args.fat.now.bytes.now c.args.fat.now.sectors.now) c.start_sector.result c.div_ceil-count.result mini_stream = rw (c.requires.same, c.start_sector.ensures, count) m.stream in
    let room : CanClaim (vec_len c.read_mini_fat.new.claims.marks) c.read_mini_fat.new.claims.list.items mini_stream =
    rw (c.in_ok-mini_fat.ensures.limit, c.in_ok-mini_fat.ensures.found.1, same) (claim_back _ _ mini_fat mini_stream m.room) in
    rw (p.1, p.2) (c.in_err-stream.ensures.only mini_stream chain room)

pub returns-clause-found : goal.returns-clause-found
returns-clause-found c =
    let found = c.in_ok-mini_fat.ensures.found in
    let streamed = c.in_ok-stream.ensures.found in
    let after = c.walk.new.claims in
    let used = c.args.claims.now.list.items in
    let listed : after.list.items ≡ used ++ c.in_ok-mini_fat.mini_fat.items ++ c.in_ok-stream.stream.items = streamed.1 ∙ ap (λ xs. xs ++ c.in_ok-stream.stream.items) found.1 in
    let count : c.div_ceil-count.result ≡ div_ceil (size c.args.directory.now.bytes.now c.args.directory.now.sectors.now 0) (sector_size c.args.directory.now.bytes.now) = cc in (
      record {
        table = rw c.requires.same at found.0;
        stream = rw (c.requires.same, c.start_sector.ensures, count) at streamed.0;
        room = claimed_room after.marks _ after.list.items used (c.in_ok-mini_fat.mini_fat.items ++ c.in_ok-stream.stream.items)
            (c.in_ok-stream.ensures.limit ∙ c.in_ok-mini_fat.ensures.limit) after.marked after.distinct (listed ∙ append_assoc used _ _);
      },
      listed,
    )

pub returns-clause-only : goal.returns-clause-only
returns-clause-only c = λ mini_fat mini_stream m.
    let table : IsMiniFat c.args.fat.now.bytes.now c.args.fat.now.sectors.now mini_fat = rw c.requires.same m.table in
    let same = c.in_ok-mini_fat.ensures.only mini_fat table (claim_front _ _ mini_fat mini_stream m.room) in
    let count : c.div_ceil-count.result ≡ div_ceil (size c.args.directory.now.bytes.now c.args.directory.now.sectors.now 0) (sector_size c.args.directory.now.bytes.now) = cc in
    let chain : IsChain (successor c.args.fat.now.bytes.now c.args.fat.now.sectors.now) c.start_sector.result c.div_ceil-count.result mini_stream = rw (c.requires.same, c.start_sector.ensures, count) m.stream in
    let room : CanClaim (vec_len c.read_mini_fat.new.claims.marks) c.read_mini_fat.new.claims.list.items mini_stream =
    rw (c.in_ok-mini_fat.ensures.limit, c.in_ok-mini_fat.ensures.found.1, same) (claim_back _ _ mini_fat mini_stream m.room) in
    let streamed = c.in_ok-stream.ensures.only mini_stream chain room in
    cc

pub returns-clause-few : goal.returns-clause-few
returns-clause-few c =
    let after = c.walk.new.claims in
    few_taken c.args.claims.now.list c.read_mini_fat.new.claims.list after.list c.in_ok-mini_fat.mini_fat c.in_ok-stream.stream after.marks _
    c.in_ok-mini_fat.ensures.found.1 c.in_ok-stream.ensures.found.1 after.counted (c.in_ok-stream.ensures.limit ∙ c.in_ok-mini_fat.ensures.limit)

pub returns-clause-exact : goal.returns-clause-exact
returns-clause-exact c = c.in_ok-stream.ensures.exact ∙ ap (λ n. n + links c.in_ok-stream.stream.items) c.in_ok-mini_fat.ensures.exact

pub returns-clause-bounded : goal.returns-clause-bounded
returns-clause-bounded c = steps_twice _ _ _ _ _ _ c.in_ok-mini_fat.ensures.bounded c.in_ok-stream.ensures.bounded

pub returns-clause-limit : goal.returns-clause-limit
returns-clause-limit c = c.in_ok-stream.ensures.limit ∙ c.in_ok-mini_fat.ensures.limit

pub returns-clause-grows : goal.returns-clause-grows
returns-clause-grows c = grown _ _ _ c.in_ok-mini_fat.ensures.grows c.in_ok-stream.ensures.grows

pub returns-in_err-stream-clause-bounded : goal.returns-in_err-stream-clause-bounded
returns-in_err-stream-clause-bounded c = steps_twice _ _ _ _ _ _ c.in_ok-mini_fat.ensures.bounded c.in_err-stream.ensures.bounded

pub returns-in_err-stream-clause-limit : goal.returns-in_err-stream-clause-limit
returns-in_err-stream-clause-limit c = c.in_err-stream.ensures.limit ∙ c.in_ok-mini_fat.ensures.limit

pub returns-in_err-stream-clause-grows : goal.returns-in_err-stream-clause-grows
returns-in_err-stream-clause-grows c = grown _ _ _ c.in_ok-mini_fat.ensures.grows c.in_err-stream.ensures.grows
