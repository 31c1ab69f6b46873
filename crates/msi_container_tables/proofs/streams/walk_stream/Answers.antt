use Rattle.std.proofs.Common.{arith, ◌≡◌, ℕ, ◌++◌, true, false, sym, Vec, Global}
use Rattle.std.proofs.lemmas.Result.{IfOk-weaker}
use Rattle.std.proofs.lemmas.Bool.{le-ltb, lt-ltb}
use Rattle.std.proofs.lemmas.List.{append-nil}
use Rattle.msi_container_format.specs.Container.{is_mini, size, sectors_in, mini_sectors_in}
use Rattle.msi_container_tables.proofs.chains.ClaimedLemmas.{few_claimed}
use Rattle.msi_container_tables.proofs.chains.RoomLemmas.{room_in_first, room_in_second}
use Rattle.msi_container_tables.proofs.streams.walk_stream.Goals as goal

-- a stream in mini sectors takes no sectors
pub returns-then-size-lt-CUTOFF-clause-sectors : goal.returns-then-size-lt-CUTOFF-clause-sectors
returns-then-size-lt-CUTOFF-clause-sectors c =
    let bytes = c.args.directory.now.bytes.now in
    let directory = c.args.directory.now.sectors.now in
    let used = c.args.uses.now.sectors.list.items in
    let small : is_mini (size bytes directory c.args.entry) ≡ true = lt-ltb _ _ (omega (arith, c.size-size.ensures)) in
    IfOk-weaker c.walk.result _ (λ (chain : Vec ℕ Global). used ≡ used ++ sectors_in bytes directory (c.args.entry, chain.items)) (λ chain _. rw small (sym (append-nil used))) c.walk.ensures.found

-- a stream in sectors takes no mini sectors
pub returns-else-size-lt-CUTOFF-clause-mini_sectors : goal.returns-else-size-lt-CUTOFF-clause-mini_sectors
returns-else-size-lt-CUTOFF-clause-mini_sectors c =
    let bytes = c.args.directory.now.bytes.now in
    let directory = c.args.directory.now.sectors.now in
    let used = c.args.uses.now.mini_sectors.list.items in
    let large : is_mini (size bytes directory c.args.entry) ≡ false = le-ltb _ _ (omega (arith, c.size-size.ensures)) in
    IfOk-weaker c.walk-else-size-lt-CUTOFF.result _ (λ (chain : Vec ℕ Global). used ≡ used ++ mini_sectors_in bytes directory (c.args.entry, chain.items)) (λ chain _. rw large (sym (append-nil used))) c.walk-else-size-lt-CUTOFF.ensures.found

-- what one of the two tables needs is there, since no more is in use beside it than there are marks
pub walk-requires : goal.walk-requires
walk-requires c =
    let sectors = c.args.uses.now.sectors in
    room_in_second _ _ _ _ _ (few_claimed sectors.marks sectors.list sectors.counted) c.requires.steps

pub walk-requires-else-size-lt-CUTOFF : goal.walk-requires-else-size-lt-CUTOFF
walk-requires-else-size-lt-CUTOFF c =
    let minis = c.args.uses.now.mini_sectors in
    room_in_first _ _ _ _ _ (few_claimed minis.marks minis.list minis.counted) c.requires.steps
