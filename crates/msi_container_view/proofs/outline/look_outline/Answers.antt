use Rattle.std.proofs.Common.{Err, vec_len, ap, arith, ◌∙◌, refl}
use Rattle.msi_container_tables.proofs.chains.ClaimedLemmas.{few_claimed}
use Rattle.msi_container_view.specs.Copied.{HasHeaderOf, AreCopied}
use Rattle.msi_container_view.specs.Reading.{Tells}
use Rattle.msi_container_view.proofs.table_lemmas.AnswerLemmas.{broken_or_refused}
use Rattle.msi_container_view.proofs.table_lemmas.StandLemmas.{copy_read_on, reads_further, size_read_on, stand_further, stand_told}
use Rattle.msi_container_view.proofs.outline_lemmas.PassedAnswers.{answer_passed}
use Rattle.msi_container_view.proofs.outline_lemmas.StartLemmas.{room_after}
use Rattle.msi_container_view.proofs.outline_lemmas.CountLemmas.{used_three, used_two_more, few, as_many, sectors_read, parts_read, below_later, size_later, clsid_found}
use Rattle.msi_container_view.proofs.outline_lemmas.RootLemmas.{begun_with, no_start, no_entries, no_mini, no_streams, outline_found}
use Rattle.msi_container_view.proofs.outline.look_outline.Goals as goal

-- THE START

pub returns-in_err-start-clause-answer : goal.returns-in_err-start-clause-answer
returns-in_err-start-clause-answer g c =
    answer_passed g.S.Source.can_fail _ c.args.tables.now.held _ _ _ c.from_residual-in_err-start.result _ c.from_residual-in_err-start.ensures.1 refl c.in_err-start.ensures.answer
    (λ file told broken. no_start file c.args.limit _ c.in_ok-claims.ensures.limit (c.requires.limits file told) broken)

-- THE ENTRIES

pub returns-in_err-entries-clause-answer : goal.returns-in_err-entries-clause-answer
returns-in_err-entries-clause-answer g c =
    let start = c.in_ok-start.ensures in
    let copy = copy_read_on c.args.tables.now c.look_start.new.tables _ c.requires.copied start.reads in
    broken_or_refused g.S.Source.can_fail _ _ _ c.from_residual-in_err-entries.result _ c.from_residual-in_err-entries.ensures.1 c.in_err-entries.ensures.kinds
    (λ invalid file told.
    let begun = begun_with file c.args.limit _ _ _ _ _ c.in_ok-claims.ensures.limit (c.requires.limits file told) c.requires.regular (start.answer file told) start.claimed in
    no_entries file _ _ _ _ _ begun (c.in_err-entries.ensures.broken (ap Err invalid) file (rw c.copy.ensures (copy.headed file (start.reads.told ∙ told))) (rw c.copy.ensures (start.directory.told file told))))

-- THE MINI STREAM

pub look_mini-requires-clause-copied : goal.look_mini-requires-clause-copied
look_mini-requires-clause-copied g c = copy_read_on c.args.tables.now c.look_start.new.tables _ c.requires.copied c.in_ok-start.ensures.reads

pub look_mini-requires-clause-fat : goal.look_mini-requires-clause-fat
look_mini-requires-clause-fat g c = stand_told _ _ _ _ _ c.in_ok-start.ensures.reads.told c.in_ok-start.ensures.fat

pub look_mini-requires-clause-directory : goal.look_mini-requires-clause-directory
look_mini-requires-clause-directory g c = stand_told _ _ _ _ _ c.in_ok-start.ensures.reads.told c.in_ok-start.ensures.directory

pub look_mini-requires-clause-room : goal.look_mini-requires-clause-room
look_mini-requires-clause-room g c =
    let start = c.in_ok-start.start in
    room_after c.args.tables.now c.look_start.new.tables _ _ c.requires.copied c.in_ok-start.ensures.reads c.requires.one (used_three c.look_start.new.claims.list start.difat start.fat.sectors start.directory.sectors c.in_ok-start.ensures.claimed)

pub returns-in_err-mini-clause-answer : goal.returns-in_err-mini-clause-answer
returns-in_err-mini-clause-answer g c =
    let start = c.in_ok-start.ensures in
    answer_passed g.S.Source.can_fail _ c.look_start.new.tables.held _ _ _ c.from_residual-in_err-mini.result _ c.from_residual-in_err-mini.ensures.1 start.reads.told c.in_err-mini.ensures.answer
    (λ file told broken.
    let begun = begun_with file c.args.limit _ _ _ _ _ c.in_ok-claims.ensures.limit (c.requires.limits file told) c.requires.regular (start.answer file told) start.claimed in
    no_mini file _ _ _ _ _ begun _ start.limit broken)

-- THE STREAMS

pub look_streams-requires-clause-storages : goal.look_streams-requires-clause-storages
look_streams-requires-clause-storages g c =
    let copy = copy_read_on c.args.tables.now c.look_start.new.tables _ c.requires.copied c.in_ok-start.ensures.reads in
    let size = size_read_on c.look_start.new.tables c.look_mini.new.tables _ copy c.in_ok-mini.ensures.reads in
    below_later c.copy.result.now c.copy-copy.result.now _ _ (size_later _ _ c.copy.result.now c.copy-copy.result.now c.copy.ensures c.copy-copy.ensures size) c.in_ok-entries.ensures.storages

pub look_streams-requires-clause-below : goal.look_streams-requires-clause-below
look_streams-requires-clause-below g c =
    let copy = copy_read_on c.args.tables.now c.look_start.new.tables _ c.requires.copied c.in_ok-start.ensures.reads in
    let size = size_read_on c.look_start.new.tables c.look_mini.new.tables _ copy c.in_ok-mini.ensures.reads in
    below_later c.copy.result.now c.copy-copy.result.now _ _ (size_later _ _ c.copy.result.now c.copy-copy.result.now c.copy.ensures c.copy-copy.ensures size) c.in_ok-entries.ensures.below

pub look_streams-requires-clause-fat_few : goal.look_streams-requires-clause-fat_few
look_streams-requires-clause-fat_few g c =
    let start = c.in_ok-start.start in
    let claims = c.look_start.new.claims in
    let used = used_three claims.list start.difat start.fat.sectors start.directory.sectors c.in_ok-start.ensures.claimed in
    let stand = as_many start.fat.places start.fat.sectors c.in_ok-start.ensures.fat.long in
    omega (arith, few (vec_len start.fat.places) (vec_len claims.list) (vec_len claims.marks) c.args.limit (omega (arith, used, stand)) (few_claimed claims.marks claims.list claims.counted) (c.in_ok-start.ensures.limit ∙ c.in_ok-claims.ensures.limit) c.requires.regular)

pub look_streams-requires-clause-few : goal.look_streams-requires-clause-few
look_streams-requires-clause-few g c =
    let start = c.in_ok-start.start in
    let claims = c.look_start.new.claims in
    let used = used_three claims.list start.difat start.fat.sectors start.directory.sectors c.in_ok-start.ensures.claimed in
    let stand = as_many start.directory.places start.directory.sectors c.in_ok-start.ensures.directory.long in
    omega (arith, few (vec_len start.directory.places) (vec_len claims.list) (vec_len claims.marks) c.args.limit (omega (arith, used, stand)) (few_claimed claims.marks claims.list claims.counted) (c.in_ok-start.ensures.limit ∙ c.in_ok-claims.ensures.limit) c.requires.regular)

pub look_streams-requires-clause-mini_few : goal.look_streams-requires-clause-mini_few
look_streams-requires-clause-mini_few g c =
    let mini = c.in_ok-mini.mini in
    let claims = c.look_mini.new.claims in
    let used = used_two_more c.look_start.new.claims.list claims.list mini.sectors mini.mini.stream c.in_ok-mini.ensures.claimed in
    let stand = as_many mini.mini.fat mini.sectors c.in_ok-mini.ensures.stand.long in
    few _ (vec_len claims.list) (vec_len claims.marks) c.args.limit (omega (arith, used, stand)) (few_claimed claims.marks claims.list claims.counted) (c.in_ok-mini.ensures.limit ∙ c.in_ok-start.ensures.limit ∙ c.in_ok-claims.ensures.limit) c.requires.regular

pub returns-in_err-streams-clause-answer : goal.returns-in_err-streams-clause-answer
returns-in_err-streams-clause-answer g c =
    let t = c.look_start.new.tables in
    let start = c.in_ok-start.ensures in
    let mini = c.in_ok-mini.ensures in
    let first = copy_read_on c.args.tables.now t _ c.requires.copied start.reads in
    let copy = copy_read_on t c.look_mini.new.tables _ first mini.reads in
    let fat = stand_further t c.look_mini.new.tables _ _ _ first mini.reads (stand_told _ t.held _ _ _ start.reads.told start.fat) in
    let directory = stand_further t c.look_mini.new.tables _ _ _ first mini.reads (stand_told _ t.held _ _ _ start.reads.told start.directory) in
    broken_or_refused g.S.Source.can_fail _ _ _ c.from_residual-in_err-streams.result _ c.from_residual-in_err-streams.ensures.1 c.in_err-streams.ensures.kinds
    (λ invalid file told.
    let tells : Tells t.held file = start.reads.told ∙ told in
    let begun = begun_with file c.args.limit _ _ _ _ _ c.in_ok-claims.ensures.limit (c.requires.limits file told) c.requires.regular (start.answer file told) start.claimed in
    let entries = c.in_ok-entries.ensures.found file (rw c.copy.ensures (first.headed file tells)) (rw c.copy.ensures (start.directory.told file told)) in
    no_streams file _ _ _ _ _ begun _ _ _ _ _ _ _ entries.1 start.limit (mini.answer file tells) mini.claimed mini.limit entries.2 entries.4 entries.5
    (c.in_err-streams.ensures.broken (ap Err invalid) file
    (rw c.copy-copy.ensures (copy.headed file (mini.reads.told ∙ tells)))
    (rw c.copy-copy.ensures (fat.told file tells))
    (rw c.copy-copy.ensures (directory.told file tells))
    (rw c.copy-copy.ensures (mini.stand.told file tells))))

-- THE OUTLINE

pub new-requires-2 : goal.new-requires-2
new-requires-2 g c =
    let start = c.in_ok-start.start in
    let claims = c.look_start.new.claims in
    let used = used_three claims.list start.difat start.fat.sectors start.directory.sectors c.in_ok-start.ensures.claimed in
    let stand = as_many start.directory.places start.directory.sectors c.in_ok-start.ensures.directory.long in
    omega (arith, c.as_slice.ensures.len, few (vec_len start.directory.places) (vec_len claims.list) (vec_len claims.marks) c.args.limit (omega (arith, used, stand)) (few_claimed claims.marks claims.list claims.counted) (c.in_ok-start.ensures.limit ∙ c.in_ok-claims.ensures.limit) c.requires.regular)

pub returns-clause-answer : goal.returns-clause-answer
returns-clause-answer g c = λ file told.
    let t = c.look_start.new.tables in
    let parts = c.in_ok-start.start in
    let tables = c.in_ok-mini.mini in
    let start = c.in_ok-start.ensures in
    let mini = c.in_ok-mini.ensures in
    let first = copy_read_on c.args.tables.now t _ c.requires.copied start.reads in
    let copy = copy_read_on t c.look_mini.new.tables _ first mini.reads in
    let all = reads_further c.args.tables.now t c.look_mini.new.tables _ _ c.requires.copied start.reads mini.reads in
    let tells : Tells t.held file = start.reads.told ∙ told in
    let fat = stand_further t c.look_mini.new.tables _ _ _ first mini.reads (stand_told _ t.held _ _ _ start.reads.told start.fat) in
    let directory = stand_further t c.look_mini.new.tables _ _ _ first mini.reads (stand_told _ t.held _ _ _ start.reads.told start.directory) in
    let header : HasHeaderOf file c.copy-copy.result.now = rw c.copy-copy.ensures (copy.headed file (mini.reads.told ∙ tells)) in
    let fats : AreCopied file c.copy-copy.result.now parts.fat.sectors.items parts.fat.places.items = rw c.copy-copy.ensures (fat.told file tells) in
    let directories : AreCopied file c.copy-copy.result.now parts.directory.sectors.items parts.directory.places.items = rw c.copy-copy.ensures (directory.told file tells) in
    let minis : AreCopied file c.copy-copy.result.now tables.sectors.items tables.mini.fat.items = rw c.copy-copy.ensures (mini.stand.told file tells) in
    let begun = begun_with file c.args.limit _ _ _ _ _ c.in_ok-claims.ensures.limit (c.requires.limits file told) c.requires.regular (start.answer file told) start.claimed in
    let entries = c.in_ok-entries.ensures.found file (rw c.copy.ensures (first.headed file tells)) (rw c.copy.ensures (start.directory.told file told)) in
    let streams = c.in_ok-streams.ensures.found file header fats directories minis in
    let clsid = clsid_found file c.copy-copy.result.now c.new-2.result.bytes.now parts.directory.sectors.items parts.directory.places.items c.new-2.result.sectors.now c.clsid-clsid.result
    c.new-2.ensures.bytes (c.new-2.ensures.sectors ∙ c.as_slice.ensures.value) header directories (omega (arith, start.some, parts.directory.sectors.ok)) c.clsid-clsid.ensures in
    outline_found file _ _ _ _ _ begun _ _ _ _ _ _ _ entries.1 streams.0 c.clsid-clsid.result c.in_ok-entries.entries.has_storages _ _
    start.limit (mini.answer file tells) mini.claimed mini.limit entries.0 entries.2 entries.3 entries.4 entries.5 streams.1 streams.2 clsid streams.3
    (parts_read _ _ parts.difat parts.fat.sectors parts.directory.sectors tables.sectors (sectors_read c.args.tables.now c.look_mini.new.tables _ c.requires.copied c.requires.one all file told))
