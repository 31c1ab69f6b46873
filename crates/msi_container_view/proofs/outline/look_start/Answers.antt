use Rattle.std.proofs.Common.{◌++◌, [], sym, arith, ◌∙◌, refl}
use Rattle.msi_container_tables.proofs.chains.ChainStepLemmas.{used_more}
use Rattle.msi_container_tables.proofs.chains.ClaimedLemmas.{claimed_room}
use Rattle.msi_container_view.proofs.table_lemmas.StandLemmas.{copy_read_on, reads_further, stand_further, stand_told}
use Rattle.msi_container_view.proofs.outline_lemmas.PassedAnswers.{answer_passed}
use Rattle.msi_container_view.proofs.outline_lemmas.StartLemmas.{room_after, none_used, claimed_behind, no_difat, no_fat, no_directory}
use Rattle.msi_container_view.proofs.outline.look_start.Goals as goal

-- THE DIFAT

pub returns-in_err-difat-clause-answer : goal.returns-in_err-difat-clause-answer
returns-in_err-difat-clause-answer g c =
    answer_passed g.S.Source.can_fail _ c.args.tables.now.held _ _ _ c.from_residual.result _ c.from_residual.ensures.1 refl c.in_err-difat.ensures.answer
    (λ file told broken. no_difat file _ _ c.requires.empty broken)

-- THE FAT

pub look_fat-requires-clause-copied : goal.look_fat-requires-clause-copied
look_fat-requires-clause-copied g c = copy_read_on c.args.tables.now c.look_difat.new.tables _ c.requires.copied c.in_ok-difat.ensures.reads

pub look_fat-requires-clause-stand : goal.look_fat-requires-clause-stand
look_fat-requires-clause-stand g c = stand_told _ _ _ _ _ c.in_ok-difat.ensures.reads.told c.in_ok-difat.ensures.stand

pub look_fat-requires-clause-room : goal.look_fat-requires-clause-room
look_fat-requires-clause-room g c =
    let claimed = used_more c.args.claims.now.list c.look_difat.new.claims.list c.in_ok-difat.difat.sectors c.in_ok-difat.ensures.claimed in
    room_after c.args.tables.now c.look_difat.new.tables _ _ c.requires.copied c.in_ok-difat.ensures.reads c.requires.one (omega (arith, claimed, none_used c.args.claims.now.list c.requires.empty))

pub returns-in_err-fat-clause-answer : goal.returns-in_err-fat-clause-answer
returns-in_err-fat-clause-answer g c =
    let used = claimed_behind c.args.claims.now.list c.look_difat.new.claims.list c.in_ok-difat.difat.sectors [] c.requires.empty c.in_ok-difat.ensures.claimed in
    answer_passed g.S.Source.can_fail _ c.look_difat.new.tables.held _ _ _ c.from_residual-in_err-fat.result _ c.from_residual-in_err-fat.ensures.1 c.in_ok-difat.ensures.reads.told c.in_err-fat.ensures.answer
    (λ file told broken. no_fat file _ _ _ _ c.in_ok-difat.ensures.limit used (c.in_ok-difat.ensures.answer file told) broken)

-- THE DIRECTORY

pub look_directory-requires-clause-copied : goal.look_directory-requires-clause-copied
look_directory-requires-clause-copied g c =
    let copy = copy_read_on c.args.tables.now c.look_difat.new.tables _ c.requires.copied c.in_ok-difat.ensures.reads in
    copy_read_on c.look_difat.new.tables c.look_fat.new.tables _ copy c.in_ok-fat.ensures.reads

pub look_directory-requires-clause-stand : goal.look_directory-requires-clause-stand
look_directory-requires-clause-stand g c = stand_told _ _ _ _ _ c.in_ok-fat.ensures.reads.told c.in_ok-fat.ensures.stand

pub look_directory-requires-clause-room : goal.look_directory-requires-clause-room
look_directory-requires-clause-room g c =
    let first = used_more c.args.claims.now.list c.look_difat.new.claims.list c.in_ok-difat.difat.sectors c.in_ok-difat.ensures.claimed in
    let then = used_more c.look_difat.new.claims.list c.look_fat.new.claims.list c.in_ok-fat.fat.sectors c.in_ok-fat.ensures.claimed in
    let both = reads_further c.args.tables.now c.look_difat.new.tables c.look_fat.new.tables _ _ c.requires.copied c.in_ok-difat.ensures.reads c.in_ok-fat.ensures.reads in
    room_after c.args.tables.now c.look_fat.new.tables _ _ c.requires.copied both c.requires.one (omega (arith, first, then, none_used c.args.claims.now.list c.requires.empty))

pub returns-in_err-directory-clause-answer : goal.returns-in_err-directory-clause-answer
returns-in_err-directory-clause-answer g c =
    let difats = c.in_ok-difat.ensures in
    let fats = c.in_ok-fat.ensures in
    let used = claimed_behind c.args.claims.now.list c.look_difat.new.claims.list c.in_ok-difat.difat.sectors [] c.requires.empty difats.claimed in
    let both = claimed_behind c.look_difat.new.claims.list c.look_fat.new.claims.list c.in_ok-fat.fat.sectors c.in_ok-difat.difat.sectors.items used fats.claimed in
    answer_passed g.S.Source.can_fail _ c.look_fat.new.tables.held _ _ _ c.from_residual-in_err-directory.result _ c.from_residual-in_err-directory.ensures.1 (fats.reads.told ∙ difats.reads.told) c.in_err-directory.ensures.answer
    (λ file told broken. no_directory file _ _ _ _ _ (fats.limit ∙ difats.limit) both (difats.answer file told) (fats.answer file (difats.reads.told ∙ told)) broken)

-- THE START

pub returns-clause-answer : goal.returns-clause-answer
returns-clause-answer g c = λ file told.
    let difats = c.in_ok-difat.ensures in
    let fats = c.in_ok-fat.ensures in
    let directories = c.in_ok-directory.ensures in
    let after = c.look_directory.new.claims in
    let used = claimed_behind c.args.claims.now.list c.look_difat.new.claims.list c.in_ok-difat.difat.sectors [] c.requires.empty difats.claimed in
    let both = claimed_behind c.look_difat.new.claims.list c.look_fat.new.claims.list c.in_ok-fat.fat.sectors c.in_ok-difat.difat.sectors.items used fats.claimed in
    let whole = claimed_behind c.look_fat.new.claims.list after.list c.in_ok-directory.directory.sectors (c.in_ok-difat.difat.sectors.items ++ c.in_ok-fat.fat.sectors.items) both directories.claimed in
    let limit = directories.limit ∙ fats.limit ∙ difats.limit in
    record {
      header = c.requires.headed file told;
      difats = difats.answer file told;
      fats = fats.answer file (difats.reads.told ∙ told);
      chain = directories.answer file (fats.reads.told ∙ difats.reads.told ∙ told);
      room = claimed_room after.marks _ after.list.items [] (c.in_ok-difat.difat.sectors.items ++ c.in_ok-fat.fat.sectors.items ++ c.in_ok-directory.directory.sectors.items) limit after.marked after.distinct whole;
    }

pub returns-clause-reads : goal.returns-clause-reads
returns-clause-reads g c =
    let both = reads_further c.args.tables.now c.look_difat.new.tables c.look_fat.new.tables _ _ c.requires.copied c.in_ok-difat.ensures.reads c.in_ok-fat.ensures.reads in
    reads_further c.args.tables.now c.look_fat.new.tables c.look_directory.new.tables _ _ c.requires.copied both c.in_ok-directory.ensures.reads

pub returns-clause-fat : goal.returns-clause-fat
returns-clause-fat g c =
    let t = c.args.tables.now in
    let both = reads_further t c.look_difat.new.tables c.look_fat.new.tables _ _ c.requires.copied c.in_ok-difat.ensures.reads c.in_ok-fat.ensures.reads in
    let copy = copy_read_on t c.look_fat.new.tables _ c.requires.copied both in
    let held = stand_told _ c.look_fat.new.tables.held _ _ _ c.in_ok-fat.ensures.reads.told c.in_ok-fat.ensures.stand in
    let further = stand_further c.look_fat.new.tables c.look_directory.new.tables _ _ _ copy c.in_ok-directory.ensures.reads held in
    stand_told _ t.held _ _ _ (sym both.told) further

pub returns-clause-directory : goal.returns-clause-directory
returns-clause-directory g c =
    let told = c.in_ok-fat.ensures.reads.told ∙ c.in_ok-difat.ensures.reads.told in
    stand_told _ c.args.tables.now.held _ _ _ (sym told) c.in_ok-directory.ensures.stand
