use Rattle.std.proofs.Common.{rules, ◌≡◌, ◌+◌, ◌<◌, ◌≤◌, vec_len, Some, Err, arith, ap, sym, ◌∙◌}
use Rattle.std.proofs.lemmas.List.{length_push}
use Rattle.msi_container_format.specs.Container.{next_difat, difat_start}
use Rattle.msi_container_tables.specs.Walks.{follower}
use Rattle.msi_container_tables.proofs.chains.ChainLemmas.{chain_push, same_push}
use Rattle.msi_container_tables.proofs.chains.ChainStepLemmas.{used_more, used_one_more}
use Rattle.msi_container_tables.proofs.chains.FatLemmas.{difat_count_is}
use Rattle.msi_container_tables.proofs.chains.ClaimedLemmas.{few_claimed}
use Rattle.msi_container_view.proofs.table_lemmas.AnswerLemmas.{broken_or_refused}
use Rattle.msi_container_view.proofs.table_lemmas.StandLemmas.{copy_read_on, reads_further}
use Rattle.msi_container_view.proofs.table_lemmas.DifatLemmas.{difat_count, count_told, count_kept, follows_told, next_free, claimed_more, room_on, one_more_stands}
use Rattle.msi_container_view.proofs.looking.look_difat.Goals as goal

pub returns-in_err-claim-clause-answer : goal.returns-in_err-claim-clause-answer
returns-in_err-claim-clause-answer g c =
    let t = c.args.tables.now in
    let i = c.loop.invariant in
    let bytes : c.copy.result.now ≡ t.copy = c.copy.ensures in
    let end : c.div_ceil-end.result ≡ difat_count t.copy = rw bytes at (difat_count_is c.copy.result.now _ _ _ _ c.div_ceil-end.ensures c.saturating_sub-listed.ensures (search rules) c.sector_size-size.ensures.value) in
    let next : Some c.next_sector-sector.result ≡ follower (next_difat c.loop.tables.copy) (difat_start c.loop.tables.copy) c.loop.difat.places.items = search rules in
    let follows = follows_told t c.loop.tables c.loop.counter c.next_sector-sector.result c.loop.difat.sectors.items c.loop.difat.places.items c.requires.copied i.reads i.stand next in
    broken_or_refused g.S.Source.can_fail _ _ _ c.from_residual.result _ c.from_residual.ensures.1 c.in_err-claim.ensures.kinds
    (λ invalid file told difat is can.
    let within : c.loop.counter < difat_count file = omega (arith, end, count_told t c.requires.copied file told, c.loop-test.true) in
    let free = next_free file c.loop.difat.sectors.items c.args.claims.now.list.items c.loop.claims.list.items difat _ c.loop.counter c.next_sector-sector.result is can within (i.only file told difat is can) (follows file told) i.claimed in
    c.in_err-claim.ensures.invalid (ap Err invalid) (rw i.limit free))

pub load_one-requires-clause-copied : goal.load_one-requires-clause-copied
load_one-requires-clause-copied g c = copy_read_on c.args.tables.now c.loop.tables c.loop.counter c.requires.copied c.loop.invariant.reads

pub load_one-requires-clause-few : goal.load_one-requires-clause-few
load_one-requires-clause-few g c =
    let i = c.loop.invariant in
    let before = c.args.claims.now.list in
    let after = c.claim.new.self in
    let more = used_more before c.loop.claims.list c.loop.difat.sectors i.claimed in
    let one = used_one_more c.loop.claims.list after.list c.next_sector-sector.result c.in_ok-claim.ensures.ok.1 in
    let taken : vec_len before + c.loop.counter + 1 ≤ vec_len after.list = omega (arith, more, one, i.many, c.loop.difat.sectors.ok.0) in
    let most : vec_len after.list ≤ 0xFFFF_FFFB = omega (arith, few_claimed after.marks after.list after.counted, c.in_ok-claim.ensures.limit, i.limit, c.requires.regular) in
    room_on c.args.tables.now c.loop.tables c.loop.counter (vec_len before) (vec_len after.list) c.requires.copied i.reads c.requires.room taken most

pub loop-preserved : goal.loop-preserved
loop-preserved g c =
    let t = c.args.tables.now in
    let i = c.loop.invariant in
    let xs = c.loop.difat.sectors.items in
    let s = c.next_sector-sector.result in
    let pushed = c.in_ok-push-2.ensures.items in
    let bytes : c.copy.result.now ≡ t.copy = c.copy.ensures in
    let end : c.div_ceil-end.result ≡ difat_count t.copy = rw bytes at (difat_count_is c.copy.result.now _ _ _ _ c.div_ceil-end.ensures c.saturating_sub-listed.ensures (search rules) c.sector_size-size.ensures.value) in
    let next : Some c.next_sector-sector.result ≡ follower (next_difat c.loop.tables.copy) (difat_start c.loop.tables.copy) c.loop.difat.places.items = search rules in
    let follows = follows_told t c.loop.tables c.loop.counter c.next_sector-sector.result c.loop.difat.sectors.items c.loop.difat.places.items c.requires.copied i.reads i.stand next in
    record {
      so_far = λ file told. rw pushed (chain_push (next_difat file) (difat_start file) c.loop.counter s xs (i.so_far file told) (follows file told));
      many = rw pushed (length_push xs s ∙ ap (λ n. n + 1) i.many);
      reads = reads_further t c.loop.tables c.load_one.new.self c.loop.counter 1 c.requires.copied i.reads c.in_ok-load_one.ensures.reads;
      stand = rw (pushed, c.in_ok-push.ensures.items)
          (one_more_stands t c.loop.tables c.load_one.new.self c.loop.counter s c.in_ok-load_one.field-0 xs c.loop.difat.places.items c.requires.copied i.reads c.in_ok-load_one.ensures.reads i.stand c.in_ok-load_one.ensures.stand);
      claimed = rw pushed (claimed_more c.args.claims.now.list.items c.loop.claims.list.items c.claim.new.self.list.items xs s i.claimed c.in_ok-claim.ensures.ok.1);
      limit = c.in_ok-claim.ensures.limit ∙ i.limit;
      only = λ file told difat is can.
          let within : c.loop.counter < difat_count file = omega (arith, end, count_told t c.requires.copied file told, c.loop-test.true) in
          rw pushed (same_push (next_difat file) (difat_start file) (difat_count file) c.loop.counter s xs difat is within (i.only file told difat is can) (follows file told));
    }

pub returns-clause-answer : goal.returns-clause-answer
returns-clause-answer g c = λ file told.
    let t = c.args.tables.now in
    let bytes : c.copy.result.now ≡ t.copy = c.copy.ensures in
    let end : c.div_ceil-end.result ≡ difat_count t.copy = rw bytes at (difat_count_is c.copy.result.now _ _ _ _ c.div_ceil-end.ensures c.saturating_sub-listed.ensures (search rules) c.sector_size-size.ensures.value) in
    let all : c.loop.counter ≡ difat_count file = omega (arith, end, count_told t c.requires.copied file told, c.loop-test.false, c.loop.auto.counter-end) in
    rw all at (c.loop.invariant.so_far file told)

pub returns-clause-count : goal.returns-clause-count
returns-clause-count g c =
    let t = c.args.tables.now in
    let i = c.loop.invariant in
    let bytes : c.copy.result.now ≡ t.copy = c.copy.ensures in
    let end : c.div_ceil-end.result ≡ difat_count t.copy = rw bytes at (difat_count_is c.copy.result.now _ _ _ _ c.div_ceil-end.ensures c.saturating_sub-listed.ensures (search rules) c.sector_size-size.ensures.value) in
    let all : c.loop.counter ≡ c.div_ceil-end.result = omega arith in
    c.loop.difat.sectors.ok.0 ∙ i.many ∙ all ∙ end ∙ sym (count_kept t c.loop.tables c.loop.counter c.requires.copied i.reads)
