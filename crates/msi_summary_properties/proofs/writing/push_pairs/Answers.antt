use Rattle.std.proofs.Common.{◌<◌, ◌^◌, length, arith}
use Rattle.std.proofs.lemmas.Map.Iter.{rest_more}
use Rattle.std.specs.Map.Iter.{deref_pair}
use Rattle.msi_summary_properties.specs.PropertyWriting.{joined_pieces}
use Rattle.msi_summary_properties.proofs.PlainSectionLemmas.{told_at}
use Rattle.msi_summary_properties.proofs.writing.push_pairs.Goals as goal

pub known_len-place-requires : goal.known_len-place-requires
known_len-place-requires c =
    let here = rest_more deref_pair c.loop-id.id-iterator c.next.new.self c.next.result (c.in-Some.id, c.in-Some.value) c.in-Some.is c.next.ensures.steps in
    let room : length (joined_pieces c.args.page c.loop-id.id-iterator) < 2 ^ 32 = omega (arith, c.loop-id.invariant.room) in
    told_at c.args.page c.loop-id.id-iterator c.next.new.self c.in-Some.id.now c.in-Some.value.now here c.loop-id.invariant.carried room
