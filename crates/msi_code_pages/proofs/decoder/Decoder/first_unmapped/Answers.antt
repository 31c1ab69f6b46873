use Rattle.std.proofs.Common.{arith, length-drop}
use Rattle.msi_code_pages.proofs.ReadingLemmas.{unmapped_found, mapped_passed, all_passed, shorter}
use Rattle.msi_code_pages.proofs.decoder.Decoder.first_unmapped.Goals as goal

pub returns-then-is_none : goal.returns-then-is_none
returns-then-is_none c =
    let first = c.first_sequence-length in
    unmapped_found c.args.self.now c.args.bytes.now c.loop-rest.rest.now c.loop-rest.place first.result.0 first.result.1 c.is_none.result c.loop-rest.invariant.found first.ensures.split first.ensures.character c.is_none.ensures c.if-is_none.true

pub loop-rest-smaller : goal.loop-rest-smaller
loop-rest-smaller c = shorter _ _ _ c.behind-rest.ensures c.first_sequence-length.ensures.least c.first_sequence-length.ensures.most

pub loop-rest-preserved : goal.loop-rest-preserved
loop-rest-preserved c =
    let first = c.first_sequence-length in
    record {
      counted = grind (arith, c.loop-rest.invariant.counted, c.behind-rest.ensures, first.ensures.most, length-drop);
      found = mapped_passed c.args.self.now c.args.bytes.now c.loop-rest.rest.now _ c.loop-rest.place first.result.0 first.result.1 c.is_none.result c.loop-rest.invariant.found first.ensures.split first.ensures.character c.is_none.ensures c.if-is_none.false first.ensures.most c.behind-rest.ensures;
    }

pub returns : goal.returns
returns c = all_passed c.args.self.now c.args.bytes.now c.loop-rest.rest.now c.loop-rest.place c.is_empty.result c.loop-rest.invariant.found c.is_empty.ensures c.loop-rest-test.false
