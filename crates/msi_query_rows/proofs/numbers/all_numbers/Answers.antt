use Rattle.msi_query_rows.proofs.WalkLemmas.{numbers_more}
use Rattle.msi_query_rows.proofs.numbers.all_numbers.Goals as goal

pub loop-number-preserved : goal.loop-number-preserved
loop-number-preserved c = record {
  numbers = numbers_more c.loop-number.numbers.items c.push.new.self.items c.loop-number.number c.in_ok-push.ensures.items c.loop-number.invariant.numbers;
}
