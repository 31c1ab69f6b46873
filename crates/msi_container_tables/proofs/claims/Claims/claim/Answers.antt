use Rattle.std.proofs.Common.{arith, ◌≡◌, ◌<◌, length, get_or, false, ◌∙◌}
use Rattle.std.proofs.lemmas.Grind.{common_steps}
use Rattle.std.proofs.lemmas.Option.{gets}
use Rattle.msi_container_tables.proofs.chains.ClaimLemmas.{marked_push, unmarked_push, counted_push, distinct_push, free_unmarked}
use Rattle.msi_container_tables.proofs.claims.Claims.claim.Goals as goal

pub invariant_of-self-in-Some-false : goal.invariant_of-self-in-Some-false
invariant_of-self-in-Some-false c =
    let s = c.args.self.now in
    let marks = s.marks.items in
    let number = c.args.number in
    let within : number < length marks = grind (arith, common_steps, gets) in
    let clear : get_or marks number false ≡ false = grind (arith, common_steps, gets) in
    let items = c.in_ok-push-in-Some-false.ensures.items in
    record {
      marked = rw items (marked_push marks s.list.items number within s.marked);
      unmarked = rw items (unmarked_push marks s.list.items number s.unmarked);
      counted = counted_push marks number within clear ∙ omega (arith, s.counted, c.in_ok-push-in-Some-false.ensures.len);
      distinct = rw items (distinct_push s.list.items number s.distinct (free_unmarked marks s.list.items number s.marked clear));
    }
