use Rattle.msi_database_schema.proofs.CopiesLemmas.{lists_are, texts_are}
use Rattle.msi_database_schema.proofs.copies.Copies.of.Goals as goal

pub invariant_of-result : goal.invariant_of-result
invariant_of-result c = (
  texts_are c.args.pool.now.places c.as_slice.result.now c.in_ok-copied_texts.field-0.items c.in_ok-copied_texts.ensures.ok,
  lists_are c.args.pool.now.places c.as_slice-2.result.now c.in_ok-copied_lists.field-0.items c.in_ok-copied_lists.ensures.ok,
)
