use Rattle.msi_transform_making.specs.Making.{pair_of}
use Rattle.msi_transform_making.proofs.AlikeLemmas.{both_fit, texts_of}
use Rattle.msi_transform_making.proofs.making.make.Goals as goal

pub told_tables-requires-clause-texts : goal.told_tables-requires-clause-texts
told_tables-requires-clause-texts c =
    texts_of c.args.old.now.kept c.args.new.now.kept c.pool.result.now c.pool-2.result.now c.in_ok-texts.texts c.pool.ensures c.pool-2.ensures c.in_ok-texts.ensures.ok

pub told_tables-requires-clause-old_fit : goal.told_tables-requires-clause-old_fit
told_tables-requires-clause-old_fit c = (both_fit (pair_of c.args.old.now c.args.new.now) c.in_ok-check_pair.ensures.ok).0

pub told_tables-requires-clause-new_fit : goal.told_tables-requires-clause-new_fit
told_tables-requires-clause-new_fit c = (both_fit (pair_of c.args.old.now c.args.new.now) c.in_ok-check_pair.ensures.ok).1
