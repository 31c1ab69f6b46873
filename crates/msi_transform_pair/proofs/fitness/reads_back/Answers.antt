use Rattle.msi_transform_pair.proofs.PageLemmas.{back_is}
use Rattle.msi_transform_pair.proofs.fitness.reads_back.Goals as goal

pub returns : goal.returns
returns c = back_is c.args.page c.args.text.now c.reads_back.result c.utf8.text c.reads_back.ensures.0 c.reads_back.ensures.1
