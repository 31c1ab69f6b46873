use Rattle.msi_transform_applying.proofs.ReadBackLemmas.{texts_read}
use Rattle.msi_transform_applying.proofs.leaving.texts_read_back.Goals as goal

pub returns : goal.returns
returns c = texts_read c.args.pool.now c.is_writable.result c.is_writable.ensures.exact c.is_writable.ensures.utf8
