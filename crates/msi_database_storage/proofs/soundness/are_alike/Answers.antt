use Rattle.msi_database_storage.proofs.SoundnessLemmas.{unlike_lengths}
use Rattle.msi_database_storage.proofs.soundness.are_alike.Goals as goal

pub returns-then-columns-others : goal.returns-then-columns-others
returns-then-columns-others c = unlike_lengths c.args.columns.now c.args.others.now c.if-columns-others.true
