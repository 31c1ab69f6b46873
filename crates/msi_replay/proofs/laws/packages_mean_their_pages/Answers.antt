use Rattle.msi_replay.proofs.PagesLemmas as lemmas
use Rattle.msi_replay.proofs.laws.packages_mean_their_pages.Goals as goal

pub returns : goal.returns
returns c = lemmas.packages_mean_their_pages
