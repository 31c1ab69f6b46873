use Rattle.std.specs.FinMap.{entries}
use Rattle.msi_view.proofs.query_lemmas.OpenedLemmas.{catalog_once}
use Rattle.msi_view.proofs.laws.one_catalog.Goals as goal

pub returns : goal.returns
returns c = λ contents p q ts us a b. catalog_once (entries contents.streams) p q ts us a b
