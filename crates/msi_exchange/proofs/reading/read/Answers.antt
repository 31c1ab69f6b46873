use Rattle.msi_exchange.proofs.MeaningLemmas.{given_means, meaning_given}
use Rattle.msi_exchange.proofs.reading.read.Goals as goal

pub returns-clause-found : goal.returns-clause-found
returns-clause-found c = given_means c.archive_in_text.result c.args.text.now c.archive_in_text.ensures.value

pub returns-clause-only : goal.returns-clause-only
returns-clause-only c = λ archive m. meaning_given c.archive_in_text.result c.args.text.now archive c.archive_in_text.ensures.value m
