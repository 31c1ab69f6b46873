use Rattle.msi_exchange.proofs.PlaceLemmas.{place_at, value_at}
use Rattle.msi_exchange.proofs.fields.text_at.Goals as goal

pub returns : goal.returns
returns c = record {
  value = value_at (λ text. text) c.args.place c.text_of.result c.at.result _ c.at.ensures c.text_of.ensures;
  place = place_at (λ text. text) c.args.place c.text_of.result c.at.result _ c.at.ensures c.text_of.ensures;
}
