use Rattle.msi_exchange.proofs.PlaceLemmas.{place_at, value_at}
use Rattle.msi_exchange.proofs.columns.type_at.Goals as goal

pub returns : goal.returns
returns c = record {
  value = value_at (λ type. type) c.args.place c.type_of.result c.at.result _ c.at.ensures c.type_of.ensures;
  place = place_at (λ type. type) c.args.place c.type_of.result c.at.result _ c.at.ensures c.type_of.ensures;
}
