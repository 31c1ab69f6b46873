use Rattle.std.proofs.Common.{◌≡◌, ap, subst}
use Rattle.msi_exchange.specs.Fields.{value_in}
use Rattle.msi_exchange.specs.Places.{Gives, Placed, unless_read}
use Rattle.msi_exchange.specs.Reading.{cell_in}
use Rattle.msi_exchange.proofs.PlaceLemmas.{place_at, value_at}
use Rattle.msi_exchange.proofs.fields.cell_at.Goals as goal

pub returns : goal.returns
unfolding cell_in
returns c =
    let is : value_in c.coltype.result c.args.field.now ≡ cell_in c.args.column.now c.args.field.now = ap (λ type. value_in type c.args.field.now) c.coltype.ensures in
    record {
      value = subst (Gives (λ v. v) c.at.result) is (value_at (λ v. v) c.args.place c.value_of.result c.at.result _ c.at.ensures c.value_of.ensures);
      place = subst (λ o. Placed c.at.result (unless_read o c.args.place)) is (place_at (λ v. v) c.args.place c.value_of.result c.at.result _ c.at.ensures c.value_of.ensures);
    }
