use Rattle.std.proofs.Common.{sym, ◌∙◌}
use Rattle.msi_pool_places.specs.FirstFit.{is_fit}
use Rattle.msi_pool_places.specs.Indexing.{places_of}
use Rattle.msi_pool_places.proofs.PlaceLoopLemmas.{none_more, one_passes}
use Rattle.msi_pool_places.proofs.kept.KeptPlaces.has_fit.Goals as goal

pub returns-then-fits : goal.returns-then-fits
returns-then-fits c =
    sym (one_passes (is_fit c.args.text.now) (places_of c.args.self.now) c.loop-at.at c.place.result c.place.ensures (sym c.fits.ensures ∙ c.if-fits.true))

pub loop-at-preserved : goal.loop-at-preserved
loop-at-preserved c =
    none_more (is_fit c.args.text.now) (places_of c.args.self.now) c.loop-at.at c.place.result c.place.ensures c.loop-at.invariant (sym c.fits.ensures ∙ c.if-fits.false)
