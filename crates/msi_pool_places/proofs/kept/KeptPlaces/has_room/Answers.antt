use Rattle.std.proofs.Common.{◌∙◌, arith}
use Rattle.msi_pool_places.specs.Indexing.{places_of}
use Rattle.msi_pool_places.proofs.IndexedFitLemmas.{room_past}
use Rattle.msi_pool_places.proofs.kept.KeptPlaces.has_room.Goals as goal

pub returns-else-len-most_places : goal.returns-else-len-most_places
returns-else-len-most_places c = c.has_fit.ensures ∙ room_past c.args.long (places_of c.args.self.now) c.args.text.now (omega (arith, c.if-len-most_places.false, c.len.ensures, c.most_places.ensures))
