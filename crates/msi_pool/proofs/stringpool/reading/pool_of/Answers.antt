use Rattle.std.proofs.Common.{arith}
use Rattle.msi_pool_places.specs.JoinedTexts.{places_joined}
use Rattle.msi_pool.proofs.ReadTextsLemmas.{same_length}
use Rattle.msi_pool.proofs.stringpool.reading.pool_of.Goals as goal

pub from_parts-requires-clause-most : goal.from_parts-requires-clause-most
from_parts-requires-clause-most c =
    omega (arith, same_length c.stream.inside.codepage c.args.bytes.now c.stream.inside.entries (places_joined c.in_ok-texts.texts) c.in_ok-texts.ensures.found, c.stream.invariant)
