use Rattle.std.proofs.Common.{◌≡◌, ◌+◌, drop, map}
use Rattle.msi_exchange.specs.Lists.{each}
use Rattle.msi_exchange.specs.Places.{first_wrong}
use Rattle.msi_exchange.specs.Reading.{row_in}
use Rattle.msi_exchange.specs.WrongPlaces.{row_wrong}
use Rattle.msi_exchange.proofs.ListLemmas.{with_front}
use Rattle.msi_exchange.proofs.reading.rows_of.Given as goal

abbrev pub invariant-loop-i : goal.invariant-loop-i
invariant-loop-i l = (with_front l.rows.items (each (row_in l.columns) (map (λ line. line.now) (drop l.i l.lines)))
    ≡ each (row_in l.columns) (map (λ line. line.now) l.lines))
    × (first_wrong (row_wrong l.columns) (4 + l.i) (drop l.i (map (λ line. line.now) l.lines)) ≡ first_wrong (row_wrong l.columns) 4 (map (λ line. line.now) l.lines))
