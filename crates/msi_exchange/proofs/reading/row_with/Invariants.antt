use Rattle.std.proofs.Common.{◌≡◌, ◌+◌, drop, map}
use Rattle.msi_exchange.specs.Lists.{each_pair}
use Rattle.msi_exchange.specs.Places.{first_wrong_pair}
use Rattle.msi_exchange.specs.Reading.{cell_in}
use Rattle.msi_exchange.specs.WrongPlaces.{cell_wrong}
use Rattle.msi_exchange.proofs.ListLemmas.{with_front}
use Rattle.msi_exchange.proofs.reading.row_with.Given as goal

abbrev pub invariant-loop-i : goal.invariant-loop-i
invariant-loop-i l = (with_front l.row.items (each_pair cell_in (drop l.i l.columns) (map (λ field. field.now) (drop l.i l.fields)))
    ≡ each_pair cell_in l.columns (map (λ field. field.now) l.fields))
    × (first_wrong_pair (cell_wrong l.line) (1 + l.i) (drop l.i l.columns) (drop l.i (map (λ field. field.now) l.fields))
    ≡ first_wrong_pair (cell_wrong l.line) 1 l.columns (map (λ field. field.now) l.fields))
