use Rattle.std.proofs.Common.{◌≡◌, ◌+◌, drop, map}
use Rattle.msi_exchange.specs.Lists.{each_pair}
use Rattle.msi_exchange.specs.Places.{first_wrong_pair}
use Rattle.msi_exchange.specs.Reading.{column_in}
use Rattle.msi_exchange.specs.WrongPlaces.{column_wrong}
use Rattle.msi_exchange.proofs.ListLemmas.{with_front}
use Rattle.msi_exchange.proofs.columns.columns_with.Given as goal

abbrev pub invariant-loop-i : goal.invariant-loop-i
invariant-loop-i l = (with_front l.columns.items (each_pair column_in (map (λ name. name.now) (drop l.i l.names)) (map (λ type. type.now) (drop l.i l.types)))
    ≡ each_pair column_in (map (λ name. name.now) l.names) (map (λ type. type.now) l.types))
    × (first_wrong_pair column_wrong (1 + l.i) (drop l.i (map (λ name. name.now) l.names)) (drop l.i (map (λ type. type.now) l.types))
    ≡ first_wrong_pair column_wrong 1 (map (λ name. name.now) l.names) (map (λ type. type.now) l.types))
