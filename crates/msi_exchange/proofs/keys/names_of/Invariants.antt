use Rattle.std.proofs.Common.{◌≡◌, ◌+◌, drop, map}
use Rattle.msi_exchange.specs.Fields.{text_in}
use Rattle.msi_exchange.specs.Lists.{each}
use Rattle.msi_exchange.specs.Places.{first_wrong}
use Rattle.msi_exchange.specs.WrongPlaces.{name_wrong}
use Rattle.msi_exchange.proofs.ListLemmas.{with_front}
use Rattle.msi_exchange.proofs.keys.names_of.Given as goal

abbrev pub invariant-loop-i : goal.invariant-loop-i
invariant-loop-i l = (with_front l.names.items (each text_in (map (λ field. field.now) (drop l.i l.fields))) ≡ each text_in (map (λ field. field.now) l.fields))
    × (first_wrong name_wrong (l.before + 1 + l.i) (drop l.i (map (λ field. field.now) l.fields)) ≡ first_wrong name_wrong (l.before + 1) (map (λ field. field.now) l.fields))
