-- Steps that each may give nothing, taken in turn along a list: how far they have come.
use Rattle.std.proofs.Common.{List, ◌++◌, Option, option_map}
use Rattle.msi_database_changes.specs.Texts.{in_turn}

-- the whole answer, where some items are done and these are left
abbrev pub from_here : {S X Y : Type 0} → (S → X → Option (Y × S)) → List Y → S → List X → Option (List Y × S)
from_here step done s xs = option_map (λ r. (done ++ r.0, r.1)) (in_turn step s xs)
