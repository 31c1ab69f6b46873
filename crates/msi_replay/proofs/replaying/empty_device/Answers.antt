use Rattle.std.proofs.Common.{◌∙◌, List, Some, ap, ℕ}
use Rattle.msi.specs.Container.Held.{Held, bytes_told, from_first}
use Rattle.msi_replay.proofs.replaying.empty_device.Goals as goal

pub returns : goal.returns
returns c =
    ap (λ (h : Held). bytes_told (Some h)) c.from_vec.ensures.held
    ∙ ap (λ (bytes : List ℕ). bytes_told (Some (from_first bytes))) c.new.ensures.items
