use Rattle.std.proofs.Common.{◌≡◌, ◌⊎◌, take, string_bytes}
use Rattle.std.specs.List.{AllByRecursion}
use Rattle.msi_base.specs.Pages.{Reads}
use Rattle.msi_summary_properties.specs.SharedTexts.{BeginsCharacter, IsCut}
use Rattle.msi_summary_properties.proofs.shared.cut_at.Given as goal

abbrev pub invariant-loop-place : goal.invariant-loop-place
invariant-loop-place l = ((l.start ≡ 0) ⊎ BeginsCharacter l.bytes l.start)
    × Reads l.page (take l.start l.bytes) (string_bytes l.whole)
    × AllByRecursion (IsCut l.page l.bytes (string_bytes l.whole)) l.cuts.entries
