use Rattle.std.proofs.Common.{◌≡◌, true, None, Some, refl, subst, sym}
use Rattle.msi_database_changes.specs.Database.{is_sound}
use Rattle.msi_database_changes.proofs.steps.AtWidthLemmas.{sound_widened}
use Rattle.msi_database_storage.specs.Kept.{Kept}
use Rattle.msi_database.proofs.widths.CallAtBothWidthsLemmas.{same_base_where, wide_where}
use Rattle.msi_database.proofs.widths.LengthenedCallLemmas.{lengthened_held, lengthened_made}
use Rattle.msi_database_storage.proofs.PassedLemmas.{memory_passed, no_value}
use Rattle.msi_database.proofs.database.Database.lengthened_over.Goals as goal

pub over_this-requires-clause-sound : goal.over_this-requires-clause-sound
over_this-requires-clause-sound c = subst (λ (k : Kept). is_sound k.database ≡ true) (sym c.in_ok-wide.ensures.ok) (sound_widened c.args.self.now.database c.requires.sound)

pub over_this-requires-clause-held : goal.over_this-requires-clause-held
over_this-requires-clause-held c = lengthened_held c.args.self.now c.args.name.now c.args.columns c.args.rows c.args.pool (Some c.in_ok-wide.wide)
    (wide_where c.args.self.now c.args.pool c.is_widened.result c.is_widened.ensures c.if-is_widened.true c.in_ok-wide.wide c.in_ok-wide.ensures.ok) c.requires.held

pub over_this-requires-2-clause-held : goal.over_this-requires-2-clause-held
over_this-requires-2-clause-held c = lengthened_held c.args.self.now c.args.name.now c.args.columns c.args.rows c.args.pool None
    (same_base_where c.args.self.now c.args.pool c.is_widened.result c.is_widened.ensures c.if-is_widened.false) c.requires.held
