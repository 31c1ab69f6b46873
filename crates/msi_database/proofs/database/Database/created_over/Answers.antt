use Rattle.std.proofs.Common.{◌≡◌, true, subst, sym}
use Rattle.msi_database_changes.specs.Database.{is_sound}
use Rattle.msi_database_changes.proofs.steps.AtWidthLemmas.{sound_widened}
use Rattle.msi_database_storage.specs.Kept.{Kept}
use Rattle.msi_database.proofs.widths.CallAtBothWidthsLemmas.{same_created, same_held, wide_created, wide_held}
use Rattle.msi_database_storage.proofs.PassedLemmas.{memory_passed, no_value}
use Rattle.msi_database.proofs.database.Database.created_over.Goals as goal

pub streams_for-requires-clause-sound : goal.streams_for-requires-clause-sound
streams_for-requires-clause-sound c = subst (λ (k : Kept). is_sound k.database ≡ true) (sym c.in_ok-wide.ensures.ok) (sound_widened c.args.self.now.database c.requires.sound)

pub streams_for-requires-clause-held : goal.streams_for-requires-clause-held
streams_for-requires-clause-held c = wide_held c.args.self.now c.args.pool c.is_widened.result c.is_widened.ensures c.if-is_widened.true c.args.name.now c.args.columns c.args.rows c.in_ok-wide.wide c.in_ok-wide.ensures.ok c.requires.held

pub returns-then-is_widened-clause-ok : goal.returns-then-is_widened-clause-ok
returns-then-is_widened-clause-ok c = wide_created c.args.self.now c.args.pool c.is_widened.result c.is_widened.ensures c.if-is_widened.true c.args.name.now c.args.columns c.args.rows c.in_ok-wide.wide c.in_ok-wide.ensures.ok
    c.creation.result.new.stored.items c.in_ok-stored.stored.items c.in_ok-stored.ensures.ok c.creation.result.new.tables c.in_ok-tables.tables c.in_ok-tables.ensures.ok c.creation.result.new.wide c.creation.ensures.wide
    c.creation.ensures.stored c.creation.ensures.tables c.creation.result.new.pool c.creation.ensures.pool c.creation.result.is_pool_used c.creation.ensures.uses

pub streams_for-requires-2-clause-held : goal.streams_for-requires-2-clause-held
streams_for-requires-2-clause-held c = same_held c.args.self.now c.args.pool c.is_widened.result c.is_widened.ensures c.if-is_widened.false c.args.name.now c.args.columns c.args.rows c.requires.held

pub returns-clause-ok : goal.returns-clause-ok
returns-clause-ok c = same_created c.args.self.now c.args.pool c.is_widened.result c.is_widened.ensures c.if-is_widened.false c.args.name.now c.args.columns c.args.rows
    c.creation-2.result.new.stored.items c.in_ok-stored-2.stored.items c.in_ok-stored-2.ensures.ok c.creation-2.result.new.tables c.in_ok-tables-2.tables c.in_ok-tables-2.ensures.ok c.creation-2.result.new.wide c.creation-2.ensures.wide
    c.creation-2.ensures.stored c.creation-2.ensures.tables c.creation-2.result.new.pool c.creation-2.ensures.pool c.creation-2.result.is_pool_used c.creation-2.ensures.uses

pub returns-in_err-wide-clause-ok : goal.returns-in_err-wide-clause-ok
returns-in_err-wide-clause-ok c = no_value _ c.from_residual.result c.in_err-wide.field-0.0 c.from_residual.ensures.1

pub returns-in_err-wide-clause-kind : goal.returns-in_err-wide-clause-kind
returns-in_err-wide-clause-kind c = memory_passed c.from_residual.result c.in_err-wide.field-0.0 c.from_residual.ensures.1 c.in_err-wide.ensures.kind

pub returns-in_err-stored-clause-ok : goal.returns-in_err-stored-clause-ok
returns-in_err-stored-clause-ok c = no_value _ c.from_residual-in_err-stored.result c.in_err-stored.field-0.0 c.from_residual-in_err-stored.ensures.1

pub returns-in_err-stored-clause-kind : goal.returns-in_err-stored-clause-kind
returns-in_err-stored-clause-kind c = memory_passed c.from_residual-in_err-stored.result c.in_err-stored.field-0.0 c.from_residual-in_err-stored.ensures.1 c.in_err-stored.ensures.kind

pub returns-in_err-tables-clause-ok : goal.returns-in_err-tables-clause-ok
returns-in_err-tables-clause-ok c = no_value _ c.from_residual-in_err-tables.result c.in_err-tables.field-0.0 c.from_residual-in_err-tables.ensures.1

pub returns-in_err-tables-clause-kind : goal.returns-in_err-tables-clause-kind
returns-in_err-tables-clause-kind c = memory_passed c.from_residual-in_err-tables.result c.in_err-tables.field-0.0 c.from_residual-in_err-tables.ensures.1 c.in_err-tables.ensures.kind

pub returns-in_err-stored-2-clause-ok : goal.returns-in_err-stored-2-clause-ok
returns-in_err-stored-2-clause-ok c = no_value _ c.from_residual-in_err-stored-2.result c.in_err-stored-2.field-0.0 c.from_residual-in_err-stored-2.ensures.1

pub returns-in_err-stored-2-clause-kind : goal.returns-in_err-stored-2-clause-kind
returns-in_err-stored-2-clause-kind c = memory_passed c.from_residual-in_err-stored-2.result c.in_err-stored-2.field-0.0 c.from_residual-in_err-stored-2.ensures.1 c.in_err-stored-2.ensures.kind

pub returns-in_err-tables-2-clause-ok : goal.returns-in_err-tables-2-clause-ok
returns-in_err-tables-2-clause-ok c = no_value _ c.from_residual-in_err-tables-2.result c.in_err-tables-2.field-0.0 c.from_residual-in_err-tables-2.ensures.1

pub returns-in_err-tables-2-clause-kind : goal.returns-in_err-tables-2-clause-kind
returns-in_err-tables-2-clause-kind c = memory_passed c.from_residual-in_err-tables-2.result c.in_err-tables-2.field-0.0 c.from_residual-in_err-tables-2.ensures.1 c.in_err-tables-2.ensures.kind
