use Rattle.std.proofs.Common.{◌∙◌, refl}
use Rattle.std.specs.FinMap.{entries}
use Rattle.msi_database_changes.specs.Database.{Database, names_stay_in_pool, named_numbers, pool_fits_width, tables_are_readable, validation_is_standard}
use Rattle.msi_database_storage.specs.Kept.{database_kept}
use Rattle.msi_database_storage.proofs.SoundnessLemmas.{fifth_decides, first_fails, fourth_fails, second_fails, standard_kept, third_fails}
use Rattle.msi_database_storage.proofs.soundness.are_sound.Goals as goal

pub returns-then-not-counts_suffice : goal.returns-then-not-counts_suffice
returns-then-not-counts_suffice c = let d : Database = database_kept c.args.pool.now c.args.tables.now (entries c.args.streams.now) in
    first_fails d c.counts_suffice.result (names_stay_in_pool d) (pool_fits_width d) (tables_are_readable d) (validation_is_standard d)
    (c.counts_suffice.ensures (named_numbers d) c.requires.census) refl refl refl refl
    c.if-not-counts_suffice.true

pub returns-then-not-is_within : goal.returns-then-not-is_within
returns-then-not-is_within c = let d : Database = database_kept c.args.pool.now c.args.tables.now (entries c.args.streams.now) in
    second_fails d c.counts_suffice.result c.is_within.result (pool_fits_width d) (tables_are_readable d) (validation_is_standard d)
    (c.counts_suffice.ensures (named_numbers d) c.requires.census) (c.is_within.ensures ∙ c.requires.census.within) refl refl refl
    c.if-not-counts_suffice.false c.if-not-is_within.true

pub returns-then-not-fits_width : goal.returns-then-not-fits_width
returns-then-not-fits_width c = let d : Database = database_kept c.args.pool.now c.args.tables.now (entries c.args.streams.now) in
    third_fails d c.counts_suffice.result c.is_within.result c.fits_width.result (tables_are_readable d) (validation_is_standard d)
    (c.counts_suffice.ensures (named_numbers d) c.requires.census) (c.is_within.ensures ∙ c.requires.census.within) c.fits_width.ensures refl refl
    c.if-not-counts_suffice.false c.if-not-is_within.false c.if-not-fits_width.true

pub returns-then-not-are_sound_tables : goal.returns-then-not-are_sound_tables
returns-then-not-are_sound_tables c = let d : Database = database_kept c.args.pool.now c.args.tables.now (entries c.args.streams.now) in
    fourth_fails d c.counts_suffice.result c.is_within.result c.fits_width.result c.are_sound_tables.result (validation_is_standard d)
    (c.counts_suffice.ensures (named_numbers d) c.requires.census) (c.is_within.ensures ∙ c.requires.census.within) c.fits_width.ensures (c.are_sound_tables.ensures c.args.pool.now.long c.requires.long) refl
    c.if-not-counts_suffice.false c.if-not-is_within.false c.if-not-fits_width.false c.if-not-are_sound_tables.true

pub returns : goal.returns
returns c = let d : Database = database_kept c.args.pool.now c.args.tables.now (entries c.args.streams.now) in
    fifth_decides d c.counts_suffice.result c.is_within.result c.fits_width.result c.are_sound_tables.result c.is_standard.result
    (c.counts_suffice.ensures (named_numbers d) c.requires.census) (c.is_within.ensures ∙ c.requires.census.within) c.fits_width.ensures (c.are_sound_tables.ensures c.args.pool.now.long c.requires.long) (c.is_standard.ensures ∙ standard_kept c.args.pool.now c.args.tables.now (entries c.args.streams.now) c.args.standard.now c.requires.standard)
    c.if-not-counts_suffice.false c.if-not-is_within.false c.if-not-fits_width.false c.if-not-are_sound_tables.false
