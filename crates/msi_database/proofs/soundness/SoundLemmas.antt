-- What soundness says of the tables and of the pool.
use Rattle.std.proofs.Common.{◌≡◌, ◌≤◌, true, ◌&&◌, [], ◌∷◌, length, is_some, arith}
use Rattle.std.specs.List.{list_all, AllByRecursion}
use Rattle.std.proofs.lemmas.Bool.{and_parts, leb-true}
use Rattle.msi_pool.specs.FirstFit.{most_places}
use Rattle.msi_pool.proofs.FirstFitLemmas.{most_places-few}
use Rattle.msi_database_schema.specs.Keys.{is_table_name}
use Rattle.msi_database_changes.specs.Database.{Database, Tables, is_sound, counts_suffice, names_stay_in_pool, pool_fits_width, tables_are_readable, validation_is_standard}

each_named : (ts : Tables) → list_all (λ t. is_some t.1.rows && is_table_name t.0) ts ≡ true → AllByRecursion (λ t. is_table_name t.0 ≡ true) ts
each_named [] h = tt
each_named (t ∷ ts) h = let parts = and_parts (is_some t.1.rows && is_table_name t.0) (list_all (λ t. is_some t.1.rows && is_table_name t.0) ts) h in
    ((and_parts (is_some t.1.rows) (is_table_name t.0) parts.0).1, each_named ts parts.1)

each_readable : (ts : Tables) → list_all (λ t. is_some t.1.rows && is_table_name t.0) ts ≡ true → AllByRecursion (λ t. is_some t.1.rows ≡ true) ts
each_readable [] h = tt
each_readable (t ∷ ts) h = let parts = and_parts (is_some t.1.rows && is_table_name t.0) (list_all (λ t. is_some t.1.rows && is_table_name t.0) ts) h in
    ((and_parts (is_some t.1.rows) (is_table_name t.0) parts.0).0, each_readable ts parts.1)

-- the five tests
pub record IsSound (d : Database) : Type 0 where
  pub suffice : counts_suffice d ≡ true
  pub inside : names_stay_in_pool d ≡ true
  pub fits : pool_fits_width d ≡ true
  pub readable : tables_are_readable d ≡ true
  pub standard : validation_is_standard d ≡ true

pub sound_is : (d : Database) → is_sound d ≡ true → IsSound d
sound_is d h =
    let a = and_parts (counts_suffice d && names_stay_in_pool d && pool_fits_width d && tables_are_readable d) (validation_is_standard d) h in
    let b = and_parts (counts_suffice d && names_stay_in_pool d && pool_fits_width d) (tables_are_readable d) a.0 in
    let c = and_parts (counts_suffice d && names_stay_in_pool d) (pool_fits_width d) b.0 in
    let e = and_parts (counts_suffice d) (names_stay_in_pool d) c.0 in
    record { suffice = e.0; inside = e.1; fits = c.1; readable = b.1; standard = a.1 }

pub sound_names : (d : Database) → is_sound d ≡ true → AllByRecursion (λ t. is_table_name t.0 ≡ true) d.tables
sound_names d h = each_named d.tables (sound_is d h).readable

pub sound_rows : (d : Database) → is_sound d ≡ true → AllByRecursion (λ t. is_some t.1.rows ≡ true) d.tables
sound_rows d h = each_readable d.tables (sound_is d h).readable

pub sound_pool : (d : Database) → is_sound d ≡ true → length d.pool.places ≤ 16777215
sound_pool d h =
    let most : most_places d.pool.long ≤ 16777215 = most_places-few d.pool.long in
    let few : length d.pool.places ≤ most_places d.pool.long = leb-true (length d.pool.places) (most_places d.pool.long) (sound_is d h).fits in
    omega (arith, most, few)
