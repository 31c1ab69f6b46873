-- A new database is kept and sound, and its counts are exact; its places and its streams.
use Rattle.std.proofs.Common.{◌≡◌, ℕ, ◌+◌, ◌<◌, ◌≤◌, ◌^◌, Bool, true, ◌&&◌, ◌==◌, nat_lt, List, [], ◌∷◌, length, slice_get, refl, arith, lit≤}
use Rattle.std.specs.List.{list_all}
use Rattle.std.proofs.lemmas.Bool.{and_parts, ltb-true, eqb-true}
use Rattle.msi_base.specs.Lists.{numbers_below}
use Rattle.msi_base.proofs.ListLemmas.{each_number}
use Rattle.msi_pool.specs.FirstFit.{count_of}
use Rattle.msi_pool.specs.Pool.{Place, CountsFit, PlacesWritten}
use Rattle.msi_table_values.specs.Columns.{types_of}
use Rattle.msi_database_schema.specs.System.{validation_columns}
use Rattle.msi_database_changes.specs.Database.{Database, CountsAreExact, cells_naming, is_sound}
use Rattle.msi_database_changes.proofs.soundness.FitTestLemmas.{all_fit, all_fit_is, unlisted_fit, each_fits}
use Rattle.msi_database_storage.specs.StreamNames.{HaveShortNames}
use Rattle.msi_database_storage.specs.Agreement.{TablesAre, UnlistedIs, SchemaIs}
use Rattle.msi_database.specs.Fresh.{fresh}
use Rattle.msi_database.specs.Fresh.{FreshIsKept}
use Rattle.msi_database_storage.proofs.StreamLemmas.{AreSorted, TablesSorted}
use Rattle.msi_database.proofs.soundness.FitLemmas.{rows_fit}

abbrev d : Database
d = fresh.database

sorted : AreSorted fresh.streams
unfolding Rattle.std.specs.Str.chars
sorted = tt

names : HaveShortNames fresh.streams
unfolding Rattle.std.specs.Str.chars
names = (refl, (refl, (refl, tt)))

tables : TablesAre fresh.streams d
unfolding Rattle.std.specs.Str.chars
tables = (refl, (refl, (refl, tt)))

unlisted : UnlistedIs fresh.streams d
unfolding Rattle.std.specs.Str.chars
unlisted = refl

schema : SchemaIs fresh.streams d
unfolding Rattle.std.specs.Str.chars
schema = refl

in_order : TablesSorted d.tables
unfolding Rattle.std.specs.Str.chars
in_order = tt

fit : all_fit d ≡ true
unfolding Rattle.std.specs.Str.chars
fit = refl

unlisted_test : unlisted_fit d ≡ true
unfolding Rattle.std.specs.Str.chars
unlisted_test = refl

few : length d.pool.places ≤ 16777215
unfolding Rattle.std.specs.Str.chars
few = lit≤ tt

sound : is_sound d ≡ true
unfolding Rattle.std.specs.Str.chars
sound = refl

-- every place is in use, by few cells
is_in_use : Place → Bool
is_in_use p = nat_lt p.count (2 ^ 16) && nat_lt 0 p.count

counts_in_use : (places : List Place) → list_all is_in_use places ≡ true → CountsFit places
unfolding is_in_use
counts_in_use [] h = tt
counts_in_use (p ∷ ps) h = let parts = and_parts (is_in_use p) (list_all is_in_use ps) h in (ltb-true p.count (2 ^ 16) (and_parts _ _ parts.0).0, counts_in_use ps parts.1)

none_free : (places : List Place) → list_all is_in_use places ≡ true → PlacesWritten places
unfolding is_in_use
none_free [] h = tt
none_free (p ∷ ps) h =
    let parts = and_parts (is_in_use p) (list_all is_in_use ps) h in
    let some : 0 < p.count = ltb-true 0 p.count (and_parts (nat_lt p.count (2 ^ 16)) (nat_lt 0 p.count) parts.0).1 in
    ((λ none. absurd (omega (arith, some, none))), none_free ps parts.1)

in_use : list_all is_in_use d.pool.places ≡ true
unfolding Rattle.std.specs.Str.chars is_in_use
in_use = refl

is_exact : ℕ → Bool
is_exact i = count_of (slice_get d.pool.places i) == cells_naming d (i + 1)

all_exact : list_all is_exact (numbers_below (length d.pool.places)) ≡ true
unfolding Rattle.std.specs.Str.chars is_exact
all_exact = refl

exact : CountsAreExact d
unfolding is_exact
exact i h = eqb-true _ _ (each_number is_exact 0 (length d.pool.places) all_exact i (omega arith) (omega arith))

pub fresh_is_kept : FreshIsKept
fresh_is_kept = record {
  kept = record {
    in_order = sorted;
    names = names;
    spelled = record { tables = tables; unlisted = unlisted; schema = schema };
    rows = rows_fit d in_order (all_fit_is d fit);
    unlisted = each_fits d.pool.long (types_of validation_columns) d.unlisted_validation unlisted_test;
    few = few;
    counts = counts_in_use d.pool.places in_use;
    freed = λ _. none_free d.pool.places in_use;
  };
  sound = sound;
  counts = exact;
}
