-- Worked examples, by computation.
use Rattle.std.specs.Prelude.{◌≡◌, true, [], ◌∷◌, ◌++◌, Some, refl, codes, map, length, sum_by, take, option_map, ◌+◌}
use Rattle.msi_pool.specs.Pool.{pool_stream, data_stream}
use Rattle.msi_database_schema.specs.Keys.{table_key, summary_key}
use Rattle.msi_database.specs.Database.{is_sound, columns_by_name}
use Rattle.msi.specs.declared.kinds.PackageType.TheVariants as kind
use Rattle.msi.specs.State.{State}
use Rattle.msi_database_storage.specs.Streams.{stream_at}
use Rattle.msi.specs.Runs.{fresh}
use Rattle.msi_database_storage.specs.Agreement.{schema_in}
use Rattle.std.specs.List.{flat_map}
use Rattle.msi_base.specs.Lists.{numbers_below}

abbrev new : State
new = fresh kind.Installer

places : length new.kept.database.pool.places ≡ 17
places = refl

counts : sum_by (λ p. p.count) new.kept.database.pool.places ≡ 58
counts = refl

pool_bytes : option_map (λ bytes. take 8 bytes) (pool_stream new.kept.database.pool) ≡ Some (0xE9 ∷ 0xFD ∷ 0 ∷ 0 ∷ 0x0B ∷ 0 ∷ 0x15 ∷ 0 ∷ [])
pool_bytes = refl

pool_length : option_map length (pool_stream new.kept.database.pool) ≡ Some 72
pool_length = refl

data_length : option_map length (data_stream new.kept.database.pool) ≡ Some 356
data_length = refl

columns_stream : stream_at (table_key (codes "_Columns")) new.kept.streams
    ≡ Some (flat_map (λ i. 1 ∷ 0 ∷ []) (numbers_below 10) ++ flat_map (λ i. (i + 1) ∷ 0x80 ∷ []) (numbers_below 10) ++ flat_map (λ i. (i + 2) ∷ 0 ∷ []) (numbers_below 10)
    ++ 0x20 ∷ 0xAD ∷ 0x20 ∷ 0xAD ∷ 0x04 ∷ 0x8D ∷ 0x04 ∷ 0x91 ∷ 0x04 ∷ 0x91 ∷ 0xFF ∷ 0x9D ∷ 0x02 ∷ 0x95 ∷ 0x20 ∷ 0x9D ∷ 0xFF ∷ 0x9D ∷ 0xFF ∷ 0x9D ∷ [])
unfolding Rattle.std.specs.Str.chars
columns_stream = refl

stream_order : map (λ s. s.0) new.kept.streams ≡ map table_key (codes "_Columns" ∷ codes "_Tables" ∷ codes "_StringData" ∷ codes "_StringPool" ∷ codes "_Validation" ∷ []) ++ summary_key ∷ []
unfolding Rattle.std.specs.Str.chars
stream_order = refl

sound : is_sound new.kept.database ≡ true
unfolding Rattle.std.specs.Str.chars
sound = refl

schema : schema_in new.kept.streams new.kept.database.pool ≡ Some (columns_by_name new.kept.database)
unfolding Rattle.std.specs.Str.chars
schema = refl
