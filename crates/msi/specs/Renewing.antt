-- The streams that a flush writes anew, put among the others.
use Rattle.std.specs.Prelude.{◌≡◌, ℕ, ◌⊎◌, Bool, true, List, [], ◌∷◌, ◌++◌, map, Option, Some, None}
use Rattle.std.specs.Prelude.{◌&&◌, option_and_then, option_map, if◌then◌else◌}
use Rattle.msi_base.specs.declared.errors.ErrorKind.{ErrorKind}
use Rattle.msi_base.specs.declared.errors.ErrorKind.TheVariants.{InvalidInput, OutOfMemory}
use Rattle.msi_base.specs.Refusals.{Refusals}
use Rattle.msi_pool.specs.Pool.{Pool, pool_stream, data_stream}
use Rattle.msi_pool.specs.PoolWriting.{is_refused}
use Rattle.msi_summary.specs.Properties.{Properties}
use Rattle.msi_summary.specs.PropertyStream.{property_stream}
use Rattle.msi_summary.specs.PropertyWriting as properties
use Rattle.msi_database_schema.specs.Keys.{table_key, summary_key, string_pool_name, string_data_name}
use Rattle.msi_database_storage.specs.Streams.{Streams, with_stream}

-- streams that are put among others, one after another
abbrev pub with_renewed : Streams → Streams → Streams
with_renewed [] streams = streams
with_renewed (r ∷ rs) streams = with_renewed rs (with_stream r.0 r.1 streams)

-- the streams of which one may lie open: that one stands over the one that is kept
abbrev pub opened : Option (List ℕ) → List ℕ → Streams → Streams
opened None bytes streams = streams
opened (Some name) bytes streams = with_stream name bytes streams

-- What the summary and the pool put among streams; nothing where the page can't carry a text
abbrev pub summary_written : Properties → Option (List ℕ)
summary_written summary = if properties.is_refused summary then None else property_stream summary

abbrev pub pool_put : Pool → Streams → Option Streams
pool_put pool streams = if is_refused pool then None else option_and_then
    (λ written. option_map (λ texts. with_stream (table_key string_pool_name) written
    (with_stream (table_key string_data_name) texts streams)) (data_stream pool))
    (pool_stream pool)

-- the same where they are to be written
abbrev pub summary_over : Bool → Properties → Streams → Option Streams
summary_over is_lent summary streams = if is_lent
    then option_map (λ bytes. with_stream summary_key bytes streams) (summary_written summary)
    else Some streams

abbrev pub pool_over : Bool → Pool → Streams → Option Streams
pool_over is_changed pool streams = if is_changed then pool_put pool streams else Some streams

abbrev pub renewed_over : Bool → Properties → Bool → Pool → Streams → Option Streams
renewed_over is_lent summary is_changed pool streams =
    option_and_then (pool_over is_changed pool) (summary_over is_lent summary streams)

-- why they aren't written: a page can't encode a text of the summary, or of the pool
abbrev pub text_refusals : Bool → Properties → Bool → Pool → Refusals
text_refusals is_lent summary is_changed pool =
    (is_lent && properties.is_refused summary, InvalidInput) ∷ (is_changed && is_refused pool, InvalidInput) ∷ []

-- the names of those that are written
abbrev pub keys_in : Streams → List (List ℕ)
keys_in streams = map (λ s. s.0) streams

abbrev pub summary_keys : Bool → List (List ℕ)
summary_keys is_lent = if is_lent then summary_key ∷ [] else []

abbrev pub pool_keys : List (List ℕ)
pool_keys = table_key string_data_name ∷ table_key string_pool_name ∷ []

abbrev pub renewed_keys : Bool → Bool → List (List ℕ)
renewed_keys is_lent is_changed = if is_changed then summary_keys is_lent ++ pool_keys else summary_keys is_lent

-- want of memory, or a text that can't be written
abbrev pub IsUnwritten : Bool → ErrorKind → Type 0
IsUnwritten is_refused kind = (kind ≡ OutOfMemory) ⊎ (kind ≡ InvalidInput) × (is_refused ≡ true)
