-- The string pool in the streams of a container, and why there is none.
use Rattle.std.specs.Prelude.{ℕ, ◌%◌, ◌^◌, List, [], ◌∷◌, IsSome, IsSomeAnd}
use Rattle.std.specs.Option.{option_map_or}
use Rattle.msi_base.specs.declared.errors.ErrorKind.{ErrorKind}
use Rattle.msi_base.specs.declared.errors.ErrorKind.TheVariants.{InvalidData, NotFound}
use Rattle.msi_pool.specs.Pool.{IsPool, IsPoolStream, Pool, PoolStream}
use Rattle.msi_container_format.specs.Bytes.{number32}
use Rattle.msi_database_schema.specs.Keys.{string_data_name, string_pool_name, table_key}
use Rattle.msi_database_storage.specs.Streams.{Streams, stream_at}
use Rattle.msi_transform.specs.ReadSteps.{StopsAmong}

-- the container's names of its two streams
abbrev pub pool_key : List ℕ
pool_key = table_key string_pool_name

abbrev pub data_key : List ℕ
data_key = table_key string_data_name

-- the first stream says this: all but the texts
abbrev pub PoolStreamIs : Streams → PoolStream → Type 0
PoolStreamIs streams stream = IsSomeAnd (stream_at pool_key streams) (λ bytes. IsPoolStream bytes stream)

-- the two streams hold this pool
abbrev pub PoolIs : Streams → Pool → Type 0
PoolIs streams pool = IsSomeAnd (stream_at pool_key streams)
    (λ entries. IsSomeAnd (stream_at data_key streams) (λ texts. IsPool entries texts pool))

-- the id of the page as the first stream has it, without the top bit, which says that references are long
abbrev pub stored_page_id : Streams → ℕ
stored_page_id streams = option_map_or (λ bytes. number32 bytes 0 % 2 ^ 31) (stream_at pool_key streams) 0

-- the steps of reading it, the first of which that fails decides
pub data PoolStep : Type 0 where
  has_pool reads_pool has_texts reads_texts : PoolStep

abbrev pub pool_steps : List PoolStep
pool_steps = has_pool ∷ reads_pool ∷ has_texts ∷ reads_texts ∷ []

abbrev pub PassesPool : Streams → PoolStep → Type 0
PassesPool streams has_pool = IsSome (stream_at pool_key streams)
PassesPool streams reads_pool = (stream : PoolStream) × PoolStreamIs streams stream
PassesPool streams has_texts = IsSome (stream_at data_key streams)
PassesPool streams reads_texts = (pool : Pool) × PoolIs streams pool

abbrev pub pool_step_kind : PoolStep → ErrorKind
pool_step_kind has_pool = NotFound
pool_step_kind reads_pool = InvalidData
pool_step_kind has_texts = NotFound
pool_step_kind reads_texts = InvalidData

-- why one of these steps fails first, or memory was refused
abbrev pub PoolStopsAmong : Streams → List PoolStep → ErrorKind → Type 0
PoolStopsAmong streams steps kind = StopsAmong (PassesPool streams) pool_step_kind steps kind
