-- What opening answers where memory may be refused, and over a source.
use Rattle.std.specs.Prelude.{◌≡◌, ℕ, ◌⊎◌, List, Option, Result, Err, IfSome, IsSomeAnd}
use Rattle.std.specs.FinMap.{entries}
use Rattle.msi_base.specs.declared.errors.ErrorKind.{ErrorKind}
use Rattle.msi_base.specs.declared.errors.ErrorKind.TheVariants.{OutOfMemory}
use Rattle.msi_pool.specs.Pool.{PoolStream, IsPoolStream}
use Rattle.msi_container_format.specs.declared.contents.Contents.{Contents}
use Rattle.msi_container_device.specs.Held.{Held, all_bytes}
use Rattle.msi_database_schema.specs.Keys.{table_key, string_pool_name}
use Rattle.msi_database_storage.specs.Streams.{Streams, stream_at}
use Rattle.msi.specs.State.{State, parts_of}
use Rattle.msi.specs.Meaning.{ContentsMean, OpenStep, FailsFirst, OpensTo, as_opened}

-- a package just opened whose parts the contents mean
abbrev pub IsOpened : Contents → State → Type 0
IsOpened c s = ContentsMean c (parts_of s) × (s ≡ as_opened (entries c.streams) (parts_of s))

-- the first stream of the pool says this
abbrev pub PoolStreamIs : Streams → PoolStream → Type 0
PoolStreamIs streams stream = IsSomeAnd (stream_at (table_key string_pool_name) streams)
    (λ bytes. IsPoolStream bytes stream)

-- why opening stops at one of these steps: the first that fails, or memory was refused
abbrev pub StopsAmong : Contents → List OpenStep → ErrorKind → Type 0
StopsAmong c steps kind = (kind ≡ OutOfMemory) ⊎ FailsFirst c steps kind

-- why bytes aren't opened
abbrev pub IsOpenRefusal : List ℕ → ErrorKind → Type 0
IsOpenRefusal bytes kind = (kind ≡ OutOfMemory) ⊎ OpensTo bytes (Err kind)

-- opening a source answers what its bytes open to: those that it tells, where it tells them
abbrev pub OpensSource : Option Held → Result State ErrorKind → Type 0
OpensSource held answer = (bytes : List ℕ) × IfSome held (λ h. bytes ≡ all_bytes h) × OpensTo bytes answer
