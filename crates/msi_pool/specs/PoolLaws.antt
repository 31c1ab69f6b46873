-- Two streams hold one pool, and what is written of a pool is read as it.
use Rattle.std.specs.Prelude.{◌≡◌, ◌↔◌, ℕ, ◌+◌, ◌<◌, ◌≤◌, Bool, false, List, length, slice_index_or, Some}
use Rattle.msi_pool_places.specs.Pool.{Pool, Place, CountsFit, IsPool, PoolStream, IsPoolStream, pool_with}
use Rattle.msi_pool_places.specs.Pool.{SpellsTexts}
use Rattle.msi_pool_places.specs.Pool.{pool_stream, data_stream, AreWritable, PlacesWritten, as_written}
use Rattle.msi_pool_places.specs.Pool.{without_unnamed_texts, with_named_texts}
use Rattle.msi_pool.specs.PoolWriting.{is_refused}

-- two streams hold at most one pool
abbrev pub OnePool : Type 0
OnePool = (pool_stream data_stream : List ℕ) (a b : Pool)
    → IsPool pool_stream data_stream a → IsPool pool_stream data_stream b → a ≡ b

-- a pool is held by the two streams where the one says its page, its references and its entries, and the other spells
-- its texts
abbrev pub IsPoolInSteps : Type 0
IsPoolInSteps = (pool_stream data_stream : List ℕ) (pool : Pool) → IsPool pool_stream data_stream pool
    ↔ ((stream : PoolStream) × IsPoolStream pool_stream stream × (pool ≡ pool_with stream pool.places)
    × SpellsTexts stream.page data_stream stream.entries pool.places)

-- where the page carries each text in use there and back, the streams that are written hold the pool; its free places
-- then have the empty text
abbrev pub ReadsBack : Pool → Type 0
ReadsBack pool = (stream texts : List ℕ) → pool_stream pool ≡ Some stream → data_stream pool ≡ Some texts
    → AreWritable pool → IsPool stream texts (as_written pool)

-- so it is of each pool that is in range and isn't refused
abbrev pub PoolsReadBack : Type 0
PoolsReadBack = (pool : Pool) → length pool.places ≤ 16777215 → CountsFit pool.places → is_refused pool ≡ false
    → ReadsBack pool

-- a pool whose free places have the empty text is written as it is
abbrev pub EmptyPlacesAreWritten : Type 0
EmptyPlacesAreWritten = (pool : Pool) → PlacesWritten pool.places → as_written pool ≡ pool

-- marks that tell of each place whether its number passes the test stand for the test
abbrev pub MarksStandForTests : Type 0
MarksStandForTests = (marks : List Bool) (is_named : ℕ → Bool) (places : List Place) → length marks ≡ length places
    → ((i : ℕ) → i < length marks → slice_index_or marks i false ≡ is_named (i + 1))
    → without_unnamed_texts marks places ≡ with_named_texts is_named places
