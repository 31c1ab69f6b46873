-- What the steps of reading a transform give is what reading answers.
use Rattle.std.proofs.Common.{◌≡◌, ℕ, true, false, List, [], ◌∷◌, map, Result, Ok, Err, Option, Some, None, sym, ap, subst, ◌∙◌, inl, inr}
use Rattle.std.proofs.lemmas.Bool.{true≢false}
use Rattle.std.specs.FinMap.{entries}
use Rattle.std.specs.List.{AllByRecursion}
use Rattle.std.specs.Prelude.{◌⊎◌, IfErr, IfOk, IsSomeAnd}
use Rattle.msi_base.specs.declared.errors.ErrorKind.{ErrorKind}
use Rattle.msi_base.specs.declared.errors.ErrorKind.TheVariants.{InvalidData, OutOfMemory}
use Rattle.msi_pool.specs.Pool.{IsPool, Pool}
use Rattle.msi_pool.proofs.ReadStreamLemmas.{one_pool}
use Rattle.msi_container_format.specs.Container.{Holds}
use Rattle.msi_container_format.specs.declared.contents.Contents.{Contents}
use Rattle.msi_database_storage.specs.Streams.{Streams, stream_at}
use Rattle.msi_transform.specs.StoredPools.{PoolIs, PoolStopsAmong, data_key, pool_key, pool_steps, stored_page_id}
use Rattle.msi_transform.specs.TransformFiles.{IsReadRefusal, IsTransform, OneTransform, PassesRead, TransformsAreRead, ReadStopsAmong, ReadsTo, keeps_texts, others_among, pool_read_steps, read_step_kind, read_steps, records_among, transform_clsid, transform_in}
use Rattle.msi_transform.specs.TransformFiles as step
use Rattle.msi_transform.specs.Transforms.{TransformDef}
use Rattle.msi_transform.proofs.ReadStepLemmas.{all_both, all_mapped, none_fails, not_memory, stops_after, stops_among, stops_first, stops_mapped}
use Rattle.msi_transform.proofs.StoredPoolLemmas.{passes_pool}

-- a step of the pool that fails
pub pool_stops : (c : Contents) (kind : ErrorKind) → PoolStopsAmong (entries c.streams) pool_steps kind → ReadStopsAmong c pool_read_steps kind
pool_stops c kind stops =
    stops_among (PassesRead c) read_step_kind kind (map step.of_pool pool_steps) (step.keeps_each_text ∷ [])
    (stops_mapped step.of_pool (PassesRead c) read_step_kind kind pool_steps stops)

-- the steps of the pool, and all steps, are passed
passes_pool_steps : (c : Contents) (pool : Pool) → PoolIs (entries c.streams) pool → AllByRecursion (PassesRead c) (map step.of_pool pool_steps)
passes_pool_steps c pool held = all_mapped step.of_pool (PassesRead c) pool_steps (passes_pool (entries c.streams) pool held)

-- a text that wasn't read as it is
pub texts_stop : (c : Contents) (kind : ErrorKind) (pool : Pool) → PoolIs (entries c.streams) pool → ((other : Pool) → PoolIs (entries c.streams) other → pool ≡ other)
    → keeps_texts pool (entries c.streams) ≡ false → kind ≡ InvalidData → ReadStopsAmong c pool_read_steps kind
texts_stop c kind pool held one lost is =
    stops_after (PassesRead c) read_step_kind kind (map step.of_pool pool_steps) (step.keeps_each_text ∷ []) (passes_pool_steps c pool held)
    (stops_first (PassesRead c) read_step_kind kind step.keeps_each_text []
    (λ (other, spelled, kept). true≢false (sym kept ∙ ap (λ (p : Pool). keeps_texts p (entries c.streams)) (sym (one other spelled)) ∙ lost)) is)

-- the CLSID is another; it is that of a transform, and a later step fails
pub clsid_stops : (c : Contents) (kind : ErrorKind) → ReadStopsAmong c (step.knows_clsid ∷ []) kind → ReadStopsAmong c read_steps kind
clsid_stops c kind stops = stops_among (PassesRead c) read_step_kind kind (step.knows_clsid ∷ []) pool_read_steps stops

pub later_stops : (c : Contents) (kind : ErrorKind) → c.clsid ≡ transform_clsid → ReadStopsAmong c pool_read_steps kind → ReadStopsAmong c read_steps kind
later_stops c kind known stops = stops_after (PassesRead c) read_step_kind kind (step.knows_clsid ∷ []) pool_read_steps (known, tt) stops

-- the parts that are read
pub transform_is : (page_id : ℕ) (pool : Pool) (tables : List (List ℕ × List ℕ)) (streams all : Streams) → page_id ≡ stored_page_id all → tables ≡ records_among all → streams ≡ others_among all
    → ◌≡◌ {A = TransformDef} (record { page_id = page_id; pool = pool; tables = tables; streams = streams }) (transform_in pool all)
transform_is page_id pool tables streams all p t s i = record { page_id = p i; pool = pool; tables = t i; streams = s i }

pub transform_read : (c : Contents) (pool : Pool) (r : Result TransformDef ErrorKind) → c.clsid ≡ transform_clsid → PoolIs (entries c.streams) pool → keeps_texts pool (entries c.streams) ≡ true
    → IfOk r (λ t. t ≡ transform_in pool (entries c.streams)) → IfOk r (IsTransform c)
transform_read c pool (Ok t) known held kept is =
    let same : pool ≡ t.pool = ap (λ (u : TransformDef). u.pool) (sym is) in
    record {
      clsid = known;
      pool = subst (PoolIs (entries c.streams)) same held;
      texts = ap (λ (p : Pool). keeps_texts p (entries c.streams)) (sym same) ∙ kept;
      parts = is ∙ ap (λ (p : Pool). transform_in p (entries c.streams)) same;
    }
transform_read c pool (Err kind) known held kept is = tt

pub memory_stops : (c : Contents) (r : Result TransformDef ErrorKind) → IfErr r (λ kind. kind ≡ OutOfMemory) → IfErr r (ReadStopsAmong c read_steps)
memory_stops c (Ok t) is = tt
memory_stops c (Err kind) is = inl is

-- bytes that hold contents that are read, that aren't, and bytes that hold none
pub reads_to : (bytes : List ℕ) (c : Contents) (r : Result TransformDef ErrorKind) → Holds bytes c → IfOk r (IsTransform c) → IfOk r (λ t. ReadsTo bytes (Ok t))
reads_to bytes c (Ok t) holds is = (c, holds, is)
reads_to bytes c (Err kind) holds is = tt

refused_by : (bytes : List ℕ) (c : Contents) (kind : ErrorKind) → Holds bytes c → ReadStopsAmong c read_steps kind → IsReadRefusal bytes kind
refused_by bytes c kind holds (inl memory) = inl memory
refused_by bytes c kind holds (inr fails) = inr (inr (c, holds, fails))

pub contents_stop : (bytes : List ℕ) (c : Contents) (r : Result TransformDef ErrorKind) → Holds bytes c → IfErr r (ReadStopsAmong c read_steps) → IfErr r (IsReadRefusal bytes)
contents_stop bytes c (Ok t) holds stops = tt
contents_stop bytes c (Err kind) holds stops = refused_by bytes c kind holds stops

pub nothing_held : (bytes : List ℕ) (kind : ErrorKind) → ((c : Contents) → Holds bytes c → kind ≡ OutOfMemory) → (kind ≡ InvalidData) ⊎ (kind ≡ OutOfMemory) → IsReadRefusal bytes kind
nothing_held bytes kind only (inl is) = inr (inl (λ c holds. not_memory kind is (only c holds), is))
nothing_held bytes kind only (inr memory) = inl memory

-- LAWS

one_held : (o p : Option (List ℕ)) (a b : Pool) → ((s t : List ℕ) (a b : Pool) → IsPool s t a → IsPool s t b → a ≡ b)
    → IsSomeAnd o (λ s. IsSomeAnd p (λ t. IsPool s t a)) → IsSomeAnd o (λ s. IsSomeAnd p (λ t. IsPool s t b)) → a ≡ b
one_held None p a b one h k = absurd h
one_held (Some s) None a b one h k = absurd h
one_held (Some s) (Some t) a b one h k = one s t a b h k

pub one_transform : OneTransform
one_transform c a b is other =
    is.parts
    ∙ ap (λ (p : Pool). transform_in p (entries c.streams)) (one_held (stream_at pool_key (entries c.streams)) (stream_at data_key (entries c.streams)) a.pool b.pool one_pool is.pool other.pool)
    ∙ sym other.parts

pub transforms_are_read : TransformsAreRead
transforms_are_read c t kind is fails =
    none_fails (PassesRead c) read_step_kind kind read_steps
    (is.clsid, all_both (PassesRead c) (map step.of_pool pool_steps) (step.keeps_each_text ∷ []) (passes_pool_steps c t.pool is.pool) ((t.pool, is.pool, is.texts), tt)) fails
