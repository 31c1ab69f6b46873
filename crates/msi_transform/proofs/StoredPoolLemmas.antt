-- The pool that two streams hold is the one that is read of them.
use Rattle.std.proofs.Common.{◌≡◌, ℕ, List, [], ◌∷◌, Option, Some, None, Result, Ok, Err, refl, sym, subst, ◌∙◌}
use Rattle.std.specs.Prelude.{◌⊎◌, ◌%◌, ◌^◌, IfErr, IfOk, IsSome, IsSomeAnd}
use Rattle.std.specs.List.{AllByRecursion}
use Rattle.std.specs.FinMap.{entries, get, get-entries}
use Rattle.msi_base.specs.declared.errors.ErrorKind.{ErrorKind}
use Rattle.msi_base.specs.declared.errors.ErrorKind.TheVariants.{InvalidData, NotFound, OutOfMemory}
use Rattle.msi_pool.specs.Pool.{Pool, PoolStream, Entry, IsPool, IsPoolStream, SpellsTexts, pool_with}
use Rattle.msi_pool.specs.Pool as pools
use Rattle.msi_base.specs.Results.{IsUnlessMemory}
use Rattle.msi_base.proofs.OptionLemmas.{is_some_by, none_not, some_of}
use Rattle.msi_container_format.specs.Bytes.{number32}
use Rattle.msi_container_format.specs.Streams as maps
use Rattle.msi_database_storage.specs.Streams.{Streams, stream_at}
use Rattle.msi_transform.specs.StoredPools.{PassesPool, PoolIs, PoolStopsAmong, data_key, pool_key, pool_step_kind, pool_steps, stored_page_id}
use Rattle.msi_transform.specs.StoredPools as step
use Rattle.msi_transform.proofs.ReadStepLemmas.{not_memory, stops_after, stops_at, stops_first}

-- STREAMS THAT ARE THERE OR NOT

-- nothing holds of bytes that aren't there
pub no_bytes : {A : Type 0} (P : List ℕ → Type 0) (o : Option (List ℕ)) → o ≡ None → IsSomeAnd o P → A
no_bytes P None e h = absurd h
no_bytes P (Some x) e h = absurd cc

-- what holds of the bytes that are there
pub at_bytes : (P : List ℕ → Type 0) (o : Option (List ℕ)) (bytes : List ℕ) → o ≡ Some bytes → P bytes → IsSomeAnd o P
at_bytes P o bytes e h = subst (λ (o : Option (List ℕ)). IsSomeAnd o P) (sym e) h

pub of_bytes : (P : List ℕ → Type 0) (o : Option (List ℕ)) (bytes : List ℕ) → o ≡ Some bytes → IsSomeAnd o P → P bytes
of_bytes P o bytes e h = subst (λ (o : Option (List ℕ)). IsSomeAnd o P) e h

-- the bytes that a container has at a name
pub stream_got : (m : maps.Streams) (name : List ℕ) (o : Option (List ℕ)) → o ≡ get m name → stream_at name (entries m) ≡ o
stream_got m name o e = sym (get-entries m name) ∙ sym e

-- THE PAGE

pub page_id_of : (streams : Streams) (bytes : List ℕ) → stream_at pool_key streams ≡ Some bytes → number32 bytes 0 % 2 ^ 31 ≡ stored_page_id streams
page_id_of streams bytes e = rw e refl

pub no_page_id : (streams : Streams) → stream_at pool_key streams ≡ None → 0 ≡ stored_page_id streams
no_page_id streams e = rw e refl

-- THE POOL

pub pool_stream_found : (o : Option (List ℕ)) (r : Result PoolStream ErrorKind) (bytes : List ℕ) → o ≡ Some bytes → IfOk r (λ stream. IsPoolStream bytes stream)
    → IfOk r (λ stream. IsSomeAnd o (λ bytes. IsPoolStream bytes stream))
pool_stream_found o (Ok stream) bytes e h = at_bytes (λ b. IsPoolStream b stream) o bytes e h
pool_stream_found o (Err kind) bytes e h = tt

-- what a pool's two streams say of its first, and of its texts
raw_form : (o p : Option (List ℕ)) (raw : Pool) → IsSomeAnd o (λ written. IsSomeAnd p (λ texts. IsPool written texts raw))
    → (listed : List Entry) × IsSomeAnd o (λ b. IsPoolStream b (record { page = raw.page; long = raw.long; entries = listed }))
raw_form None p raw h = absurd h
raw_form (Some written) None raw h = absurd h
raw_form (Some written) (Some texts) raw (listed, form, held) = (listed, form)

raw_parts : (o p : Option (List ℕ)) (raw : Pool) (texts : List ℕ) → p ≡ Some texts → IsSomeAnd o (λ written. IsSomeAnd p (λ texts. IsPool written texts raw))
    → (listed : List Entry) × IsSomeAnd o (λ b. IsPoolStream b (record { page = raw.page; long = raw.long; entries = listed })) × SpellsTexts raw.page texts listed raw.places
raw_parts None p raw texts e h = absurd h
raw_parts (Some written) p raw texts e h = of_bytes (λ t. IsPool written t raw) p texts e h

raw_texts : (o p : Option (List ℕ)) (raw : Pool) → p ≡ None → IsSomeAnd o (λ written. IsSomeAnd p (λ texts. IsPool written texts raw)) → ⊥
raw_texts None p raw e h = h
raw_texts (Some written) p raw e h = subst (λ (o : Option (List ℕ)). IsSomeAnd o (λ t. IsPool written t raw)) e h

both_found : (o p : Option (List ℕ)) (texts : List ℕ) (stream : PoolStream) (pool : Pool) → IsSomeAnd o (λ written. IsPoolStream written stream) → p ≡ Some texts
    → (pool ≡ pool_with stream pool.places) × SpellsTexts stream.page texts stream.entries pool.places → IsSomeAnd o (λ written. IsSomeAnd p (λ texts. IsPool written texts pool))
both_found None p texts stream pool form e h = absurd form
both_found (Some written) p texts stream pool form e h =
    at_bytes (λ t. IsPool written t pool) p texts e (subst (λ (x : Pool). IsPool written texts x) (sym h.0) (stream.entries, form, h.1))

both_there : (o p : Option (List ℕ)) (raw : Pool) → IsSomeAnd o (λ written. IsSomeAnd p (λ texts. IsPool written texts raw)) → IsSome o × IsSome p
both_there None p raw h = absurd h
both_there (Some written) None raw h = absurd h
both_there (Some written) (Some texts) raw h = (refl, refl)

-- The streams of a container, and what the pool's first one says. What is read of it is all that it says
module _ (streams : Streams) where
  abbrev pub pool_bytes : Option (List ℕ)
  pool_bytes = stream_at pool_key streams

  abbrev pub text_bytes : Option (List ℕ)
  text_bytes = stream_at data_key streams

  abbrev pub HasForm : PoolStream → Type 0
  HasForm stream = IsSomeAnd pool_bytes (λ bytes. IsPoolStream bytes stream)

  abbrev pub IsAllThatIsSaid : PoolStream → Type 0
  IsAllThatIsSaid stream = (other : PoolStream) → HasForm other → stream ≡ other

  formless_stops : (kind : ErrorKind) (bytes : List ℕ) → pool_bytes ≡ Some bytes
      → ((stream : PoolStream) → IsPoolStream bytes stream → kind ≡ OutOfMemory) → (kind ≡ InvalidData) ⊎ (kind ≡ OutOfMemory)
      → PoolStopsAmong streams (step.has_pool ∷ step.reads_pool ∷ []) kind
  formless_stops kind bytes held only kinds =
      stops_after (PassesPool streams) pool_step_kind kind (step.has_pool ∷ []) (step.reads_pool ∷ []) (is_some_by pool_bytes bytes held, tt)
      (stops_at (PassesPool streams) pool_step_kind kind step.reads_pool kinds (λ is (stream, spelled).
      not_memory kind is (only stream (of_bytes (λ b. IsPoolStream b stream) pool_bytes bytes held spelled))))

  pub pool_stream_stops : (r : Result PoolStream ErrorKind) (bytes : List ℕ) → pool_bytes ≡ Some bytes
      → ((stream : PoolStream) → IsPoolStream bytes stream → IsUnlessMemory r stream) → IfErr r (λ kind. (kind ≡ InvalidData) ⊎ (kind ≡ OutOfMemory))
      → IfErr r (PoolStopsAmong streams (step.has_pool ∷ step.reads_pool ∷ []))
  pool_stream_stops (Ok stream) bytes held only kinds = tt
  pool_stream_stops (Err kind) bytes held only kinds = formless_stops kind bytes held only kinds

  pub no_stream_stops : (kind : ErrorKind) → (pool_bytes ≡ None) × (kind ≡ NotFound) → PoolStopsAmong streams (step.has_pool ∷ step.reads_pool ∷ []) kind
  no_stream_stops kind (none, is) = stops_first (PassesPool streams) pool_step_kind kind step.has_pool (step.reads_pool ∷ []) (none_not pool_bytes none) is

  -- where the first stream isn't read there is no pool
  pub no_pool_stream : {P : Type 0} (raw : Pool) → ((stream : PoolStream) → HasForm stream → P) → PoolIs streams raw → P
  no_pool_stream raw only held = let form = raw_form pool_bytes text_bytes raw held in only (record { page = raw.page; long = raw.long; entries = form.0 }) form.1

  -- nor where the second is missing
  pub no_pool_texts : {P : Type 0} (raw : Pool) → text_bytes ≡ None → PoolIs streams raw → P
  no_pool_texts raw none held = absurd (raw_texts pool_bytes text_bytes raw none held)

  -- a pool has the texts that are read
  pub pool_only : (texts : List ℕ) (stream : PoolStream) (r : Result Pool ErrorKind) (raw : Pool) → IsAllThatIsSaid stream → text_bytes ≡ Some texts
      → ((places : List pools.Place) → SpellsTexts stream.page texts stream.entries places → IsUnlessMemory r (pool_with stream places))
      → PoolIs streams raw → IsUnlessMemory r raw
  pool_only texts stream r raw all e only held =
      let parts = raw_parts pool_bytes text_bytes raw texts e held in
      subst (λ (s : PoolStream). SpellsTexts s.page texts s.entries raw.places → IsUnlessMemory r (pool_with s raw.places)) (all (record { page = raw.page; long = raw.long; entries = parts.0 }) parts.1) (only raw.places) parts.2

  passes_first : (stream : PoolStream) → HasForm stream → AllByRecursion (PassesPool streams) (step.has_pool ∷ step.reads_pool ∷ [])
  passes_first stream form = (some_of (λ bytes. IsPoolStream bytes stream) pool_bytes form, ((stream, form), tt))

  -- a pool whose texts are missing, and one that doesn't have them
  pub no_texts_stops : (kind : ErrorKind) (stream : PoolStream) → HasForm stream → (text_bytes ≡ None) × (kind ≡ NotFound)
      → PoolStopsAmong streams pool_steps kind
  no_texts_stops kind stream form (none, is) =
      stops_after (PassesPool streams) pool_step_kind kind (step.has_pool ∷ step.reads_pool ∷ []) (step.has_texts ∷ step.reads_texts ∷ []) (passes_first stream form)
      (stops_first (PassesPool streams) pool_step_kind kind step.has_texts (step.reads_texts ∷ []) (none_not text_bytes none) is)

  textless_stops : (kind : ErrorKind) (texts : List ℕ) (stream : PoolStream) → HasForm stream → IsAllThatIsSaid stream → text_bytes ≡ Some texts
      → ((places : List pools.Place) → SpellsTexts stream.page texts stream.entries places → kind ≡ OutOfMemory) → (kind ≡ InvalidData) ⊎ (kind ≡ OutOfMemory)
      → PoolStopsAmong streams pool_steps kind
  textless_stops kind texts stream form all e only kinds =
      stops_after (PassesPool streams) pool_step_kind kind (step.has_pool ∷ step.reads_pool ∷ []) (step.has_texts ∷ step.reads_texts ∷ []) (passes_first stream form)
      (stops_after (PassesPool streams) pool_step_kind kind (step.has_texts ∷ []) (step.reads_texts ∷ []) (is_some_by text_bytes texts e, tt)
      (stops_at (PassesPool streams) pool_step_kind kind step.reads_texts kinds (λ is (raw, held).
      not_memory kind is (pool_only texts stream (Err kind) raw all e only held))))

  pub texts_stop : (r : Result Pool ErrorKind) (texts : List ℕ) (stream : PoolStream) → HasForm stream → IsAllThatIsSaid stream → text_bytes ≡ Some texts
      → ((places : List pools.Place) → SpellsTexts stream.page texts stream.entries places → IsUnlessMemory r (pool_with stream places)) → IfErr r (λ kind. (kind ≡ InvalidData) ⊎ (kind ≡ OutOfMemory))
      → IfErr r (PoolStopsAmong streams pool_steps)
  texts_stop (Ok pool) texts stream form all e only kinds = tt
  texts_stop (Err kind) texts stream form all e only kinds = textless_stops kind texts stream form all e only kinds

  -- the pool that is read is that of both streams
  pub pool_found : (r : Result Pool ErrorKind) (texts : List ℕ) (stream : PoolStream) → HasForm stream → text_bytes ≡ Some texts
      → IfOk r (λ pool. (pool ≡ pool_with stream pool.places) × SpellsTexts stream.page texts stream.entries pool.places)
      → IfOk r (λ pool. PoolIs streams pool)
  pool_found (Ok pool) texts stream form e h = both_found pool_bytes text_bytes texts stream pool form e (h.0, h.1)
  pool_found (Err kind) texts stream form e h = tt

  -- where there is a pool each step is passed
  pub passes_pool : (raw : Pool) → PoolIs streams raw → AllByRecursion (PassesPool streams) pool_steps
  passes_pool raw held =
      let are = both_there pool_bytes text_bytes raw held in
      let form = raw_form pool_bytes text_bytes raw held in
      (are.0, ((record { page = raw.page; long = raw.long; entries = form.0 }, form.1), (are.1, ((raw, held), tt))))
