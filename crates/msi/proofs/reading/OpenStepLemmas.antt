-- What the steps of opening give is what opening answers.
use Rattle.std.proofs.Common.{◌≡◌, ℕ, false, List, [], ◌∷◌, ◌++◌, Option, Some, None, Result, Ok, Err, refl, sym, ap, subst, ◌∙◌}
use Rattle.std.proofs.Common.{inl, inr}
use Rattle.std.specs.Prelude.{◌⊎◌, IfErr, IfOk, IfSome, IsErrAnd, IsSome, IsSomeAnd}
use Rattle.std.specs.List.{AllByRecursion}
use Rattle.std.specs.FinMap.{entries, get, get-entries}
use Rattle.msi_base.specs.declared.errors.ErrorKind.{ErrorKind}
use Rattle.msi_base.specs.declared.errors.ErrorKind.TheVariants.{InvalidData, NotFound, OutOfMemory}
use Rattle.msi_pool.specs.Pool.{Pool, PoolStream, Entry, IsPool, IsPoolStream, SpellsPool, SpellsTexts, pool_with}
use Rattle.msi_pool.specs.Pool as pools
use Rattle.msi_base.specs.Results.{FailsAs, Gives, IsUnlessMemory}
use Rattle.msi_base.proofs.OptionLemmas.{is_some_by, none_not, some_of}
use Rattle.msi_container_device.specs.Held.{Held, all_bytes}
use Rattle.msi_summary.specs.Properties.{Properties}
use Rattle.msi_summary.specs.Summary.{SpellsSummary}
use Rattle.msi_container_format.specs.declared.contents.Contents.{Contents}
use Rattle.msi_container_format.specs.Container.{Holds}
use Rattle.msi_container_format.specs.Streams as maps
use Rattle.msi_base.specs.Refusals.{IsRefusal, or_refused}
use Rattle.msi_database_schema.specs.Keys.{table_key, summary_key, string_pool_name, string_data_name}
use Rattle.msi_database_storage.specs.Streams.{stream_at}
use Rattle.msi_database_storage.specs.Agreement.{schema_in}
use Rattle.msi.specs.declared.kinds.PackageType.{PackageType}
use Rattle.msi.specs.Kinds.{clsid_of}
use Rattle.msi.specs.State.{State}
use Rattle.msi.specs.Meaning.{OpenStep, Passes, FailsFirst, OpensTo, RawPoolIs, SummaryIs, open_steps, step_kind}
use Rattle.msi.specs.Meaning as step
use Rattle.msi.specs.Flushing.{is_fault}
use Rattle.msi.specs.Opening.{IsOpenRefusal, IsOpened, OpensSource, StopsAmong}

-- STEPS IN TURN

-- a step that fails first fails first among more
pub fails_among : (c : Contents) (kind : ErrorKind) (steps more : List OpenStep) → FailsFirst c steps kind → FailsFirst c (steps ++ more) kind
fails_among c kind [] more h = absurd h
fails_among c kind (s ∷ ss) more (inl fails) = inl fails
fails_among c kind (s ∷ ss) more (inr (passes, later)) = inr (passes, fails_among c kind ss more later)

pub stops_among : (c : Contents) (kind : ErrorKind) (steps more : List OpenStep) → StopsAmong c steps kind → StopsAmong c (steps ++ more) kind
stops_among c kind steps more (inl memory) = inl memory
stops_among c kind steps more (inr fails) = inr (fails_among c kind steps more fails)

-- steps that are passed, in front of the one that fails
fails_after : (c : Contents) (kind : ErrorKind) (steps more : List OpenStep) → AllByRecursion (Passes c) steps → FailsFirst c more kind → FailsFirst c (steps ++ more) kind
fails_after c kind [] more passed h = h
fails_after c kind (s ∷ ss) more passed h = inr (passed.0, fails_after c kind ss more passed.1 h)

pub stops_after : (c : Contents) (kind : ErrorKind) (steps more : List OpenStep) → AllByRecursion (Passes c) steps → StopsAmong c more kind → StopsAmong c (steps ++ more) kind
stops_after c kind steps more passed (inl memory) = inl memory
stops_after c kind steps more passed (inr fails) = inr (fails_after c kind steps more passed fails)

-- a step whose refusal says that it isn't passed, unless memory was refused
pub stops_at : (c : Contents) (kind : ErrorKind) (s : OpenStep) → (kind ≡ step_kind s) ⊎ (kind ≡ OutOfMemory) → ((kind ≡ step_kind s) → Passes c s → ⊥) → StopsAmong c (s ∷ []) kind
stops_at c kind s (inl is) fails = inr (inl (fails is, is))
stops_at c kind s (inr memory) fails = inl memory

-- an error that is passed on
pub passed_on : {A : Type 0} (P : ErrorKind → Type 0) (r : Result A ErrorKind) (kind : ErrorKind) → IsErrAnd r (λ e. e ≡ kind) → P kind → IfErr r P
passed_on P (Ok x) kind e h = tt
passed_on P (Err k) kind e h = subst P (sym e) h

-- STREAMS THAT ARE THERE OR NOT

-- nothing holds of bytes that aren't there
pub no_bytes : {A : Type 0} (P : List ℕ → Type 0) (o : Option (List ℕ)) → o ≡ None → IsSomeAnd o P → A
no_bytes P None e h = absurd h
no_bytes P (Some x) e h = absurd cc

-- want of memory that is passed on
pub memory_passed : {A : Type 0} (r : Result A ErrorKind) (kind : ErrorKind) (x : A) → IsErrAnd r (λ e. e ≡ kind) → kind ≡ OutOfMemory → IsUnlessMemory r x
memory_passed (Ok y) kind x e is = absurd e
memory_passed (Err other) kind x e is = e ∙ is

-- what holds of the bytes that are there
pub at_bytes : (P : List ℕ → Type 0) (o : Option (List ℕ)) (bytes : List ℕ) → o ≡ Some bytes → P bytes → IsSomeAnd o P
at_bytes P o bytes e h = subst (λ (o : Option (List ℕ)). IsSomeAnd o P) (sym e) h

pub of_bytes : (P : List ℕ → Type 0) (o : Option (List ℕ)) (bytes : List ℕ) → o ≡ Some bytes → IsSomeAnd o P → P bytes
of_bytes P o bytes e h = subst (λ (o : Option (List ℕ)). IsSomeAnd o P) e h

-- the bytes that a container has at a name
pub stream_got : (m : maps.Streams) (name : List ℕ) (o : Option (List ℕ)) → o ≡ get m name → stream_at name (entries m) ≡ o
stream_got m name o e = sym (get-entries m name) ∙ sym e

-- the names of the pool's streams are short enough
-- a step whose stream is missing
pub missing_stops : (c : Contents) (kind : ErrorKind) (s : OpenStep) (steps : List OpenStep) → (Passes c s → ⊥) × (kind ≡ step_kind s) → StopsAmong c (s ∷ steps) kind
missing_stops c kind s steps fails = inr (inl fails)

-- THE SUMMARY

-- bytes that are refused spell no summary
given_none : (kind : ErrorKind) (set : Properties) → kind ≡ InvalidData → FailsAs kind (Some set) → ⊥
given_none kind set is h = let fails : FailsAs InvalidData (Some set) = subst (λ k. FailsAs k (Some set)) is h in absurd cc

unspelled_stops : (c : Contents) (kind : ErrorKind) (bytes : List ℕ) → stream_at summary_key (entries c.streams) ≡ Some bytes
    → ((set : Properties) → SpellsSummary bytes set → FailsAs kind (Some set)) → (kind ≡ InvalidData) ⊎ (kind ≡ OutOfMemory)
    → StopsAmong c (step.has_summary ∷ step.reads_summary ∷ []) kind
unspelled_stops c kind bytes held only kinds =
    stops_after c kind (step.has_summary ∷ []) (step.reads_summary ∷ []) (is_some_by (stream_at summary_key (entries c.streams)) bytes held, tt)
    (stops_at c kind step.reads_summary kinds (λ is (set, spelled).
    given_none kind set is (only set (of_bytes (λ b. SpellsSummary b set) (stream_at summary_key (entries c.streams)) bytes held spelled))))

pub summary_stops : (c : Contents) (r : Result Properties ErrorKind) (bytes : List ℕ) → stream_at summary_key (entries c.streams) ≡ Some bytes
    → ((set : Properties) → SpellsSummary bytes set → Gives (λ s. s) r (Some set)) → IfErr r (λ kind. (kind ≡ InvalidData) ⊎ (kind ≡ OutOfMemory))
    → IfErr r (StopsAmong c (step.has_summary ∷ step.reads_summary ∷ []))
summary_stops c (Ok set) bytes held only kinds = tt
summary_stops c (Err kind) bytes held only kinds = unspelled_stops c kind bytes held only kinds

-- THE POOL

InvalidData≢OutOfMemory : InvalidData ≡ OutOfMemory → ⊥
InvalidData≢OutOfMemory e = cc

pub not_memory : (kind : ErrorKind) → kind ≡ InvalidData → kind ≡ OutOfMemory → ⊥
not_memory kind is memory = InvalidData≢OutOfMemory (sym is ∙ memory)

formless_stops : (c : Contents) (kind : ErrorKind) (bytes : List ℕ) → stream_at (table_key string_pool_name) (entries c.streams) ≡ Some bytes
    → ((stream : PoolStream) → IsPoolStream bytes stream → kind ≡ OutOfMemory) → (kind ≡ InvalidData) ⊎ (kind ≡ OutOfMemory)
    → StopsAmong c (step.has_pool ∷ step.reads_pool ∷ []) kind
formless_stops c kind bytes held only kinds =
    let at : Option (List ℕ) = stream_at (table_key string_pool_name) (entries c.streams) in
    stops_after c kind (step.has_pool ∷ []) (step.reads_pool ∷ []) (is_some_by at bytes held, tt)
    (stops_at c kind step.reads_pool kinds (λ is (page, long, listed, spelled).
    not_memory kind is (only (record { page = page; long = long; entries = listed }) (of_bytes (λ b. SpellsPool b page long listed) at bytes held spelled))))

pub pool_stream_stops : (c : Contents) (r : Result PoolStream ErrorKind) (bytes : List ℕ) → stream_at (table_key string_pool_name) (entries c.streams) ≡ Some bytes
    → ((stream : PoolStream) → IsPoolStream bytes stream → IsUnlessMemory r stream) → IfErr r (λ kind. (kind ≡ InvalidData) ⊎ (kind ≡ OutOfMemory))
    → IfErr r (StopsAmong c (step.has_pool ∷ step.reads_pool ∷ []))
pool_stream_stops c (Ok stream) bytes held only kinds = tt
pool_stream_stops c (Err kind) bytes held only kinds = formless_stops c kind bytes held only kinds

pub pool_stream_found : (o : Option (List ℕ)) (r : Result PoolStream ErrorKind) (bytes : List ℕ) → o ≡ Some bytes → IfOk r (λ stream. IsPoolStream bytes stream)
    → IfOk r (λ stream. IsSomeAnd o (λ bytes. IsPoolStream bytes stream))
pool_stream_found o (Ok stream) bytes e h = at_bytes (λ b. IsPoolStream b stream) o bytes e h
pool_stream_found o (Err kind) bytes e h = tt

-- what a pool's two streams say of its first, and of its texts
raw_form : (o p : Option (List ℕ)) (raw : Pool) → IsSomeAnd o (λ written. IsSomeAnd p (λ texts. IsPool written texts raw))
    → (listed : List Entry) × IsSomeAnd o (λ b. IsPoolStream b (record { page = raw.page; long = raw.long; entries = listed }))
raw_form None p raw h = absurd h
raw_form (Some written) None raw h = absurd h
raw_form (Some written) (Some texts) raw (listed, form, held) = (listed, form)

raw_parts : (o p : Option (List ℕ)) (raw : Pool) (texts : List ℕ) → p ≡ Some texts → IsSomeAnd o (λ written. IsSomeAnd p (λ texts. IsPool written texts raw))
    → (listed : List Entry) × IsSomeAnd o (λ b. IsPoolStream b (record { page = raw.page; long = raw.long; entries = listed })) × SpellsTexts raw.page texts listed raw.places
raw_parts None p raw texts e h = absurd h
raw_parts (Some written) p raw texts e h = of_bytes (λ t. IsPool written t raw) p texts e h

raw_texts : (o p : Option (List ℕ)) (raw : Pool) → p ≡ None → IsSomeAnd o (λ written. IsSomeAnd p (λ texts. IsPool written texts raw)) → ⊥
raw_texts None p raw e h = h
raw_texts (Some written) p raw e h = subst (λ (o : Option (List ℕ)). IsSomeAnd o (λ t. IsPool written t raw)) e h

both_found : (o p : Option (List ℕ)) (texts : List ℕ) (stream : PoolStream) (pool : Pool) → IsSomeAnd o (λ written. IsPoolStream written stream) → p ≡ Some texts
    → (pool ≡ pool_with stream pool.places) × SpellsTexts stream.page texts stream.entries pool.places → IsSomeAnd o (λ written. IsSomeAnd p (λ texts. IsPool written texts pool))
both_found None p texts stream pool form e h = absurd form
both_found (Some written) p texts stream pool form e h =
    at_bytes (λ t. IsPool written t pool) p texts e (subst (λ (x : Pool). IsPool written texts x) (sym h.0) (stream.entries, form, h.1))

both_there : (o p : Option (List ℕ)) (raw : Pool) → IsSomeAnd o (λ written. IsSomeAnd p (λ texts. IsPool written texts raw)) → IsSome o × IsSome p
both_there None p raw h = absurd h
both_there (Some written) None raw h = absurd h
both_there (Some written) (Some texts) raw h = (refl, refl)

-- The streams of a container, and what the pool's first one says. What is read of it is all that it says
module _ (c : Contents) where
  abbrev pub pool_bytes : Option (List ℕ)
  pool_bytes = stream_at (table_key string_pool_name) (entries c.streams)

  abbrev pub text_bytes : Option (List ℕ)
  text_bytes = stream_at (table_key string_data_name) (entries c.streams)

  abbrev pub IsAllThatIsSaid : PoolStream → Type 0
  IsAllThatIsSaid stream = (other : PoolStream) → IsSomeAnd pool_bytes (λ bytes. IsPoolStream bytes other) → stream ≡ other

  -- where the first stream isn't read there is no pool
  pub no_pool_stream : {P : Type 0} (raw : Pool) → ((stream : PoolStream) → IsSomeAnd pool_bytes (λ bytes. IsPoolStream bytes stream) → P) → RawPoolIs (entries c.streams) raw → P
  no_pool_stream raw only held = let form = raw_form pool_bytes text_bytes raw held in only (record { page = raw.page; long = raw.long; entries = form.0 }) form.1

  -- nor where the second is missing
  pub no_pool_texts : {P : Type 0} (raw : Pool) → text_bytes ≡ None → RawPoolIs (entries c.streams) raw → P
  no_pool_texts raw none held = absurd (raw_texts pool_bytes text_bytes raw none held)

  -- a pool has the texts that are read
  pub pool_only : (texts : List ℕ) (stream : PoolStream) (r : Result Pool ErrorKind) (raw : Pool) → IsAllThatIsSaid stream → text_bytes ≡ Some texts
      → ((places : List pools.Place) → SpellsTexts stream.page texts stream.entries places → IsUnlessMemory r (pool_with stream places))
      → RawPoolIs (entries c.streams) raw → IsUnlessMemory r raw
  pool_only texts stream r raw all e only held =
      let parts = raw_parts pool_bytes text_bytes raw texts e held in
      subst (λ (s : PoolStream). SpellsTexts s.page texts s.entries raw.places → IsUnlessMemory r (pool_with s raw.places)) (all (record { page = raw.page; long = raw.long; entries = parts.0 }) parts.1) (only raw.places) parts.2

  passes_first : (stream : PoolStream) → IsSomeAnd pool_bytes (λ bytes. IsPoolStream bytes stream) → AllByRecursion (Passes c) (step.has_pool ∷ step.reads_pool ∷ [])
  passes_first stream form = (some_of (λ bytes. IsPoolStream bytes stream) pool_bytes form, ((stream.page, stream.long, stream.entries, form), tt))

  -- a pool whose texts are missing, and one that doesn't have them
  pub no_texts_stops : (kind : ErrorKind) (stream : PoolStream) → IsSomeAnd pool_bytes (λ bytes. IsPoolStream bytes stream) → (text_bytes ≡ None) × (kind ≡ NotFound)
      → StopsAmong c (step.has_pool ∷ step.reads_pool ∷ step.has_texts ∷ step.reads_texts ∷ []) kind
  no_texts_stops kind stream form (none, is) =
      stops_after c kind (step.has_pool ∷ step.reads_pool ∷ []) (step.has_texts ∷ step.reads_texts ∷ []) (passes_first stream form)
      (inr (inl (none_not text_bytes none, is)))

  textless_stops : (kind : ErrorKind) (texts : List ℕ) (stream : PoolStream) → IsSomeAnd pool_bytes (λ bytes. IsPoolStream bytes stream) → IsAllThatIsSaid stream → text_bytes ≡ Some texts
      → ((places : List pools.Place) → SpellsTexts stream.page texts stream.entries places → kind ≡ OutOfMemory) → (kind ≡ InvalidData) ⊎ (kind ≡ OutOfMemory)
      → StopsAmong c (step.has_pool ∷ step.reads_pool ∷ step.has_texts ∷ step.reads_texts ∷ []) kind
  textless_stops kind texts stream form all e only kinds =
      stops_after c kind (step.has_pool ∷ step.reads_pool ∷ []) (step.has_texts ∷ step.reads_texts ∷ []) (passes_first stream form)
      (stops_after c kind (step.has_texts ∷ []) (step.reads_texts ∷ []) (is_some_by text_bytes texts e, tt)
      (stops_at c kind step.reads_texts kinds (λ is (raw, held).
      not_memory kind is (pool_only texts stream (Err kind) raw all e only held))))

  pub texts_stop : (r : Result Pool ErrorKind) (texts : List ℕ) (stream : PoolStream) → IsSomeAnd pool_bytes (λ bytes. IsPoolStream bytes stream) → IsAllThatIsSaid stream → text_bytes ≡ Some texts
      → ((places : List pools.Place) → SpellsTexts stream.page texts stream.entries places → IsUnlessMemory r (pool_with stream places)) → IfErr r (λ kind. (kind ≡ InvalidData) ⊎ (kind ≡ OutOfMemory))
      → IfErr r (StopsAmong c (step.has_pool ∷ step.reads_pool ∷ step.has_texts ∷ step.reads_texts ∷ []))
  texts_stop (Ok pool) texts stream form all e only kinds = tt
  texts_stop (Err kind) texts stream form all e only kinds = textless_stops kind texts stream form all e only kinds

  -- the pool that is read is that of both streams
  pub pool_found : (r : Result Pool ErrorKind) (texts : List ℕ) (stream : PoolStream) → IsSomeAnd pool_bytes (λ bytes. IsPoolStream bytes stream) → text_bytes ≡ Some texts
      → IfOk r (λ pool. (pool ≡ pool_with stream pool.places) × SpellsTexts stream.page texts stream.entries pool.places)
      → IfOk r (λ pool. RawPoolIs (entries c.streams) pool)
  pool_found (Ok pool) texts stream form e h = both_found pool_bytes text_bytes texts stream pool form e (h.0, h.1)
  pool_found (Err kind) texts stream form e h = tt

  passes_pool : (raw : Pool) → RawPoolIs (entries c.streams) raw → AllByRecursion (Passes c) (step.has_pool ∷ step.reads_pool ∷ step.has_texts ∷ step.reads_texts ∷ [])
  passes_pool raw held =
      let are = both_there pool_bytes text_bytes raw held in
      let form = raw_form pool_bytes text_bytes raw held in
      (are.0, ((raw.page, raw.long, form.0, form.1), (are.1, ((raw, held), tt))))

-- THE SCHEMA

refused_none : {X : Type 0} (o : Option X) (kind : ErrorKind) → or_refused InvalidData o ≡ Err kind → (o ≡ None) × (kind ≡ InvalidData)
refused_none None kind e = (refl, cc)
refused_none (Some x) kind e = absurd cc

-- where the system tables of the one pool aren't read, nor are those of any
pub schema_stops : (c : Contents) (kind : ErrorKind) (raw : Pool) → ((other : Pool) → RawPoolIs (entries c.streams) other → raw ≡ other)
    → IsRefusal (or_refused InvalidData (schema_in (entries c.streams) raw)) kind → StopsAmong c (step.reads_schema ∷ []) kind
schema_stops c kind raw one (inl memory) = inl memory
schema_stops c kind raw one (inr refused) =
    let none = refused_none (schema_in (entries c.streams) raw) kind refused in
    inr (inl (λ (other, held, some). none_not (schema_in (entries c.streams) other) (subst (λ (x : Pool). schema_in (entries c.streams) x ≡ None) (one other held) none.0) some, none.1))

-- THE WHOLE

-- the kind and the summary are read, and the pool isn't, or the schema isn't
module _ (c : Contents) (kind : PackageType) (clsid : c.clsid ≡ clsid_of kind) (summary : Properties) (spelled : SummaryIs (entries c.streams) summary) where
  abbrev first_steps : List OpenStep
  first_steps = step.knows_kind ∷ step.has_summary ∷ step.reads_summary ∷ []

  abbrev pool_steps : List OpenStep
  pool_steps = step.has_pool ∷ step.reads_pool ∷ step.has_texts ∷ step.reads_texts ∷ []

  passes_start : AllByRecursion (Passes c) first_steps
  passes_start = ((kind, clsid), (some_of (λ bytes. SpellsSummary bytes summary) (stream_at summary_key (entries c.streams)) spelled, ((summary, spelled), tt)))

  pub pool_stops : (why : ErrorKind) → StopsAmong c pool_steps why → StopsAmong c open_steps why
  pool_stops why stops = stops_among c why (first_steps ++ pool_steps) (step.reads_schema ∷ []) (stops_after c why first_steps pool_steps passes_start stops)

  pub database_stops : (why : ErrorKind) (raw : Pool) → RawPoolIs (entries c.streams) raw → ((other : Pool) → RawPoolIs (entries c.streams) other → raw ≡ other)
      → IsRefusal (or_refused InvalidData (schema_in (entries c.streams) raw)) why → StopsAmong c open_steps why
  database_stops why raw held one refused =
      stops_after c why first_steps (pool_steps ++ step.reads_schema ∷ []) passes_start
      (stops_after c why pool_steps (step.reads_schema ∷ []) (passes_pool c raw held) (schema_stops c why raw one refused))

-- bytes that hold contents that open, that don't, and bytes that hold none
pub opens_to : (bytes : List ℕ) (c : Contents) (r : Result State ErrorKind) → Holds bytes c → IfOk r (IsOpened c) → IfOk r (λ s. OpensTo bytes (Ok s))
opens_to bytes c (Ok s) holds opened = (c, holds, opened.0, opened.1)
opens_to bytes c (Err kind) holds opened = tt

refused_by : (bytes : List ℕ) (c : Contents) (kind : ErrorKind) → Holds bytes c → StopsAmong c open_steps kind → IsOpenRefusal bytes kind
refused_by bytes c kind holds (inl memory) = inl memory
refused_by bytes c kind holds (inr fails) = inr (inr (c, holds, fails))

pub contents_stop : (bytes : List ℕ) (c : Contents) (r : Result State ErrorKind) → Holds bytes c → IfErr r (StopsAmong c open_steps) → IfErr r (IsOpenRefusal bytes)
contents_stop bytes c (Ok s) holds stops = tt
contents_stop bytes c (Err kind) holds stops = refused_by bytes c kind holds stops

pub nothing_held : (bytes : List ℕ) (kind : ErrorKind) → ((c : Contents) → Holds bytes c → kind ≡ OutOfMemory) → (kind ≡ InvalidData) ⊎ (kind ≡ OutOfMemory) → IsOpenRefusal bytes kind
nothing_held bytes kind only (inl is) = inr (inl (λ c holds. not_memory kind is (only c holds), is))
nothing_held bytes kind only (inr memory) = inl memory

-- what a source tells is read, and its bytes open to the package
pub source_opens : (held cleared : Option Held) (read bytes : List ℕ) (s t : State) → cleared ≡ held → IfSome cleared (λ h. read ≡ all_bytes h) → bytes ≡ read → OpensTo bytes (Ok s) → t ≡ s
    → OpensSource held (Ok t)
source_opens held cleared read bytes s t same told is opens like = (
  read,
  subst (λ (o : Option Held). IfSome o (λ h. read ≡ all_bytes h)) same told,
  subst (λ (x : State). OpensTo read (Ok x)) (sym like) (subst (λ (b : List ℕ). OpensTo b (Ok s)) is opens),
)

-- NO FAULT OF A SOURCE

-- no step is refused as a fault
step_faultless : (s : OpenStep) → is_fault (step_kind s) ≡ false
step_faultless step.knows_kind = refl
step_faultless step.has_summary = refl
step_faultless step.reads_summary = refl
step_faultless step.has_pool = refl
step_faultless step.reads_pool = refl
step_faultless step.has_texts = refl
step_faultless step.reads_texts = refl
step_faultless step.reads_schema = refl

fails_faultless : (c : Contents) (kind : ErrorKind) (steps : List OpenStep) → FailsFirst c steps kind → is_fault kind ≡ false
fails_faultless c kind [] h = absurd h
fails_faultless c kind (s ∷ ss) (inl fails) = ap is_fault fails.1 ∙ step_faultless s
fails_faultless c kind (s ∷ ss) (inr (passes, later)) = fails_faultless c kind ss later

-- nor are bytes
pub opened_faultless : (bytes : List ℕ) (kind : ErrorKind) → IsOpenRefusal bytes kind → is_fault kind ≡ false
opened_faultless bytes kind (inl memory) = ap is_fault memory
opened_faultless bytes kind (inr (inl none)) = ap is_fault none.1
opened_faultless bytes kind (inr (inr (c, holds, fails))) = fails_faultless c kind open_steps fails
