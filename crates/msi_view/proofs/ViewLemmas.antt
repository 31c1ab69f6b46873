-- What stays of a view while more of it is read, and single streams.
use Rattle.std.proofs.Common.{◌≡◌, ℕ, ◌⊎◌, Bool, length, true, false, ◌&&◌, subst, option_map, Result, Ok, Err, IfErr, IfOk, inl, inr, List, [], ◌∷◌, Option, Some, None, is_some, unwrap_or, arith, sym, ap, ◌∙◌, refl}
use Rattle.std.specs.Prelude.{IsSome, IsSomeAnd, MatchOption}
use Rattle.std.proofs.lemmas.Bool.{false≢true}
use Rattle.msi_container_view.proofs.ViewLemmas.{bytes_are}
use Rattle.msi_container_view.specs.Extents.{bytes_of}
use Rattle.std.specs.Borrow.{Bor}
use Rattle.std.specs.Option.{option_copied}
use Rattle.std.specs.FinMap.{get, get-entries}
use Rattle.msi_container_view.specs.Reading.{Tells}
use Rattle.msi_container_view.specs.Views.{View, ReadsMore, streams_at, extents_at}
use Rattle.msi_database_storage.specs.Streams.{stream_at}
use Rattle.msi_base.specs.declared.errors.ErrorKind.{ErrorKind}
use Rattle.msi_base.specs.declared.errors.ErrorKind.TheVariants.{InvalidData, OutOfMemory}
use Rattle.msi_container_view.specs.Views.{contents_in}
use Rattle.msi_base.proofs.OptionLemmas.{none_not}
use Rattle.msi_container_format.specs.declared.contents.Contents.{Contents}
use Rattle.msi.specs.Meaning.{OpenStep, FailsFirst, Passes, step_kind}
use Rattle.msi.specs.Opening.{StopsAmong}
use Rattle.msi.proofs.reading.OpenStepLemmas.{at_bytes, not_memory}
use Rattle.msi_pool.specs.Pool.{Pool}
use Rattle.msi_table.specs.Tables.{TableDef}
use Rattle.std.specs.Io.KnownBytes.{Appends}
use Rattle.std.specs.Prelude.{OnErr, OnOk, if◌then◌else◌}
use Rattle.std.proofs.KnownBytes.{Appends-nil}
use Rattle.std.proofs.Math.Seq.{take-length}
use Rattle.msi_base.specs.Faults.{AppendsPart}
use Rattle.std.proofs.lemmas.Option.{none-some, same_Some}
use Rattle.msi_view.specs.Looking.{Catalogued, IsCatalog, AreStreamsOf, IsLook, IsPartRefusal, IsSchemaLoaded, ReadsStreams, root_in, size_at}

-- what was read of the tables stays what they are
pub look_kept : (old new : View) (catalog : Option Catalogued) (n : ℕ) → ReadsMore old new n → IsLook old catalog → IsLook new catalog
look_kept old new catalog n reads look file told =
    rw (reads.streams) (look file (sym reads.told ∙ told))

-- a stream of the root
pub stream_found : (file : List ℕ) (v : View) (name : List ℕ) → stream_at name (root_in file v) ≡ get (streams_at file v.streams) name
stream_found file v name = sym (get-entries (streams_at file v.streams) name)

-- one stream was read
pub reads_one : (old new : View) (name : List ℕ) → ReadsMore old new (size_at name old) → ReadsStreams old new (name ∷ [])
reads_one old new name reads = record {
  told = reads.told;
  clsids = reads.clsids;
  storages = reads.storages;
  streams = reads.streams;
  read = omega (arith, reads.read);
}

without_memory : (c : Contents) (steps : List OpenStep) (kind : ErrorKind) → kind ≡ InvalidData → StopsAmong c steps kind → FailsFirst c steps kind
without_memory c steps kind invalid (inl memory) = absurd (not_memory kind invalid memory)
without_memory c steps kind invalid (inr first) = first

-- why a part isn't had, by an answer to its bytes
pub refused_part : {X : Type 0} (can_fail : Bool) (v : View) (steps : List OpenStep) (r : Result X ErrorKind) → IfErr r (λ kind. (kind ≡ InvalidData) ⊎ (kind ≡ OutOfMemory))
    → ((file : List ℕ) → Tells v.held file → IfErr r (StopsAmong (contents_in file v) steps)) → IfErr r (IsPartRefusal can_fail v steps)
refused_part can_fail v steps (Ok x) kinds stops = tt
refused_part can_fail v steps (Err kind) (inr memory) stops = inl (inr memory)
refused_part can_fail v steps (Err kind) (inl invalid) stops = inr (λ file told. without_memory (contents_in file v) steps kind invalid (stops file told))

-- a missing stream is why a part isn't had
pub missing_part : (can_fail : Bool) (v : View) (name : List ℕ) (s : OpenStep) (steps : List OpenStep) (kind : ErrorKind)
    → ((file : List ℕ) → Tells v.held file → None ≡ get (streams_at file v.streams) name)
    → ((file : List ℕ) → Passes (contents_in file v) s → IsSome (stream_at name (root_in file v)))
    → kind ≡ step_kind s → IsPartRefusal can_fail v (s ∷ steps) kind
missing_part can_fail v name s steps kind missing passes is =
    inr (λ file told. inl ((λ p. none_not (stream_at name (root_in file v)) (stream_found file v name ∙ sym (missing file told)) (passes file p)), is))

-- what the bytes of a stream spell is what the stream says
pub found_part : {X : Type 0} (v : View) (name bytes : List ℕ) (r : Result X ErrorKind) (P : List ℕ → X → Type 0) → IfOk r (P bytes)
    → ((file : List ℕ) → Tells v.held file → Some bytes ≡ get (streams_at file v.streams) name)
    → IfOk r (λ x. (file : List ℕ) → Tells v.held file → IsSomeAnd (stream_at name (root_in file v)) (λ b. P b x))
found_part v name bytes (Err kind) P found there = tt
found_part v name bytes (Ok x) P found there = λ file told.
    at_bytes (λ b. P b x) (stream_at name (root_in file v)) bytes (stream_found file v name ∙ sym (there file told)) found

pub is_some_copied : {X : Type 0} (o : Option (Bor X)) → is_some o ≡ is_some (option_copied o)
is_some_copied None = refl
is_some_copied (Some x) = refl

some_mapped : {X Y : Type 0} (f : X → Y) (o : Option X) → is_some (option_map f o) ≡ is_some o
some_mapped f None = refl
some_mapped f (Some x) = refl

at_some : (o : Option (List ℕ)) (P : List ℕ → Type 0) → is_some o ≡ true → P (unwrap_or o []) → MatchOption o ⊥ P
at_some None P there p = absurd (false≢true there)
at_some (Some bytes) P there p = p

-- the stream that was copied is there
pub copied_part : (file : List ℕ) (v : View) (name : List ℕ) (P : List ℕ → Type 0) → is_some (extents_at name v.streams) ≡ true
    → P (unwrap_or (get (streams_at file v.streams) name) []) → MatchOption (stream_at name (root_in file v)) ⊥ P
copied_part file v name P there p =
    let some : is_some (get (streams_at file v.streams) name) ≡ true = ap is_some (bytes_are file v.streams name) ∙ some_mapped (bytes_of file) (extents_at name v.streams) ∙ there in
    rw (stream_found file v name) (at_some (get (streams_at file v.streams) name) P some p)

-- what is known of the tables, in the view as it was before they were read
pub looked : (old new : View) (catalog : Option Catalogued) (c : Catalogued) (n : ℕ) → ReadsMore old new n → IsLook new catalog → catalog ≡ Some c
    → (file : List ℕ) → Tells old.held file → IsCatalog (root_in file old) c.pool c.tables × AreStreamsOf (root_in file old) c.streams × IsSchemaLoaded (root_in file old) c.streams
looked old new catalog c n reads look some file told = rw reads.streams at (rw some at (look file (reads.told ∙ told)))

pub look_found : (v : View) (catalog : Option Catalogued) (c : Catalogued) → IsLook v catalog → catalog ≡ Some c
    → (file : List ℕ) → Tells v.held file → IsCatalog (root_in file v) c.pool c.tables × AreStreamsOf (root_in file v) c.streams × IsSchemaLoaded (root_in file v) c.streams
look_found v catalog c look some file told = rw some at (look file told)

-- an error for the bytes is one of what was called
pub refused : {X Y : Type 0} (r : Result X ErrorKind) (e f : ErrorKind) → r ≡ Err e → e ≡ f → r ≡ Err InvalidData → ◌≡◌ {A = Result Y ErrorKind} (Err f) (Err InvalidData)
refused r e f a b h = let same : f ≡ InvalidData = cc in ap Err same

-- so there are tables, where looking succeeded
pub known_on : {A E : Type 0} (r : Result A E) (old new : View) (catalog : Option Catalogued) (n : ℕ) → ReadsMore old new n → IsLook new catalog → OnOk r (IsSome catalog)
    → OnOk r ((file : List ℕ) → Tells old.held file → (pool : Pool) × (tables : List TableDef) × IsCatalog (root_in file old) pool tables)
known_on (Err e) old new catalog n reads look there = tt
known_on (Ok x) old new None n reads look there = absurd (false≢true there)
known_on (Ok x) old new (Some c) n reads look there = λ file told. (c.pool, c.tables, (looked old new (Some c) c n reads look refl file told).0)

-- STREAMS BY THEIR NAMES

-- any stream that was copied
pub copied_any : {A E : Type 0} (r : Result A E) (v : View) (name : List ℕ) (P : List ℕ → Type 0)
    → IfOk r (λ _. (file : List ℕ) → Tells v.held file → P (unwrap_or (get (streams_at file v.streams) name) []))
    → OnOk r ((file : List ℕ) → Tells v.held file → P (unwrap_or (stream_at name (root_in file v)) []))
copied_any (Err e) v name P copied = tt
copied_any (Ok x) v name P copied = λ file told. subst (λ (o : Option (List ℕ)). P (unwrap_or o [])) (sym (stream_found file v name)) (copied file told)

-- and one whose copying failed
pub part_any : {A E : Type 0} (r : Result A E) (v : View) (name : List ℕ) (P : List ℕ → Type 0)
    → OnErr r ((file : List ℕ) → Tells v.held file → P (unwrap_or (get (streams_at file v.streams) name) []))
    → OnErr r ((file : List ℕ) → Tells v.held file → P (unwrap_or (stream_at name (root_in file v)) []))
part_any (Ok x) v name P copied = tt
part_any (Err e) v name P copied = λ file told. subst (λ (o : Option (List ℕ)). P (unwrap_or o [])) (sym (stream_found file v name)) (copied file told)

pub on_failed : {A E P : Type 0} (r : Result A E) → P → OnErr r P
on_failed (Ok x) p = tt
on_failed (Err e) p = p

-- a prefix was written where nothing was, and where all was
pub part_none : (a : Option (List ℕ)) (bytes : List ℕ) → AppendsPart a a bytes
part_none a bytes = (0, omega arith, Appends-nil a)

pub part_all : (a b : Option (List ℕ)) (bytes : List ℕ) → Appends a b bytes → AppendsPart a b bytes
part_all a b bytes given = (length bytes, omega arith, subst (Appends a b) (sym (take-length bytes)) given)

-- the pieces of a name that a stream may have
pub named_told : {X : Type 0} (b : Bool) (key stream : List ℕ) (at : List ℕ → Option X) → Some key ≡ (if b then Some stream else None) → at key ≡ (if b then at stream else None)
named_told true key stream at is = ap at (same_Some key stream is)
named_told false key stream at is = absurd (none-some key (sym is))

pub named_missing : {X : Type 0} (b : Bool) (stream : List ℕ) (at : List ℕ → Option X) → None ≡ (if b then Some stream else None) → None ≡ (if b then at stream else None)
named_missing true stream at is = absurd (none-some stream is)
named_missing false stream at is = refl

pub some_named : {X : Type 0} (b : Bool) (o : Option X) → is_some (if b then o else None) ≡ (b && is_some o)
some_named true o = refl
some_named false o = refl
