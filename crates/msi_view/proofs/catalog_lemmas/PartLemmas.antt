-- What is read of each file that a source tells, and why a part of it isn't had.
use Rattle.std.proofs.Common.{◌≡◌, ℕ, Bool, List, Option, Result, Ok, Err, inl, inr, length, refl, sym, ap, subst, ◌∙◌}
use Rattle.std.specs.Prelude.{◌⊎◌, IfErr, IfOk}
use Rattle.std.specs.FinMap.{get}
use Rattle.msi_base.specs.declared.errors.ErrorKind.{ErrorKind}
use Rattle.msi_base.specs.declared.errors.ErrorKind.TheVariants.{AlreadyExists, InvalidData, InvalidInput, Io, NotFound, OutOfMemory}
use Rattle.msi_base.specs.Results.{IsUnlessMemory}
use Rattle.msi_container_device.specs.Held.{Held, bytes_told}
use Rattle.msi_container_format.specs.Bytes.{bytes_at}
use Rattle.msi_container_format.specs.Streams as maps
use Rattle.msi_container_view.proofs.FillLemmas.{full}
use Rattle.msi_container_view.specs.Reading.{IsReadRefusal, Tells}
use Rattle.msi_container_view.specs.Views.{View, contents_in, streams_at}
use Rattle.msi_database_storage.specs.Streams.{stream_at}
use Rattle.msi.specs.Meaning.{OpenStep}
use Rattle.msi.specs.Opening.{StopsAmong}
use Rattle.msi.proofs.reading.OpenStepLemmas.{stream_got}
use Rattle.msi_view.specs.Looking.{IsPartRefusal, root_in}

-- EACH FILE THAT IS TOLD

-- what is read of each of them
pub for_files : {X E : Type 0} (held : Option Held) (P : List ℕ → X → Type 0) (r : Result X E)
    → ((file : List ℕ) → Tells held file → IfOk r (P file)) → IfOk r (λ x. (file : List ℕ) → Tells held file → P file x)
for_files held P (Ok x) each = each
for_files held P (Err e) each = tt

-- and that nothing else is
pub only_for_files : {X : Type 0} (held : Option Held) (P : List ℕ → X → Type 0) (r : Result X ErrorKind)
    → ((file : List ℕ) → Tells held file → (y : X) → P file y → IsUnlessMemory r y)
    → IfOk r (λ x. (file : List ℕ) → Tells held file → (y : X) → P file y → x ≡ y)
only_for_files held P (Ok x) each = each
only_for_files held P (Err e) each = tt

-- the stream of a name
pub stream_told : (v : View) (name key : List ℕ) (o : Option (List ℕ)) → name ≡ key
    → ((file : List ℕ) → Tells v.held file → get (streams_at file v.streams) name ≡ o)
    → (file : List ℕ) → Tells v.held file → stream_at key (root_in file v) ≡ o
stream_told v name key o is held file told =
    ap (λ q. stream_at q (root_in file v)) (sym is) ∙ stream_got (streams_at file v.streams) name o (sym (held file told))

-- what is read on is of the same files
pub told_on : (old mid : View) → bytes_told mid.held ≡ bytes_told old.held → mid.streams ≡ old.streams → (P : maps.Streams → Type 0)
    → ((file : List ℕ) → Tells mid.held file → P (streams_at file mid.streams)) → (file : List ℕ) → Tells old.held file → P (streams_at file old.streams)
told_on old mid tells same P holds file told = subst P (ap (streams_at file) same) (holds file (tells ∙ told))

-- a part that is all bytes
pub whole_part : (bytes whole texts : List ℕ) (len : ℕ) → bytes ≡ bytes_at whole 0 len → whole ≡ texts → len ≡ length texts → bytes ≡ texts
whole_part bytes whole texts len is same long =
    is ∙ ap (λ w. bytes_at w 0 len) same ∙ ap (bytes_at texts 0) long ∙ sym (full (length texts) texts texts refl refl)

-- WHY A PART ISN'T HAD

is_memory : (kind : ErrorKind) → (kind ≡ OutOfMemory) ⊎ ((kind ≡ OutOfMemory) → ⊥)
is_memory AlreadyExists = inr (λ e. cc)
is_memory InvalidData = inr (λ e. cc)
is_memory InvalidInput = inr (λ e. cc)
is_memory NotFound = inr (λ e. cc)
is_memory Io = inr (λ e. cc)
is_memory OutOfMemory = inl refl

no_memory : {P : Type 0} (kind : ErrorKind) → ((kind ≡ OutOfMemory) → ⊥) → (kind ≡ OutOfMemory) ⊎ P → P
no_memory kind not (inl memory) = absurd (not memory)
no_memory kind not (inr is) = is

module _ (can_fail : Bool) (v : View) where
  -- the steps stop so in each file
  stops_refused : (steps : List OpenStep) (kind : ErrorKind) → (kind ≡ OutOfMemory) ⊎ ((kind ≡ OutOfMemory) → ⊥)
      → ((file : List ℕ) → Tells v.held file → StopsAmong (contents_in file v) steps kind) → IsPartRefusal can_fail v steps kind
  stops_refused steps kind (inl memory) stops = inl (inr memory)
  stops_refused steps kind (inr not) stops = inr (λ file told. no_memory kind not (stops file told))

  pub refused_by_steps : (steps : List OpenStep) (kind : ErrorKind)
      → ((file : List ℕ) → Tells v.held file → StopsAmong (contents_in file v) steps kind) → IsPartRefusal can_fail v steps kind
  refused_by_steps steps kind stops = stops_refused steps kind (is_memory kind) stops

  pub refused_unless_ok : {X : Type 0} (steps : List OpenStep) (r : Result X ErrorKind)
      → ((file : List ℕ) → Tells v.held file → IfErr r (StopsAmong (contents_in file v) steps)) → IfErr r (IsPartRefusal can_fail v steps)
  refused_unless_ok steps (Ok x) stops = tt
  refused_unless_ok steps (Err kind) stops = refused_by_steps steps kind stops

  -- nothing could be read, or a stream is missing
  pub refused_or_missing : (steps : List OpenStep) (kind : ErrorKind) (P : Type 0)
      → (P → (file : List ℕ) → Tells v.held file → StopsAmong (contents_in file v) steps kind)
      → IsReadRefusal can_fail kind ⊎ P → IsPartRefusal can_fail v steps kind
  refused_or_missing steps kind P stops (inl refused) = inl refused
  refused_or_missing steps kind P stops (inr missing) = refused_by_steps steps kind (stops missing)
