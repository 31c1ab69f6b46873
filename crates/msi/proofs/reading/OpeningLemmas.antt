-- Opening gives one answer for given bytes.
use Rattle.std.proofs.Common.{◌≡◌, ℕ, Bool, List, [], ◌∷◌, Option, Some, None, Ok, Err, sym, ap, subst, ◌∙◌, inl, inr}
use Rattle.std.specs.Prelude.{IsSome, IsSomeAnd}
use Rattle.std.specs.FinMap.{entries}
use Rattle.msi_base.specs.declared.errors.ErrorKind.{ErrorKind}
use Rattle.msi_base.specs.declared.codepage.CodePage.{CodePage}
use Rattle.msi_base.proofs.OptionLemmas.{is_some_by, some_of}
use Rattle.msi_pool.specs.Pool.{Pool, Entry, IsPool, SpellsPool}
use Rattle.msi_container_format.specs.declared.contents.Contents.{Contents}
use Rattle.msi_container_format.proofs.PlanOnceLemmas.{held_once}
use Rattle.msi_database_schema.specs.Keys.{table_key, summary_key, string_pool_name, string_data_name}
use Rattle.msi_database_storage.specs.Streams.{stream_at}
use Rattle.msi_database.specs.Database.{columns_by_name}
use Rattle.msi_database_storage.specs.Agreement.{schema_in}
use Rattle.msi.specs.State.{Parts, State, parts_of}
use Rattle.msi.specs.Meaning.{ContentsMean, OpenStep, Passes, FailsFirst, OpensTo, as_opened, open_steps}
use Rattle.msi.specs.Meaning as step
use Rattle.msi.specs.Laws.{AreBytes, BytesMeanOne, BytesOpenToOne, RefusedMeanNothing}
use Rattle.msi.proofs.reading.HeldStreamsLemmas.{held_small}
use Rattle.msi.proofs.meaning.OneMeaningLemmas.{schema_raw, meaning_one}

inner_some : {X Y : Type 0} (P : X → Y → Type 0) (o : Option X) (p : Option Y) → IsSomeAnd o (λ x. IsSomeAnd p (P x)) → IsSome p
inner_some P None p h = absurd h
inner_some P (Some x) p h = some_of (P x) p h

pool_spelled : (o p : Option (List ℕ)) (raw : Pool) → IsSomeAnd o (λ written. IsSomeAnd p (λ texts. IsPool written texts raw))
    → (page : CodePage) × (long : Bool) × (listed : List Entry) × IsSomeAnd o (λ bytes. SpellsPool bytes page long listed)
pool_spelled None p raw h = absurd h
pool_spelled (Some written) None raw h = absurd h
pool_spelled (Some written) (Some texts) raw h = (raw.page, raw.long, h.0, h.1)

-- contents that mean a package pass each step
pub means_passes : (c : Contents) (p : Parts) → ContentsMean c p → (s : OpenStep) → Passes c s
means_passes c p h step.knows_kind = (p.kind, h.kind)
means_passes c p h step.has_summary = some_of _ (stream_at summary_key (entries c.streams)) h.summary
means_passes c p h step.reads_summary = (p.summary, h.summary)
means_passes c p h step.has_pool = some_of _ (stream_at (table_key string_pool_name) (entries c.streams)) h.pool.1
means_passes c p h step.reads_pool = pool_spelled (stream_at (table_key string_pool_name) (entries c.streams)) (stream_at (table_key string_data_name) (entries c.streams)) h.pool.0 h.pool.1
means_passes c p h step.has_texts = inner_some _ (stream_at (table_key string_pool_name) (entries c.streams)) (stream_at (table_key string_data_name) (entries c.streams)) h.pool.1
means_passes c p h step.reads_texts = (h.pool.0, h.pool.1)
means_passes c p h step.reads_schema = (h.pool.0, h.pool.1, is_some_by (schema_in (entries c.streams) h.pool.0) (columns_by_name p.database) (schema_raw c p h))

-- so none of them fails first
never_fails : (c : Contents) (kind : ErrorKind) → ((s : OpenStep) → Passes c s) → (ss : List OpenStep) → FailsFirst c ss kind → ⊥
never_fails c kind passes [] h = h
never_fails c kind passes (s ∷ ss) (inl fails) = fails.0 (passes s)
never_fails c kind passes (s ∷ ss) (inr later) = never_fails c kind passes ss later.1

fails_once : (c : Contents) (kind other : ErrorKind) (ss : List OpenStep) → FailsFirst c ss kind → FailsFirst c ss other → kind ≡ other
fails_once c kind other [] h k = absurd h
fails_once c kind other (s ∷ ss) (inl h) (inl k) = h.1 ∙ sym k.1
fails_once c kind other (s ∷ ss) (inl h) (inr k) = absurd (h.0 k.0)
fails_once c kind other (s ∷ ss) (inr h) (inl k) = absurd (k.0 h.0)
fails_once c kind other (s ∷ ss) (inr h) (inr k) = fails_once c kind other ss h.1 k.1

-- bytes mean one package at most
pub bytes_mean_one : BytesMeanOne
bytes_mean_one bytes p q small (c, holds, h) (d, held, k) =
    meaning_one c p q (held_small bytes small c holds summary_key) h (subst (λ (x : Contents). ContentsMean x q) (held_once bytes d c held holds) k)

-- bytes that aren't opened mean nothing
pub refused_mean_nothing : RefusedMeanNothing
refused_mean_nothing bytes kind p (inl none) (c, holds, h) = none.0 c holds
refused_mean_nothing bytes kind p (inr (d, held, fails)) (c, holds, h) =
    never_fails d kind (means_passes d p (subst (λ (x : Contents). ContentsMean x p) (held_once bytes c d holds held) h)) open_steps fails

module _ (bytes : List ℕ) (small : AreBytes bytes) where
  same_opened : (c d : Contents) (p q : Parts) → c ≡ d → p ≡ q → as_opened (entries c.streams) p ≡ as_opened (entries d.streams) q
  same_opened c d p q e f = λ i. as_opened (entries (e i).streams) (f i)

  one_state : (s t : State) → OpensTo bytes (Ok s) → OpensTo bytes (Ok t) → s ≡ t
  one_state s t (c, holds, h, is) (d, held, k, also) =
      is ∙ same_opened c d (parts_of s) (parts_of t) (held_once bytes c d holds held) (bytes_mean_one bytes (parts_of s) (parts_of t) small (c, holds, h) (d, held, k)) ∙ sym also

  no_error : {P : Type 0} (s : State) (kind : ErrorKind) → OpensTo bytes (Ok s) → OpensTo bytes (Err kind) → P
  no_error s kind (c, holds, h, is) (inl none) = absurd (none.0 c holds)
  no_error s kind (c, holds, h, is) (inr (d, held, fails)) =
      absurd (never_fails d kind (means_passes d (parts_of s) (subst (λ (x : Contents). ContentsMean x (parts_of s)) (held_once bytes c d holds held) h)) open_steps fails)

  one_error : (kind other : ErrorKind) → OpensTo bytes (Err kind) → OpensTo bytes (Err other) → kind ≡ other
  one_error kind other (inl none) (inl also) = none.1 ∙ sym also.1
  one_error kind other (inl none) (inr (d, held, fails)) = absurd (none.0 d held)
  one_error kind other (inr (c, holds, fails)) (inl none) = absurd (none.0 c holds)
  one_error kind other (inr (c, holds, fails)) (inr (d, held, too)) = fails_once c kind other open_steps fails (subst (λ (x : Contents). FailsFirst x open_steps other) (held_once bytes d c held holds) too)

-- opening gives one answer
pub bytes_open_to_one : BytesOpenToOne
bytes_open_to_one bytes (Ok s) (Ok t) small h k = ap Ok (one_state bytes small s t h k)
bytes_open_to_one bytes (Ok s) (Err kind) small h k = no_error bytes small s kind h k
bytes_open_to_one bytes (Err kind) (Ok s) small h k = no_error bytes small s kind k h
bytes_open_to_one bytes (Err kind) (Err other) small h k = ap Err (one_error bytes small kind other h k)
