-- Texts that a page can't encode: where streams are written there is none, and a flush with one is refused.
use Rattle.std.proofs.Common.{◌≡◌, ℕ, Bool, true, false, ◌&&◌, List, [], ◌∷◌, Option, Some, None, Result, Err, refl, subst}
use Rattle.std.specs.Prelude.{IfSome, if◌then◌else◌, option_and_then, option_map}
use Rattle.std.proofs.lemmas.Bool.{true≢false}
use Rattle.msi_base.specs.declared.errors.ErrorKind.{ErrorKind}
use Rattle.msi_base.specs.declared.errors.ErrorKind.TheVariants.{InvalidInput}
use Rattle.msi_base.specs.Refusals.{AnswersFirst, AnswersWith, Refusals, first_refusal}
use Rattle.msi_base.proofs.RefusalLemmas.{none_answered}
use Rattle.msi_pool.specs.Pool.{Pool, data_stream, pool_stream}
use Rattle.msi_pool.specs.PoolWriting as pool_writing
use Rattle.msi_summary.specs.PropertyStream.{property_stream}
use Rattle.msi_summary.specs.PropertyWriting as property_writing
use Rattle.msi_database_schema.specs.Keys.{string_data_name, string_pool_name, summary_key, table_key}
use Rattle.msi_database_storage.specs.Kept.{Kept}
use Rattle.msi_database_storage.specs.Streams.{Streams, with_stream}
use Rattle.msi.specs.State.{State}
use Rattle.msi.specs.Steps.{flush_refusals, streams_written, text_refusals}
use Rattle.msi.specs.Whole.{Whole}

-- WHERE STREAMS ARE WRITTEN

none_refused : (lent unspelled changed unencoded : Bool) (summary : Option (List ℕ)) (put : List ℕ → Streams) (kept : Streams) (pool : Streams → Option Streams) (streams : Streams)
    → option_and_then (λ m. if changed then (if unencoded then None else pool m) else Some m) (if lent then option_map put (if unspelled then None else summary) else Some kept) ≡ Some streams
    → first_refusal ((lent && unspelled, InvalidInput) ∷ (changed && unencoded, InvalidInput) ∷ []) ≡ None
none_refused true true changed unencoded summary put kept pool streams e = absurd cc
none_refused true false true true None put kept pool streams e = absurd cc
none_refused true false true true (Some bytes) put kept pool streams e = absurd cc
none_refused true false true false summary put kept pool streams e = refl
none_refused true false false unencoded summary put kept pool streams e = refl
none_refused false unspelled true true summary put kept pool streams e = absurd cc
none_refused false unspelled true false summary put kept pool streams e = refl
none_refused false unspelled false unencoded summary put kept pool streams e = refl

-- what is put of a pool that isn't refused
abbrev put_of : Pool → Streams → Option Streams
put_of pool streams = option_and_then
    (λ written. option_map (λ texts. with_stream (table_key string_pool_name) written (with_stream (table_key string_data_name) texts streams)) (data_stream pool))
    (pool_stream pool)

pub none_where_written : (s : State) (streams : Streams) → streams_written s ≡ Some streams → first_refusal (text_refusals s) ≡ None
none_where_written s streams written =
    none_refused s.is_summary_lent (property_writing.is_refused s.summary) s.is_pool_changed (pool_writing.is_refused s.kept.database.pool)
    (property_stream s.summary) (λ bytes. with_stream summary_key bytes s.kept.streams) s.kept.streams (put_of s.kept.database.pool) streams written

-- A FLUSH

-- one with nothing unwritten looks at no text
by_flag : {A : Type 0} (unwritten : Bool) (rs : Refusals) (r : Result A ErrorKind) → AnswersFirst rs r → AnswersFirst (if unwritten then rs else []) r
by_flag true rs r h = h
by_flag false rs r h = tt

pub texts_of_flush : {A : Type 0} (s : State) (r : Result A ErrorKind) → AnswersFirst (text_refusals s) r → AnswersFirst (flush_refusals s) r
texts_of_flush s r h = by_flag s.is_unwritten (text_refusals s) r h

pub written_first : {A : Type 0} (s : State) (streams : Streams) (r : Result A ErrorKind) → streams_written s ≡ Some streams → AnswersFirst (flush_refusals s) r
written_first s streams r written = texts_of_flush s r (none_answered (text_refusals s) r (none_where_written s streams written))

pub flush_first : {A : Type 0} (view old : Whole) → view ≡ old → (k : Kept) → k ≡ view.state.kept → (r : Result A ErrorKind)
    → AnswersFirst (text_refusals (record view.state { kept = k })) r → AnswersFirst (flush_refusals old.state) r
flush_first view old is k same r h =
    texts_of_flush old.state r (subst (λ (w : Whole). AnswersFirst (text_refusals w.state) r) is
    (subst (λ (k : Kept). AnswersFirst (text_refusals (record view.state { kept = k })) r) same h))

when_clean : {A : Type 0} (unwritten : Bool) (rs : Refusals) (r : Result A ErrorKind) → unwritten ≡ false → AnswersFirst (if unwritten then rs else []) r
when_clean true rs r clean = absurd (true≢false clean)
when_clean false rs r clean = tt

pub nothing_first : {A : Type 0} (w : Whole) (r : Result A ErrorKind) → w.state.is_unwritten ≡ false → AnswersFirst (flush_refusals w.state) r
nothing_first w r clean = when_clean w.state.is_unwritten (text_refusals w.state) r clean

-- an error that is handed out with what is left
pub first_handed : (A : Type 0) (o : Option ErrorKind) (P : ErrorKind → Type 0) (error : ErrorKind) → AnswersWith {A = A} o (Err error)
    → ((kind : ErrorKind) → error ≡ kind → P kind) → IfSome o P
first_handed A None P error early handed = tt
first_handed A (Some kind) P error early handed = handed kind (cc early)
