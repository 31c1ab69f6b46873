-- The streams that have texts, and the files that hold them.
use Rattle.std.proofs.Common.{◌≡◌, ℕ, true, false, true≢false, List, Option, Some, None, inl, inr, sym, ap, subst, ◌∙◌}
use Rattle.std.specs.Prelude.{◌⊎◌}
use Rattle.std.specs.FinMap.{get}
use Rattle.msi_container_format.specs.declared.contents.Contents.{Contents}
use Rattle.msi_container_format.specs.Container.{Holds}
use Rattle.msi_container_format.specs.Streams.{Streams}
use Rattle.msi_container_format.proofs.PlanOnceLemmas.{held_once}
use Rattle.msi_container_write.specs.Layout.{layout, refuses}
use Rattle.msi_base.specs.declared.errors.ErrorKind.{ErrorKind}
use Rattle.msi_base.specs.declared.errors.ErrorKind.TheVariants as kind
use Rattle.msi_base.proofs.OptionLemmas.{not_given}
use Rattle.msi_database_schema.specs.Keys.{table_key, summary_key, string_pool_name, string_data_name}
use Rattle.msi_recode.specs.declared.errors.RecodeError.{RecodeError}
use Rattle.msi_recode.specs.declared.errors.RecodeError.TheVariants as error
use Rattle.msi_recode.specs.declared.page.TextPage.{TextPage}
use Rattle.msi_recode.specs.Errors.{kind_of}
use Rattle.msi_recode.specs.PoolRecoding.{AreRecoded, CannotBeRecoded, IsPoolError}
use Rattle.msi_recode.specs.SummaryRecoding.{HasNoSummary, IsSummaryError, IsSummaryRecoded}
use Rattle.msi_recode.specs.Recoding.{TextStreams, HaveTextStreams, LackTextStreams, AreTextsRecoded, AreStreamsRecoded, CannotBeRecodedIn, IsRecoded, IsFileRecoded, IsFileError, IsStreamsError}
use Rattle.msi_recode.proofs.OnceLemmas.{recoded_once, these_once}
use Rattle.msi_recode.proofs.RecodedLemmas.{pool_only, pool_refused}
use Rattle.msi_recode.proofs.SummaryErrorLemmas.{summary_only, summary_refused}

pub texts_made : (hint : Option TextPage) (streams : Streams) (pool_name data_name name entries texts summary : List ℕ) (new : TextStreams) → pool_name ≡ table_key string_pool_name → data_name ≡ table_key string_data_name → name ≡ summary_key
    → get streams pool_name ≡ Some entries → get streams data_name ≡ Some texts → get streams name ≡ Some summary → AreRecoded hint entries texts new.entries new.texts → IsSummaryRecoded hint summary new.summary
    → (old : TextStreams) × HaveTextStreams streams old × AreTextsRecoded hint old new
texts_made hint streams pool_name data_name name entries texts summary new pool_is data_is name_is pool stored properties recoded set = (
  record { entries = entries; texts = texts; summary = summary },
  (ap (get streams) (sym pool_is) ∙ pool, ap (get streams) (sym data_is) ∙ stored, ap (get streams) (sym name_is) ∙ properties),
  (recoded, set),
)

pub file_made : (hint : Option TextPage) (before after : List ℕ) (old new : Contents) → Holds before old → IsRecoded hint old new → refuses new 0 ≡ false → after ≡ layout new 0 → Holds after new → IsFileRecoded hint before after
file_made hint before after old new a b c d e = (old, new, a, b, c, d, e)

-- ---- why nothing is recoded

absent : {P : Type 0} (streams : Streams) (name key bytes : List ℕ) → name ≡ key → get streams name ≡ None → get streams key ≡ Some bytes → P
absent streams name key bytes is none some = absurd (not_given bytes (sym some ∙ ap (get streams) (sym is) ∙ none))

lacking : (k : ErrorKind) (given : Option TextPage) (streams : Streams) → k ≡ kind.InvalidData → LackTextStreams streams → IsStreamsError given streams (error.Package k)
lacking k given streams invalid lack = inr (inl (ap (λ (x : ErrorKind). error.Package x) invalid, lack))

module _ (k : ErrorKind) (given : Option TextPage) (streams : Streams) (name : List ℕ) (invalid : k ≡ kind.InvalidData) (none : get streams name ≡ None) where
  pub no_pool : name ≡ table_key string_pool_name → IsStreamsError given streams (error.Package k)
  no_pool is = lacking k given streams invalid (λ these have. absent streams name (table_key string_pool_name) these.entries is none have.0)

  pub no_data : name ≡ table_key string_data_name → IsStreamsError given streams (error.Package k)
  no_data is = lacking k given streams invalid (λ these have. absent streams name (table_key string_data_name) these.texts is none have.1)

  pub no_summary : name ≡ summary_key → IsStreamsError given streams (error.Package k)
  no_summary is = lacking k given streams invalid (λ these have. absent streams name summary_key these.summary is none have.2)

-- an error of the three that are there
module _ (given : Option TextPage) (streams : Streams) (pool_name data_name name entries texts summary : List ℕ) (pool_is : pool_name ≡ table_key string_pool_name) (data_is : data_name ≡ table_key string_data_name)
    (name_is : name ≡ summary_key) (pool : get streams pool_name ≡ Some entries) (stored : get streams data_name ≡ Some texts) (properties : get streams name ≡ Some summary) where
  have : HaveTextStreams streams (record { entries = entries; texts = texts; summary = summary })
  have = (ap (get streams) (sym pool_is) ∙ pool, ap (get streams) (sym data_is) ∙ stored, ap (get streams) (sym name_is) ∙ properties)

  pub error_of_pool : (err : RecodeError) → IsPoolError given entries texts err → IsStreamsError given streams err
  error_of_pool err fails = inr (inr (record { entries = entries; texts = texts; summary = summary }, have, inl fails))

  pub error_of_summary : (err : RecodeError) (entries_after texts_after : List ℕ) → AreRecoded given entries texts entries_after texts_after → IsSummaryError given summary err → IsStreamsError given streams err
  error_of_summary err entries_after texts_after recoded fails = inr (inr (record { entries = entries; texts = texts; summary = summary }, have, inr (entries_after, texts_after, recoded, fails)))

-- streams that can be recoded have no error but of memory
streams_only : (given : Option TextPage) (streams after : Streams) (err : RecodeError) → IsStreamsError given streams err → AreStreamsRecoded given streams after → kind_of err ≡ kind.OutOfMemory
streams_only given streams after err (inl memory) recoded = ap kind_of memory
streams_only given streams after err (inr (inl (is, lack))) (old, new, have, texts, put) = absurd (lack old have)
streams_only given streams after err (inr (inr (these, there, inl fails))) (old, new, have, (pool, summary), put) =
    let same : these ≡ old = these_once streams these old there have in
    pool_only given old.entries old.texts new.entries new.texts err (subst (λ (x : TextStreams). IsPoolError given x.entries x.texts err) same fails) pool
streams_only given streams after err (inr (inr (these, there, inr (entries, texts, recoded, fails)))) (old, new, have, (pool, summary), put) =
    let same : these ≡ old = these_once streams these old there have in
    summary_only given old.summary new.summary err (subst (λ (x : TextStreams). IsSummaryError given x.summary err) same fails) summary

pub contents_only : (given : Option TextPage) (before after : Contents) (err : RecodeError) → IsStreamsError given before.streams err → IsRecoded given before after → kind_of err ≡ kind.OutOfMemory
contents_only given before after err fails (recoded, same) = streams_only given before.streams after.streams err fails recoded

-- invalid data can't be recoded
pub streams_refused : (given : Option TextPage) (streams : Streams) (err : RecodeError) → IsStreamsError given streams err → kind_of err ≡ kind.InvalidData → CannotBeRecodedIn given streams
streams_refused given streams err (inl memory) invalid other had = let e : kind.InvalidData ≡ kind.OutOfMemory = sym invalid ∙ ap kind_of memory in cc
streams_refused given streams err (inr (inl (is, lack))) invalid other had = absurd (lack other had)
streams_refused given streams err (inr (inr (these, there, inl fails))) invalid other had =
    let same : these ≡ other = these_once streams these other there had in
    inl (subst (λ (x : TextStreams). CannotBeRecoded given x.entries x.texts) same (pool_refused given these.entries these.texts err fails invalid))
streams_refused given streams err (inr (inr (these, there, inr (entries, texts, recoded, fails)))) invalid other had =
    let same : these ≡ other = these_once streams these other there had in
    inr (subst (λ (x : TextStreams). HasNoSummary given x.summary) same (summary_refused given these.summary err fails invalid))

-- ---- why no file is

pub no_file : (k : ErrorKind) (given : Option TextPage) (bytes : List ℕ) → (k ≡ kind.InvalidData) ⊎ (k ≡ kind.OutOfMemory) → ((contents : Contents) → Holds bytes contents → k ≡ kind.OutOfMemory) → IsFileError given bytes (error.Package k)
no_file k given bytes (inl invalid) only = inr (inl (ap (λ (x : ErrorKind). error.Package x) invalid, λ contents holds. let e : kind.InvalidData ≡ kind.OutOfMemory = sym invalid ∙ only contents holds in cc))
no_file k given bytes (inr memory) only = inl (ap (λ (x : ErrorKind). error.Package x) memory)

pub not_recoded : (given : Option TextPage) (bytes : List ℕ) (old : Contents) (err : RecodeError) → Holds bytes old → IsStreamsError given old.streams err → IsFileError given bytes err
not_recoded given bytes old err holds fails = inr (inr (old, holds, inl fails))

pub not_written : (k : ErrorKind) (given : Option TextPage) (bytes : List ℕ) (old new : Contents) → (k ≡ kind.InvalidInput) ⊎ (k ≡ kind.OutOfMemory) → (k ≡ kind.InvalidInput → refuses new 0 ≡ true) → Holds bytes old → IsRecoded given old new
    → IsFileError given bytes (error.Package k)
not_written k given bytes old new (inl input) refused holds recoded = inr (inr (old, holds, inr (ap (λ (x : ErrorKind). error.Package x) input, (new, recoded, refused input))))
not_written k given bytes old new (inr memory) refused holds recoded = inl (ap (λ (x : ErrorKind). error.Package x) memory)

-- a file that can be recoded has no error but of memory
pub file_only : (given : Option TextPage) (bytes after : List ℕ) (err : RecodeError) → IsFileError given bytes err → IsFileRecoded given bytes after → kind_of err ≡ kind.OutOfMemory
file_only given bytes after err (inl memory) recoded = ap kind_of memory
file_only given bytes after err (inr (inl (is, nothing))) (old, new, holds, recoded, accepted, laid, again) = absurd (nothing old holds)
file_only given bytes after err (inr (inr (found, held, inl fails))) (old, new, holds, recoded, accepted, laid, again) =
    let same : found ≡ old = held_once bytes found old held holds in
    contents_only given old new err (subst (λ (c : Contents). IsStreamsError given c.streams err) same fails) recoded
file_only given bytes after err (inr (inr (found, held, inr (is, (made, written, refused))))) (old, new, holds, recoded, accepted, laid, again) =
    let same : found ≡ old = held_once bytes found old held holds in
    let one : made ≡ new = recoded_once given old made new (subst (λ (c : Contents). IsRecoded given c made) same written) recoded in
    absurd (true≢false (sym refused ∙ ap (λ (c : Contents). refuses c 0) one ∙ accepted))

-- invalid data are no file that can be recoded
pub file_refused : (given : Option TextPage) (bytes : List ℕ) (err : RecodeError) → IsFileError given bytes err → kind_of err ≡ kind.InvalidData → (contents : Contents) → Holds bytes contents → CannotBeRecodedIn given contents.streams
file_refused given bytes err (inl memory) invalid contents holds = let e : kind.InvalidData ≡ kind.OutOfMemory = sym invalid ∙ ap kind_of memory in cc
file_refused given bytes err (inr (inl (is, nothing))) invalid contents holds = absurd (nothing contents holds)
file_refused given bytes err (inr (inr (found, held, inl fails))) invalid contents holds =
    subst (λ (c : Contents). CannotBeRecodedIn given c.streams) (held_once bytes found contents held holds) (streams_refused given found.streams err fails invalid)
file_refused given bytes err (inr (inr (found, held, inr (is, unwritable)))) invalid contents holds =
    let e : kind.InvalidData ≡ kind.InvalidInput = sym invalid ∙ ap kind_of is in cc
