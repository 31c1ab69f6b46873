-- A package whose texts are in UTF-8, and the one that it was made of.
use Rattle.std.specs.Prelude.{◌≡◌, ◌⊎◌, ℕ, true, false, List, Option, Some}
use Rattle.std.specs.FinMap.{get, insert}
use Rattle.msi_base.specs.declared.errors.ErrorKind.TheVariants as kind
use Rattle.msi_container_format.specs.declared.contents.Contents.{Contents}
use Rattle.msi_container_format.specs.Container.{Holds}
use Rattle.msi_container_format.specs.Streams.{Streams}
use Rattle.msi_container_write.specs.Layout.{layout, refuses}
use Rattle.msi_database_schema.specs.Keys.{table_key, summary_key, string_pool_name, string_data_name}
use Rattle.msi_recode.specs.declared.errors.RecodeError.{RecodeError}
use Rattle.msi_recode.specs.declared.errors.RecodeError.TheVariants as error
use Rattle.msi_recode.specs.declared.page.TextPage.{TextPage}
use Rattle.msi_recode.specs.PoolRecoding.{AreRecoded, CannotBeRecoded, IsPoolError}
use Rattle.msi_recode.specs.SummaryRecoding.{HasNoSummary, IsSummaryError, IsSummaryRecoded}

-- the bytes of the three streams that have texts
pub record TextStreams : Type 0 where
  pub entries : List ℕ
  pub texts : List ℕ
  pub summary : List ℕ

-- the three are among the streams
abbrev pub HaveTextStreams : Streams → TextStreams → Type 0
HaveTextStreams all these = (get all (table_key string_pool_name) ≡ Some these.entries)
    × (get all (table_key string_data_name) ≡ Some these.texts) × (get all summary_key ≡ Some these.summary)

-- these three in their places, and all others as they are
abbrev pub with_text_streams : TextStreams → Streams → Streams
with_text_streams these all = insert (insert (insert all (table_key string_pool_name) these.entries)
    (table_key string_data_name) these.texts) summary_key these.summary

-- the three have the same texts in UTF-8
abbrev pub AreTextsRecoded : Option TextPage → TextStreams → TextStreams → Type 0
AreTextsRecoded given before after = AreRecoded given before.entries before.texts after.entries after.texts
    × IsSummaryRecoded given before.summary after.summary

-- the pool and the summary are in UTF-8, and all other streams are as they were
abbrev pub AreStreamsRecoded : Option TextPage → Streams → Streams → Type 0
AreStreamsRecoded given before after = (old : TextStreams) × (new : TextStreams)
    × HaveTextStreams before old × AreTextsRecoded given old new × (after ≡ with_text_streams new before)

-- a package whose streams are recoded
abbrev pub IsRecoded : Option TextPage → Contents → Contents → Type 0
IsRecoded given before after = AreStreamsRecoded given before.streams after.streams
    × (after ≡ record before { streams = after.streams })

-- the three are not there, or can't be recoded
abbrev pub CannotBeRecodedIn : Option TextPage → Streams → Type 0
CannotBeRecodedIn given streams = (these : TextStreams) → HaveTextStreams streams these
    → CannotBeRecoded given these.entries these.texts ⊎ HasNoSummary given these.summary

-- one of the three is missing
abbrev pub LackTextStreams : Streams → Type 0
LackTextStreams streams = (these : TextStreams) → HaveTextStreams streams these → ⊥

-- an error of the streams: memory, that one of the three is missing, an error of the pool, or, where the pool is
-- recoded, one of the summary
abbrev pub IsStreamsError : Option TextPage → Streams → RecodeError → Type 0
IsStreamsError given streams err =
    (err ≡ error.Package kind.OutOfMemory)
    ⊎ (err ≡ error.Package kind.InvalidData) × LackTextStreams streams
    ⊎ ((these : TextStreams) × HaveTextStreams streams these
    × (IsPoolError given these.entries these.texts err
    ⊎ ((entries : List ℕ) × (texts : List ℕ) × AreRecoded given these.entries these.texts entries texts
    × IsSummaryError given these.summary err)))

-- the file after is written of the recoded contents of the file before
abbrev pub IsFileRecoded : Option TextPage → List ℕ → List ℕ → Type 0
IsFileRecoded given before after = (old : Contents) × (new : Contents) × Holds before old × IsRecoded given old new
    × (refuses new 0 ≡ false) × (after ≡ layout new 0) × Holds after new

-- the bytes are no file
abbrev pub HoldsNothing : List ℕ → Type 0
HoldsNothing bytes = (contents : Contents) → Holds bytes contents → ⊥

-- the recoded contents aren't written: storages lie below the root, or the file would be too long
abbrev pub IsUnwritable : Option TextPage → Contents → Type 0
IsUnwritable given old = (new : Contents) × IsRecoded given old new × (refuses new 0 ≡ true)

-- an error of the file: memory, that it is none, an error of its streams, or that its recoded contents aren't written
abbrev pub IsFileError : Option TextPage → List ℕ → RecodeError → Type 0
IsFileError given bytes err =
    (err ≡ error.Package kind.OutOfMemory)
    ⊎ (err ≡ error.Package kind.InvalidData) × HoldsNothing bytes
    ⊎ ((old : Contents) × Holds bytes old
    × (IsStreamsError given old.streams err ⊎ (err ≡ error.Package kind.InvalidInput) × IsUnwritable given old))
