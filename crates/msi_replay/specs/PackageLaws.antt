-- What recoding leaves alike of a package, what a package in any page means once it is recoded, and which steps of
-- opening a recoded one passes.
use Rattle.std.specs.Prelude.{◌≡◌, ◌↔◌, ℕ, true, List, Option, None}
use Rattle.std.specs.FinMap.{entries}
use Rattle.std.specs.List.{AllByRecursion}
use Rattle.msi.specs.Text.CodePage.TheVariants as page
use Rattle.msi.specs.Text.Pool.{Place, Pool}
use Rattle.msi.specs.Summary.PropertyLaws.{Ascending}
use Rattle.msi.specs.Summary.Summary.{summary_format}
use Rattle.msi.specs.Container.Contents.{Contents}
use Rattle.msi.specs.Container.Container.{Holds}
use Rattle.msi.specs.Database.Keys.{is_table_name}
use Rattle.msi.specs.Database.Database.{Database}
use Rattle.msi.specs.Database.Agreement.{DatabaseIs, is_shown}
use Rattle.msi.specs.Kinds.{clsid_of}
use Rattle.msi.specs.Laws.{AreBytes}
use Rattle.msi.specs.Meaning.{Means, Passes, knows_kind, has_summary, has_pool, reads_pool, has_texts, reads_texts}
use Rattle.msi.specs.Meaning.{shown_pool}
use Rattle.msi.specs.State.{Parts, others_among}
use Rattle.msi_recode.specs.declared.page.TextPage.{TextPage}
use Rattle.msi_recode.specs.PoolRecoding.{HavePlaces, PoolHead}
use Rattle.msi_recode.specs.Recoding.{HaveTextStreams, IsFileRecoded, IsRecoded, TextStreams}
use Rattle.msi_recode.specs.RecodingLaws.{naming_utf8}
use Rattle.msi_recode.specs.SummaryRecoding.{IsSummary}

-- each table has a name that a table may have
abbrev pub HaveTableNames : Database → Type 0
HaveTableNames d = AllByRecursion (λ t. is_table_name t.0 ≡ true) d.tables

-- the same places in UTF-8
abbrev pub pool_in_utf8 : Pool → Pool
pool_in_utf8 pool = record pool { page = page.Utf8 }

abbrev pub database_in_utf8 : Database → Database
database_in_utf8 d = record d { pool = pool_in_utf8 d.pool }

-- the same package in UTF-8
abbrev pub in_utf8 : Parts → Parts
in_utf8 p = record p { summary = naming_utf8 p.summary; database = database_in_utf8 p.database }

-- a package comes back as it is, but for its pages
abbrev pub PackagesStayAlike : Type 0
PackagesStayAlike = (before after : List ℕ) (p : Parts) → HaveTableNames p.database → Means before p
    → IsFileRecoded None before after → Means after (in_utf8 p)

-- the pool has the places of these streams, with their texts in UTF-8 as the page reads them, but for the text of a
-- free place that isn't named
abbrev pub IsPoolInPage : Option TextPage → Contents → TextStreams → Database → Type 0
IsPoolInPage given c these d = (head : PoolHead) × (places : List Place)
    × HavePlaces given these.entries these.texts head places
    × (d.pool ≡ shown_pool (is_shown (entries c.streams) d)
    (record { page = page.Utf8; long = head.long; places = places }))

-- the contents mean these parts, which are in UTF-8, where their texts are read in the pages that they name, and for
-- page 0 in the one that is given
pub record MeanInPages (given : Option TextPage) (c : Contents) (p : Parts) : Type 0 where
  pub these : TextStreams
  pub stored : HaveTextStreams c.streams these
  pub kind : c.clsid ≡ clsid_of p.kind
  pub summary : IsSummary given these.summary p.summary
  pub sorted : Ascending p.summary.values
  pub format : p.summary.format_identifier ≡ summary_format
  pub pool : IsPoolInPage given c these p.database
  pub database : DatabaseIs (entries c.streams) p.database
  pub others : p.streams ≡ others_among (entries c.streams) p.database
  pub storages : p.has_storages ≡ c.has_storages

-- a recoded package means what the old one means in its pages, also where that isn't opened as it is
abbrev pub PackagesMeanTheirPages : Type 0
PackagesMeanTheirPages = (given : Option TextPage) (before after : List ℕ) (p : Parts) → AreBytes after
    → HaveTableNames p.database → IsFileRecoded given before after
    → Means after p ↔ ((c : Contents) × Holds before c × MeanInPages given c p)

-- a recoded package passes the steps of opening that are about its pool and its texts, and has the kind that it had
abbrev pub RecodedTextsAreRead : Type 0
RecodedTextsAreRead = (given : Option TextPage) (old new : Contents) → IsRecoded given old new
    → Passes new has_summary × Passes new has_pool × Passes new reads_pool × Passes new has_texts
    × Passes new reads_texts × (Passes old knows_kind → Passes new knows_kind)
