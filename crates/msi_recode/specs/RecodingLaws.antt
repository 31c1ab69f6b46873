-- What recoding leaves alike, what it makes of texts in any page, and that it gives one result.
use Rattle.std.specs.Prelude.{◌≡◌, ℕ, List, map, Option, None}
use Rattle.msi_container_format.specs.declared.contents.Contents.{Contents}
use Rattle.msi_base.specs.declared.codepage.CodePage.TheVariants as page
use Rattle.msi_pool_places.specs.Pool.{Place, Pool, IsPool}
use Rattle.msi_summary_properties.specs.Properties.{Properties}
use Rattle.msi_summary_properties.specs.PropertyLaws.{Ascending}
use Rattle.msi_summary_properties.specs.PropertyStream.{Spells}
use Rattle.msi_recode.specs.declared.page.TextPage.{TextPage}
use Rattle.msi_recode.specs.PoolRecoding.{AreRecoded, HavePlaces, PoolHead}
use Rattle.msi_recode.specs.Recoding.{IsRecoded}
use Rattle.msi_recode.specs.SummaryRecoding.{IsSummary, IsSummaryRecoded, in_utf8}

-- a pool that a package may have comes back as it is, but for its page
abbrev pub PoolsStayAlike : Type 0
PoolsStayAlike = (pool_stream data_stream pool_after data_after : List ℕ) (pool : Pool)
    → IsPool pool_stream data_stream pool → AreRecoded None pool_stream data_stream pool_after data_after
    → IsPool pool_after data_after (record { page = page.Utf8; long = pool.long; places = pool.places })

-- bytes have at most one summary
abbrev pub OneSummary : Type 0
OneSummary = (given : Option TextPage) (bytes : List ℕ) (a b : Properties) → Ascending a.values → Ascending b.values
    → IsSummary given bytes a → IsSummary given bytes b → a ≡ b

-- the set with property 1 naming UTF-8, where it is there
abbrev pub naming_utf8 : Properties → Properties
naming_utf8 set = record set { values = map (λ e. (e.0, in_utf8 e.0 e.1)) set.values }

-- a set that a package may have comes back as it is, but for its page
abbrev pub SummariesStayAlike : Type 0
SummariesStayAlike = (bytes after : List ℕ) (set : Properties)
    → Spells bytes set → IsSummaryRecoded None bytes after → Spells after (naming_utf8 set)

-- a recoded pool has the places that the old streams have, their texts read in the page, whichever it is
abbrev pub PoolsMeanTheirPage : Type 0
PoolsMeanTheirPage = (given : Option TextPage) (pool_stream data_stream pool_after data_after : List ℕ)
    (head : PoolHead) (places : List Place) → HavePlaces given pool_stream data_stream head places
    → AreRecoded given pool_stream data_stream pool_after data_after
    → IsPool pool_after data_after (record { page = page.Utf8; long = head.long; places = places })

-- a recoded summary is the set that the old stream has, its texts read in the page, whichever it is
abbrev pub SummariesMeanTheirPage : Type 0
SummariesMeanTheirPage = (given : Option TextPage) (bytes after : List ℕ) (set : Properties) → Ascending set.values
    → IsSummary given bytes set → IsSummaryRecoded given bytes after → Spells after set

-- contents have one recoding
abbrev pub OneRecoding : Type 0
OneRecoding = (given : Option TextPage) (before a b : Contents)
    → IsRecoded given before a → IsRecoded given before b → a ≡ b
