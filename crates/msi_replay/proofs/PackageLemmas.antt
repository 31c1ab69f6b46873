-- A package comes back as it is, and its texts are read.
use Rattle.std.proofs.Common.{◌≡◌, ℕ, true, List, Option, Some, None, refl, sym, ap, subst, ◌∙◌}
use Rattle.std.specs.Prelude.{IsSomeAnd, is_some}
use Rattle.std.specs.FinMap.{entries, get, get-entries}
use Rattle.msi.specs.Text.CodePage.TheVariants as page
use Rattle.msi.specs.Text.Pool.{Pool, IsPool}
use Rattle.msi.specs.Summary.Properties.{Properties}
use Rattle.msi.specs.Summary.Summary.{SpellsSummary}
use Rattle.msi.specs.Container.Contents.{Contents}
use Rattle.msi.specs.Container.Streams as maps
use Rattle.msi.proofs.PlanOnceLemmas.{held_once}
use Rattle.msi.specs.Database.Keys.{table_key, summary_key, string_pool_name, string_data_name}
use Rattle.msi.specs.Database.Database.{Database}
use Rattle.msi.specs.Database.Streams.{Streams, stream_at}
use Rattle.msi.specs.Database.Agreement.{DatabaseIs, is_shown}
use Rattle.msi.specs.Meaning.{SummaryIs, RawPoolIs, PoolIs, ContentsMean, shown_pool}
use Rattle.msi.specs.State.{Parts, others_among}
use Rattle.msi.proofs.meaning.AgreementLemmas.{database_same, raw_from, shown_pool_alike, shown_same}
use Rattle.msi_recode.specs.Recoding.{TextStreams, HaveTextStreams, AreTextsRecoded, IsRecoded}
use Rattle.msi_recode.specs.RecodingLaws.{naming_utf8}
use Rattle.msi_recode.specs.SummaryRecoding.{IsSummaryRecoded}
use Rattle.msi_recode.specs.PoolRecoding.{AreRecoded}
use Rattle.msi_recode.proofs.LawsLemmas as pools
use Rattle.msi_recode.proofs.SummaryAlikeLemmas as summaries
use Rattle.msi_replay.specs.PackageLaws.{HaveTableNames, PackagesStayAlike, RecodedTextsAreRead, pool_in_utf8, database_in_utf8, in_utf8}
use Rattle.msi_replay.proofs.StreamsLemmas.{with_three, three_put, pool_put, data_put, summary_put, tables_stay, others_stay}

-- what stands at a name has what the bytes there have
pub at_bytes : (P : List ℕ → Type 0) (o : Option (List ℕ)) (bytes : List ℕ) → o ≡ Some bytes → P bytes → IsSomeAnd o P
at_bytes P o bytes e h = subst (λ (o : Option (List ℕ)). IsSomeAnd o P) (sym e) h

pub of_bytes : (P : List ℕ → Type 0) (o : Option (List ℕ)) (bytes : List ℕ) → o ≡ Some bytes → IsSomeAnd o P → P bytes
of_bytes P o bytes e h = subst (λ (o : Option (List ℕ)). IsSomeAnd o P) e h

there : (m : maps.Streams) (name bytes : List ℕ) → get m name ≡ Some bytes → stream_at name (entries m) ≡ Some bytes
there m name bytes e = sym (get-entries m name) ∙ e

-- ---- the summary

summary_stays : (before : maps.Streams) (old new : TextStreams) (summary : Properties) → HaveTextStreams before old → IsSummaryRecoded None old.summary new.summary
    → SummaryIs (entries before) summary → SummaryIs (with_three new (entries before)) (naming_utf8 summary)
summary_stays before old new summary have recoded is =
    let said = of_bytes (λ bytes. SpellsSummary bytes summary) (stream_at summary_key (entries before)) old.summary (there before summary_key old.summary have.2) is in
    at_bytes (λ bytes. SpellsSummary bytes (naming_utf8 summary)) (stream_at summary_key (with_three new (entries before))) new.summary (summary_put new (entries before))
    (summaries.summaries_stay_alike old.summary new.summary summary said.0 recoded, said.1)

-- ---- the pool

pub raw_put : (streams : Streams) (these : TextStreams) (raw : Pool) → IsPool these.entries these.texts raw → RawPoolIs (with_three these streams) raw
raw_put streams these raw is = raw_from raw _ _ _ _ (pool_put these streams) (data_put these streams) is

raw_of : (before : maps.Streams) (these : TextStreams) (raw : Pool) → HaveTextStreams before these → RawPoolIs (entries before) raw → IsPool these.entries these.texts raw
raw_of before these raw have is =
    raw_from raw _ _ _ _ (sym (there before (table_key string_pool_name) these.entries have.0)) (sym (there before (table_key string_data_name) these.texts have.1)) is

pool_stays : (before : maps.Streams) (old new : TextStreams) (d : Database) → HaveTableNames d → HaveTextStreams before old → AreRecoded None old.entries old.texts new.entries new.texts
    → PoolIs (entries before) d → PoolIs (with_three new (entries before)) (database_in_utf8 d)
pool_stays before old new d named have recoded (raw, stored, shown) =
    let streams = entries before in
    let after = with_three new streams in
    let is = pools.pools_stay_alike old.entries old.texts new.entries new.texts raw (raw_of before old raw have stored) recoded in
    let alike = shown_same streams after d (tables_stay new streams d named).validation in (
      pool_in_utf8 raw,
      raw_put streams new (pool_in_utf8 raw) is,
      ap pool_in_utf8 shown ∙ shown_pool_alike (is_shown streams d) (is_shown after (database_in_utf8 d)) (pool_in_utf8 raw) alike,
    )

-- ---- the database: no page has a part in it

database_stays : (streams : Streams) (new : TextStreams) (d : Database) → HaveTableNames d → DatabaseIs streams d → DatabaseIs (with_three new streams) (database_in_utf8 d)
database_stays streams new d named is =
    let same = database_same streams (with_three new streams) d (tables_stay new streams d named) is in
    record { tables = same.tables; unlisted = same.unlisted; schema = same.schema }

-- ---- the package

contents_stay : (old new : Contents) (p : Parts) → HaveTableNames p.database → IsRecoded None old new → ContentsMean old p → ContentsMean new (in_utf8 p)
contents_stay old new p named ((before, after, have, (pool, summary), put), same) is =
    let streams = entries old.streams in
    let now : entries new.streams ≡ with_three after streams = ap entries put ∙ three_put after old.streams in record {
      kind = ap (λ (c : Contents). c.clsid) same ∙ is.kind;
      summary = subst (λ (s : Streams). SummaryIs s (naming_utf8 p.summary)) (sym now) (summary_stays old.streams before after p.summary have summary is.summary);
      pool = subst (λ (s : Streams). PoolIs s (database_in_utf8 p.database)) (sym now) (pool_stays old.streams before after p.database named have pool is.pool);
      database = subst (λ (s : Streams). DatabaseIs s (database_in_utf8 p.database)) (sym now) (database_stays streams after p.database named is.database);
      others = is.others ∙ sym (others_stay after streams p.database) ∙ ap (λ (s : Streams). others_among s p.database) (sym now);
      storages = is.storages ∙ sym (ap (λ (c : Contents). c.has_storages) same);
    }

pub packages_stay_alike : PackagesStayAlike
packages_stay_alike bytes file p named (contents, holds, is) (old, new, before, recoded, fits, written, after) =
    (new, after, contents_stay old new p named recoded (subst (λ (c : Contents). ContentsMean c p) (held_once bytes contents old holds before) is))

-- ---- the steps of opening

stands : (o : Option (List ℕ)) (bytes : List ℕ) → o ≡ Some bytes → is_some o ≡ true
stands o bytes e = ap is_some e

pub recoded_texts_are_read : RecodedTextsAreRead
recoded_texts_are_read given old new ((before, after, have, ((head, places, said, is, plain, short), summary), put), same) =
    let streams = entries old.streams in
    let now : entries new.streams ≡ with_three after streams = ap entries put ∙ three_put after old.streams in
    let at = λ (name : List ℕ). ap (stream_at name) now in
    let pool : Pool = record { page = page.Utf8; long = head.long; places = places } in
    let first = at (table_key string_pool_name) ∙ pool_put after streams in
    let second = at (table_key string_data_name) ∙ data_put after streams in (
      stands (stream_at summary_key (entries new.streams)) after.summary (at summary_key ∙ summary_put after streams),
      stands (stream_at (table_key string_pool_name) (entries new.streams)) after.entries first,
      (page.Utf8, head.long, is.0, at_bytes _ (stream_at (table_key string_pool_name) (entries new.streams)) after.entries first is.1),
      stands (stream_at (table_key string_data_name) (entries new.streams)) after.texts second,
      (pool, subst (λ (s : Streams). RawPoolIs s pool) (sym now) (raw_put streams after pool is)),
      λ (kind, was). (kind, ap (λ (c : Contents). c.clsid) same ∙ was),
    )
