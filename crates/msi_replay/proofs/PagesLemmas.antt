-- A recoded package means what the old one means in its pages.
use Rattle.std.proofs.Common.{◌≡◌, ℕ, List, [], Option, Some, sym, ap, subst, ◌∙◌, unwrap_or}
use Rattle.std.specs.FinMap.{entries}
use Rattle.msi.specs.Text.CodePage.TheVariants as page
use Rattle.msi.proofs.ListLemmas.{all_weaker}
use Rattle.msi.specs.Text.Pool.{Pool}
use Rattle.msi.specs.Summary.Properties.{Properties}
use Rattle.msi.specs.Summary.PropertyStream.{Spells}
use Rattle.msi.proofs.KeptSetLemmas.{IsKept-spelled}
use Rattle.msi.proofs.ReadBackLemmas.{only_one_set}
use Rattle.msi.specs.Summary.Summary.{SpellsSummary}
use Rattle.msi.specs.Container.Contents.{Contents}
use Rattle.msi.proofs.PlanOnceLemmas.{held_once}
use Rattle.msi.specs.Database.Keys.{table_key, summary_key, string_pool_name, string_data_name}
use Rattle.msi.specs.Database.Database.{Database}
use Rattle.msi.specs.Database.Streams.{Streams, stream_at}
use Rattle.msi.specs.Database.Agreement.{DatabaseIs, is_shown}
use Rattle.msi.specs.Laws.{AreBytes}
use Rattle.msi.specs.Meaning.{ContentsMean, PoolIs, SummaryIs, shown_pool}
use Rattle.msi.specs.State.{Parts, others_among}
use Rattle.msi.proofs.meaning.AgreementLemmas.{SameStream, SameTables, database_same, shown_pool_alike, shown_same}
use Rattle.msi.proofs.reading.HeldStreamsLemmas.{held_small}
use Rattle.msi.proofs.meaning.OneMeaningLemmas.{one_raw}
use Rattle.msi_recode.specs.declared.page.TextPage.{TextPage}
use Rattle.msi_recode.specs.PoolRecoding.{AreRecoded}
use Rattle.msi_recode.specs.Recoding.{IsRecoded, TextStreams}
use Rattle.msi_recode.specs.SummaryRecoding.{IsSummary, IsSummaryRecoded}
use Rattle.msi_recode.proofs.OnceLemmas.{pools_mean, summaries_mean, these_once}
use Rattle.msi_replay.specs.PackageLaws.{HaveTableNames, IsPoolInPage, MeanInPages, PackagesMeanTheirPages}
use Rattle.msi_replay.proofs.PackageLemmas.{at_bytes, of_bytes, raw_put}
use Rattle.msi_replay.proofs.StreamsLemmas.{with_three, three_put, summary_put, tables_stay, others_stay}

-- the tables' streams are the same also the other way round
tables_back : (before after : Streams) (d : Database) → SameTables before after d → SameTables after before d
tables_back before after d same = record {
  each = all_weaker (λ t. SameStream before after t.0) (λ t. SameStream after before t.0) d.tables (λ t e. sym e) same.each;
  tables = sym same.tables;
  columns = sym same.columns;
  validation = sym same.validation;
}

-- ---- from the old contents to the recoded ones

module _ (given : Option TextPage) (old : Contents) (these new : TextStreams) (p : Parts) where
  summary_into : IsSummaryRecoded given these.summary new.summary → MeanInPages given old p → IsSummary given these.summary p.summary → SummaryIs (with_three new (entries old.streams)) p.summary
  summary_into recoded m is =
      at_bytes (λ bytes. SpellsSummary bytes p.summary) (stream_at summary_key (with_three new (entries old.streams))) new.summary (summary_put new (entries old.streams))
      (summaries_mean given these.summary new.summary p.summary m.sorted is recoded, m.format)

  pool_into : AreRecoded given these.entries these.texts new.entries new.texts → HaveTableNames p.database → IsPoolInPage given old these p.database → PoolIs (with_three new (entries old.streams)) p.database
  pool_into recoded named (head, places, have, shown) =
      let streams = entries old.streams in
      let raw : Pool = record { page = page.Utf8; long = head.long; places = places } in
      let alike = shown_same streams (with_three new streams) p.database (tables_stay new streams p.database named).validation in (
        raw,
        raw_put streams new raw (pools_mean given these.entries these.texts new.entries new.texts head places have recoded),
        shown ∙ shown_pool_alike (is_shown streams p.database) (is_shown (with_three new streams) p.database) raw alike,
      )

contents_into : (given : Option TextPage) (old new : Contents) (p : Parts) → HaveTableNames p.database → IsRecoded given old new → MeanInPages given old p → ContentsMean new p
contents_into given old new p named ((before, after, have, (pool, summary), put), same) m =
    let streams = entries old.streams in
    let now : entries new.streams ≡ with_three after streams = ap entries put ∙ three_put after old.streams in
    let one : m.these ≡ before = these_once old.streams m.these before m.stored have in
    let set : IsSummary given before.summary p.summary = subst (λ (x : TextStreams). IsSummary given x.summary p.summary) one m.summary in
    let places : IsPoolInPage given old before p.database = subst (λ (x : TextStreams). IsPoolInPage given old x p.database) one m.pool in
    record {
      kind = ap (λ (c : Contents). c.clsid) same ∙ m.kind;
      summary = subst (λ (s : Streams). SummaryIs s p.summary) (sym now) (summary_into given old before after p summary m set);
      pool = subst (λ (s : Streams). PoolIs s p.database) (sym now) (pool_into given old before after p pool named places);
      database = subst (λ (s : Streams). DatabaseIs s p.database) (sym now) (database_same streams (with_three after streams) p.database (tables_stay after streams p.database named) m.database);
      others = m.others ∙ sym (others_stay after streams p.database) ∙ ap (λ (s : Streams). others_among s p.database) (sym now);
      storages = m.storages ∙ sym (ap (λ (c : Contents). c.has_storages) same);
    }

-- ---- and back

-- what the recoded streams have is what was recoded
module _ (given : Option TextPage) (old : Contents) (these new : TextStreams) (p : Parts) where
  summary_back : IsSummaryRecoded given these.summary new.summary → AreBytes new.summary → Spells new.summary p.summary → IsSummary given these.summary p.summary
  summary_back (set, is, short, written, spelled) small said =
      subst (λ (x : Properties). IsSummary given these.summary x) (only_one_set new.summary set p.summary small spelled said) is

  pool_back : AreRecoded given these.entries these.texts new.entries new.texts → HaveTableNames p.database → PoolIs (with_three new (entries old.streams)) p.database → IsPoolInPage given old these p.database
  pool_back (head, places, have, is, plain, short) named (raw, stored, shown) =
      let streams = entries old.streams in
      let after = with_three new streams in
      let made : Pool = record { page = page.Utf8; long = head.long; places = places } in
      let same : raw ≡ made = one_raw (stream_at (table_key string_pool_name) after) (stream_at (table_key string_data_name) after) raw made stored (raw_put streams new made is) in
      let alike = shown_same after streams p.database (tables_back streams after p.database (tables_stay new streams p.database named)).validation in (
        head,
        places,
        have,
        shown ∙ ap (shown_pool (is_shown after p.database)) same ∙ shown_pool_alike (is_shown after p.database) (is_shown streams p.database) made alike,
      )

contents_back : (given : Option TextPage) (old new : Contents) (p : Parts) → HaveTableNames p.database → IsRecoded given old new → AreBytes (unwrap_or (stream_at summary_key (entries new.streams)) []) → ContentsMean new p → MeanInPages given old p
contents_back given old new p named ((before, after, have, (pool, summary), put), same) bytes m =
    let streams = entries old.streams in
    let now : entries new.streams ≡ with_three after streams = ap entries put ∙ three_put after old.streams in
    let at : stream_at summary_key (entries new.streams) ≡ Some after.summary = ap (stream_at summary_key) now ∙ summary_put after streams in
    let small : AreBytes after.summary = subst (λ (o : Option (List ℕ)). AreBytes (unwrap_or o [])) at bytes in
    let said : SpellsSummary after.summary p.summary = of_bytes (λ b. SpellsSummary b p.summary) (stream_at summary_key (entries new.streams)) after.summary at m.summary in
    let tables = tables_back streams (with_three after streams) p.database (tables_stay after streams p.database named) in
    record {
      these = before;
      stored = have;
      kind = sym (ap (λ (c : Contents). c.clsid) same) ∙ m.kind;
      summary = summary_back given old before after p summary small said.0;
      sorted = (IsKept-spelled after.summary p.summary said.0).ascending;
      format = said.1;
      pool = pool_back given old before after p pool named (subst (λ (s : Streams). PoolIs s p.database) now m.pool);
      database = database_same (with_three after streams) streams p.database tables (subst (λ (s : Streams). DatabaseIs s p.database) now m.database);
      others = m.others ∙ ap (λ (s : Streams). others_among s p.database) now ∙ others_stay after streams p.database;
      storages = m.storages ∙ ap (λ (c : Contents). c.has_storages) same;
    }

-- ---- the files

pub packages_mean_their_pages : PackagesMeanTheirPages
packages_mean_their_pages given bytes file p small named (old, new, before, recoded, fits, written, after) = (
  λ (c, holds, is). (
    old,
    before,
    contents_back given old new p named recoded (held_small file small new after summary_key) (subst (λ (x : Contents). ContentsMean x p) (held_once file c new holds after) is),
  ),
  λ (c, holds, m). (
    new,
    after,
    contents_into given old new p named recoded (subst (λ (x : Contents). MeanInPages given x p) (held_once bytes c old holds before) m),
  ),
)
