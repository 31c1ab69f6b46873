-- Recoding gives one result.
use Rattle.std.proofs.Common.{◌≡◌, ℕ, ◌++◌, List, Option, ap, sym, subst, ◌∙◌}
use Rattle.msi_container_format.specs.Streams.{Streams}
use Rattle.msi_base.specs.declared.codepage.CodePage.TheVariants as page
use Rattle.msi_base.proofs.OptionLemmas.{some_is}
use Rattle.msi_pool_places.specs.Pool.{IsPool, Place, header_of}
use Rattle.msi_summary_properties.specs.Properties.{Properties}
use Rattle.msi_summary_properties.specs.PropertyStream.{Spells, property_stream}
use Rattle.msi_summary_properties.proofs.KeptSetLemmas.{IsKept-spelled}
use Rattle.msi_recode.specs.declared.page.TextPage.{TextPage}
use Rattle.msi_recode.specs.PoolRecoding.{AreRecoded, PoolHead, SpellsTexts, entries_written, texts_written}
use Rattle.msi_recode.specs.RecodingLaws.{OneRecoding, PoolsMeanTheirPage, SummariesMeanTheirPage}
use Rattle.msi_recode.specs.Recoding.{AreStreamsRecoded, HaveTextStreams, TextStreams, with_text_streams}
use Rattle.msi_recode.specs.SummaryRecoding.{IsSummaryRecoded}
use Rattle.msi_recode.proofs.HeadLemmas.{one_head}
use Rattle.msi_recode.proofs.LawsLemmas.{one_texts}
use Rattle.msi_recode.proofs.SummaryOneLemmas.{one_summary}

pool_once : (given : Option TextPage) (pool_stream data_stream a b x y : List ℕ) → AreRecoded given pool_stream data_stream a x → AreRecoded given pool_stream data_stream b y → (a ≡ b) × (x ≡ y)
pool_once given pool_stream data_stream a b x y (head, ps, (said, spelled), pool, (entries, texts), short) (other, qs, (also, read), pool_too, (written, stored), few) =
    let same : other ≡ head = one_head given pool_stream other head also said in
    let here : SpellsTexts head.page data_stream head.entries qs = subst (λ (h : PoolHead). SpellsTexts h.page data_stream h.entries qs) same read in
    let places : ps ≡ qs = one_texts head.page data_stream head.entries ps qs spelled here in (
      entries
          ∙ ap (λ (h : PoolHead). header_of 65001 h.long ++ entries_written ps) (sym same)
          ∙ ap (λ (rs : List Place). header_of 65001 other.long ++ entries_written rs) places
          ∙ sym written,
      texts ∙ ap texts_written places ∙ sym stored,
    )

-- a recoded pool has the places that the old streams have
pub pools_mean : PoolsMeanTheirPage
pools_mean given pool_stream data_stream pool_after data_after head places (said, spelled) (other, qs, (also, read), pool, plain, short) =
    let same : other ≡ head = one_head given pool_stream other head also said in
    let here : SpellsTexts head.page data_stream head.entries qs = subst (λ (h : PoolHead). SpellsTexts h.page data_stream h.entries qs) same read in
    subst (λ (ps : List Place). IsPool pool_after data_after (record { page = page.Utf8; long = head.long; places = ps })) (one_texts head.page data_stream head.entries qs places here spelled)
    (subst (λ (h : PoolHead). IsPool pool_after data_after (record { page = page.Utf8; long = h.long; places = qs })) same pool)

-- a recoded summary is the set that the old stream has
pub summaries_mean : SummariesMeanTheirPage
summaries_mean given bytes after set ascending is (other, t, short, written, said) =
    let same : other ≡ set = one_summary given bytes other set (IsKept-spelled after other said).ascending ascending t is in
    subst (λ (x : Properties). Spells after x) same said

summary_once : (given : Option TextPage) (bytes a b : List ℕ) → IsSummaryRecoded given bytes a → IsSummaryRecoded given bytes b → a ≡ b
summary_once given bytes a b (set, s, short, written, spelled) (other, t, few, stored, said) =
    let same : set ≡ other = one_summary given bytes set other (IsKept-spelled a set spelled).ascending (IsKept-spelled b other said).ascending s t in
    some_is a b (sym written ∙ ap property_stream same ∙ stored)

-- two that are in the same streams are one
pub these_once : (streams : Streams) (a b : TextStreams) → HaveTextStreams streams a → HaveTextStreams streams b → a ≡ b
these_once streams a b (p, q, r) (x, y, z) =
    let entries = some_is a.entries b.entries (sym p ∙ x) in
    let texts = some_is a.texts b.texts (sym q ∙ y) in
    let summary = some_is a.summary b.summary (sym r ∙ z) in
    λ i. record { entries = entries i; texts = texts i; summary = summary i }

streams_once : (given : Option TextPage) (streams a b : Streams) → AreStreamsRecoded given streams a → AreStreamsRecoded given streams b → a ≡ b
streams_once given streams a b (old, new, have, (pool, summary), put) (was, now, had, (recoded, set), is) =
    let same : was ≡ old = these_once streams was old had have in
    let pools = pool_once given old.entries old.texts new.entries now.entries new.texts now.texts pool
    (subst (λ (x : TextStreams). AreRecoded given x.entries x.texts now.entries now.texts) same recoded) in
    let sets : new.summary ≡ now.summary = summary_once given old.summary new.summary now.summary summary (subst (λ (x : TextStreams). IsSummaryRecoded given x.summary now.summary) same set) in
    let after : new ≡ now = λ i. record { entries = pools.0 i; texts = pools.1 i; summary = sets i } in
    put ∙ ap (λ (x : TextStreams). with_text_streams x streams) after ∙ sym is

pub recoded_once : OneRecoding
recoded_once given before a b (streams, is) (others, also) =
    let same = streams_once given before.streams a.streams b.streams streams others in
    is ∙ ap (λ (s : Streams). record before { streams = s }) same ∙ sym also
