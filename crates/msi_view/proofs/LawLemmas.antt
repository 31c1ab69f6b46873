-- What looking has to do with opening.
use Rattle.std.proofs.Common.{◌≡◌, ℕ, ◌⊎◌, List, inl, inr, sym, ap, subst, ◌∙◌}
use Rattle.std.specs.FinMap.{entries}
use Rattle.msi_base.specs.declared.errors.ErrorKind.{ErrorKind}
use Rattle.msi_container_format.specs.declared.contents.Contents.{Contents}
use Rattle.msi_container_format.specs.Container.{Holds}
use Rattle.msi_container_format.proofs.PlanOnceLemmas.{held_once}
use Rattle.msi_database_storage.specs.Streams.{stream_at}
use Rattle.msi_database_schema.specs.Keys.{string_data_name, string_pool_name, summary_key, table_key}
use Rattle.msi_pool.specs.Pool.{Pool}
use Rattle.msi.specs.Laws.{AreBytes}
use Rattle.msi.specs.Meaning.{ContentsMean, FailsFirst, as_opened, open_steps, shown_pool}
use Rattle.msi_database_storage.specs.Agreement.{is_shown}
use Rattle.msi.specs.Meaning.{RawPoolIs}
use Rattle.msi.specs.State.{State, parts_of}
use Rattle.msi.proofs.meaning.OneMeaningLemmas.{kinds_tell, one_raw, one_summary}
use Rattle.msi.proofs.reading.HeldStreamsLemmas.{held_small}
use Rattle.msi_view.specs.Looking.{table_steps}
use Rattle.msi_view.specs.Laws.{AllPass, LooksShowPackages, PartsRefuseAsOpening, ShowsPackage, kind_steps, summary_steps}
use Rattle.msi_view.proofs.query_lemmas.OpenedLemmas.{rows_opened, tables_opened}
use Rattle.msi_view.proofs.query_lemmas.WholeLemmas.{whole_opened}

-- THE REFUSALS

fails_on : (c : Contents) (kind : ErrorKind) → FailsFirst c open_steps kind
    → FailsFirst c kind_steps kind ⊎ (AllPass c kind_steps × FailsFirst c summary_steps kind)
    ⊎ (AllPass c kind_steps × AllPass c summary_steps × FailsFirst c table_steps kind)
fails_on c kind (inl first) = inl (inl first)
fails_on c kind (inr (known, inl missing)) = inr (inl ((known, tt), inl missing))
fails_on c kind (inr (known, inr (there, inl unread))) = inr (inl ((known, tt), inr (there, inl unread)))
fails_on c kind (inr (known, inr (there, inr (summary, rest)))) = inr (inr ((known, tt), (there, (summary, tt)), rest))

fails_in_turn : (c : Contents) (kind : ErrorKind)
    → FailsFirst c kind_steps kind ⊎ (AllPass c kind_steps × FailsFirst c summary_steps kind)
    ⊎ (AllPass c kind_steps × AllPass c summary_steps × FailsFirst c table_steps kind)
    → FailsFirst c open_steps kind
fails_in_turn c kind (inl (inl first)) = inl first
fails_in_turn c kind (inl (inr (known, none))) = absurd none
fails_in_turn c kind (inr (inl (known, inl missing))) = inr (known.0, inl missing)
fails_in_turn c kind (inr (inl (known, inr (there, inl unread)))) = inr (known.0, inr (there, inl unread))
fails_in_turn c kind (inr (inl (known, inr (there, inr (summary, none))))) = absurd none
fails_in_turn c kind (inr (inr (known, (there, (summary, all)), rest))) = inr (known.0, inr (there, inr (summary, rest)))

pub parts_refuse : PartsRefuseAsOpening
parts_refuse c kind = (fails_on c kind, fails_in_turn c kind)

-- THE ANSWERS

module _ (bytes : List ℕ) (small : AreBytes bytes) (c : Contents) (held : Holds bytes c) (s : State) (means : ContentsMean c (parts_of s)) (is : s ≡ as_opened (entries c.streams) (parts_of s)) where
  raw_pool : (pool : Pool) → RawPoolIs (entries c.streams) pool → means.pool.0 ≡ pool
  raw_pool pool p = one_raw (stream_at (table_key string_pool_name) (entries c.streams)) (stream_at (table_key string_data_name) (entries c.streams)) means.pool.0 pool means.pool.1 p

  shown : (pool : Pool) → RawPoolIs (entries c.streams) pool → (parts_of s).database.pool ≡ shown_pool (is_shown (entries c.streams) (parts_of s).database) pool
  shown pool p = means.pool.2 ∙ ap (shown_pool (is_shown (entries c.streams) (parts_of s).database)) (raw_pool pool p)

  pub shows : ShowsPackage c s
  shows = record {
    kind = λ kind k. kinds_tell kind s.kind (sym k ∙ means.kind);
    storages = sym means.storages;
    streams = sym (ap (λ (t : State). t.kept.streams) is);
    summary = λ summary p. one_summary (stream_at summary_key (entries c.streams)) summary s.summary (held_small bytes small c held summary_key) p means.summary;
    page = λ pool p. sym (ap (λ (q : Pool). q.page) (shown pool p));
    tables = λ pool tables k. sym (tables_opened (entries c.streams) (parts_of s).database pool tables k means.database (shown pool k.pools));
    database = λ d seen. seen.database ∙ whole_opened (entries c.streams) (parts_of s).database seen.raw seen.whole means.database seen.pools (shown seen.raw seen.pools) seen.read;
    rows = λ pool tables k q. sym (rows_opened (entries c.streams) (parts_of s).database pool tables k means.database (shown pool k.pools) q);
  }

pub looks_show : LooksShowPackages
looks_show bytes s small (c, held, means, is) d also =
    subst (λ (x : Contents). ShowsPackage x s) (held_once bytes c d held also) (shows bytes small c held s means is)
