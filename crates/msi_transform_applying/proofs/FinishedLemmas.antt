-- What is finished, by what is stored, and what is then checked.
use Rattle.std.proofs.Common.{◌≡◌, Bool, List, sym, ap, ◌∙◌, inr}
use Rattle.std.specs.List.{list_all}
use Rattle.std.specs.Prelude.{Result, Ok, Err, IfErr, IsErrAnd, None}
use Rattle.msi_base.specs.declared.codepage.CodePage.{CodePage}
use Rattle.msi_base.specs.declared.errors.ErrorKind.{ErrorKind}
use Rattle.msi_database_storage.specs.Kept.{Kept}
use Rattle.msi_database_storage.specs.Storing.{stored_in}
use Rattle.msi_database_storage.specs.Streams.{Streams}
use Rattle.msi_database_changes.specs.Texts.{PoolInUse}
use Rattle.msi_pool.specs.FirstFit.{is_long_with}
use Rattle.msi_pool.specs.Pool.{Pool}
use Rattle.msi_transform.specs.Transforms.{TransformDef}
use Rattle.msi_transform_applying.specs.Applying.{Left, TablesChanged, finished, page_after, pool_left, streams_left, streams_stored, streams_under, texts_read_back}
use Rattle.msi_transform_applying.specs.ExpectedStreams.{Expected, all_expected, is_met}
use Rattle.msi_transform_rows.specs.RecordRefusals.{IsRefused, Refusal}
use Rattle.msi_transform_applying.proofs.AgreeingLemmas.{all_kept, checked, left_with, streams_refused, texts_refused}

abbrev with_parts : CodePage → Bool → TransformDef → PoolInUse → Pool
with_parts page long t used = record { page = page_after page t; long = is_long_with long used.places; places = used.places }

pool_same : (old new : Pool) (u t : TransformDef) (used : PoolInUse) → old.page ≡ new.page → old.long ≡ new.long → u ≡ t → pool_left old u used ≡ pool_left new t used
pool_same old new u t used page long by =
    ap (λ (p : CodePage). with_parts p old.long u used) page ∙ ap (λ (b : Bool). with_parts new.page b u used) long
    ∙ ap (λ (s : TransformDef). with_parts new.page new.long s used) by

-- the pool and the streams that are stored, over which streams, and what is expected of them
pub record IsStored (k : Kept) (t : TransformDef) (c : TablesChanged) (pool : Pool) (streams : Streams) (expected : List Expected) : Type 0 where
  pub old : Pool
  pub by : TransformDef
  pub under : Streams
  pub page : old.page ≡ k.database.pool.page
  pub long : old.long ≡ k.database.pool.long
  pub same : by ≡ t
  pub pool_is : pool ≡ pool_left old by c.tables.pool
  pub streams_are : streams ≡ stored_in (streams_stored pool.long c.tables) under
  pub under_is : under ≡ streams_under k (is_long_with k.database.pool.long c.tables.pool.places)
  pub expected_are : expected ≡ all_expected k t c

module _ (k : Kept) (t : TransformDef) (c : TablesChanged) (pool : Pool) (streams : Streams) (expected : List Expected) (s : IsStored k t c pool streams expected) where
  the_pool : pool ≡ pool_left k.database.pool t c.tables.pool
  the_pool = s.pool_is ∙ pool_same s.old k.database.pool s.by t c.tables.pool s.page s.long s.same

  the_streams : streams ≡ streams_left k pool.long c.tables
  the_streams = s.streams_are ∙ ap (stored_in (streams_stored pool.long c.tables)) (s.under_is ∙ ap (λ (p : Pool). streams_under k p.long) (sym the_pool))

  pub is_finished : Ok tt ≡ checked (list_all (is_met streams) expected) → Ok tt ≡ checked (texts_read_back pool) → finished k t c ≡ Ok (left_with pool streams)
  is_finished met read = all_kept k t c pool streams the_pool the_streams expected s.expected_are met read

  pub is_refused_for_streams : (kind : ErrorKind) → Err kind ≡ checked (list_all (is_met streams) expected) → finished k t c ≡ Err (record { kind = kind; place = None })
  is_refused_for_streams kind unmet = streams_refused k t c pool streams the_pool the_streams expected s.expected_are kind unmet

  pub is_refused_for_texts : (kind : ErrorKind) → Ok tt ≡ checked (list_all (is_met streams) expected) → Err kind ≡ checked (texts_read_back pool) → finished k t c ≡ Err (record { kind = kind; place = None })
  is_refused_for_texts kind met unread = texts_refused k t c pool streams the_pool the_streams expected s.expected_are kind met unread

-- an error that is handed on
pub handed_on : {A : Type 0} (r : Result A Refusal) (kind : ErrorKind) (answer : Result Left Refusal) → IsErrAnd r (λ (y : Refusal). y ≡ record { kind = kind; place = None })
    → answer ≡ Err (record { kind = kind; place = None }) → IfErr r (IsRefused answer)
handed_on (Ok x) kind answer h is = tt
handed_on (Err y) kind answer h is = inr (is ∙ ap Err (sym h))
