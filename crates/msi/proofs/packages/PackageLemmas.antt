-- What each change of a package keeps: of its other streams, its summary, its page, and its tables.
use Rattle.std.proofs.Common.{◌≡◌, ◌≢◌, ℕ, ◌≤◌, true, false, List, [], ◌∷◌, length, nat_lt, ◌⊎◌, refl, sym, ap, subst, ◌∙◌, inl, inr, arith}
use Rattle.std.specs.Str.{IsUtf8}
use Rattle.std.proofs.lemmas.Bool.{true≢false, or_parts, and_from, lt-ltb, le-leb, leb-true, not-false}
use Rattle.std.proofs.lemmas.Bool.Decides.{nat_tests}
use Rattle.msi_pool.specs.FirstFit.{most_places}
use Rattle.msi_base.specs.declared.codepage.CodePage.{CodePage}
use Rattle.msi_base.specs.declared.errors.ErrorKind.TheVariants.{InvalidData}
use Rattle.msi_pool.specs.Pool as pools
use Rattle.msi_summary.specs.Properties.{Properties}
use Rattle.msi_container_format.specs.Names.{is_name_length}
use Rattle.msi_container_format.specs.StreamNames.{is_marked}
use Rattle.msi_container_write.specs.LayoutLaw.{IsName, HaveNames}
use Rattle.msi_database_schema.specs.Keys.{is_stream_name, table_key, stream_key, summary_key, signature_key, signature_ex_key, string_pool_name, string_data_name}
use Rattle.msi_database_schema.specs.System.{validation_name}
use Rattle.msi_database.specs.Database.{Database, is_sound}
use Rattle.msi_database.specs.Changes.{Change}
use Rattle.msi_database.specs.Laws.{IsChange, IsTableChange}
use Rattle.msi_database.specs.Widening.{widened}
use Rattle.msi_database.proofs.AtWidthLemmas.{IsChangeAtWidth, IsTableChangeAtWidth, any_change_many, sound_widened, inserted, updated, deleted, created, dropped, column_added}
use Rattle.msi_database.proofs.InsertLemmas.{insert_parts}
use Rattle.msi_database.proofs.UpdateLemmas.{update_parts}
use Rattle.msi_database.proofs.DeleteLemmas.{delete_parts}
use Rattle.msi_database.proofs.RefusedLemmas.{first_fails}
use Rattle.msi_database.proofs.ShownTablesLemmas as steps
use Rattle.msi_database.proofs.ShownChangesLemmas.{dropped_parts}
use Rattle.msi_database.proofs.ColumnAddedLemmas.{accepts, column_parts}
use Rattle.msi_database_storage.specs.Kept.{Kept, base_of, kept_widened}
use Rattle.msi_database_storage.specs.Streams.{Streams, stored_streams, stream_at, with_stream, without_stream}
use Rattle.msi_database_storage.specs.StreamNames as databases
use Rattle.msi_database.specs.Keeping.{IsKeptDatabase}
use Rattle.msi_database_schema.proofs.KeyLemmas.{unmarked≢table_key, stream_key_unmarked, stream_key≢summary_key, signature≢summary, signature_ex≢summary}
use Rattle.msi_database_storage.proofs.StreamLemmas.{AreSorted, sorted_put, sorted_removed, stream_at_other_put, stream_at_other_removed}
use Rattle.msi_database_storage.proofs.StoredLemmas.{AreNames, all_names, summary_stays, pool_stays}
use Rattle.msi_database.proofs.keeping.AcceptedChangeLemmas.{are_names}
use Rattle.msi_database.proofs.soundness.SoundLemmas.{sound_is}
use Rattle.msi_database.proofs.widths.WideningLemmas.{widened_kept, widened_names, widened_summary}
use Rattle.msi_database.proofs.keeping.KeepingLemmas.{change_comes, changes_are_kept, same_base, wide_base}
use Rattle.msi.specs.State.{State}
use Rattle.msi.specs.Meaning.{IsPackage, PoolIs}
use Rattle.msi.specs.Steps.{after_change, with_page, with_streams, with_lent_summary, with_summary_calls, without_signature}
use Rattle.msi.proofs.named_streams.KeyNameLemmas.{table_key_is_name, stream_key_is_name}
use Rattle.msi.proofs.named_streams.OtherStreamLemmas.{names_with, names_without}
use Rattle.msi.proofs.packages.SummarySetLemmas.{IsSummarySet}
use Rattle.msi.proofs.meaning.AgreementLemmas.{SameStream, summary_same, pool_same, raw_pool_same, shown_same, database_same, all_same, kept_same}
use Rattle.msi.proofs.meaning.PoolLemmas.{pool_as_written, pool_spelled}

pub package_summary : (s : State) → IsPackage s → IsSummarySet s.summary
package_summary s h = record { kept = h.summary; format = h.format }

-- names of a container are as long as they may be
name_length : (name : List ℕ) → IsName name → is_name_length (length name) ≡ true
name_length name is = and_from _ _ (lt-ltb 0 (length name) is.some) (le-leb (length name) 31 is.most)

pub short_names : (streams : Streams) → HaveNames streams → databases.HaveShortNames streams
short_names [] h = tt
short_names (s ∷ ss) h = (name_length s.0 h.0, short_names ss h.1)

-- THE OTHER STREAMS

module _ (s : State) (edit : Streams → Streams) (h : IsPackage s)
    (tables : (name : List ℕ) → SameStream s.kept.streams (edit s.kept.streams) name)
    (summary : stream_at summary_key (edit s.kept.streams) ≡ stream_at summary_key s.kept.streams)
    (sorted : AreSorted (edit s.kept.streams)) (names : HaveNames (edit s.kept.streams)) where
  edited : IsPackage (with_streams edit s)
  edited =
      let before : Streams = s.kept.streams in
      let after : Streams = edit s.kept.streams in
      let same = all_same before after s.kept.database tables in record {
        names = names;
        database = kept_same s.kept after sorted (short_names after names) same h.database;
        summary = h.summary;
        format = h.format;
        agrees = record {
          summary = λ lent writable. summary_same before after s.summary summary (h.agrees.summary lent writable);
          pool = λ changed writable. pool_same before after s.kept.database s.kept.database (tables string_pool_name) (tables string_data_name) refl
              (shown_same before after s.kept.database (tables validation_name)) (h.agrees.pool changed writable);
          database = database_same before after s.kept.database same h.agrees.database;
        };
        changed = h.changed;
      }

-- a key that isn't marked, and not the summary's
module _ (s : State) (key : List ℕ) (unmarked : is_marked key ≡ false) (apart : key ≢ summary_key) (h : IsPackage s) where
  put_package : (bytes : List ℕ) → IsName key → IsPackage (with_streams (with_stream key bytes) s)
  put_package bytes is = edited s (with_stream key bytes) h
      (λ name. stream_at_other_put (table_key name) key bytes s.kept.streams (unmarked≢table_key name key unmarked))
      (stream_at_other_put summary_key key bytes s.kept.streams (λ e. apart (sym e)))
      (sorted_put key bytes s.kept.streams h.database.in_order)
      (names_with key bytes s.kept.streams is h.names)

  removed_package : IsPackage (with_streams (without_stream key) s)
  removed_package = edited s (without_stream key) h
      (λ name. stream_at_other_removed (table_key name) key s.kept.streams (unmarked≢table_key name key unmarked))
      (stream_at_other_removed summary_key key s.kept.streams (λ e. apart (sym e)))
      (sorted_removed key s.kept.streams h.database.in_order)
      (names_without key s.kept.streams h.names)

pub stream_put : (s : State) (name bytes : List ℕ) → IsUtf8 name → is_stream_name name ≡ true → IsPackage s → IsPackage (with_streams (with_stream (stream_key name) bytes) s)
stream_put s name bytes utf8 is h = put_package s (stream_key name) (stream_key_unmarked name is) (stream_key≢summary_key name) h bytes (stream_key_is_name name utf8 is)

pub stream_removed : (s : State) (name : List ℕ) → is_stream_name name ≡ true → IsPackage s → IsPackage (with_streams (without_stream (stream_key name)) s)
stream_removed s name is h = removed_package s (stream_key name) (stream_key_unmarked name is) (stream_key≢summary_key name) h

-- both streams of a signature go
pub signature_removed : (s : State) → IsPackage s → IsPackage (with_streams without_signature s)
signature_removed s h = removed_package (with_streams (without_stream signature_ex_key) s) signature_key refl signature≢summary
    (removed_package s signature_ex_key refl signature_ex≢summary h)

-- THE SUMMARY, lent and then left by calls

pub summary_left : (s : State) (summary : Properties) → IsSummarySet summary → IsPackage s → IsPackage (with_summary_calls summary (with_lent_summary s))
summary_left s summary set h = record {
  names = h.names;
  database = h.database;
  summary = set.kept;
  format = set.format;
  agrees = record { summary = λ lent. absurd (true≢false lent); pool = h.agrees.pool; database = h.agrees.database };
  changed = h.changed;
}

-- THE PAGE

pub paged : (s : State) (page : CodePage) → IsPackage s → is_sound s.kept.database ≡ true → IsPackage (with_page page s)
paged s page h sound = record {
  names = h.names;
  database = record {
    in_order = h.database.in_order;
    names = h.database.names;
    spelled = record { tables = h.database.spelled.tables; unlisted = h.database.spelled.unlisted; schema = h.database.spelled.schema };
    rows = h.database.rows;
    unlisted = h.database.unlisted;
    few = h.database.few;
    counts = h.database.counts;
    freed = h.database.freed;
  };
  summary = h.summary;
  format = h.format;
  agrees = record {
    summary = h.agrees.summary;
    pool = λ changed. absurd (true≢false changed);
    database = record { tables = h.agrees.database.tables; unlisted = h.agrees.database.unlisted; schema = h.agrees.database.schema };
  };
  changed = λ _. sound;
}

-- A CHANGE OF TABLES

-- only a sound database is changed
change_sound_at : (d : Database) (c : Change) → IsChangeAtWidth d c ⊎ IsTableChangeAtWidth d c → is_sound d ≡ true
change_sound_at d c (inl (inserted q e)) = (insert_parts d q c e).0
change_sound_at d c (inl (updated q e)) = (update_parts d q c e).sound
change_sound_at d c (inl (deleted q e)) = (delete_parts d q c e).sound
change_sound_at d c (inr (created name columns e)) = not-false (is_sound d) (first_fails _ InvalidData [] (steps.created d name columns c e).sound).0
change_sound_at d c (inr (dropped name e)) = not-false (is_sound d) (first_fails _ InvalidData [] (dropped_parts d name c e).sound).0
change_sound_at d c (inr (column_added name column e)) = let p = column_parts d name column c e in (accepts d name p.table column p.passed p.at).sound

pub change_sound : (d : Database) (c : Change) → IsChange d c ⊎ IsTableChange d c → is_sound d ≡ true
change_sound d c change = any_change_many d c change (λ sound short many wide. sound) (λ same. change_sound_at d c same)

-- more places than two bytes name are more than a sound database with such references has
too_many : (m n : ℕ) → m ≤ 65535 → nat_lt (most_places false) n ≡ true → n ≡ m → ⊥
too_many m n few many same = grind (arith, nat_tests)

module _ (s : State) (c : Change) (h : IsPackage s) (change : IsChange s.kept.database c ⊎ IsTableChange s.kept.database c) where
  abbrev sound : is_sound s.kept.database ≡ true
  sound = change_sound s.kept.database c change

  abbrev after : Streams
  after = (after_change s c).kept.streams

  pub sound_after : is_sound c.database ≡ true
  sound_after = (changes_are_kept s.kept c h.database sound change).1

  kept_after : IsKeptDatabase (after_change s c).kept
  kept_after = (changes_are_kept s.kept c h.database sound change).0

  -- over what the change is put: its streams have names, and that of the summary is as it was; where no text was taken or given back, all is as it was
  record Over (base : Kept) : Type 0 where
    pub is : base_of s.kept c ≡ base
    pub names : HaveNames base.streams
    pub summary : stream_at summary_key base.streams ≡ stream_at summary_key s.kept.streams
    pub stored : AreNames c.stored
    pub unused : c.is_pool_used ≡ false → (base ≡ s.kept) × (c.database.pool ≡ s.kept.database.pool)

  same_over : IsChangeAtWidth s.kept.database c ⊎ IsTableChangeAtWidth s.kept.database c → Over s.kept
  same_over at =
      let comes = change_comes s.kept c h.database sound at in record {
        is = same_base s.kept c comes.tracks.long;
        names = h.names;
        summary = refl;
        stored = are_names c.stored comes.tracks.names;
        unused = λ e. (refl, comes.tracks.unused e);
      }

  few : s.kept.database.pool.long ≡ false → length s.kept.database.pool.places ≤ 65535
  few short = subst (λ l. length s.kept.database.pool.places ≤ most_places l) short
      (leb-true (length s.kept.database.pool.places) (most_places s.kept.database.pool.long) (sound_is s.kept.database sound).fits)

  wide_over : s.kept.database.pool.long ≡ false → nat_lt (most_places false) (length c.database.pool.places) ≡ true
      → IsChangeAtWidth (widened s.kept.database) c ⊎ IsTableChangeAtWidth (widened s.kept.database) c → Over (kept_widened s.kept)
  wide_over short many at =
      let comes = change_comes (kept_widened s.kept) c (widened_kept s.kept h.database sound) (sound_widened s.kept.database sound) at in record {
        is = wide_base s.kept c comes.tracks.long short;
        names = widened_names s.kept h.database sound IsName table_key_is_name h.names;
        summary = widened_summary s.kept h.database sound;
        stored = are_names c.stored comes.tracks.names;
        unused = λ e. absurd (too_many (length s.kept.database.pool.places) (length c.database.pool.places) (few short) many (ap (λ (p : pools.Pool). length p.places) (comes.tracks.unused e)));
      }

  module _ (base : Kept) (over : Over base) where
    after_is : after ≡ stored_streams c.database c.stored base.streams
    after_is = ap (λ (b : Kept). stored_streams c.database c.stored b.streams) over.is

    -- the pool, where no text was taken or given back
    pool_after : c.is_pool_used ≡ false → PoolIs s.kept.streams s.kept.database → PoolIs after c.database
    pool_after unused pool =
        let same = over.unused unused in
        let here : after ≡ stored_streams c.database c.stored s.kept.streams = after_is ∙ ap (λ (b : Kept). stored_streams c.database c.stored b.streams) same.0 in
        let stays = pool_stays c.database c.stored s.kept.streams over.stored in
        pool_spelled after c.database kept_after.spelled sound_after pool.0
        (raw_pool_same s.kept.streams after pool.0 (ap (stream_at (table_key string_pool_name)) here ∙ stays.0) (ap (stream_at (table_key string_data_name)) here ∙ stays.1) pool.1)
        (same.1 ∙ pool_as_written s.kept.streams s.kept.database h.database.spelled sound pool)

    changed_over : IsPackage (after_change s c)
    changed_over = record {
      names = subst HaveNames (sym after_is) (all_names c.database IsName table_key_is_name c.stored base.streams over.stored over.names);
      database = kept_after;
      summary = h.summary;
      format = h.format;
      agrees = record {
        summary = λ lent writable. summary_same s.kept.streams after s.summary
            (ap (stream_at summary_key) after_is ∙ summary_stays c.database c.stored base.streams ∙ over.summary) (h.agrees.summary lent writable);
        pool = λ used writable.
            let flags = or_parts s.is_pool_changed c.is_pool_used used in
            pool_after flags.1 (h.agrees.pool flags.0 (subst pools.AreWritable (over.unused flags.1).1 writable));
        database = kept_after.spelled;
      };
      changed = λ _. sound_after;
    }

  pub changed : IsPackage (after_change s c)
  changed = any_change_many s.kept.database c change
      (λ sound short many wide. changed_over (kept_widened s.kept) (wide_over short many wide))
      (λ same. changed_over s.kept (same_over same))
