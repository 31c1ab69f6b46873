-- A stream that is made and then written.
use Rattle.std.proofs.Common.{◌≡◌, ℕ, Bool, true, cond, List, Some, sym, ap, subst, ◌∙◌, ◌⊎◌, inl}
use Rattle.std.specs.FinMap.Entries.{find, find-put, same_entries}
use Rattle.std.specs.Ordering.{eq_by_cmp}
use Rattle.msi_base.proofs.BoolLemmas.{cond_twice}
use Rattle.msi_container_format.specs.Names.{name_cmp}
use Rattle.msi_container_format.proofs.NamesLemmas.{names_total, exact_names}
use Rattle.msi_database_schema.specs.Keys.{is_stream_name, stream_key}
use Rattle.msi_database.specs.Database.{Database, is_sound}
use Rattle.msi_database_storage.specs.Kept.{Kept}
use Rattle.msi_database_storage.specs.Streams.{Streams, has_stream_at, with_stream}
use Rattle.msi_database.specs.Others.{IsOther, with_streams}
use Rattle.msi_database_schema.proofs.KeyLemmas.{stream_key_unmarked}
use Rattle.msi_database_storage.proofs.StreamLemmas.{AreSorted, sorted_put}
use Rattle.msi.specs.Steps as steps
use Rattle.msi.specs.Whole.{IsHeld, Whole, with_open, with_state}
use Rattle.msi.proofs.named_streams.OpenStreamLemmas.{unmarked_is_other}

pub stream_is_other : (d : Database) (name key : List ℕ) → is_stream_name name ≡ true → key ≡ stream_key name → IsOther d key
stream_is_other d name key accepted is = subst (IsOther d) (sym is) (unmarked_is_other d (stream_key name) (stream_key_unmarked name accepted))

-- what is lent ends alike where its values do
pub lent_same : {G L R : Type 0} {g : G} {f h : L → R} → ((w : L) → f w ≡ h w) → ◌≡◌ {A = (G × (L → R)) ⊎ R} (inl (g, f)) (inl (g, h))
lent_same {g = g} same i = inl (g, λ w. same w i)

-- a stream put twice is what was put last
pub put_twice : (key v w : List ℕ) (streams : Streams) → AreSorted streams → with_stream key w (with_stream key v streams) ≡ with_stream key w streams
put_twice key v w streams sorted =
    same_entries name_cmp names_total exact_names (with_stream key w (with_stream key v streams)) (with_stream key w streams)
    (sorted_put key w (with_stream key v streams) (sorted_put key v streams sorted)) (sorted_put key w streams sorted)
    (λ q. find-put name_cmp names_total q key w (with_stream key v streams)
    ∙ ap (cond (eq_by_cmp name_cmp q key) (Some w)) (find-put name_cmp names_total q key v streams)
    ∙ cond_twice (eq_by_cmp name_cmp q key) (Some v) (Some w) (find name_cmp q streams)
    ∙ sym (find-put name_cmp names_total q key w streams))

-- the stream that was made lies open
pub opened_held : (k : Kept) (name key made : List ℕ) (changed : Bool) → is_stream_name name ≡ true → key ≡ stream_key name → made ≡ key
    → has_stream_at made k.streams ≡ true → (changed ≡ true → is_sound k.database ≡ true) → IsHeld k (Some key) changed
opened_held k name key made changed accepted is same there sound = record {
  current = record { text = name; accepted = accepted; named = is; there = ap (λ n. has_stream_at n k.streams) (sym same) ∙ there };
  changed = sound;
}

-- what is left in it is what the package keeps
left_open : (k made : Kept) (name key copy first left : List ℕ) → AreSorted k.streams → made ≡ with_streams (with_stream copy first) k → copy ≡ key
    → key ≡ stream_key name → with_streams (with_stream key left) made ≡ with_streams (with_stream (stream_key name) left) k
left_open k made name key copy first left sorted is same named =
    ap (with_streams (with_stream key left)) (is ∙ ap (λ n. with_streams (with_stream n first) k) same)
    ∙ ap (λ (s : Streams). with_streams (λ _. s) k) (put_twice key first left k.streams sorted)
    ∙ ap (λ n. with_streams (with_stream n left) k) named

pub left_written : (view old : Whole) (k made : Kept) (name key copy first left : List ℕ) → view ≡ old → AreSorted k.streams
    → made ≡ with_streams (with_stream copy first) k → copy ≡ key → key ≡ stream_key name → k ≡ view.state.kept
    → with_state (record view.state { kept = with_open (Some key) left made; is_unwritten = true }) view
    ≡ with_state (steps.with_streams (with_stream (stream_key name) left) old.state) old
left_written view old k made name key copy first left seen sorted is same named before =
    ap (λ (k : Kept). with_state (record view.state { kept = k; is_unwritten = true }) view)
    (left_open k made name key copy first left sorted is same named ∙ ap (with_streams (with_stream (stream_key name) left)) before)
    ∙ ap (λ (w : Whole). with_state (steps.with_streams (with_stream (stream_key name) left) w.state) w) seen
