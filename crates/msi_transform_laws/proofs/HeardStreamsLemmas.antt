-- What is said last of a stream, and which stream there is then.
use Rattle.std.proofs.Common.{◌≡◌, ◌≢◌, ℕ, Bool, true, false, not, ◌&&◌, List, [], ◌∷◌, ◌++◌, length, map, fold, Option, Some, None, is_some, refl, sym, ap, ◌∙◌}
use Rattle.std.specs.Prelude.{bytes_eq, if◌then◌else◌, ◌==◌}
use Rattle.std.specs.Cmp.Lexicographic.{bytes_decides}
use Rattle.msi_base.proofs.BoolLemmas.{by_test, yes_is_no}
use Rattle.msi_database_schema.specs.Keys.{table_key}
use Rattle.msi_database_changes.specs.Database.{Database, Tables, rows_of}
use Rattle.msi_database_changes.specs.declared.storing.Stored.{Stored}
use Rattle.msi_database_storage.specs.Kept.{Kept}
use Rattle.msi_database_storage.specs.Storing.{stored_in}
use Rattle.msi_database_storage.specs.Streams.{Streams, stream_at, with_stream_or_none}
use Rattle.msi_database_storage.specs.Widening.{streams_widened, unlisted_table, with_long_rows}
use Rattle.msi_database_storage.proofs.StreamLemmas.{stream_at_other_put, stream_at_other_removed, stream_at_put, stream_at_removed}
use Rattle.msi_table_cells.specs.TableCells.{TableCells}
use Rattle.msi_transform_applying.specs.Applying.{TableAnew, TablesInHand, is_said, streams_left, streams_stored, streams_under, table_stored}

-- WHAT IS SAID LAST

-- nothing; that it goes; or its bytes
abbrev pub Heard : Type 0
Heard = Option (Option (List ℕ))

abbrev pub later : Heard → Heard → Heard
later None h = h
later (Some bytes) h = Some bytes

abbrev pub heard_once : List ℕ → Stored → Heard
heard_once n e = if bytes_eq e.name n then Some e.bytes else None

abbrev pub heard : List ℕ → List Stored → Heard
heard n [] = None
heard n (e ∷ es) = later (heard n es) (heard_once n e)

pub nothing_before : (h : Heard) → later h None ≡ h
nothing_before None = refl
nothing_before (Some bytes) = refl

later_thrice : (a b c : Heard) → later (later a b) c ≡ later a (later b c)
later_thrice None b c = refl
later_thrice (Some bytes) b c = refl

pub heard_joined : (n : List ℕ) (xs ys : List Stored) → heard n (xs ++ ys) ≡ later (heard n ys) (heard n xs)
heard_joined n [] ys = sym (nothing_before (heard n ys))
heard_joined n (x ∷ xs) ys = ap (λ (h : Heard). later h (heard_once n x)) (heard_joined n xs ys) ∙ later_thrice (heard n ys) (heard n xs) (heard_once n x)

pub some_later : (a b : Heard) → is_some b ≡ true → is_some (later a b) ≡ true
some_later None b h = h
some_later (Some bytes) b h = refl

pub is_heard : (n : List ℕ) (es : List Stored) → is_said es n ≡ is_some (heard n es)
is_heard n [] = refl
is_heard n (e ∷ es) = by_test (bytes_eq e.name n)
    (λ t. rw t (sym (some_later (heard n es) (Some e.bytes) refl)))
    (λ t. rw t (is_heard n es ∙ ap (λ (h : Heard). is_some h) (sym (nothing_before (heard n es)))))

-- WHAT THERE IS THEN

abbrev pub left_then : Heard → Option (List ℕ) → Option (List ℕ)
left_then None before = before
left_then (Some bytes) before = bytes

left_twice : (a b : Heard) (before : Option (List ℕ)) → left_then a (left_then b before) ≡ left_then (later a b) before
left_twice None b before = refl
left_twice (Some bytes) b before = refl

apart_by : (n name : List ℕ) → bytes_eq name n ≡ false → n ≢ name
apart_by n name t e = yes_is_no (bytes_eq name n) ((bytes_decides name n).1 (sym e)) t

put_at : (n name : List ℕ) (bytes : Option (List ℕ)) (streams : Streams) (same : name ≡ n) → stream_at n (with_stream_or_none name bytes streams) ≡ bytes
put_at n name None streams same = ap (λ (m : List ℕ). stream_at m (with_stream_or_none name None streams)) (sym same) ∙ stream_at_removed name streams
put_at n name (Some bytes) streams same = ap (λ (m : List ℕ). stream_at m (with_stream_or_none name (Some bytes) streams)) (sym same) ∙ stream_at_put name bytes streams

put_apart : (n name : List ℕ) (bytes : Option (List ℕ)) (streams : Streams) → n ≢ name → stream_at n (with_stream_or_none name bytes streams) ≡ stream_at n streams
put_apart n name None streams apart = stream_at_other_removed n name streams apart
put_apart n name (Some bytes) streams apart = stream_at_other_put n name bytes streams apart

one_heard : (n : List ℕ) (e : Stored) (streams : Streams) → stream_at n (with_stream_or_none e.name e.bytes streams) ≡ left_then (heard_once n e) (stream_at n streams)
one_heard n e streams = by_test (bytes_eq e.name n)
    (λ t. rw t (put_at n e.name e.bytes streams ((bytes_decides e.name n).0 t)))
    (λ t. rw t (put_apart n e.name e.bytes streams (apart_by n e.name t)))

pub stored_heard : (n : List ℕ) (es : List Stored) (streams : Streams) → stream_at n (stored_in es streams) ≡ left_then (heard n es) (stream_at n streams)
stored_heard n [] streams = refl
stored_heard n (e ∷ es) streams =
    stored_heard n es (with_stream_or_none e.name e.bytes streams)
    ∙ ap (left_then (heard n es)) (one_heard n e streams)
    ∙ left_twice (heard n es) (heard_once n e) (stream_at n streams)

-- a name that no table's stream has
module _ (n : List ℕ) (of_no_table : (name : List ℕ) → table_key name ≢ n) where
  unheard : (long : Bool) (tables : List TableAnew) → heard n (map (table_stored long) tables) ≡ None
  unheard long [] = refl
  unheard long (t ∷ ts) =
      let apart : bytes_eq (table_key t.name) n ≡ false = by_test (bytes_eq (table_key t.name) n) (λ b. absurd (of_no_table t.name ((bytes_decides (table_key t.name) n).0 b))) (λ b. b) in
      rw (unheard long ts, apart) refl

  one_wide : (streams : Streams) (t : List ℕ × TableCells) → stream_at n (with_long_rows streams t) ≡ stream_at n streams
  one_wide streams t = by_test (length (rows_of t.1) == 0)
      (λ b. rw b refl)
      (λ b. rw b (stream_at_other_put n (table_key t.0) _ streams (λ e. of_no_table t.0 (sym e))))

  all_wide : (streams : Streams) (ts : Tables) → stream_at n (fold with_long_rows streams ts) ≡ stream_at n streams
  all_wide streams [] = refl
  all_wide streams (t ∷ ts) = all_wide (with_long_rows streams t) ts ∙ one_wide streams t

  widened : (d : Database) (streams : Streams) → stream_at n (streams_widened d streams) ≡ stream_at n streams
  widened d streams = one_wide (fold with_long_rows streams d.tables) (unlisted_table d) ∙ all_wide streams d.tables

  under : (k : Kept) (b : Bool) → stream_at n (if b then streams_widened k.database k.streams else k.streams) ≡ stream_at n k.streams
  under k true = widened k.database k.streams
  under k false = refl

  -- so the streams of rows are as was said last
  pub left_heard : (k : Kept) (long : Bool) (s : TablesInHand) → stream_at n (streams_left k long s) ≡ left_then (heard n s.streams) (stream_at n k.streams)
  left_heard k long s =
      stored_heard n (streams_stored long s) (streams_under k long)
      ∙ ap (λ (h : Heard). left_then h (stream_at n (streams_under k long))) (heard_joined n s.streams (map (table_stored long) s.tables) ∙ ap (λ (h : Heard). later h (heard n s.streams)) (unheard long s.tables))
      ∙ ap (left_then (heard n s.streams)) (under k (long && not k.database.pool.long))
