-- What is left once changed tables are stored.
use Rattle.std.proofs.Common.{◌≡◌, ℕ, ◌≤◌, Bool, true, false, cond, not, List, [], ◌∷◌, ◌++◌, length, Option, Some, None, refl, sym, ap, ◌∙◌, arith}
use Rattle.std.specs.Prelude.{if◌then◌else◌, ◌==◌}
use Rattle.std.specs.FinMap.{FinMap, entries, entries-insert, insert, remove}
use Rattle.std.specs.Ordering.{eq_by_cmp}
use Rattle.std.proofs.lemmas.Bool.{true≢false}
use Rattle.msi_container_format.specs.Names.{is_name_length, name_cmp, named}
use Rattle.msi_container_format.proofs.NamesLemmas.{exact_names, names_total}
use Rattle.msi_container_format.proofs.StreamsLemmas.{is_equal}
use Rattle.msi_database_changes.specs.declared.storing.Stored.{Stored}
use Rattle.msi_database_storage.specs.Storing.{stored_in}
use Rattle.msi_database_storage.specs.StreamNames.{HaveShortNames}
use Rattle.msi_database_storage.specs.Streams.{Streams, with_stream, with_stream_or_none, without_stream}
use Rattle.msi_database_schema.specs.Keys.{table_key}
use Rattle.msi_table.specs.Tables.{stored_bytes}
use Rattle.msi_table_cells.specs.declared.cell.ValueRef.{ValueRef}
use Rattle.msi_transform.proofs.TableStreamsLemmas.{removed}
use Rattle.msi_transform_applying.specs.Applying.{TableAnew, cells_anew, table_stored}
use Rattle.msi_transform_applying.specs.LeftInHand.{CanBeStored}
use Rattle.std.proofs.lemmas.Bool.Decides.{nat_tests}
use Rattle.std.proofs.lemmas.List.{length-map}

abbrev StreamMap : Type 0
StreamMap = FinMap name_cmp (List ℕ)

-- a stream that is put, and one that goes
pub stream_put : (m n : StreamMap) (name bytes : List ℕ) → n ≡ insert m name bytes → entries n ≡ with_stream name bytes (entries m)
stream_put m n name bytes is = ap entries is ∙ entries-insert names_total m name bytes

pub stream_removed : (m n : StreamMap) (name : List ℕ) → n ≡ remove m name → entries n ≡ without_stream name (entries m)
stream_removed m n name is = ap entries is ∙ removed m name

pub stored_put : (name bytes : List ℕ) (o : Option (List ℕ)) (streams after : Streams) → o ≡ Some bytes → after ≡ with_stream name bytes streams → after ≡ with_stream_or_none name o streams
stored_put name bytes o streams after is put = put ∙ ap (λ (p : Option (List ℕ)). with_stream_or_none name p streams) (sym is)

pub stored_gone : (name : List ℕ) (o : Option (List ℕ)) (streams after : Streams) → o ≡ None → after ≡ without_stream name streams → after ≡ with_stream_or_none name o streams
stored_gone name o streams after is gone = gone ∙ ap (λ (p : Option (List ℕ)). with_stream_or_none name p streams) (sym is)

-- one stored after others
pub stored_joined : (xs ys : List Stored) (streams : Streams) → stored_in (xs ++ ys) streams ≡ stored_in ys (stored_in xs streams)
stored_joined [] ys streams = refl
stored_joined (x ∷ xs) ys streams = stored_joined xs ys (with_stream_or_none x.name x.bytes streams)

-- no stream has a name that is too long
long_name_goes : (name : List ℕ) (streams : Streams) → HaveShortNames streams → is_name_length (length name) ≡ false → streams ≡ without_stream name streams
long_name_goes name [] names long = refl
long_name_goes name (s ∷ ss) names long =
    elim (eq_by_cmp name_cmp name s.0) as (λ b. eq_by_cmp name_cmp name s.0 ≡ b → s ∷ ss ≡ cond (not b) (s ∷ without_stream name ss) (without_stream name ss)) [
      | true ↦ λ e. absurd (true≢false (sym names.0 ∙ ap (λ k. is_name_length (length k)) (sym (exact_names name s.0 (is_equal _ e))) ∙ long))
      | false ↦ λ _. ap (λ (rest : Streams). s ∷ rest) (long_name_goes name ss names.1 long)
    ] refl

unnamed_by : (b : Bool) (name : List ℕ) → None ≡ (if b then Some name else None) → b ≡ false
unnamed_by true name e = cc
unnamed_by false name e = refl

named_by : (b : Bool) (name k : List ℕ) → Some k ≡ (if b then Some name else None) → k ≡ name
named_by true name k e = cc
named_by false name k e = cc

pub too_long : (name : List ℕ) (streams : Streams) → HaveShortNames streams → None ≡ named name → streams ≡ without_stream name streams
too_long name streams names none = long_name_goes name streams names (unnamed_by (is_name_length (length name)) name none)

pub key_removed : (name k : List ℕ) (streams after : Streams) → Some k ≡ named name → after ≡ without_stream k streams → after ≡ without_stream name streams
key_removed name k streams after some gone = gone ∙ ap (λ q. without_stream q streams) (named_by (is_name_length (length name)) name k some)

-- A TABLE THAT IS STORED ANEW

by_emptiness : (b : Bool) (name bytes : List ℕ) (streams after : Streams) → b ≡ true → after ≡ without_stream name streams → after ≡ with_stream_or_none name (if b then None else Some bytes) streams
by_emptiness true name bytes streams after e gone = gone
by_emptiness false name bytes streams after e gone = absurd (true≢false (sym e))

by_presence : (b : Bool) (name bytes : List ℕ) (streams after : Streams) → b ≡ false → after ≡ with_stream name bytes streams → after ≡ with_stream_or_none name (if b then None else Some bytes) streams
by_presence true name bytes streams after e put = absurd (true≢false e)
by_presence false name bytes streams after e put = put

module _ (long : Bool) (table : TableAnew) (cells : List (List ValueRef)) (cells_are : cells ≡ cells_anew table) where
  pub stored_empty : (streams after : Streams) → (length cells == 0) ≡ true → after ≡ without_stream (table_key table.name) streams
      → after ≡ with_stream_or_none (table_key table.name) (table_stored long table).bytes streams
  stored_empty streams after empty gone = by_emptiness (length (cells_anew table) == 0) (table_key table.name) (stored_bytes long table.columns (cells_anew table)) streams after
      (ap (λ (cs : List (List ValueRef)). length cs == 0) (sym cells_are) ∙ empty) gone

  pub stored_full : (streams after : Streams) → (length cells == 0) ≡ false → after ≡ with_stream (table_key table.name) (stored_bytes long table.columns cells) streams
      → after ≡ with_stream_or_none (table_key table.name) (table_stored long table).bytes streams
  stored_full streams after some put = by_presence (length (cells_anew table) == 0) (table_key table.name) (stored_bytes long table.columns (cells_anew table)) streams after
      (ap (λ (cs : List (List ValueRef)). length cs == 0) (sym cells_are) ∙ some)
      (put ∙ ap (λ (cs : List (List ValueRef)). with_stream (table_key table.name) (stored_bytes long table.columns cs) streams) cells_are)

  some_rows : (length cells == 0) ≡ false → 1 ≤ length table.rows
  some_rows some = let many : length cells ≡ length table.rows = ap length cells_are ∙ length-map table.rows (λ e. e.1.cells) in grind (arith, nat_tests)

  pub named_short : CanBeStored table → (length cells == 0) ≡ false → is_name_length (length (table_key table.name)) ≡ true
  named_short can some = can (some_rows some)
