-- What calls on streams answer, by the streams that are kept.
use Rattle.std.proofs.Common.{◌≡◌, ℕ, Bool, true, false, cond, List, [], Option, Some, None, is_some, IfSome, refl, sym, ap, ◌∙◌}
use Rattle.std.specs.Prelude.{◌&&◌, if◌then◌else◌, unwrap_or}
use Rattle.std.specs.FinMap.{contains_key, entries, get, get-entries}
use Rattle.std.specs.FinMap.Entries.{find, find-put}
use Rattle.std.specs.Ordering.{eq_by_cmp}
use Rattle.std.proofs.lemmas.Option.{same_Some}
use Rattle.msi_container_format.specs.Names.{name_cmp}
use Rattle.msi_container_format.specs.Streams as maps
use Rattle.msi_container_format.proofs.NamesLemmas.{names_total, exact_names}
use Rattle.msi_database_schema.specs.Keys.{is_stream_name, signature_key, stream_key}
use Rattle.msi_database_storage.specs.Kept.{Kept}
use Rattle.msi_database_storage.specs.Streams.{Streams, has_stream_at, stream_at}
use Rattle.msi_database_storage.proofs.MapLemmas as lookups
use Rattle.msi.specs.State.{State, is_other_name, names_of, other_streams, parts_of}
use Rattle.msi.specs.Steps.{bytes_of_stream, has_stream}
use Rattle.msi.specs.Renewing.{opened}
use Rattle.msi.specs.Whole.{IsOpen}
use Rattle.msi.proofs.named_streams.OtherStreamLemmas.{signature_is_other, stream_key_is_other}

-- THE STREAM THAT LIES OPEN stands over one that is there

there_too : (b : Bool) (name key bytes : List ℕ) (streams : Streams) → eq_by_cmp name_cmp key name ≡ b → has_stream_at name streams ≡ true
    → has_stream_at key streams ≡ is_some (cond b (Some bytes) (find name_cmp key streams))
there_too true name key bytes streams tied there = ap (λ n. has_stream_at n streams) (lookups.tied_is names_total exact_names key name tied) ∙ there
there_too false name key bytes streams tied there = refl

module _ (k : Kept) (m : maps.Streams) (same : entries m ≡ k.streams) where
  pub told_at : (key : List ℕ) → get m key ≡ stream_at key k.streams
  told_at key = get-entries m key ∙ ap (λ (s : Streams). find name_cmp key s) same

  pub told_there : (name : Option (List ℕ)) (bytes key : List ℕ) → IfSome name (IsOpen k)
      → contains_key m key ≡ has_stream_at key (opened name bytes k.streams)
  told_there None bytes key is = ap is_some (told_at key)
  told_there (Some name) bytes key is =
      ap is_some (told_at key)
      ∙ there_too (eq_by_cmp name_cmp key name) name key bytes k.streams refl is.there
      ∙ ap is_some (sym (find-put name_cmp names_total key name bytes k.streams))

pub bytes_open : (streams : Streams) (name key bytes : List ℕ) → eq_by_cmp name_cmp key name ≡ true → Some bytes ≡ stream_at key (opened (Some name) bytes streams)
bytes_open streams name key bytes e = sym (find-put name_cmp names_total key name bytes streams ∙ ap (λ b. cond b (Some bytes) (find name_cmp key streams)) e)

pub bytes_other : (streams : Streams) (name key bytes : List ℕ) → eq_by_cmp name_cmp key name ≡ false → stream_at key streams ≡ stream_at key (opened (Some name) bytes streams)
bytes_other streams name key bytes e = sym (find-put name_cmp names_total key name bytes streams ∙ ap (λ b. cond b (Some bytes) (find name_cmp key streams)) e)

-- THE ROOT'S OTHER STREAMS

module _ (k : Kept) (key : List ℕ) (other : is_other_name (names_of k.database) key ≡ true) where
  pub at_others : stream_at key (other_streams k) ≡ stream_at key k.streams
  at_others =
      lookups.find_where names_total exact_names (is_other_name (names_of k.database)) key k.streams
      ∙ ap (λ b. cond b (stream_at key k.streams) None) other

  pub has_others : has_stream_at key k.streams ≡ has_stream_at key (other_streams k)
  has_others = ap is_some (sym at_others)

pub has_signature : (k : Kept) → has_stream_at signature_key k.streams ≡ has_stream_at signature_key (other_streams k)
has_signature k = has_others k signature_key (signature_is_other (names_of k.database))

-- the key of an accepted name
parted : (b : Bool) (k key : List ℕ) → Some key ≡ (if b then Some k else None) → (b ≡ true) × (key ≡ k)
parted true k key e = (refl, same_Some key k e)
parted false k key e = absurd cc

refused : (b : Bool) (k : List ℕ) → None ≡ (if b then Some k else None) → b ≡ false
refused true k e = absurd cc
refused false k e = refl

module _ (s : State) (name : List ℕ) where
  pub accepted_there : is_stream_name name ≡ true → has_stream_at (stream_key name) s.kept.streams ≡ has_stream (parts_of s) name
  accepted_there is =
      has_others s.kept (stream_key name) (stream_key_is_other (names_of s.kept.database) name is)
      ∙ ap (λ b. b && has_stream_at (stream_key name) (other_streams s.kept)) (sym is)

  pub has_told : (key : List ℕ) (b : Bool) → Some key ≡ (if is_stream_name name then Some (stream_key name) else None)
      → b ≡ has_stream_at key s.kept.streams → b ≡ has_stream (parts_of s) name
  has_told key b accepted told =
      let is = parted (is_stream_name name) (stream_key name) key accepted in
      told ∙ ap (λ n. has_stream_at n s.kept.streams) is.1 ∙ accepted_there is.0

  pub has_none : None ≡ (if is_stream_name name then Some (stream_key name) else None) → false ≡ has_stream (parts_of s) name
  has_none not_accepted = ap (λ b. b && has_stream_at (stream_key name) (other_streams s.kept)) (sym (refused (is_stream_name name) (stream_key name) not_accepted))

  pub bytes_told : is_stream_name name ≡ true → unwrap_or (stream_at (stream_key name) s.kept.streams) [] ≡ bytes_of_stream (parts_of s) name
  bytes_told is = ap (λ (o : Option (List ℕ)). unwrap_or o []) (sym (at_others s.kept (stream_key name) (stream_key_is_other (names_of s.kept.database) name is)))
