-- In which order calls on streams are refused.
use Rattle.std.proofs.Common.{◌≡◌, ℕ, Bool, true, false, not, List, [], ◌∷◌, Option, Some, None, is_some, refl, sym, ap, subst, ◌∙◌}
use Rattle.std.specs.Prelude.{Result, Ok, Err, unwrap_or}
use Rattle.msi_base.specs.declared.errors.ErrorKind.{ErrorKind}
use Rattle.msi_base.specs.declared.errors.ErrorKind.TheVariants.{InvalidInput, NotFound}
use Rattle.msi_base.specs.Refusals.{Refusals, first_refusal, unless, unless_refused}
use Rattle.msi_database_schema.specs.Keys.{is_stream_name, stream_key}
use Rattle.msi_database_storage.specs.Streams.{has_stream_at, stream_at}
use Rattle.msi.specs.State.{State, parts_of}
use Rattle.msi.specs.Steps.{bytes_of_stream, has_stream, name_refusals, storage_refusal}
use Rattle.msi.specs.Whole.{Whole}
use Rattle.msi.proofs.named_streams.StreamCallLemmas.{accepted_there, bytes_told}

-- no storages, an accepted name, and a stream that is there
abbrev refuse_name : Bool → Refusals
refuse_name accepted = (not accepted, InvalidInput) ∷ []

abbrev refuse_two : Bool → Bool → Refusals
refuse_two accepted there = (not accepted, InvalidInput) ∷ (not there, NotFound) ∷ []

abbrev refuse_three : Bool → Bool → Bool → Refusals
refuse_three storages accepted there = (storages, InvalidInput) ∷ (not accepted, InvalidInput) ∷ (not there, NotFound) ∷ []

name_passes : (a : Bool) (key k : List ℕ) → ◌≡◌ {A = Result (List ℕ) ErrorKind} (Ok key) (unless_refused (refuse_name a) k) → (a ≡ true) × (key ≡ k)
name_passes true key k e = (refl, cc)
name_passes false key k e = absurd cc

storages_pass : (b : Bool) → ◌≡◌ {A = Result (Unit {0}) ErrorKind} (Ok tt) (unless_refused ((b, InvalidInput) ∷ []) tt) → b ≡ false
storages_pass true e = absurd cc
storages_pass false e = refl

two_pass : (a h : Bool) → a ≡ true → h ≡ true → first_refusal (refuse_two a h) ≡ None
two_pass a h x y = rw (x, y) refl

two_missing : (a h : Bool) → a ≡ true → h ≡ false → first_refusal (refuse_two a h) ≡ Some NotFound
two_missing a h x y = rw (x, y) refl

three_pass : (s a h : Bool) → s ≡ false → first_refusal (refuse_three s a h) ≡ first_refusal (refuse_two a h)
three_pass s a h x = rw x refl

first_name : (s a : Bool) → s ≡ false → first_refusal ((s, InvalidInput) ∷ refuse_name a) ≡ first_refusal (refuse_name a)
first_name s a x = rw x refl

accepted_passes : (a : Bool) → a ≡ true → first_refusal (refuse_name a) ≡ None
accepted_passes a x = rw x refl

module _ (s : State) (name : List ℕ) where
  abbrev is_accepted : Bool
  is_accepted = is_stream_name name

  abbrev is_there : Bool
  is_there = has_stream (parts_of s) name

  module _ (key : List ℕ) (checked : ◌≡◌ {A = Result (List ℕ) ErrorKind} (Ok key) (unless_refused (refuse_name is_accepted) (stream_key name))) where
    pub key_accepted : is_accepted ≡ true
    key_accepted = (name_passes is_accepted key (stream_key name) checked).0

    pub key_is : key ≡ stream_key name
    key_is = (name_passes is_accepted key (stream_key name) checked).1

    pub there_told : (b : Bool) → b ≡ has_stream_at key s.kept.streams → b ≡ is_there
    there_told b told = told ∙ ap (λ n. has_stream_at n s.kept.streams) key_is ∙ accepted_there s name key_accepted

    -- a stream that is read
    pub read_passes : (bytes : List ℕ) → Some bytes ≡ stream_at key s.kept.streams → first_refusal (refuse_two is_accepted is_there) ≡ None
    read_passes bytes found = two_pass is_accepted is_there key_accepted (sym (there_told true (ap is_some found)))

    pub read_bytes : (bytes : List ℕ) → Some bytes ≡ stream_at key s.kept.streams → bytes ≡ bytes_of_stream (parts_of s) name
    read_bytes bytes found =
        ap (λ (o : Option (List ℕ)). unwrap_or o []) (found ∙ ap (λ n. stream_at n s.kept.streams) key_is)
        ∙ bytes_told s name key_accepted

    pub read_missing : None ≡ stream_at key s.kept.streams → first_refusal (refuse_two is_accepted is_there) ≡ Some NotFound
    read_missing none = two_missing is_accepted is_there key_accepted (sym (there_told false (ap is_some none)))

    -- one that is written or removed, where no storages lie below the root
    module _ (passes : ◌≡◌ {A = Result (Unit {0}) ErrorKind} (Ok tt) (unless_refused (storage_refusal (parts_of s)) tt)) where
      pub write_passes : first_refusal (name_refusals (parts_of s) name) ≡ None
      write_passes = first_name s.has_storages is_accepted (storages_pass s.has_storages passes) ∙ accepted_passes is_accepted key_accepted

      pub removal_passes : (b : Bool) → b ≡ has_stream_at key s.kept.streams → b ≡ true
          → ◌≡◌ {A = Result (Unit {0}) ErrorKind} (Ok tt) (unless_refused (refuse_three s.has_storages is_accepted is_there) tt)
      removal_passes b told there =
          sym (ap (λ (o : Option ErrorKind). unless o tt) (three_pass s.has_storages is_accepted is_there (storages_pass s.has_storages passes)
          ∙ two_pass is_accepted is_there key_accepted (sym (there_told b told) ∙ there)))

      pub removal_missing : (b : Bool) → b ≡ has_stream_at key s.kept.streams → b ≡ false
          → ◌≡◌ {A = Result (Unit {0}) ErrorKind} (Err NotFound) (unless_refused (refuse_three s.has_storages is_accepted is_there) tt)
      removal_missing b told absent =
          sym (ap (λ (o : Option ErrorKind). unless o tt) (three_pass s.has_storages is_accepted is_there (storages_pass s.has_storages passes)
          ∙ two_missing is_accepted is_there key_accepted (sym (there_told b told) ∙ absent)))

-- what the view of a package passes, the package passes
abbrev PassesStorages : Whole → Type 0
PassesStorages w = ◌≡◌ {A = Result (Unit {0}) ErrorKind} (Ok tt) (unless_refused (storage_refusal (parts_of w.state)) tt)

pub storages_seen : (view old : Whole) → view ≡ old → PassesStorages view → PassesStorages old
storages_seen view old is passes = subst PassesStorages is passes
