-- The pool of a sound package: none of its free places is named, so the streams of the pool spell it with all of them empty.
use Rattle.std.proofs.Common.{◌≡◌, ℕ, zero, suc, ◌+◌, ◌<◌, ◌≤◌, Bool, true, false, not, ◌&&◌, ◌==◌, nat_le, List, [], ◌∷◌, map, length, slice_get, refl, sym, ap, subst, ◌∙◌, arith}
use Rattle.std.specs.Prelude.{if◌then◌else◌}
use Rattle.std.specs.List.{list_any, enumerate_from}
use Rattle.std.proofs.lemmas.Bool.{leb-true, eqb-true}
use Rattle.msi_pool.specs.FirstFit.{count_of}
use Rattle.msi_pool.specs.Pool.{Pool, Place, forgotten}
use Rattle.msi_pool.specs.Pool as pools
use Rattle.msi_database.specs.Database.{Database, is_sound, named_numbers, cells_naming}
use Rattle.msi_database_storage.specs.Streams.{Streams}
use Rattle.msi_database_storage.specs.Agreement.{DatabaseIs, is_shown}
use Rattle.msi_database.proofs.soundness.SoundLemmas.{sound_is}
use Rattle.msi_database.proofs.soundness.NamedPlacesLemmas.{shown_named}
use Rattle.msi_database.proofs.opening.OpenedLemmas.{none_counted, each_tabulated, forgotten_count_at, forgotten_length}
use Rattle.msi.specs.Meaning.{PoolIs, RawPoolIs, shown_pool}

-- FREE PLACES ARE NOT NAMED

-- no cell names a free place of a sound database
abbrev pub FreeUnnamed : (ℕ → Bool) → List Place → Type 0
FreeUnnamed is_named places = (i : ℕ) → i < length places → count_of (slice_get places i) ≡ 0 → is_named (i + 1) ≡ false

pub sound_unnamed : (streams : Streams) (d : Database) → DatabaseIs streams d → is_sound d ≡ true → FreeUnnamed (is_shown streams d) d.pool.places
sound_unnamed streams d spelled sound i l zeroed =
    let tests = sound_is d sound in
    let enough : nat_le (cells_naming d (i + 1)) (count_of (slice_get d.pool.places i)) ≡ true =
    ap (λ j. nat_le (cells_naming d (j + 1)) (count_of (slice_get d.pool.places j))) (omega arith)
    ∙ each_tabulated (λ j. nat_le (cells_naming d (j + 1)) (count_of (slice_get d.pool.places j))) 0 (length d.pool.places) tests.suffice i (omega (arith, l)) in
    let most : cells_naming d (i + 1) ≤ count_of (slice_get d.pool.places i) = leb-true _ _ enough in
    let none : list_any (λ n. n == i + 1) (named_numbers d) ≡ false = none_counted (λ n. n == i + 1) (named_numbers d) (omega (arith, most, zeroed)) in
    shown_named streams d spelled.tables spelled.unlisted tests.standard (i + 1) ∙ none

-- A POOL WHOSE FREE PLACES ARE EMPTY

-- where no free place is named, each loses its text
lost_by : (p : Place) (named free : Bool) → (p.count == 0) ≡ free → (p.count ≡ 0 → named ≡ false) → (if free && not named then [] else p.text) ≡ (if free && not false then [] else p.text)
lost_by p named false e h = refl
lost_by p named true e h = ap (λ b. if not b then [] else p.text) (h (eqb-true p.count 0 e))

lost_each : (is_named : ℕ → Bool) (k : ℕ) (ps : List Place) → ((i : ℕ) → i < length ps → count_of (slice_get ps i) ≡ 0 → is_named (k + i) ≡ false)
    → map (λ e. forgotten (is_named e.0) e.1) (enumerate_from k ps) ≡ map (forgotten false) ps
lost_each is_named k [] h = refl
lost_each is_named k (p ∷ ps) h = λ i. record {
  text = lost_by p (is_named k) (p.count == 0) refl (λ zeroed. ap is_named (omega arith) ∙ h 0 (omega arith) zeroed) i;
  count = p.count;
} ∷ lost_each is_named (k + 1) ps (λ j l zeroed. ap is_named (omega arith) ∙ h (suc j) (omega (arith, l)) zeroed) i

-- so a sound package's pool is spelled with each free place empty, whatever test shows that none is named
pub shown_is_written : (is_named : ℕ → Bool) (raw : Pool) → FreeUnnamed is_named (shown_pool is_named raw).places → shown_pool is_named raw ≡ pools.as_written raw
shown_is_written is_named raw free = λ i. record raw {
  places = lost_each is_named 1 raw.places (λ j l zeroed.
      ap is_named (omega arith) ∙ free j (omega (arith, l, forgotten_length is_named 1 raw.places)) (forgotten_count_at is_named 1 raw.places j ∙ zeroed)) i;
}

module _ (streams : Streams) (d : Database) (spelled : DatabaseIs streams d) (sound : is_sound d ≡ true) where
  -- a sound package's pool is its raw pool, as it is written
  pub pool_as_written : (pool : PoolIs streams d) → d.pool ≡ pools.as_written pool.0
  pool_as_written (raw, held, is) = is ∙ shown_is_written (is_shown streams d) raw
      (subst (λ (p : Pool). FreeUnnamed (is_shown streams d) p.places) is (sound_unnamed streams d spelled sound))

  -- and where that is so, the streams spell it
  written_free : (raw : Pool) → d.pool ≡ pools.as_written raw → FreeUnnamed (is_shown streams d) raw.places
  written_free raw is i l zeroed =
      let places : d.pool.places ≡ map (forgotten false) raw.places = ap (λ (p : Pool). p.places) is in
      sound_unnamed streams d spelled sound i
      (omega (arith, l, ap length places ∙ plain_length raw.places))
      (ap (λ (ps : List Place). count_of (slice_get ps i)) places ∙ plain_count raw.places i ∙ zeroed) where
        plain_length : (ps : List Place) → length (map (forgotten false) ps) ≡ length ps
        plain_length [] = refl
        plain_length (p ∷ ps) = ap suc (plain_length ps)

        plain_count : (ps : List Place) (i : ℕ) → count_of (slice_get (map (forgotten false) ps) i) ≡ count_of (slice_get ps i)
        plain_count [] i = refl
        plain_count (p ∷ ps) zero = refl
        plain_count (p ∷ ps) (suc i) = plain_count ps i

  pub pool_spelled : (raw : Pool) → RawPoolIs streams raw → d.pool ≡ pools.as_written raw → PoolIs streams d
  pool_spelled raw held is = (
    raw,
    held,
    is ∙ sym (λ i. record raw {
      places = lost_each (is_shown streams d) 1 raw.places (λ j l zeroed.
          ap (is_shown streams d) (omega arith) ∙ written_free raw is j l zeroed) i;
    }),
  )
