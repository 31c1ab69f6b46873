-- How many bytes the reading of streams takes, one behind the other.
use Rattle.std.proofs.Common.{◌≡◌, ℕ, ◌+◌, List, [], ◌∷◌, ◌++◌, ap, ◌<◌, map, take, drop, length, get_or, arith, refl, sym, subst, ◌∙◌}
use Rattle.std.specs.Prelude.{sum_by}
use Rattle.std.proofs.lemmas.List.Sums.{sum_by-append}
use Rattle.std.proofs.lemmas.List.{map-append, take_more, take-append-drop}
use Rattle.std.specs.Option.{option_map_or}
use Rattle.msi_container_view.specs.declared.extents.Extent.{Extent}
use Rattle.msi_container_view.specs.Extents.{size_of}
use Rattle.msi_container_view.specs.Views.{View, extents_at}
use Rattle.msi_view.specs.Looking.{ReadsStreams}

-- the sizes of these streams together
abbrev pub sizes : List (List ℕ × List Extent) → List (List ℕ) → ℕ
sizes located names = sum_by (λ name. option_map_or size_of (extents_at name located) 0) names

sizes_of_both : (located : List (List ℕ × List Extent)) (names more : List (List ℕ)) → sizes located (names ++ more) ≡ sizes located names + sizes located more
sizes_of_both located names more = sum_by-append (λ name. option_map_or size_of (extents_at name located) 0) names more

-- nothing was read
pub reads_nothing : (v : View) (names : List (List ℕ)) → ReadsStreams v v names
reads_nothing v names = record { told = refl; clsids = refl; storages = refl; streams = refl; read = omega arith }

-- who reads fewer streams reads no more bytes
pub reads_fewer : (old new : View) (names more : List (List ℕ)) → ReadsStreams old new names → ReadsStreams old new (names ++ more)
reads_fewer old new names more h = record {
  told = h.told;
  clsids = h.clsids;
  storages = h.storages;
  streams = h.streams;
  read = omega (arith, h.read, sizes_of_both old.streams names more);
}

-- some streams, and then others
pub reads_both : (old mid new : View) (names more : List (List ℕ)) → ReadsStreams old mid names → ReadsStreams mid new more → ReadsStreams old new (names ++ more)
reads_both old mid new names more h k = record {
  told = k.told ∙ h.told;
  clsids = k.clsids ∙ h.clsids;
  storages = k.storages ∙ h.storages;
  streams = k.streams ∙ h.streams;
  read = omega (arith, h.read, k.read, sizes_of_both old.streams names more, ap (λ located. sizes located more) h.streams);
}

-- the streams of some tables, and then those of others
pub reads_joined : (key : List ℕ → List ℕ) (old mid new : View) (tables ts us : List (List ℕ)) → tables ≡ ts ++ us
    → ReadsStreams old mid (map key ts) → ReadsStreams mid new (map key us) → ReadsStreams old new (map key tables)
reads_joined key old mid new tables ts us are h k =
    subst (ReadsStreams old new) (sym (ap (map key) are ∙ map-append key ts us)) (reads_both old mid new (map key ts) (map key us) h k)

-- the next of several streams, and those that were read before an error
module _ {X : Type 0} (key : X → List ℕ) (xs : List X) where
  keys_more : (i : ℕ) (x : X) → i < length xs → x ≡ get_or xs i x → map key (take (i + 1) xs) ≡ map key (take i xs) ++ key x ∷ []
  keys_more i x lt is =
      ap (map key) (take_more xs i x lt) ∙ map-append key (take i xs) (get_or xs i x ∷ [])
      ∙ ap (λ y. map key (take i xs) ++ key y ∷ []) (sym is)

  pub reads_next : (old mid new : View) (i : ℕ) (x : X) → i < length xs → x ≡ get_or xs i x
      → ReadsStreams old mid (map key (take i xs)) → ReadsStreams mid new (key x ∷ []) → ReadsStreams old new (map key (take (i + 1) xs))
  reads_next old mid new i x lt is h k =
      subst (ReadsStreams old new) (sym (keys_more i x lt is)) (reads_both old mid new (map key (take i xs)) (key x ∷ []) h k)

  pub reads_until : (old new : View) (i : ℕ) → ReadsStreams old new (map key (take i xs)) → ReadsStreams old new (map key xs)
  reads_until old new i h =
      subst (ReadsStreams old new) (sym (map-append key (take i xs) (drop i xs)) ∙ ap (map key) (take-append-drop i xs))
      (reads_fewer old new (map key (take i xs)) (map key (drop i xs)) h)
