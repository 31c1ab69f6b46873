-- The streams of a view by their names, and reading on.
use Rattle.std.proofs.Common.{◌≡◌, ℕ, ◌+◌, ◌≤◌, Bool, true, false, cond, List, [], ◌∷◌, map, Option, Some, None, option_map, sym, ap, ◌∙◌, refl}
use Rattle.std.specs.FinMap.{entries, get, get-entries, get-from_entries}
use Rattle.std.specs.Option.{option_map_or}
use Rattle.std.specs.Ordering.{eq_by_cmp}
use Rattle.std.specs.FinMap.Entries.{find}
use Rattle.std.specs.Prelude.{unwrap_or}
use Rattle.msi_container_format.specs.Names.{name_cmp}
use Rattle.msi_container_format.proofs.NamesLemmas.{names_total}
use Rattle.msi_container_view.specs.Extents.{Extent, bytes_of, size_of}
use Rattle.msi_container_view.specs.Views.{Located, streams_at, extents_at}

found_mapped : (file q : List ℕ) (es : List (List ℕ × List Extent)) → find name_cmp q (map (λ e. (e.0, bytes_of file e.1)) es) ≡ option_map (bytes_of file) (find name_cmp q es)
found_mapped file q [] = refl
found_mapped file q (e ∷ es) = go (eq_by_cmp name_cmp q e.0) (found_mapped file q es) where
  go : (b : Bool) → find name_cmp q (map (λ e. (e.0, bytes_of file e.1)) es) ≡ option_map (bytes_of file) (find name_cmp q es)
      → cond b (Some (bytes_of file e.1)) (find name_cmp q (map (λ e. (e.0, bytes_of file e.1)) es)) ≡ option_map (bytes_of file) (cond b (Some e.1) (find name_cmp q es))
  go true same = refl
  go false same = same

-- the pieces of a name
pub extents_are : (m : Located) (q : List ℕ) → get m q ≡ extents_at q (entries m)
extents_are m q = get-entries m q ∙ sym (get-from_entries names_total (entries m) q)

-- their bytes are the stream's
pub bytes_are : (file : List ℕ) (located : List (List ℕ × List Extent)) (q : List ℕ) → get (streams_at file located) q ≡ option_map (bytes_of file) (extents_at q located)
bytes_are file located q =
    get-from_entries names_total (map (λ e. (e.0, bytes_of file e.1)) located) q
    ∙ found_mapped file q located
    ∙ ap (option_map (bytes_of file)) (sym (get-from_entries names_total located q))

-- what a look-up in the map found
pub found_some : (m : Located) (located : List (List ℕ × List Extent)) (q : List ℕ) (extents : List Extent) → entries m ≡ located → Some extents ≡ get m q → extents_at q located ≡ Some extents
found_some m located q extents listed is = rw (← listed) (sym (extents_are m q) ∙ sym is)

pub found_none : (m : Located) (located : List (List ℕ × List Extent)) (q : List ℕ) → entries m ≡ located → None ≡ get m q → extents_at q located ≡ None
found_none m located q listed is = rw (← listed) (sym (extents_are m q) ∙ sym is)

-- a stream that is there was read on
pub counted_some : (located : List (List ℕ × List Extent)) (q : List ℕ) (extents : List Extent) (old new : ℕ)
    → extents_at q located ≡ Some extents → new ≤ old + size_of extents → new ≤ old + option_map_or size_of (extents_at q located) 0
counted_some located q extents old new there is = rw there is

-- the bytes that were read are those of the stream
pub bytes_found : (file : List ℕ) (located : List (List ℕ × List Extent)) (q bytes : List ℕ) (extents : List Extent)
    → extents_at q located ≡ Some extents → bytes ≡ bytes_of file extents → Some bytes ≡ get (streams_at file located) q
bytes_found file located q bytes extents there is = ap Some is ∙ sym (bytes_are file located q ∙ ap (option_map (bytes_of file)) there)

pub bytes_missing : (file : List ℕ) (located : List (List ℕ × List Extent)) (q : List ℕ)
    → extents_at q located ≡ None → None ≡ get (streams_at file located) q
bytes_missing file located q none = sym (bytes_are file located q ∙ ap (option_map (bytes_of file)) none)

pub written_found : (file : List ℕ) (located : List (List ℕ × List Extent)) (q : List ℕ) (extents : List Extent)
    → extents_at q located ≡ Some extents → unwrap_or (get (streams_at file located) q) [] ≡ bytes_of file extents
written_found file located q extents there = ap (λ (o : Option (List ℕ)). unwrap_or o []) (bytes_are file located q ∙ ap (option_map (bytes_of file)) there)

pub written_missing : (file : List ℕ) (located : List (List ℕ × List Extent)) (q : List ℕ)
    → extents_at q located ≡ None → unwrap_or (get (streams_at file located) q) [] ≡ []
written_missing file located q none = ap (λ (o : Option (List ℕ)). unwrap_or o []) (bytes_are file located q ∙ ap (option_map (bytes_of file)) none)
