-- What is written of the places of a pool.
use Rattle.std.proofs.Common.{◌≡◌, ℕ, ◌+◌, ◌^◌, ◌<◌, cond, true, false, List, [], ◌∷◌, ◌++◌, length, take, map, Option, Some, None, option_map, refl, sym, ap, ◌∙◌}
use Rattle.std.specs.Prelude.{unwrap_or, option_and_then, slice_get}
use Rattle.std.specs.List.{flat_map}
use Rattle.std.proofs.lemmas.Bool.{not-false, false_from_ne_true, ltb-true, or_parts, eq-eqb}
use Rattle.std.proofs.lemmas.List.{flat_map_more}
use Rattle.std.proofs.lemmas.List.Folds.{flat_map-map}
use Rattle.msi_base.specs.declared.codepage.CodePage.{CodePage}
use Rattle.msi_base.specs.Lists.{all_present}
use Rattle.msi_base.specs.Pages.{bytes_in, page_id}
use Rattle.msi_base.proofs.BoolLemmas.{yes_is_no}
use Rattle.msi_pool_places.specs.Pool.{Entry, Place, Pool, place_bytes, plain_entry, plain_entries, pool_stream, data_stream, header_of}
use Rattle.msi_pool_places.proofs.PlaceLoopLemmas.{one_passes, taken_more}
use Rattle.msi_pool.specs.PoolWriting.{is_refused_spelling, has_refused_text, is_refused, piece_of, entry_in}

-- bytes that can be told are there
pub some_told : (o : Option (List ℕ)) → is_refused_spelling o ≡ false → o ≡ Some (unwrap_or o [])
some_told None told = cc
some_told (Some bytes) told = refl

-- and what has no length can't be told
pub none_refused : (o : Option (List ℕ)) → None ≡ option_map length o → true ≡ is_refused_spelling o
none_refused None none = refl
none_refused (Some bytes) none = cc

-- and not too many
pub told_few : (o : Option (List ℕ)) → is_refused_spelling o ≡ false → length (unwrap_or o []) < 2 ^ 32
told_few None told = cc
told_few (Some bytes) told = ltb-true (length bytes) (2 ^ 32) (not-false _ told)

-- a free place has no bytes
pub free_piece : (page : CodePage) (p : Place) → p.count ≡ 0 → piece_of page p ≡ []
free_piece page p free = ap (λ b. unwrap_or (cond b (Some []) (bytes_in page p.text)) []) (eq-eqb p.count 0 free)

-- its length, as it is asked of the bytes
pub len_told : (o : Option (List ℕ)) (l : Option ℕ) (len : ℕ) → l ≡ option_map length o → len ≡ unwrap_or l 0 → len ≡ length (unwrap_or o [])
len_told None l len l_is is = is ∙ ap (λ (x : Option ℕ). unwrap_or x 0) l_is
len_told (Some bytes) l len l_is is = is ∙ ap (λ (x : Option ℕ). unwrap_or x 0) l_is

-- the entry of a place, by its length and count
pub entry_told : (page : CodePage) (p : Place) (e : Entry) → e.len ≡ length (piece_of page p) → e.count ≡ p.count → plain_entry e ≡ entry_in page p
entry_told page p e len_is count_is =
    ap (λ (len : ℕ). plain_entry (record { len = len; count = e.count })) len_is
    ∙ ap (λ (count : ℕ). plain_entry (record { len = length (piece_of page p); count = count })) count_is

pub pieces_told : (page : CodePage) (places : List Place) → has_refused_text page places ≡ false → all_present (map (place_bytes page) places) ≡ Some (map (piece_of page) places)
pieces_told page [] told = refl
pieces_told page (p ∷ ps) told =
    let parts = or_parts (is_refused_spelling (place_bytes page p)) (has_refused_text page ps) told in
    ap (option_and_then (λ x. option_map (λ xs. x ∷ xs) (all_present (map (place_bytes page) ps)))) (some_told (place_bytes page p) (parts.0))
    ∙ ap (option_map (λ xs. piece_of page p ∷ xs)) (pieces_told page ps (parts.1))

pub entries_told : (page : CodePage) (places : List Place) → plain_entries places (map (piece_of page) places) ≡ flat_map (entry_in page) places
entries_told page [] = refl
entries_told page (p ∷ ps) = ap (λ bytes. entry_in page p ++ bytes) (entries_told page ps)

-- the streams of a pool that isn't refused
pub pool_stream_told : (pool : Pool) → is_refused pool ≡ false → pool_stream pool ≡ Some (header_of (page_id pool.page) pool.long ++ flat_map (entry_in pool.page) pool.places)
pool_stream_told pool told =
    let header = header_of (page_id pool.page) pool.long in
    ap (option_map (λ pieces. header ++ plain_entries pool.places pieces)) (pieces_told pool.page pool.places told)
    ∙ ap (λ bytes. Some (header ++ bytes)) (entries_told pool.page pool.places)

pub data_stream_told : (pool : Pool) → is_refused pool ≡ false → data_stream pool ≡ Some (flat_map (piece_of pool.page) pool.places)
data_stream_told pool told =
    ap (option_map (flat_map (λ piece. piece))) (pieces_told pool.page pool.places told)
    ∙ ap Some (flat_map-map (λ piece. piece) (piece_of pool.page) pool.places)

-- bytes that were written of such a pool
pub pool_written : (pool : Pool) (header held : List ℕ)
    → is_refused pool ≡ false
    → header ≡ header_of (page_id pool.page) pool.long
    → held ≡ header ++ flat_map (entry_in pool.page) pool.places
    → pool_stream pool ≡ Some held
pool_written pool header held told header_is held_is =
    pool_stream_told pool told ∙ ap Some (sym (held_is ∙ ap (λ bytes. bytes ++ flat_map (entry_in pool.page) pool.places) header_is))

pub data_written : (pool : Pool) (start held : List ℕ)
    → is_refused pool ≡ false
    → start ≡ []
    → held ≡ start ++ flat_map (piece_of pool.page) pool.places
    → data_stream pool ≡ Some held
data_written pool start held told start_is held_is =
    data_stream_told pool told ∙ ap Some (sym (held_is ∙ ap (λ bytes. bytes ++ flat_map (piece_of pool.page) pool.places) start_is))

-- ---- loops over the places

-- none of the places is refused, so no one of them is
pub told_at : (page : CodePage) (places : List Place) (i : ℕ) (p : Place) → has_refused_text page places ≡ false → slice_get places i ≡ Some p
    → is_refused_spelling (place_bytes page p) ≡ false
told_at page places i p told is =
    let refused = λ (q : Place). is_refused_spelling (place_bytes page q) in
    false_from_ne_true (refused p) (λ t. yes_is_no (has_refused_text page places) (one_passes refused places i p is t) told)

-- the bytes of one place more
pub bytes_more : {X : Type 0} (f : X → List ℕ) (start now new : List ℕ) (xs : List X) (i : ℕ) (x : X) → slice_get xs i ≡ Some x
    → now ≡ start ++ flat_map f (take i xs) → new ≡ now ++ f x → new ≡ start ++ flat_map f (take (i + 1) xs)
bytes_more f start now new xs i x is so_far pushed =
    pushed ∙ ap (λ (l : List ℕ). l ++ f x) so_far ∙ flat_map_more f start (take i xs) x
    ∙ ap (λ ys. start ++ flat_map f ys) (taken_more xs (take i xs) (take i xs ++ x ∷ []) i x is refl refl)
