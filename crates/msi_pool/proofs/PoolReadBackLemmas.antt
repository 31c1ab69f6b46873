-- What was written of a pool is read as the pool.
use Rattle.std.proofs.Common.{◌≡◌, ℕ, ◌^◌, ◌<◌, cond, eqb, ltb, ◌&&◌, true, false, List, [], ◌∷◌, length, map, Option, Some, None, inl, inr, refl, sym, ap, ◌∙◌, subst, arith}
use Rattle.std.specs.Prelude.{unwrap_or, option_and_then}
use Rattle.std.specs.List.{flat_map, AllByRecursion}
use Rattle.std.proofs.lemmas.Bool.{cases_eq, cases_Bool, or_parts, or_from, or_left, or_right, and_parts, eq-eqb, ne_eqb, ltb-true}
use Rattle.std.proofs.lemmas.List.{length-map}
use Rattle.std.proofs.lemmas.Option.{same_Some}
use Rattle.msi_base.specs.declared.codepage.CodePage.{CodePage}
use Rattle.msi_base.specs.Pages.{IsWritable, text_in, bytes_in, page_id}
use Rattle.msi_pool_places.specs.Pool.{Place, Entry, short_entry, long_entry, plain_entry, entry_of, place_bytes, SpellsEntry, SpellsEntries, SpellsTexts, CountsFit, forgotten}
use Rattle.msi_pool.specs.PoolWriting.{has_refused_text, is_refused_spelling, piece_of, entry_in}
use Rattle.msi_pool.specs.PoolLaws.{PoolsReadBack}
use Rattle.msi_base.proofs.PagesLemmas.{page_named, page_small, empty_reads}
use Rattle.msi_pool.proofs.PoolWritingLemmas.{told_few, free_piece, pool_stream_told, data_stream_told}

-- what is written of an entry spells it
entry_spelled : (e : Entry) → e.count < 2 ^ 16 → (e.count ≡ 0 → e.len ≡ 0) → e.len < 2 ^ 32 → SpellsEntry (plain_entry e) e
entry_spelled e count free long = elim (cases_eq e.count 0) [
  | inl none ↦
      let short : plain_entry e ≡ short_entry e = ap (λ b. cond b (short_entry e) (long_entry e)) (or_left (eqb e.count 0) (ltb 0 e.len && ltb e.len (2 ^ 16)) (eq-eqb e.count 0 none)) in
      let empty = free none in
      (count, inl (inr none, omega arith, short))
  | inr used ↦ elim (cases_Bool (ltb 0 e.len && ltb e.len (2 ^ 16))) [
    | inl fits ↦
        let short : plain_entry e ≡ short_entry e = ap (λ b. cond b (short_entry e) (long_entry e)) (or_right (eqb e.count 0) (ltb 0 e.len && ltb e.len (2 ^ 16)) fits) in
        let parts = and_parts (ltb 0 e.len) (ltb e.len (2 ^ 16)) fits in
        (count, inl (inl (ltb-true 0 e.len (parts.0)), ltb-true e.len (2 ^ 16) (parts.1), short))
    | inr not ↦
        let wide : plain_entry e ≡ long_entry e = ap (λ b. cond b (short_entry e) (long_entry e)) (or_from (eqb e.count 0) (ltb 0 e.len && ltb e.len (2 ^ 16)) (ne_eqb e.count 0 used) not) in
        (count, inr (omega arith, long, wide))
  ]
]

reads_some : (f : List ℕ → Option (List ℕ)) (o : Option (List ℕ)) (text : List ℕ) → option_and_then f o ≡ Some text → f (unwrap_or o []) ≡ Some text
reads_some f None text h = cc
reads_some f (Some bytes) text h = h

-- what is written of a place reads as its text, and as the empty one where it is free
place_reads : (page : CodePage) (p : Place) → (0 < p.count → IsWritable page p.text) → text_in page (piece_of page p) ≡ Some (forgotten false p).text
place_reads page p writable = elim (cases_eq p.count 0) [
  | inl free ↦
      ap (text_in page) (free_piece page p free)
      ∙ empty_reads page
      ∙ ap (λ b. Some (cond (b && true) [] p.text)) (sym (eq-eqb p.count 0 free))
  | inr used ↦
      ap (λ b. text_in page (unwrap_or (cond b (Some []) (bytes_in page p.text)) [])) (ne_eqb p.count 0 used)
      ∙ reads_some (text_in page) (bytes_in page p.text) p.text (writable (omega arith))
      ∙ ap (λ b. Some (cond (b && true) [] p.text)) (sym (ne_eqb p.count 0 used))
]

entries_spelled : (page : CodePage) (places : List Place) → CountsFit places → has_refused_text page places ≡ false
    → SpellsEntries (flat_map (entry_in page) places) (map (λ p. entry_of p (piece_of page p)) places)
entries_spelled page [] counts told = omega arith
entries_spelled page (p ∷ ps) counts told =
    let parts = or_parts (is_refused_spelling (place_bytes page p)) (has_refused_text page ps) told in (
      entry_in page p,
      flat_map (entry_in page) ps,
      refl,
      entry_spelled (entry_of p (piece_of page p)) (counts.0) (λ free. ap length (free_piece page p free)) (told_few (place_bytes page p) (parts.0)),
      entries_spelled page ps (counts.1) (parts.1),
    )

texts_spelled : (page : CodePage) (places : List Place) → AllByRecursion (λ p. (0 < p.count) → IsWritable page p.text) places
    → SpellsTexts page (flat_map (piece_of page) places) (map (λ p. entry_of p (piece_of page p)) places) (map (forgotten false) places)
texts_spelled page [] writable = tt
texts_spelled page (p ∷ ps) writable = (
  piece_of page p,
  flat_map (piece_of page) ps,
  refl,
  refl,
  place_reads page p (writable.0),
  refl,
  texts_spelled page ps (writable.1),
)

pub pools_read_back : PoolsReadBack
pools_read_back pool few counts told stream texts stream_is texts_are writable =
    let entry : Place → Entry = λ p. entry_of p (piece_of pool.page p) in
    let entries = map entry pool.places in
    let long : length entries ≡ length pool.places = length-map pool.places entry in
    let stream_told = same_Some stream _ (sym stream_is ∙ pool_stream_told pool told) in
    let texts_told = same_Some texts _ (sym texts_are ∙ data_stream_told pool told) in (
      entries,
      (
        page_id pool.page,
        flat_map (entry_in pool.page) pool.places,
        page_small pool.page,
        page_named pool.page,
        stream_told,
        entries_spelled pool.page pool.places counts told,
        omega arith,
      ),
      subst (λ ts. SpellsTexts pool.page ts entries (map (forgotten false) pool.places)) (sym texts_told) (texts_spelled pool.page pool.places writable),
    )
