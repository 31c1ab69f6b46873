-- What is written of places is read as them.
use Rattle.std.proofs.Common.{◌≡◌, ℕ, ◌^◌, ◌<◌, ◌≤◌, ◌++◌, Bool, cond, eqb, ltb, not, ◌&&◌, true, false, List, [], ◌∷◌, length, map, inl, inr, refl, sym, ap, ◌∙◌, subst, append_assoc, arith}
use Rattle.std.specs.List.{flat_map}
use Rattle.std.proofs.lemmas.Bool.{cases_eq, cases_Bool, or_parts, or_from, or_left, or_right, and_parts, eq-eqb, ne_eqb, ltb-true}
use Rattle.std.proofs.lemmas.List.{length-map}
use Rattle.msi_base.specs.declared.codepage.CodePage.TheVariants as page
use Rattle.msi_base.proofs.BoolLemmas.{not_not}
use Rattle.msi_base.proofs.PagesLemmas.{utf8_texts_come_back}
use Rattle.msi_pool_places.specs.Pool.{Place, Entry, IsPool, header_of, short_entry, long_entry, plain_entry, SpellsEntry, SpellsEntries, SpellsTexts, CountsFit, HaveUtf8Texts}
use Rattle.msi_recode.specs.PoolRecoding.{entry_of, is_long, has_long, entries_written, texts_written}

-- what is written of an entry spells it
entry_spelled : (e : Entry) → e.count < 2 ^ 16 → (e.count ≡ 0 → e.len < 2 ^ 16) → e.len < 2 ^ 32 → SpellsEntry (plain_entry e) e
entry_spelled e count free long = elim (cases_eq e.count 0) [
  | inl none ↦
      let short : plain_entry e ≡ short_entry e = ap (λ b. cond b (short_entry e) (long_entry e)) (or_left (eqb e.count 0) (ltb 0 e.len && ltb e.len (2 ^ 16)) (eq-eqb e.count 0 none)) in
      (count, inl (inr none, free none, short))
  | inr used ↦ elim (cases_Bool (ltb 0 e.len && ltb e.len (2 ^ 16))) [
    | inl fits ↦
        let short : plain_entry e ≡ short_entry e = ap (λ b. cond b (short_entry e) (long_entry e)) (or_right (eqb e.count 0) (ltb 0 e.len && ltb e.len (2 ^ 16)) fits) in
        let parts = and_parts (ltb 0 e.len) (ltb e.len (2 ^ 16)) fits in
        (count, inl (inl (ltb-true 0 e.len (parts.0)), ltb-true e.len (2 ^ 16) (parts.1), short))
    | inr other ↦
        let wide : plain_entry e ≡ long_entry e = ap (λ b. cond b (short_entry e) (long_entry e)) (or_from (eqb e.count 0) (ltb 0 e.len && ltb e.len (2 ^ 16)) (ne_eqb e.count 0 used) other) in
        (count, inr (omega arith, long, wide))
  ]
]

-- a length that isn't too long
pub below : (e : Entry) → is_long e ≡ false → e.len < cond (eqb e.count 0) (2 ^ 16) (2 ^ 32)
below e h = ltb-true _ _ (not_not (ltb e.len (cond (eqb e.count 0) (2 ^ 16) (2 ^ 32))) ∙ ap not h)

pub free_below : (e : Entry) → is_long e ≡ false → e.count ≡ 0 → e.len < 2 ^ 16
free_below e h free = subst (λ b. e.len < cond b (2 ^ 16) (2 ^ 32)) (eq-eqb e.count 0 free) (below e h)

pub any_below : (e : Entry) → is_long e ≡ false → e.len < 2 ^ 32
any_below e h = elim (cases_Bool (eqb e.count 0)) [
  | inl free ↦ let few = subst (λ b. e.len < cond b (2 ^ 16) (2 ^ 32)) free (below e h) in omega arith
  | inr used ↦ subst (λ b. e.len < cond b (2 ^ 16) (2 ^ 32)) used (below e h)
]

entries_spelled : (places : List Place) → CountsFit places → has_long places ≡ false → SpellsEntries (entries_written places) (map entry_of places)
entries_spelled [] counts short = omega arith
entries_spelled (p ∷ ps) counts short =
    let parts = or_parts (is_long (entry_of p)) (has_long ps) short in (
      plain_entry (entry_of p),
      entries_written ps,
      refl,
      entry_spelled (entry_of p) (counts.0) (free_below (entry_of p) (parts.0)) (any_below (entry_of p) (parts.0)),
      entries_spelled ps (counts.1) (parts.1),
    )

texts_spelled : (places : List Place) → HaveUtf8Texts places → SpellsTexts page.Utf8 (texts_written places) (map entry_of places) places
texts_spelled [] utf8 = tt
texts_spelled (p ∷ ps) utf8 = (
  p.text,
  texts_written ps,
  refl,
  refl,
  utf8_texts_come_back p.text (utf8.0),
  refl,
  texts_spelled ps (utf8.1),
)

pub streams_are_pool : (long : Bool) (places : List Place) (entries texts : List ℕ) → length places ≤ 16777215 → CountsFit places
    → has_long places ≡ false → HaveUtf8Texts places → entries ≡ header_of 65001 long ++ entries_written places → texts ≡ texts_written places
    → IsPool entries texts (record { page = page.Utf8; long = long; places = places })
streams_are_pool long places entries texts few counts short utf8 entries_are texts_are =
    let count : length (map entry_of places) ≡ length places = length-map places entry_of in (
      map entry_of places,
      (65001, entries_written places, omega arith, refl, entries_are, entries_spelled places counts short, omega arith),
      subst (λ ts. SpellsTexts page.Utf8 ts (map entry_of places) places) (sym texts_are) (texts_spelled places utf8),
    )
