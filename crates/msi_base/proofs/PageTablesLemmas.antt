-- What callers need of the tables of code pages, and what holds of them.
use Rattle.std.proofs.Common.{◌≡◌, ℕ, zero, suc, ◌+◌, ◌-◌, ◌<◌, Bool, true, false, cond, not, eqb, ltb, ◌&&◌, List, [], ◌∷◌, ◌++◌, map, length, get_or, take, Option, Some, None, option_map, position, slice_get, encode_utf8, encode_utf8_all, inl, inr, refl, sym, ap, ◌∙◌, arith}
use Rattle.std.specs.List.{list_all}
use Rattle.std.proofs.Math.Utf8.{scalar, low_scalar}
use Rattle.std.proofs.lemmas.Bool.{and_parts, cases_Bool, not-true, ltb-true, ltb-false, lt-ltb, le-ltb, eqb-true, eq-eqb}
use Rattle.std.proofs.lemmas.List.{append-nil, map_more}
use Rattle.std.proofs.lemmas.List.Quantifiers.{position-Some}
use Rattle.std.proofs.lemmas.List.Sums.{position_or_len_is}
use Rattle.std.proofs.lemmas.Option.{same_Some, slice_get_within, slice_get-get_or, get_or_from_slice_get}
use Rattle.std.proofs.lemmas.Str.{encodes-append}
use Rattle.msi_base.specs.declared.codepage.CodePage.{CodePage}
use Rattle.msi_base.specs.declared.codepage.CodePage.TheVariants as page
use Rattle.msi_base.specs.PageTables.{windows_1252, macintosh_roman, upper_characters, character_of, byte_of, character_read, PageTablesAgree}
use Rattle.msi_base.proofs.OptionLemmas.{map_some}

-- the text of one byte more
pub text_more : (upper bytes : List ℕ) (i : ℕ) → i < length bytes
    → encode_utf8_all (map (character_read upper) (take (i + 1) bytes)) ≡ encode_utf8_all (map (character_read upper) (take i bytes)) ++ encode_utf8 (character_read upper (get_or bytes i 0))
text_more upper bytes i lt =
    let front = map (character_read upper) (take i bytes) in
    let c = character_read upper (get_or bytes i 0) in
    ap encode_utf8_all (map_more (character_read upper) bytes i 0 lt) ∙ encodes-append front (c ∷ []) ∙ ap (λ t. encode_utf8_all front ++ t) (append-nil (encode_utf8 c))

-- characters past ASCII, each once
abbrev is_once : List ℕ → Bool
is_once [] = true
is_once (c ∷ cs) = list_all (λ d. not (eqb c d)) cs && is_once cs

abbrev is_upper : ℕ → Bool
is_upper c = not (ltb c 0x80) && scalar c

abbrev pub is_table : List ℕ → Bool
is_table upper = list_all is_upper upper && is_once upper

windows_is_table : is_table windows_1252 ≡ true
unfolding windows_1252
windows_is_table = refl

macintosh_is_table : is_table macintosh_roman ≡ true
unfolding macintosh_roman
macintosh_is_table = refl

pub page_has_table : (page : CodePage) (upper : List ℕ) → upper_characters page ≡ Some upper → is_table upper ≡ true
page_has_table page.UsAscii upper h = ap is_table (sym (same_Some _ upper h))
page_has_table page.Windows1252 upper h = ap is_table (sym (same_Some _ upper h)) ∙ windows_is_table
page_has_table page.Iso88591 upper h = ap is_table (sym (same_Some _ upper h)) ∙ windows_is_table
page_has_table page.MacintoshRoman upper h = ap is_table (sym (same_Some _ upper h)) ∙ macintosh_is_table
page_has_table _ upper h = cc

pub all_at : (p : ℕ → Bool) (xs : List ℕ) (i c : ℕ) → list_all p xs ≡ true → slice_get xs i ≡ Some c → p c ≡ true
all_at p [] i c all h = cc
all_at p (x ∷ xs) zero c all h = ap p (sym (same_Some x c h)) ∙ (and_parts (p x) (list_all p xs) all).0
all_at p (x ∷ xs) (suc i) c all h = all_at p xs i c ((and_parts (p x) (list_all p xs) all).1) h

-- no element in front of one is the same
other_before : (xs : List ℕ) (i c k : ℕ) → is_once xs ≡ true → slice_get xs i ≡ Some c → k < i → eqb (get_or xs k 0) c ≡ false
other_before [] i c k once h lt = cc
other_before (x ∷ xs) zero c k once h lt = absurd (omega arith)
other_before (x ∷ xs) (suc i) c zero once h lt = not-true _ (all_at (λ d. not (eqb x d)) xs i c ((and_parts (list_all (λ d. not (eqb x d)) xs) (is_once xs) once).0) h)
other_before (x ∷ xs) (suc i) c (suc k) once h lt = other_before xs i c k ((and_parts (list_all (λ d. not (eqb x d)) xs) (is_once xs) once).1) h (omega arith)

found : (xs : List ℕ) (i c : ℕ) → is_once xs ≡ true → slice_get xs i ≡ Some c → position (λ d. eqb d c) xs ≡ Some i
found xs i c once h =
    let inside = slice_get_within xs i c h in
    let first = position_or_len_is (λ d. eqb d c) xs i 0 (omega arith) (λ k lt. other_before xs i c k once h lt) (λ _. eq-eqb _ _ (get_or_from_slice_get xs i c 0 h)) in
    ap (λ n. cond (ltb n (length xs)) (Some n) None) first ∙ ap (λ t. cond t (Some i) None) (lt-ltb i (length xs) inside)

found_is : (xs : List ℕ) (i c : ℕ) → position (λ d. eqb d c) xs ≡ Some i → slice_get xs i ≡ Some c
found_is xs i c h =
    let at = position-Some (λ d. eqb d c) xs i 0 h in
    slice_get-get_or xs i 0 (at.0) ∙ ap Some (eqb-true _ c (at.1))

abbrev low : List ℕ → ℕ → Bool → Option ℕ
low upper b t = cond t (Some b) (slice_get upper (b - 0x80))

abbrev low_byte : List ℕ → ℕ → Bool → Option ℕ
low_byte upper c t = cond t (Some c) (option_map (λ i. 0x80 + i) (position (λ d. eqb d c) upper))

pub byte_again : (upper : List ℕ) → is_table upper ≡ true → (b c : ℕ) → character_of upper b ≡ Some c → byte_of upper c ≡ Some b
byte_again upper table b c h =
    let parts = and_parts (list_all is_upper upper) (is_once upper) table in
    elim (cases_Bool (ltb b 0x80)) [
      | inl ascii ↦
          let same = same_Some b c (sym (ap (low upper b) ascii) ∙ h) in
          ap (low_byte upper c) (ap (λ n. ltb n 0x80) (sym same) ∙ ascii) ∙ ap Some (sym same)
      | inr high ↦
          let there = sym (ap (low upper b) high) ∙ h in
          let past = not-true _ ((and_parts (not (ltb c 0x80)) (scalar c) (all_at is_upper upper (b - 0x80) c (parts.0) there)).0) in
          ap (low_byte upper c) past ∙ ap (option_map (λ i. 0x80 + i)) (found upper (b - 0x80) c (parts.1) there) ∙ ap Some (omega (arith, ltb-false b 0x80 high))
    ]

pub character_again : (upper : List ℕ) (b c : ℕ) → byte_of upper c ≡ Some b → character_of upper b ≡ Some c
character_again upper b c h = elim (cases_Bool (ltb c 0x80)) [
  | inl ascii ↦
      let same = same_Some c b (sym (ap (low_byte upper c) ascii) ∙ h) in
      ap (low upper b) (ap (λ n. ltb n 0x80) (sym same) ∙ ascii) ∙ ap Some (sym same)
  | inr high ↦
      let there = map_some (position (λ d. eqb d c) upper) (λ i. 0x80 + i) b (sym (ap (low_byte upper c) high) ∙ h) in
      let place : b - 0x80 ≡ there.0 = omega (arith, there.2) in
      ap (low upper b) (le-ltb b 0x80 (omega (arith, there.2))) ∙ ap (slice_get upper) place ∙ found_is upper (there.0) c (there.1)
]

pub tables_agree : PageTablesAgree
tables_agree page upper has b c = (byte_again upper (page_has_table page upper has) b c, character_again upper b c)

pub character_scalar : (upper : List ℕ) → is_table upper ≡ true → (b c : ℕ) → character_of upper b ≡ Some c → scalar c ≡ true
character_scalar upper table b c h = elim (cases_Bool (ltb b 0x80)) [
  | inl ascii ↦
      let same = same_Some b c (sym (ap (low upper b) ascii) ∙ h) in
      low_scalar c (omega (arith, ltb-true b 0x80 ascii))
  | inr high ↦
      let all = (and_parts (list_all is_upper upper) (is_once upper) table).0 in
      (and_parts (not (ltb c 0x80)) (scalar c) (all_at is_upper upper (b - 0x80) c all (sym (ap (low upper b) high) ∙ h))).1
]
