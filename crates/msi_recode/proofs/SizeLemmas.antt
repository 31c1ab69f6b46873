-- How many bytes the values of a summary have in UTF-8.
use Rattle.std.proofs.Common.{◌≡◌, ℕ, ◌+◌, ◌^◌, ◌<◌, ◌≤◌, Bool, true, false, cond, ltb, ◌&&◌, List, [], ◌∷◌, ◌++◌, length, Some, None, refl, sym, ap, ◌∙◌, arith}
use Rattle.std.specs.BTreeMap.{insert_entry}
use Rattle.std.specs.Ordering.{nat_cmp}
use Rattle.std.proofs.lemmas.Bool.{eq-eqb, ne_eqb, lt-ltb, ltb-true, ltb-false}
use Rattle.std.proofs.lemmas.Cmp.{by_ranked, ranked}
use Rattle.msi_base.specs.declared.codepage.CodePage.TheVariants as page
use Rattle.msi_base.proofs.OptionLemmas.{not_given}
use Rattle.msi_summary_properties.specs.declared.propset.PropertyValue.{PropertyValue}
use Rattle.msi_summary_properties.specs.declared.propset.PropertyValue.TheVariants.{Empty, Null, I1, I2, I4, LpStr, FileTime}
use Rattle.msi_summary_properties.specs.Properties.{Properties, page_of, value_with_id}
use Rattle.msi_summary_properties.specs.PropertyWriting.{can_write, is_carried, is_refused, piece_in, section_size}
use Rattle.msi_summary_properties.proofs.PlainSectionLemmas.{length-values, told_of}
use Rattle.msi_recode.specs.SummaryRecoding.{all_in_utf8, in_utf8, is_too_long, most_size, stream_size}

size_front : (e : ℕ × PropertyValue) (es : List (ℕ × PropertyValue)) → section_size page.Utf8 (e ∷ es) ≡ (8 + length (piece_in page.Utf8 e.1)) + section_size page.Utf8 es
size_front e es = let sum = length-values page.Utf8 e es in omega arith

size_behind : (es : List (ℕ × PropertyValue)) (e : ℕ × PropertyValue) → section_size page.Utf8 (es ++ e ∷ []) ≡ section_size page.Utf8 es + (8 + length (piece_in page.Utf8 e.1))
size_behind [] e = let sum = length-values page.Utf8 e [] in omega arith
size_behind (x ∷ es) e =
    let more = size_front x (es ++ e ∷ []) in
    let before = size_front x es in
    let later = size_behind es e in
    omega (arith, more, before, later)

mapped_joined : (es fs : List (ℕ × PropertyValue)) → all_in_utf8 (es ++ fs) ≡ all_in_utf8 es ++ all_in_utf8 fs
mapped_joined [] fs = refl
mapped_joined (x ∷ es) fs = ap (λ (xs : List (ℕ × PropertyValue)). (x.0, in_utf8 x.0 x.1) ∷ xs) (mapped_joined es fs)

pub section_behind : (es : List (ℕ × PropertyValue)) (id : ℕ) (v : PropertyValue) → section_size page.Utf8 (all_in_utf8 (es ++ (id, v) ∷ [])) ≡ section_size page.Utf8 (all_in_utf8 es) + (8 + length (piece_in page.Utf8 (in_utf8 id v)))
section_behind es id v = ap (section_size page.Utf8) (mapped_joined es ((id, v) ∷ [])) ∙ size_behind (all_in_utf8 es) (id, in_utf8 id v)

size_joined : (es fs : List (ℕ × PropertyValue)) → section_size page.Utf8 es ≤ section_size page.Utf8 (es ++ fs)
size_joined [] fs = omega arith
size_joined (x ∷ es) fs =
    let more = size_front x (es ++ fs) in
    let before = size_front x es in
    let later = size_joined es fs in
    omega (arith, more, before, later)

-- values that are too long are so with others behind them
pub still_too_long : (n : ℕ) (es fs : List (ℕ × PropertyValue)) → is_too_long n es ≡ true → is_too_long n (es ++ fs) ≡ true
still_too_long n es fs long =
    let past : most_size n < stream_size es = ltb-true (most_size n) (stream_size es) long in
    let more = size_joined (all_in_utf8 es) (all_in_utf8 fs) in
    let same = ap (section_size page.Utf8) (mapped_joined es fs) in
    lt-ltb (most_size n) (stream_size (es ++ fs)) (omega (arith, past, more, same))

-- a value that is new adds its bytes to those of a set
pub size_put : (es : List (ℕ × PropertyValue)) (id : ℕ) (v : PropertyValue) → value_with_id id es ≡ None → section_size page.Utf8 (insert_entry nat_cmp es id v) ≡ section_size page.Utf8 es + (8 + length (piece_in page.Utf8 v))
size_put [] id v none = size_behind [] (id, v)
size_put (e ∷ es) id v none = by_ranked _ _ _ (nat_cmp id e.0) (ranked id e.0 (nat_cmp id e.0) refl)
    (λ p lt. rw p (in_front lt))
    (λ p same. there same)
    (λ p gt. rw p (behind (size_put es id v) gt))
  where
    in_front : id < e.0 → section_size page.Utf8 ((id, v) ∷ e ∷ es) ≡ section_size page.Utf8 (e ∷ es) + (8 + length (piece_in page.Utf8 v))
    in_front lt = let sum = size_front (id, v) (e ∷ es) in omega (arith, sum)

    there : {P : Type 0} → id ≡ e.0 → P
    there same = absurd (not_given e.1 (sym (ap (λ (t : Bool). cond t (Some e.1) (value_with_id id es)) (eq-eqb e.0 id (sym same))) ∙ none))

    behind : (value_with_id id es ≡ None → section_size page.Utf8 (insert_entry nat_cmp es id v) ≡ section_size page.Utf8 es + (8 + length (piece_in page.Utf8 v))) → e.0 < id → section_size page.Utf8 (e ∷ insert_entry nat_cmp es id v) ≡ section_size page.Utf8 (e ∷ es) + (8 + length (piece_in page.Utf8 v))
    behind later_by gt =
        let absent : value_with_id id es ≡ None = sym (ap (λ (t : Bool). cond t (Some e.1) (value_with_id id es)) (ne_eqb e.0 id (λ same. omega (arith, same, gt)))) ∙ none in
        let more = size_front e (insert_entry nat_cmp es id v) in
        let before = size_front e es in
        let later = later_by absent in
        omega (arith, more, before, later)

-- ---- what isn't too long is written

carried : (es : List (ℕ × PropertyValue)) → is_carried page.Utf8 es ≡ true
carried [] = refl
carried ((id, Empty) ∷ es) = carried es
carried ((id, Null) ∷ es) = carried es
carried ((id, I1 n) ∷ es) = carried es
carried ((id, I2 n) ∷ es) = carried es
carried ((id, I4 n) ∷ es) = carried es
carried ((id, LpStr text) ∷ es) = carried es
carried ((id, FileTime n) ∷ es) = carried es

pub short_written : (n : ℕ) (set : Properties) (entries : List (ℕ × PropertyValue)) → page_of set ≡ page.Utf8 → section_size page.Utf8 set.values ≡ section_size page.Utf8 (all_in_utf8 entries) → is_too_long n entries ≡ false → is_refused set ≡ false
short_written n set entries named size short =
    let few : stream_size entries ≤ most_size n = ltb-false (most_size n) (stream_size entries) short in
    let fits : ltb (section_size page.Utf8 set.values) (2 ^ 32) ≡ true = lt-ltb (section_size page.Utf8 set.values) (2 ^ 32) (omega (arith, few, size)) in
    let can : can_write page.Utf8 set.values ≡ true = ap (λ (b : Bool). b && ltb (section_size page.Utf8 set.values) (2 ^ 32)) (carried set.values) ∙ fits in
    told_of set page.Utf8 set.values (sym named) refl can
