-- A text that a stream reads as is cut into those of its values.
use Rattle.std.proofs.Common.{◌≡◌, ℕ, zero, suc, ◌+◌, ◌-◌, ◌<◌, ◌≤◌, ◌⊎◌, inl, inr, List, [], ◌∷◌, ◌++◌, length, take, drop, Some, lt-ltb, refl, sym, ap, subst, ◌∙◌, arith}
use Rattle.std.specs.Prelude.{nat_lt, option_map, unwrap_or, slice_index, slice_range}
use Rattle.std.specs.Int.{w32, from_le_bytes}
use Rattle.std.specs.List.{AllByRecursion}
use Rattle.std.specs.Map.{lookup}
use Rattle.std.specs.Ordering.{nat_cmp}
use Rattle.std.specs.BTreeMap.{insert_entry, is_at}
use Rattle.std.proofs.Math.Seq.{drop-append_seam, drop-cons, take-add}
use Rattle.std.proofs.lemmas.Cmp.{by_ranked, ranked}
use Rattle.std.proofs.lemmas.List.{drop-drop, drop-take, length-append, length-drop, length-take-le, take-append-le, take_all}
use Rattle.msi_base.specs.declared.codepage.CodePage.{CodePage}
use Rattle.msi_base.specs.declared.codepage.CodePage.TheVariants as page
use Rattle.msi_base.specs.Pages.{Reads, text_in}
use Rattle.msi_base.specs.Numbers.{number_at}
use Rattle.msi_base.proofs.BoolLemmas.{by_test}
use Rattle.msi_base.proofs.OptionLemmas.{none_is, some_there}
use Rattle.std.proofs.lemmas.Bool.Decides.{nat_tests}
use Rattle.msi_summary_properties.specs.declared.propset.PropertyValue.TheVariants.{LpStr}
use Rattle.msi_summary_properties.specs.Reading.{payload_at, string_at, value_at}
use Rattle.msi_summary_properties.specs.SharedTexts.{BeginsCharacter, BeginsText, IsCut, ReadsAll}
use Rattle.msi_summary_properties.proofs.PageCutLemmas.{Breaks, reads_ascii, reads_joined}

same_Some : {X : Type 0} (x y : X) → Some x ≡ Some y → x ≡ y
same_Some x y e = cc

-- ---- a cut of the bytes

take-one : (xs : List ℕ) (x : ℕ) (rest : List ℕ) → xs ≡ x ∷ rest → take 1 xs ≡ x ∷ []
take-one xs x rest is = rw is refl

breaks_behind : (bytes ys : List ℕ) (at : ℕ) → 0 < at → at < length bytes → slice_index bytes (at - 1) < 0x80 → Breaks (take at bytes) ys
breaks_behind bytes ys at some within small =
    let j = at - 1 in
    let k : at ≡ j + 1 = omega arith in
    let last : take 1 (drop j bytes) ≡ slice_index bytes j ∷ [] = take-one (drop j bytes) (slice_index bytes j) (drop (suc j) bytes) (drop-cons bytes j 0 (omega arith)) in
    inr (inl (take j bytes, slice_index bytes j, small, ap (λ n. take n bytes) k ∙ take-add j 1 bytes ∙ ap (λ (l : List ℕ). take j bytes ++ l) last))

breaks_before : (bytes xs : List ℕ) (at n : ℕ) → at < length bytes → slice_index bytes at < 0x80 → Breaks xs (take n (drop at bytes))
breaks_before bytes xs at zero within small = inr (inr (inr refl))
breaks_before bytes xs at (suc n) within small =
    inr (inr (inl (slice_index bytes at, take n (drop (suc at) bytes), small, ap (take (suc n)) (drop-cons bytes at 0 within))))

breaks_at : (bytes : List ℕ) (at n : ℕ) → (at ≡ 0) ⊎ BeginsCharacter bytes at → Breaks (take at bytes) (take n (drop at bytes))
breaks_at bytes at n (inl none) = inl (ap (λ k. take k bytes) none)
breaks_at bytes at n (inr (some, within, inl small)) = breaks_behind bytes (take n (drop at bytes)) at some within small
breaks_at bytes at n (inr (some, within, inr small)) = breaks_before bytes (take at bytes) at n within small

-- what is read up to a cut, and from there on
pub reads_further : (page : CodePage) (bytes : List ℕ) (start end : ℕ) (a b : List ℕ) → ReadsAll page → (start ≡ 0) ⊎ BeginsCharacter bytes start → start ≤ end
    → Reads page (take start bytes) a → Reads page (slice_range bytes start end) b → Reads page (take end bytes) (a ++ b)
reads_further page bytes start end a b all begins order left right =
    let k : end ≡ start + (end - start) = omega arith in
    let split : take end bytes ≡ take start bytes ++ slice_range bytes start end = ap (λ n. take n bytes) k ∙ take-add start (end - start) bytes in
    ap (text_in page) split ∙ reads_joined page (take start bytes) (slice_range bytes start end) a b (all (0x80 ∷ [])) (breaks_at bytes start (end - start) begins) left right

-- what stands between two cuts
pub reads_between : (page : CodePage) (bytes whole : List ℕ) (start end from to : ℕ) → ReadsAll page → IsCut page bytes whole (start, from) → IsCut page bytes whole (end, to) → start ≤ end → from ≤ to
    → Reads page (slice_range bytes start end) (take (to - from) (drop from whole))
reads_between page bytes whole start end from to all first last order ascend =
    let between = slice_range bytes start end in
    let b = unwrap_or (text_in page between) [] in
    let read : Reads page between b = some_there (text_in page between) [] (all between) in
    let joined : Reads page (take end bytes) (take from whole ++ b) = reads_further page bytes start end (take from whole) b all (inr first.begins) order first.reads read in
    let same : take to whole ≡ take from whole ++ b = same_Some (take to whole) (take from whole ++ b) (sym last.reads ∙ joined) in
    let len : length (take from whole) ≡ from = length-take-le from whole first.short in
    let k : from + (to - from) ≡ to = omega arith in
    let is : take (to - from) (drop from whole) ≡ b =
    sym (drop-take from (to - from) whole) ∙ ap (λ n. drop from (take n whole)) k ∙ ap (drop from) same ∙ ap (λ n. drop n (take from whole ++ b)) (sym len) ∙ drop-append_seam (take from whole) b in
    read ∙ ap Some (sym is)

-- ---- the cuts that are kept

-- a cut of a text stays one of a longer text
grown : (page : CodePage) (bytes whole more : List ℕ) (cut : ℕ × ℕ) → IsCut page bytes whole cut → IsCut page bytes (whole ++ more) cut
grown page bytes whole more cut h = record {
  begins = h.begins;
  short = omega (arith, h.short, length-append whole more);
  reads = h.reads ∙ ap Some (sym (take-append-le cut.1 whole more h.short));
}

pub all_grown : (page : CodePage) (bytes whole more : List ℕ) (es : List (ℕ × ℕ)) → AllByRecursion (IsCut page bytes whole) es → AllByRecursion (IsCut page bytes (whole ++ more)) es
all_grown page bytes whole more [] h = tt
all_grown page bytes whole more (e ∷ es) h = (grown page bytes whole more e h.0, all_grown page bytes whole more es h.1)

pub all_put : (P : ℕ × ℕ → Type 0) (es : List (ℕ × ℕ)) (k v : ℕ) → P (k, v) → AllByRecursion P es → AllByRecursion P (insert_entry nat_cmp es k v)
all_put P [] k v new h = (new, tt)
all_put P (e ∷ es) k v new h = by_ranked _ _ _ (nat_cmp k e.0) (ranked k e.0 (nat_cmp k e.0) refl)
    (λ p lt. rw p (new, h))
    (λ p same. rw p (subst (λ q. P (q, v)) same new, h.1))
    (λ p gt. rw p (h.0, all_put P es k v new h.1))

at_key : (P : ℕ × ℕ → Type 0) (k j v w : ℕ) → k ≡ j → Some v ≡ Some w → P (j, w) → P (k, v)
at_key P k j v w same value there = let is : w ≡ v = cc in subst (λ i. P (i, v)) (sym same) (subst (λ x. P (j, x)) is there)

pub found : (P : ℕ × ℕ → Type 0) (es : List (ℕ × ℕ)) (k v : ℕ) → AllByRecursion P es → Some v ≡ lookup (is_at (nat_cmp k)) es → P (k, v)
found P [] k v h e = absurd cc
found P (e ∷ es) k v h is = by_ranked _ _ _ (nat_cmp k e.0) (ranked k e.0 (nat_cmp k e.0) refl)
    (λ p lt. let there = rw p at is in found P es k v h.1 there)
    (λ p same. let there = rw p at is in at_key P k e.0 v e.1 same there h.0)
    (λ p gt. let there = rw p at is in found P es k v h.1 there)

-- ---- one more cut

pub next_cut : (page : CodePage) (bytes whole text : List ℕ) (cuts : List (ℕ × ℕ)) (start place end : ℕ) → ReadsAll page → ((start ≡ 0) ⊎ BeginsCharacter bytes start) × Reads page (take start bytes) whole × AllByRecursion (IsCut page bytes whole) cuts
    → start ≤ place → BeginsCharacter bytes place → Reads page (slice_range bytes start place) text → end ≡ length (whole ++ text)
    → ((place ≡ 0) ⊎ BeginsCharacter bytes place) × Reads page (take place bytes) (whole ++ text) × AllByRecursion (IsCut page bytes (whole ++ text)) (insert_entry nat_cmp cuts place end)
next_cut page bytes whole text cuts start place end all so_far order begins read is =
    let reads : Reads page (take place bytes) (whole ++ text) = reads_further page bytes start place whole text all so_far.0 order so_far.1 read in
    let new : IsCut page bytes (whole ++ text) (place, end) = record {
      begins = begins;
      short = omega (arith, is);
      reads = reads ∙ ap Some (sym (take_all end (whole ++ text) (omega (arith, is))));
    } in
    (inr begins, reads, all_put (IsCut page bytes (whole ++ text)) cuts place end new (all_grown page bytes whole text cuts so_far.2))

-- ---- pages with ASCII alone

pub ascii_between : (p : CodePage) (bytes text : List ℕ) (start end : ℕ) → start ≤ end → end < length bytes → Reads page.UsAscii (slice_range bytes start end) text → length text ≡ end - start
    → Reads p (slice_range bytes start end) text
ascii_between p bytes text start end order within reads long = reads_ascii p (slice_range bytes start end) text reads (omega (arith, long, length-take-le (end - start) (drop start bytes) (omega (arith, length-drop start bytes)), length-drop start bytes))

-- ---- the text of a value

number_rest : (bytes : List ℕ) (read : ℕ × List ℕ) → number_at w32 bytes ≡ Some read → (4 ≤ length bytes) × (read.1 ≡ drop 4 bytes)
number_rest bytes read is = by_test (nat_lt (length bytes) 4)
    (λ few. let none = rw few at is in none_is none)
    (λ many. let some : Some (from_le_bytes w32 (take 4 bytes), drop 4 bytes) ≡ Some read = rw many at is in (grind (arith, nat_tests), sym (ap (λ (r : ℕ × List ℕ). r.1) (same_Some _ read some))))

text_value : (bytes rest body : List ℕ) (count version : ℕ) (page : CodePage) → number_at w32 bytes ≡ Some (30, rest) → number_at w32 rest ≡ Some (count, body) → count - 1 < length body → slice_index body (count - 1) ≡ 0
    → value_at version page bytes ≡ option_map LpStr (text_in page (take (count - 1) body))
unfolding value_at payload_at string_at
text_value bytes rest body count version page kind number within null = rw (kind, number, lt-ltb (count - 1) (length body) within, null) refl

pub begins_text : (bytes rest body : List ℕ) (count : ℕ) → number_at w32 bytes ≡ Some (30, rest) → number_at w32 rest ≡ Some (count, body) → count - 1 < length body → slice_index body (count - 1) ≡ 0 → BeginsText bytes (count - 1)
begins_text bytes rest body count kind number within null =
    let first = number_rest bytes (30, rest) kind in
    let second = number_rest rest (count, body) number in
    let behind : body ≡ drop 8 bytes = second.1 ∙ ap (drop 4) first.1 ∙ drop-drop 4 4 bytes in
    let len = count - 1 in
    let k : 8 + len - 8 ≡ len = omega arith in
    let piece : take len body ≡ slice_range bytes 8 (8 + len) = ap (take len) behind ∙ ap (λ n. take n (drop 8 bytes)) (sym k) in
    record {
      within = omega (arith, within, first.0, second.0, ap length first.1, length-drop 4 bytes, ap length second.1, length-drop 4 rest);
      value = λ version page. text_value bytes rest body count version page kind number within null ∙ ap (λ (t : List ℕ). option_map LpStr (text_in page t)) piece;
    }

-- the value whose text is shared
pub shared_value : (version : ℕ) (page : CodePage) (bytes : List ℕ) (start len : ℕ) (text : List ℕ) → BeginsText (drop start bytes) len → Reads page (slice_range bytes (start + 8) (start + 8 + len)) text
    → value_at version page (drop start bytes) ≡ Some (LpStr text)
shared_value version page bytes start len text begins reads =
    let j : start + 8 + len - (start + 8) ≡ 8 + len - 8 = omega arith in
    let piece : slice_range (drop start bytes) 8 (8 + len) ≡ slice_range bytes (start + 8) (start + 8 + len) =
    ap (take (8 + len - 8)) (drop-drop 8 start bytes) ∙ ap (λ n. take n (drop (start + 8) bytes)) (sym j) in
    begins.value version page ∙ ap (λ (t : List ℕ). option_map LpStr (text_in page t)) piece ∙ ap (option_map LpStr) reads
