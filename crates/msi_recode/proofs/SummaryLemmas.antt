-- The values of a summary as they are read, one after the other, are spelled in its stream.
use Rattle.std.proofs.Common.{◌≡◌, ℕ, ◌+◌, ◌-◌, ◌^◌, ◌<◌, ◌≤◌, Bool, true, false, cond, eqb, List, [], ◌∷◌, ◌++◌, length, get_or, take, drop, Option, Some, None, inl, inr, refl, sym, ap, subst, ◌∙◌, append_assoc, arith}
use Rattle.std.specs.Prelude.{◌⊎◌, option_map}
use Rattle.std.specs.List.{AllZip, AllByRecursion, list_any}
use Rattle.std.specs.Int.{w32, to_le_bytes}
use Rattle.std.proofs.lemmas.Bool.{or_from, eqb-true, eq-eqb}
use Rattle.std.proofs.lemmas.List.{take_more}
use Rattle.msi_base.specs.declared.codepage.CodePage.TheVariants as page
use Rattle.msi_base.specs.Lists.{entry_where, has_pair}
use Rattle.msi_base.specs.Numbers.{number_at, bytes_at}
use Rattle.msi_base.specs.Results.{◌>>=◌}
use Rattle.msi_base.proofs.ReadFieldLemmas.{IsBytes, IsBytes-drop, wide32, number_again}
use Rattle.msi_base.proofs.OptionLemmas.{bind_some, map_some, some_is, not_given}
use Rattle.msi_base.proofs.ListLemmas.{no_pair_joined}
use Rattle.msi_summary_properties.specs.declared.propset.PropertyValue.{PropertyValue}
use Rattle.msi_summary_properties.specs.declared.propset.PropertyValue.TheVariants.{Empty, Null, I1, I2, I4, LpStr, FileTime}
use Rattle.msi_summary_properties.specs.Properties.{Properties, value_with_id, with_value, set_of}
use Rattle.msi_summary_properties.specs.PropertyStream.{SpellsValue, FitsValue, StandsAt, string_bytes_of}
use Rattle.msi_summary_properties.specs.PropertyStream as plain
use Rattle.msi_summary_properties.specs.PropertyWriting.{piece_in, section_size}
use Rattle.msi_summary_properties.specs.Reading.{value_at}
use Rattle.msi_summary_properties.proofs.HeaderLemmas.{bytes_again}
use Rattle.msi_summary_properties.proofs.PropertiesLemmas.{setting_changes_one}
use Rattle.msi_summary_properties.proofs.SpelledSetLemmas.{stands_here}
use Rattle.msi_summary_properties.proofs.ValueLemmas.{Begins, value_found}
use Rattle.msi_recode.specs.declared.page.TextPage.{TextPage}
use Rattle.msi_recode.specs.TextPages.{Reads, text_in}
use Rattle.msi_recode.specs.SummaryRecoding.{SpellsString, SpellsValueIn, EntryStandsAt, page_named, in_utf8}
use Rattle.msi_recode.specs.SummaryReading.{piece_at, in_page, value_in, IsEntryRead, ArePut}
use Rattle.msi_recode.specs.SummaryRecoding.{page_stated}
use Rattle.msi_recode.proofs.SizeLemmas.{section_behind, size_put}

-- ---- a text

piece_made : (bytes kind_rest count_rest front rest : List ℕ) (kind count : ℕ) → number_at w32 bytes ≡ Some (kind, kind_rest) → number_at w32 kind_rest ≡ Some (count, count_rest)
    → bytes_at (count - 1) count_rest ≡ Some (front, rest) → piece_at bytes ≡ Some front
unfolding piece_at
piece_made bytes kind_rest count_rest front rest kind count a b c = rw (a, b, c) refl

-- the piece of a text whose length with the null is n
pub piece_again : (n : ℕ) (bytes piece others : List ℕ) → n < 2 ^ 32 → length piece ≡ n - 1 → bytes ≡ (to_le_bytes w32 30 ++ to_le_bytes w32 n ++ piece ++ 0 ∷ []) ++ others → piece_at bytes ≡ Some piece
piece_again n bytes piece others small len parts =
    let rest : List ℕ = (piece ++ 0 ∷ []) ++ others in
    let split : bytes ≡ to_le_bytes w32 30 ++ (to_le_bytes w32 n ++ rest) = parts in
    let a = ap (number_at w32) split ∙ number_again w32 (2 ^ 32) wide32 30 (to_le_bytes w32 n ++ rest) (omega arith) in
    let b = number_again w32 (2 ^ 32) wide32 n rest small in
    let c = ap (bytes_at (n - 1)) (append_assoc piece (0 ∷ []) others) ∙ bytes_again (n - 1) piece (0 ∷ others) len in
    piece_made bytes (to_le_bytes w32 n ++ rest) rest piece (0 ∷ others) 30 n a b c

-- what spells a text in one page spells its piece's text in another
spelled_in : (text_page : TextPage) (bytes spelled others piece old text : List ℕ) → plain.SpellsString page.Utf8 spelled old → bytes ≡ spelled ++ others → piece_at bytes ≡ Some piece → Reads text_page piece text → SpellsString text_page spelled text
spelled_in text_page bytes spelled others piece old text (inl (encoded, small, reads, is)) parts found read =
    let again = piece_again (length encoded + 1) bytes encoded others small (omega arith) (parts ∙ ap (λ (x : List ℕ). x ++ others) is) in
    let same : piece ≡ encoded = some_is piece encoded (sym found ∙ again) in
    inl (encoded, small, ap (text_in text_page) (sym same) ∙ read, is)
spelled_in text_page bytes spelled others piece old text (inr (reads, is)) parts found read =
    let again = piece_again 0 bytes [] others (omega arith) refl (parts ∙ ap (λ (x : List ℕ). x ++ others) is) in
    let same : piece ≡ [] = some_is piece [] (sym found ∙ again) in
    inr (ap (text_in text_page) (sym same) ∙ read, is)

-- ---- a value

-- what is read in the page of a value that was read in UTF-8
abbrev IsSpelledIn : ℕ → TextPage → List ℕ → PropertyValue → Type 0
IsSpelledIn version text_page bytes v = Begins bytes (λ s. SpellsValueIn version text_page s v) × FitsValue v

kept : (version : ℕ) (text_page : TextPage) (bytes : List ℕ) (v w : PropertyValue) → IsSpelledIn version text_page bytes v → Some v ≡ Some w → IsSpelledIn version text_page bytes w
kept version text_page bytes v w h e = subst (λ (x : PropertyValue). IsSpelledIn version text_page bytes x) (some_is v w e) h

read_in : (version : ℕ) (text_page : TextPage) (bytes : List ℕ) (v w : PropertyValue) → Begins bytes (λ s. SpellsValue version page.Utf8 s v) → FitsValue v → in_page text_page bytes v ≡ Some w → IsSpelledIn version text_page bytes w
read_in version text_page bytes Empty w b fit e = kept version text_page bytes Empty w (record { spelled = b.spelled; others = b.others; parts = b.parts; is = b.is }, fit) e
read_in version text_page bytes Null w b fit e = kept version text_page bytes Null w (record { spelled = b.spelled; others = b.others; parts = b.parts; is = b.is }, fit) e
read_in version text_page bytes (I1 n) w b fit e = kept version text_page bytes (I1 n) w (record { spelled = b.spelled; others = b.others; parts = b.parts; is = b.is }, fit) e
read_in version text_page bytes (I2 n) w b fit e = kept version text_page bytes (I2 n) w (record { spelled = b.spelled; others = b.others; parts = b.parts; is = b.is }, fit) e
read_in version text_page bytes (I4 n) w b fit e = kept version text_page bytes (I4 n) w (record { spelled = b.spelled; others = b.others; parts = b.parts; is = b.is }, fit) e
read_in version text_page bytes (FileTime n) w b fit e = kept version text_page bytes (FileTime n) w (record { spelled = b.spelled; others = b.others; parts = b.parts; is = b.is }, fit) e
read_in version text_page bytes (LpStr old) w b fit e =
    let m = map_some (piece_at bytes >>= text_in text_page) LpStr w e in
    let p = bind_some (piece_at bytes) (text_in text_page) m.0 m.1 in
    subst (λ (x : PropertyValue). IsSpelledIn version text_page bytes x) m.2
    (record { spelled = b.spelled; others = b.others; parts = b.parts; is = spelled_in text_page bytes b.spelled b.others p.0 old m.0 b.is b.parts p.1 p.2 }, tt)

value_read : (version : ℕ) (text_page : TextPage) (bytes : List ℕ) (w : PropertyValue) → IsBytes bytes → value_in version text_page bytes ≡ Some w → IsSpelledIn version text_page bytes w
unfolding value_in
value_read version text_page bytes w fits e =
    let b = bind_some (value_at version page.Utf8 bytes) (in_page text_page bytes) w e in
    let f = value_found version page.Utf8 bytes b.0 fits b.1 in
    read_in version text_page bytes b.0 w f.0 f.1 b.2

some_long : (version : ℕ) (text_page : TextPage) (s : List ℕ) (v : PropertyValue) → SpellsValueIn version text_page s v → 1 ≤ length s
some_long version text_page s Empty e = rw e (omega arith)
some_long version text_page s Null e = rw e (omega arith)
some_long version text_page s (I2 n) e = rw e (omega arith)
some_long version text_page s (I4 n) e = rw e (omega arith)
some_long version text_page s (I1 n) e = rw e.1 (omega arith)
some_long version text_page s (LpStr text) (inl h) = rw h.3 (omega arith)
some_long version text_page s (LpStr text) (inr h) = rw h.1 (omega arith)
some_long version text_page s (FileTime n) e = rw e (omega arith)

pub entries_stand : (version : ℕ) (text_page : TextPage) (bytes : List ℕ) (section : ℕ) (pairs : List (ℕ × ℕ)) (entries : List (ℕ × PropertyValue)) → IsBytes bytes
    → AllZip (IsEntryRead version text_page bytes section) pairs entries → AllZip (EntryStandsAt version text_page bytes section) pairs entries
entries_stand version text_page bytes section [] [] fits h = tt
entries_stand version text_page bytes section [] (e ∷ entries) fits h = absurd h
entries_stand version text_page bytes section (p ∷ pairs) [] fits h = absurd h
entries_stand version text_page bytes section (p ∷ pairs) (e ∷ entries) fits ((id, read), more) =
    let f = value_read version text_page (drop (section + p.1) bytes) e.1 (IsBytes-drop (section + p.1) bytes fits) read in
    let here = stands_here (section + p.1) bytes f.0.spelled f.0.others (λ s. SpellsValueIn version text_page s e.1) (some_long version text_page f.0.spelled e.1 f.0.is) f.0.parts f.0.is in
    ((id, f.1, here), entries_stand version text_page bytes section pairs entries fits more)

-- ---- the page

named_by : (hint : Option TextPage) (version : ℕ) (text_page : TextPage) (bytes : List ℕ) (v w : PropertyValue) → value_at version page.Utf8 bytes ≡ Some v → value_in version text_page bytes ≡ Some w → page_named hint (Some v) ≡ Some text_page
    → page_named hint (Some w) ≡ Some text_page
unfolding value_in
named_by hint version text_page bytes Empty w at read h = absurd cc
named_by hint version text_page bytes Null w at read h = absurd cc
named_by hint version text_page bytes (I1 n) w at read h = absurd cc
named_by hint version text_page bytes (I2 n) w at read h =
    let b = bind_some (value_at version page.Utf8 bytes) (in_page text_page bytes) w read in
    let first : b.0 ≡ I2 n = some_is b.0 (I2 n) (sym b.1 ∙ at) in
    let same : I2 n ≡ w = some_is (I2 n) w (ap (in_page text_page bytes) (sym first) ∙ b.2) in
    subst (λ (x : PropertyValue). page_named hint (Some x) ≡ Some text_page) same h
named_by hint version text_page bytes (I4 n) w at read h = absurd cc
named_by hint version text_page bytes (LpStr text) w at read h = absurd cc
named_by hint version text_page bytes (FileTime n) w at read h = absurd cc

pub page_read : (hint : Option TextPage) (version : ℕ) (text_page : TextPage) (bytes : List ℕ) (section : ℕ) (pairs : List (ℕ × ℕ)) (entries : List (ℕ × PropertyValue))
    → page_stated hint version bytes section (entry_where (λ k. eqb k 1) pairs) ≡ Some text_page → AllZip (IsEntryRead version text_page bytes section) pairs entries
    → page_named hint (entry_where (λ k. eqb k 1) entries) ≡ Some text_page
page_read hint version text_page bytes section [] [] h read = h
page_read hint version text_page bytes section [] (e ∷ entries) h read = absurd read
page_read hint version text_page bytes section (p ∷ pairs) [] h read = absurd read
page_read hint version text_page bytes section (p ∷ pairs) (e ∷ entries) h ((id, read), more) =
    subst (λ (n : ℕ). page_named hint (cond (eqb n 1) (Some e.1) (entry_where (λ k. eqb k 1) entries)) ≡ Some text_page) (sym id)
    (by_first (eqb p.0 1) (λ stated. page_read hint version text_page bytes section pairs entries stated more) h)
  where
    by_first : (t : Bool) → (page_stated hint version bytes section (entry_where (λ k. eqb k 1) pairs) ≡ Some text_page → page_named hint (entry_where (λ k. eqb k 1) entries) ≡ Some text_page)
        → page_stated hint version bytes section (cond t (Some p.1) (entry_where (λ k. eqb k 1) pairs)) ≡ Some text_page
        → page_named hint (cond t (Some e.1) (entry_where (λ k. eqb k 1) entries)) ≡ Some text_page
    by_first true later stated =
        let b = bind_some (value_at version page.Utf8 (drop (section + p.1) bytes)) (λ v. page_named hint (Some v)) text_page stated in
        named_by hint version text_page (drop (section + p.1) bytes) b.0 e.1 b.1 read b.2
    by_first false later stated = later stated

-- ---- the loop

absent : {X : Type 0} (id : ℕ) (f : X → X) (o : Option X) → option_map f o ≡ None → o ≡ None
absent id f None e = refl
absent id f (Some x) e = cc

-- an id that no entry has is in none of the pairs
unlisted : (version : ℕ) (text_page : TextPage) (bytes : List ℕ) (section id place : ℕ) (pairs : List (ℕ × ℕ)) (entries : List (ℕ × PropertyValue)) → AllZip (IsEntryRead version text_page bytes section) pairs entries
    → entry_where (λ k. eqb k id) entries ≡ None → AllByRecursion (λ (p : ℕ × ℕ). list_any (λ (q : ℕ × ℕ). eqb p.0 q.0) ((id, place) ∷ []) ≡ false) pairs
unlisted version text_page bytes section id place [] [] read none = tt
unlisted version text_page bytes section id place [] (e ∷ entries) read none = absurd read
unlisted version text_page bytes section id place (p ∷ pairs) [] read none = absurd read
unlisted version text_page bytes section id place (p ∷ pairs) (e ∷ entries) ((same, read), more) none =
    let t = by_test (eqb e.0 id) (entry_where (λ k. eqb k id) entries) none in
    (or_from (eqb p.0 id) false (ap (λ (n : ℕ). eqb n id) (sym same) ∙ t.0) refl, unlisted version text_page bytes section id place pairs entries more t.1)
  where
    by_test : (t : Bool) (o : Option PropertyValue) → cond t (Some e.1) o ≡ None → (t ≡ false) × (o ≡ None)
    by_test true o h = absurd cc
    by_test false o h = (refl, h)

found_behind : (id : ℕ) (es : List (ℕ × PropertyValue)) (k : ℕ) (v : PropertyValue) → entry_where (λ n. eqb n id) es ≡ None → entry_where (λ n. eqb n id) (es ++ (k, v) ∷ []) ≡ cond (eqb k id) (Some v) None
found_behind id [] k v none = refl
found_behind id (e ∷ es) k v none = by_test (eqb e.0 id) (found_behind id es k v) none
  where
    by_test : (t : Bool) → (entry_where (λ n. eqb n id) es ≡ None → entry_where (λ n. eqb n id) (es ++ (k, v) ∷ []) ≡ cond (eqb k id) (Some v) None)
        → cond t (Some e.1) (entry_where (λ n. eqb n id) es) ≡ None → cond t (Some e.1) (entry_where (λ n. eqb n id) (es ++ (k, v) ∷ [])) ≡ cond (eqb k id) (Some v) None
    by_test true later h = absurd cc
    by_test false later h = later h

found_before : (id : ℕ) (es : List (ℕ × PropertyValue)) (k : ℕ) (v : PropertyValue) → eqb k id ≡ false → entry_where (λ n. eqb n id) (es ++ (k, v) ∷ []) ≡ entry_where (λ n. eqb n id) es
found_before id [] k v other = ap (λ (t : Bool). cond t (Some v) None) other
found_before id (e ∷ es) k v other = ap (cond (eqb e.0 id) (Some e.1)) (found_before id es k v other)

pub put_start : (version : ℕ) (text_page : TextPage) (bytes : List ℕ) (section : ℕ) (set : Properties) → set.values ≡ [] → ArePut version text_page bytes section [] set set
put_start version text_page bytes section set empty = record {
  entries = [];
  read = tt;
  once = refl;
  same = refl;
  values = λ id. ap (λ (es : List (ℕ × PropertyValue)). value_with_id id es) empty;
  size = ap (section_size page.Utf8) empty;
}

-- a value that is new is put behind the others
pub put_next : (version : ℕ) (text_page : TextPage) (bytes : List ℕ) (section : ℕ) (pairs : List (ℕ × ℕ)) (i id place : ℕ) (value : PropertyValue) (before mid after : Properties) → ArePut version text_page bytes section (take i pairs) before mid
    → i < length pairs → get_or pairs i (0, 0) ≡ (id, place) → value_in version text_page (drop (section + place) bytes) ≡ Some value → value_with_id id mid.values ≡ None → after ≡ with_value id (in_utf8 id value) mid
    → ArePut version text_page bytes section (take (i + 1) pairs) before after
put_next version text_page bytes section pairs i id place value before mid after w lt at read new is =
    let front = take i pairs in
    let more : take (i + 1) pairs ≡ front ++ (id, place) ∷ [] = take_more pairs i (0, 0) lt ∙ ap (λ (p : ℕ × ℕ). front ++ p ∷ []) at in
    let none : entry_where (λ k. eqb k id) w.entries ≡ None = absent id (in_utf8 id) (entry_where (λ k. eqb k id) w.entries) (sym (w.values id) ∙ new) in
    subst (λ (ps : List (ℕ × ℕ)). ArePut version text_page bytes section ps before after) (sym more)
    (subst (λ (s : Properties). ArePut version text_page bytes section (front ++ (id, place) ∷ []) before s) (sym is)
    (record {
      entries = w.entries ++ (id, value) ∷ [];
      read = zip_behind front w.entries w.read;
      once = no_pair_joined (λ (p q : ℕ × ℕ). eqb p.0 q.0) front ((id, place) ∷ []) w.once refl (unlisted version text_page bytes section id place front w.entries w.read none);
      same = ap (with_value id (in_utf8 id value)) w.same;
      values = λ other. setting_changes_one id other (in_utf8 id value) mid ∙ by_test other (eqb id other) refl none;
      size = size_put mid.values id (in_utf8 id value) new ∙ ap (λ (n : ℕ). n + (8 + length (piece_in page.Utf8 (in_utf8 id value)))) w.size ∙ sym (section_behind w.entries id value);
    }))
  where
    zip_behind : (ps : List (ℕ × ℕ)) (es : List (ℕ × PropertyValue)) → AllZip (IsEntryRead version text_page bytes section) ps es → AllZip (IsEntryRead version text_page bytes section) (ps ++ (id, place) ∷ []) (es ++ (id, value) ∷ [])
    zip_behind [] [] h = ((refl, read), tt)
    zip_behind [] (e ∷ es) h = absurd h
    zip_behind (p ∷ ps) [] h = absurd h
    zip_behind (p ∷ ps) (e ∷ es) (first, h) = (first, zip_behind ps es h)

    by_test : (other : ℕ) (t : Bool) → eqb id other ≡ t → entry_where (λ k. eqb k id) w.entries ≡ None
        → cond t (Some (in_utf8 id value)) (value_with_id other mid.values) ≡ option_map (in_utf8 other) (entry_where (λ k. eqb k other) (w.entries ++ (id, value) ∷ []))
    by_test other true same none =
        let e : id ≡ other = eqb-true id other same in
        subst (λ (n : ℕ). Some (in_utf8 id value) ≡ option_map (in_utf8 n) (entry_where (λ k. eqb k n) (w.entries ++ (id, value) ∷ []))) e
        (sym (ap (option_map (in_utf8 id)) (found_behind id w.entries id value none ∙ ap (λ (t : Bool). cond t (Some value) None) (eq-eqb id id refl))))
    by_test other false apart none = w.values other ∙ ap (option_map (in_utf8 other)) (sym (found_before other w.entries id value apart))
