-- A set is spelled exactly where the reader gives it.
use Rattle.std.proofs.Common.{◌≡◌, ℕ, ◌+◌, ◌<◌, ◌≤◌, Bool, true, false, cond, eqb, List, [], ◌∷◌, ◌++◌, map, length, take, drop, Option, Some, None, Equal, Greater, refl, sym, ap, subst, ◌∙◌, append_assoc, arith, inl, inr}
use Rattle.std.specs.Prelude.{zip, unwrap_or, IsSome}
use Rattle.std.specs.List.{AllZip}
use Rattle.std.specs.Ordering.{nat_cmp, is_lt}
use Rattle.std.proofs.lemmas.Bool.{eqb-true, le-ltb, cases_lt}
use Rattle.std.proofs.lemmas.List.{drop_at, take-append-drop, length-append, length-take, length-drop}
use Rattle.msi_base.specs.declared.codepage.CodePage.{CodePage}
use Rattle.msi_base.specs.declared.codepage.CodePage.TheVariants as page
use Rattle.msi_base.specs.Lists.{placed, entry_where, has_pair}
use Rattle.msi_base.proofs.OptionLemmas.{is_some_by, bind_some, guard_passed, given, some_is}
use Rattle.msi_summary_properties.specs.declared.propset.PropertyValue.{PropertyValue}
use Rattle.msi_summary_properties.specs.declared.propset.PropertyValue.TheVariants.{Empty, Null, I1, I2, I4, LpStr, FileTime}
use Rattle.msi_summary_properties.specs.Properties.{Properties, page_in, page_of, value_with_id}
use Rattle.msi_summary_properties.specs.PropertyStream.{StandsAt, ValueStandsAt, SpellsValue, FitsValue, Spells, by_id, header_bytes, section_head}
use Rattle.msi_summary_properties.specs.Reading.{value_at, values_in, page_stated, Header, header_at, section_at, set_with, set_in}
use Rattle.msi_base.proofs.ReadFieldLemmas.{IsBytes, IsBytes-drop}
use Rattle.msi_summary_properties.proofs.ValueLemmas.{Begins, value_found, value_again}
use Rattle.msi_summary_properties.proofs.HeaderLemmas.{Headed, IsHeader, header_found, header_again, Sectioned, section_found, section_again}

-- ---- places

pub stands_drop : (place : ℕ) (bytes : List ℕ) (P : List ℕ → Type 0) → StandsAt place bytes P → Begins (drop place bytes) P
stands_drop place bytes P h = record { spelled = h.1; others = h.2; parts = ap (drop place) (h.4 ∙ append_assoc h.0 h.1 h.2) ∙ drop_at h.0 (h.1 ++ h.2) place h.3; is = h.5 }

pub stands_here : (place : ℕ) (bytes spelled others : List ℕ) (P : List ℕ → Type 0) → 1 ≤ length spelled → drop place bytes ≡ spelled ++ others → P spelled → StandsAt place bytes P
stands_here place bytes spelled others P long e is =
    let n : length (drop place bytes) ≡ length spelled + length others = ap length e ∙ length-append spelled others in
    let len : length (take place bytes) ≡ place = omega (arith, length-take place bytes, length-drop place bytes) in
    (take place bytes, spelled, others, len, sym (take-append-drop place bytes) ∙ ap (λ (x : List ℕ). take place bytes ++ x) e ∙ sym (append_assoc (take place bytes) spelled others), is)

some_long : (version : ℕ) (p : CodePage) (s : List ℕ) (v : PropertyValue) → SpellsValue version p s v → 1 ≤ length s
some_long version p s Empty e = rw e (omega arith)
some_long version p s Null e = rw e (omega arith)
some_long version p s (I2 n) e = rw e (omega arith)
some_long version p s (I4 n) e = rw e (omega arith)
some_long version p s (I1 n) e = rw e.1 (omega arith)
some_long version p s (LpStr text) (inl h) = rw h.3 (omega arith)
some_long version p s (LpStr text) (inr h) = rw h.1 (omega arith)
some_long version p s (FileTime n) e = rw e (omega arith)

-- ---- the values

pub values_found : (version : ℕ) (q : CodePage) (bytes : List ℕ) (section : ℕ) (pairs : List (ℕ × ℕ)) (values : List PropertyValue) → IsBytes bytes → values_in version q bytes section pairs ≡ Some values → AllZip (ValueStandsAt version q bytes section) pairs values
unfolding values_in
values_found version q bytes section [] values fits e = subst (λ (x : List PropertyValue). AllZip (ValueStandsAt version q bytes section) [] x) (some_is [] values e) tt
values_found version q bytes section (p ∷ pairs) values fits e =
    let a = bind_some (value_at version q (drop (section + p.1) bytes)) _ values e in
    let b = bind_some (values_in version q bytes section pairs) _ values a.2 in
    let f = value_found version q (drop (section + p.1) bytes) a.0 (IsBytes-drop (section + p.1) bytes fits) a.1 in
    let here = stands_here (section + p.1) bytes f.0.spelled f.0.others (λ s. SpellsValue version q s a.0) (some_long version q f.0.spelled a.0 f.0.is) f.0.parts f.0.is in
    subst (λ (x : List PropertyValue). AllZip (ValueStandsAt version q bytes section) (p ∷ pairs) x) (some_is (a.0 ∷ b.0) values b.2) ((f.1, here), values_found version q bytes section pairs b.0 fits b.1)

value_here : (version : ℕ) (q : CodePage) (bytes : List ℕ) (v : PropertyValue) → FitsValue v → Begins bytes (λ s. SpellsValue version q s v) → value_at version q bytes ≡ Some v
value_here version q bytes v fit b = ap (value_at version q) b.parts ∙ value_again version q b.spelled b.others v fit b.is

pub values_again : (version : ℕ) (q : CodePage) (bytes : List ℕ) (section : ℕ) (pairs : List (ℕ × ℕ)) (values : List PropertyValue) → AllZip (ValueStandsAt version q bytes section) pairs values → values_in version q bytes section pairs ≡ Some values
unfolding values_in
values_again version q bytes section [] [] h = refl
values_again version q bytes section [] (v ∷ values) h = absurd h
values_again version q bytes section (p ∷ pairs) [] h = absurd h
values_again version q bytes section (p ∷ pairs) (v ∷ values) h =
    rw (value_here version q (drop (section + p.1) bytes) v h.0.0 (stands_drop (section + p.1) bytes (λ s. SpellsValue version q s v) h.0.1), values_again version q bytes section pairs values h.1) refl

-- ---- the page

-- a number is the same in each page
same_page : (version : ℕ) (p r q : CodePage) (bytes : List ℕ) (v : PropertyValue) → IsBytes bytes → value_at version p bytes ≡ Some v → page_in (Some v) ≡ Some q → value_at version r bytes ≡ Some v
same_page version p r q bytes Empty fits e h = absurd cc
same_page version p r q bytes Null fits e h = absurd cc
same_page version p r q bytes (I1 n) fits e h = absurd cc
same_page version p r q bytes (I2 n) fits e h =
    let f = value_found version p bytes (I2 n) fits e in
    value_here version r bytes (I2 n) f.1 (record { spelled = f.0.spelled; others = f.0.others; parts = f.0.parts; is = f.0.is })
same_page version p r q bytes (I4 n) fits e h = absurd cc
same_page version p r q bytes (LpStr text) fits e h = absurd cc
same_page version p r q bytes (FileTime n) fits e h = absurd cc

abbrev pub listed_as : List (ℕ × ℕ) → List PropertyValue → List (ℕ × PropertyValue)
listed_as pairs values = zip (map (λ p. p.0) pairs) values

-- the page by property 1 as it is stated, and as its value states it
pub page_found : (version : ℕ) (q : CodePage) (bytes : List ℕ) (section : ℕ) (pairs : List (ℕ × ℕ)) (values : List PropertyValue) → IsBytes bytes → values_in version q bytes section pairs ≡ Some values
    → page_stated version bytes section (entry_where (λ k. eqb k 1) pairs) ≡ Some q → page_in (value_with_id 1 (listed_as pairs values)) ≡ Some q
unfolding values_in
page_found version q bytes section [] values fits e h = subst (λ (x : List PropertyValue). page_in (value_with_id 1 (listed_as [] x)) ≡ Some q) (some_is [] values e) h
page_found version q bytes section (p ∷ pairs) values fits e h =
    let a = bind_some (value_at version q (drop (section + p.1) bytes)) _ values e in
    let b = bind_some (values_in version q bytes section pairs) _ values a.2 in
    subst (λ (x : List PropertyValue). page_in (value_with_id 1 (listed_as (p ∷ pairs) x)) ≡ Some q) (some_is (a.0 ∷ b.0) values b.2)
    (by_first version q bytes section p pairs a.0 b.0 (eqb p.0 1) refl fits a.1 h (page_found version q bytes section pairs b.0 fits b.1))
  where
    by_first : (version : ℕ) (q : CodePage) (bytes : List ℕ) (section : ℕ) (p : ℕ × ℕ) (pairs : List (ℕ × ℕ)) (v : PropertyValue) (values : List PropertyValue) (t : Bool) → eqb p.0 1 ≡ t → IsBytes bytes
        → value_at version q (drop (section + p.1) bytes) ≡ Some v
        → page_stated version bytes section (cond t (Some p.1) (entry_where (λ k. eqb k 1) pairs)) ≡ Some q
        → (page_stated version bytes section (entry_where (λ k. eqb k 1) pairs) ≡ Some q → page_in (value_with_id 1 (listed_as pairs values)) ≡ Some q)
        → page_in (cond t (Some v) (value_with_id 1 (listed_as pairs values))) ≡ Some q
    by_first version q bytes section p pairs v values true t fits e h more =
        let w = bind_some (value_at version page.Utf8 (drop (section + p.1) bytes)) (λ w. page_in (Some w)) q h in
        let again = same_page version page.Utf8 q q (drop (section + p.1) bytes) w.0 (IsBytes-drop (section + p.1) bytes fits) w.1 w.2 in
        subst (λ (x : PropertyValue). page_in (Some x) ≡ Some q) (some_is w.0 v (sym again ∙ e)) w.2
    by_first version q bytes section p pairs v values false t fits e h more = more h

pub page_again : (version : ℕ) (q : CodePage) (bytes : List ℕ) (section : ℕ) (pairs : List (ℕ × ℕ)) (values : List PropertyValue) → IsBytes bytes → values_in version q bytes section pairs ≡ Some values
    → page_in (value_with_id 1 (listed_as pairs values)) ≡ Some q → page_stated version bytes section (entry_where (λ k. eqb k 1) pairs) ≡ Some q
unfolding values_in
page_again version q bytes section [] values fits e h = subst (λ (x : List PropertyValue). page_in (value_with_id 1 (listed_as [] x)) ≡ Some q) (sym (some_is [] values e)) h
page_again version q bytes section (p ∷ pairs) values fits e h =
    let a = bind_some (value_at version q (drop (section + p.1) bytes)) _ values e in
    let b = bind_some (values_in version q bytes section pairs) _ values a.2 in
    let h2 = subst (λ (x : List PropertyValue). page_in (value_with_id 1 (listed_as (p ∷ pairs) x)) ≡ Some q) (sym (some_is (a.0 ∷ b.0) values b.2)) h in
    by_first version q bytes section p pairs a.0 b.0 (eqb p.0 1) fits a.1 h2 (page_again version q bytes section pairs b.0 fits b.1)
  where
    by_first : (version : ℕ) (q : CodePage) (bytes : List ℕ) (section : ℕ) (p : ℕ × ℕ) (pairs : List (ℕ × ℕ)) (v : PropertyValue) (values : List PropertyValue) (t : Bool) → IsBytes bytes
        → value_at version q (drop (section + p.1) bytes) ≡ Some v
        → page_in (cond t (Some v) (value_with_id 1 (listed_as pairs values))) ≡ Some q
        → (page_in (value_with_id 1 (listed_as pairs values)) ≡ Some q → page_stated version bytes section (entry_where (λ k. eqb k 1) pairs) ≡ Some q)
        → page_stated version bytes section (cond t (Some p.1) (entry_where (λ k. eqb k 1) pairs)) ≡ Some q
    by_first version q bytes section p pairs v values true fits e h more =
        rw (same_page version q page.Utf8 q (drop (section + p.1) bytes) v (IsBytes-drop (section + p.1) bytes fits) e h) h
    by_first version q bytes section p pairs v values false fits e h more = more h

-- ---- a look-up in a sorted list

lt_is : (a b : ℕ) → is_lt (nat_cmp a b) ≡ true → a < b
lt_is a b h = elim (cases_lt a b) [
  | inl lt ↦ lt
  | inr le ↦ absurd (differ (sym h ∙ not_lt a b le))
]
  where
    differ : true ≡ false → ⊥
    differ e = cc

    not_less : (t : Bool) → is_lt (cond t Equal Greater) ≡ false
    not_less true = refl
    not_less false = refl

    not_lt : (a b : ℕ) → b ≤ a → is_lt (nat_cmp a b) ≡ false
    not_lt a b le = rw (le-ltb a b le) (not_less (eqb a b))

find_placed : {X : Type 0} (id : ℕ) (e : ℕ × X) (es : List (ℕ × X)) → entry_where (λ k. eqb k id) (placed (λ x y. nat_cmp x.0 y.0) e es) ≡ entry_where (λ k. eqb k id) (e ∷ es)
find_placed id e [] = refl
find_placed id e (f ∷ es) = by_test id e f es (is_lt (nat_cmp f.0 e.0)) refl (find_placed id e es)
  where
    swap : {X : Type 0} (id a b : ℕ) (s t : Bool) (x y z : Option X) → a < b → eqb a id ≡ s → eqb b id ≡ t → cond s x (cond t y z) ≡ cond t y (cond s x z)
    swap id a b true true x y z lt p q = absurd (omega (arith, eqb-true a id p, eqb-true b id q))
    swap id a b true false x y z lt p q = refl
    swap id a b false true x y z lt p q = refl
    swap id a b false false x y z lt p q = refl

    by_test : {X : Type 0} (id : ℕ) (e f : ℕ × X) (es : List (ℕ × X)) (t : Bool) → is_lt (nat_cmp f.0 e.0) ≡ t → entry_where (λ k. eqb k id) (placed (λ x y. nat_cmp x.0 y.0) e es) ≡ entry_where (λ k. eqb k id) (e ∷ es)
        → entry_where (λ k. eqb k id) (cond t (f ∷ placed (λ x y. nat_cmp x.0 y.0) e es) (e ∷ f ∷ es)) ≡ entry_where (λ k. eqb k id) (e ∷ f ∷ es)
    by_test id e f es true h ih = ap (cond (eqb f.0 id) (Some f.1)) ih ∙ swap id f.0 e.0 (eqb f.0 id) (eqb e.0 id) (Some f.1) (Some e.1) (entry_where (λ k. eqb k id) es) (lt_is f.0 e.0 h) refl refl
    by_test id e f es false h ih = refl

pub find_sorted : {X : Type 0} (id : ℕ) (es : List (ℕ × X)) → entry_where (λ k. eqb k id) (by_id es) ≡ entry_where (λ k. eqb k id) es
find_sorted id [] = refl
find_sorted id (e ∷ es) = find_placed id e (by_id es) ∙ ap (cond (eqb e.0 id) (Some e.1)) (find_sorted id es)

-- ---- the whole set

header_of : Properties → ℕ → ℕ → ℕ → Header
header_of set version reserved section = record { version = version; os_version = set.os_version; os = set.os; clsid = set.clsid; reserved = reserved; format_identifier = set.format_identifier; section = section }

given_is : {A : Type 0} (o : Option A) (d : A) → IsSome o → o ≡ Some (unwrap_or o d)
given_is (Some x) d h = refl
given_is None d h = absurd cc

-- what was read is spelled
spells_made : (bytes : List ℕ) (h : Header) (pairs : List (ℕ × ℕ)) (q : CodePage) (values : List PropertyValue) → IsBytes bytes → Headed bytes h → Sectioned (drop h.section bytes) pairs → has_pair (λ p q. eqb p.0 q.0) pairs ≡ false
    → page_stated h.version bytes h.section (entry_where (λ k. eqb k 1) pairs) ≡ Some q → values_in h.version q bytes h.section pairs ≡ Some values → Spells bytes (set_with h (by_id (listed_as pairs values)))
spells_made bytes h pairs q values fits head sect once stated read =
    let sorted = find_sorted 1 (listed_as pairs values) in
    let page_is : page_in (value_with_id 1 (by_id (listed_as pairs values))) ≡ Some q = ap page_in sorted ∙ page_found h.version q bytes h.section pairs values fits read stated in
    let same : page_of (set_with h (by_id (listed_as pairs values))) ≡ q = ap (λ (o : Option CodePage). unwrap_or o page.Utf8) page_is in
    record {
      version = h.version;
      reserved = h.reserved;
      section = h.section;
      size = sect.size;
      pairs = pairs;
      values = values;
      held = (head.is.os_version, head.is.clsid, head.is.format);
      fits = (head.is.version, head.is.some, head.is.reserved, head.is.section, sect.size_fits, sect.count_fits, sect.fits);
      header = ([], header_bytes (set_with h (by_id (listed_as pairs values))) h.version h.reserved h.section, head.others, refl, head.parts, refl);
      head = stands_here h.section bytes (section_head sect.size pairs) sect.others (λ front. front ≡ section_head sect.size pairs) (omega arith) sect.parts refl;
      once = once;
      page = is_some_by _ q page_is;
      spelled = subst (λ (r : CodePage). AllZip (ValueStandsAt h.version r bytes h.section) pairs values) (sym same) (values_found h.version q bytes h.section pairs values fits read);
      listed = refl;
    }

pub set_found : (bytes : List ℕ) (set : Properties) → IsBytes bytes → set_in bytes ≡ Some set → Spells bytes set
unfolding set_in
set_found bytes set fits e =
    let a = bind_some (header_at bytes) _ set e in
    let b = bind_some (section_at (drop a.0.section bytes)) _ set a.2 in
    let c = bind_some (cond (has_pair (λ p q. eqb p.0 q.0) b.0) None (page_stated a.0.version bytes a.0.section (entry_where (λ k. eqb k 1) b.0))) _ set b.2 in
    let g = guard_passed (has_pair (λ p q. eqb p.0 q.0) b.0) (page_stated a.0.version bytes a.0.section (entry_where (λ k. eqb k 1) b.0)) c.0 c.1 in
    let d = bind_some (values_in a.0.version c.0 bytes a.0.section b.0) _ set c.2 in
    subst (λ (x : Properties). Spells bytes x) (some_is (set_with a.0 (by_id (listed_as b.0 d.0))) set d.2)
    (spells_made bytes a.0 b.0 c.0 d.0 fits (header_found bytes a.0 fits a.1) (section_found (drop a.0.section bytes) b.0 (IsBytes-drop a.0.section bytes fits) b.1) g.0 g.1 d.1)

-- what is spelled is read
pub set_again : (bytes : List ℕ) (set : Properties) → IsBytes bytes → Spells bytes set → set_in bytes ≡ Some set
unfolding set_in header_of
set_again bytes set fits s =
    let h = header_of set s.version s.reserved s.section in
    let q = page_of set in
    let is : IsHeader h = record { version = s.fits.0; os_version = s.held.0; clsid = s.held.1; some = s.fits.1; reserved = s.fits.2; format = s.held.2; section = s.fits.3 } in
    let top = stands_drop 0 bytes (λ front. front ≡ header_bytes set s.version s.reserved s.section) s.header in
    let head : header_at bytes ≡ Some h = ap header_at (top.parts ∙ ap (λ (x : List ℕ). x ++ top.others) top.is) ∙ header_again h top.others is in
    let low = stands_drop s.section bytes (λ front. front ≡ section_head s.size s.pairs) s.head in
    let sect : section_at (drop s.section bytes) ≡ Some s.pairs = ap section_at (low.parts ∙ ap (λ (x : List ℕ). x ++ low.others) low.is) ∙ section_again s.size s.pairs low.others s.fits.4 s.fits.5 s.fits.6 in
    let read : values_in s.version q bytes s.section s.pairs ≡ Some s.values = values_again s.version q bytes s.section s.pairs s.values s.spelled in
    let by_value : page_in (value_with_id 1 (listed_as s.pairs s.values)) ≡ Some q = ap page_in (sym (find_sorted 1 (listed_as s.pairs s.values)) ∙ ap (value_with_id 1) (sym s.listed)) ∙ given_is (page_in (value_with_id 1 set.values)) page.Utf8 s.page in
    let stated : page_stated s.version bytes s.section (entry_where (λ k. eqb k 1) s.pairs) ≡ Some q = page_again s.version q bytes s.section s.pairs s.values fits read by_value in
    rw (head, sect, s.once, stated, read) (ap (λ (x : List (ℕ × PropertyValue)). given (set_with h x)) (sym s.listed))

-- at most one set is spelled
pub one_set : (bytes : List ℕ) (a b : Properties) → IsBytes bytes → Spells bytes a → Spells bytes b → a ≡ b
one_set bytes a b fits p q = some_is a b (sym (set_again bytes a fits p) ∙ set_again bytes b fits q)
