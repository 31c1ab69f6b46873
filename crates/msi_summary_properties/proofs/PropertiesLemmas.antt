-- A set's values after one is set or removed, and the page that they name.
use Rattle.std.proofs.Common.{◌≡◌, ℕ, ◌<◌, Bool, true, false, not, cond, List, [], ◌∷◌, filter, Option, Some, None, refl, sym, ap, ◌∙◌, arith, inl, inr}
use Rattle.std.specs.Prelude.{is_some, ◌==◌, Result, Ok, Err, OnOk}
use Rattle.std.specs.Ordering.{nat_cmp}
use Rattle.std.specs.Map.{lookup, remove_entry}
use Rattle.std.specs.BTreeMap.{is_at, insert_entry}
use Rattle.std.proofs.lemmas.Bool.{cases_Bool}
use Rattle.std.proofs.lemmas.Bool.Decides.{nat_tests}
use Rattle.std.proofs.lemmas.Cmp.{by_ranked, ranked}
use Rattle.msi_base.specs.declared.codepage.CodePage.{CodePage}
use Rattle.msi_base.specs.declared.codepage.CodePage.TheVariants as page
use Rattle.msi_base.specs.Lists.{entry_where}
use Rattle.msi_base.proofs.OrderingLemmas.{nat_equal}
use Rattle.msi_summary_properties.specs.declared.propset.PropertyValue.{PropertyValue}
use Rattle.msi_summary_properties.specs.Properties.{Properties, NamesPage, can_set, page_in, page_of, page_value, value_with_id, with_page}
use Rattle.msi_summary_properties.specs.PropertyLaws.{RemovingChangesOne, SettingChangesOne}

-- a map finds a number as the definitions do
same_tests : (k : ℕ) → is_at (nat_cmp k) ≡ (λ q. q == k)
same_tests k = λ i q. nat_equal q k i

entry_where-lookup : {X : Type 0} (p : ℕ → Bool) (es : List (ℕ × X)) → lookup p es ≡ entry_where p es
entry_where-lookup p [] = refl
entry_where-lookup p (e ∷ es) = ap (cond (p e.0) (Some e.1)) (entry_where-lookup p es)

pub value_with_id-lookup : (k : ℕ) (es : List (ℕ × PropertyValue)) → lookup (is_at (nat_cmp k)) es ≡ value_with_id k es
value_with_id-lookup k es = ap (λ p. lookup p es) (same_tests k) ∙ entry_where-lookup (λ q. q == k) es

-- what is set at k is found there, and everything else where it was
tied : {X : Type 0} (k j q : ℕ) (a b c : X) → k ≡ j → cond (j == q) a c ≡ cond (k == q) a (cond (j == q) b c)
tied k j q a b c e = grind (arith, nat_tests)

untied : {X : Type 0} (k j q : ℕ) (a b c : X) → j < k → cond (j == q) b (cond (k == q) a c) ≡ cond (k == q) a (cond (j == q) b c)
untied k j q a b c lt = grind (arith, nat_tests)

pub value_with_id-insert_entry : (q k : ℕ) (v : PropertyValue) (es : List (ℕ × PropertyValue)) → value_with_id q (insert_entry nat_cmp es k v) ≡ cond (k == q) (Some v) (value_with_id q es)
value_with_id-insert_entry q k v [] = refl
value_with_id-insert_entry q k v (e ∷ es) = by_ranked _ _ _ (nat_cmp k e.0) (ranked k e.0 (nat_cmp k e.0) refl)
    (λ p lt. rw p refl)
    (λ p same. rw p (tied k e.0 q (Some v) (Some e.1) (value_with_id q es) same))
    (λ p gt. rw (p, value_with_id-insert_entry q k v es) (untied k e.0 q (Some v) (Some e.1) (value_with_id q es) gt))

-- what is removed is not found, and everything else is
dropped : {X : Type 0} (k j q : ℕ) (b c : Option X) → (j == k) ≡ true → cond (k == q) None c ≡ cond (k == q) None (cond (j == q) b c)
dropped k j q b c e = grind (arith, nat_tests)

kept : {X : Type 0} (k j q : ℕ) (b c : Option X) → (j == k) ≡ false → cond (j == q) b (cond (k == q) None c) ≡ cond (k == q) None (cond (j == q) b c)
kept k j q b c e = grind (arith, nat_tests)

pub value_with_id-without : (q k : ℕ) (es : List (ℕ × PropertyValue)) → value_with_id q (filter (λ e. not (e.0 == k)) es) ≡ cond (k == q) None (value_with_id q es)
value_with_id-without q k [] = grind (arith, nat_tests)
value_with_id-without q k (e ∷ es) = elim (cases_Bool (e.0 == k)) [
  | inl t ↦ rw (t, value_with_id-without q k es) (dropped k e.0 q (Some e.1) (value_with_id q es) t)
  | inr f ↦ rw (f, value_with_id-without q k es) (kept k e.0 q (Some e.1) (value_with_id q es) f)
]

pub setting_changes_one : SettingChangesOne
setting_changes_one id other value set = value_with_id-insert_entry other id value set.values

pub removing_changes_one : RemovingChangesOne
removing_changes_one id other set = value_with_id-without other id set.values

-- a map without an entry, where no other has its key
none_removed : {X : Type 0} (p : ℕ → Bool) (es : List (ℕ × X)) → lookup p es ≡ None → filter (λ e. not (p e.0)) es ≡ es
none_removed p [] h = refl
none_removed {X = X} p (e ∷ es) h = elim (cases_Bool (p e.0)) [
  | inl t ↦ absurd (let k = rw t at h in cc)
  | inr f ↦ let k = rw f at h in rw f (ap (λ (x : List (ℕ × X)). e ∷ x) (none_removed p es k))
]

one_removed : {X : Type 0} (p : ℕ → Bool) (es : List (ℕ × X)) → lookup p (remove_entry p es) ≡ None → remove_entry p es ≡ filter (λ e. not (p e.0)) es
one_removed p [] h = refl
one_removed {X = X} p (e ∷ es) h = elim (cases_Bool (p e.0)) [
  | inl t ↦ let k = rw t at h in rw t (sym (none_removed p es k))
  | inr f ↦ let k = rw (f, f) at h in rw f (ap (λ (x : List (ℕ × X)). e ∷ x) (one_removed p es k))
]

filter-remove_entry : (k : ℕ) (es : List (ℕ × PropertyValue)) → lookup (is_at (nat_cmp k)) (remove_entry (is_at (nat_cmp k)) es) ≡ None → remove_entry (is_at (nat_cmp k)) es ≡ filter (λ e. not (e.0 == k)) es
filter-remove_entry k es h = one_removed (is_at (nat_cmp k)) es h ∙ ap (λ (p : ℕ → Bool). filter (λ (e : ℕ × PropertyValue). not (p e.0)) es) (same_tests k)

pub filter-from_remove : (k : ℕ) (es new : List (ℕ × PropertyValue)) → new ≡ remove_entry (is_at (nat_cmp k)) es → lookup (is_at (nat_cmp k)) new ≡ None → new ≡ filter (λ e. not (e.0 == k)) es
filter-from_remove k es new e h = e ∙ filter-remove_entry k es (ap (lookup (is_at (nat_cmp k))) (sym e) ∙ h)

-- the page stays known
still_named : (b : Bool) (v : PropertyValue) (old : Option PropertyValue) → cond b (is_some (page_in (Some v))) true ≡ true → is_some (page_in old) ≡ true → is_some (page_in (cond b (Some v) old)) ≡ true
still_named true v old h g = h
still_named false v old h g = g

pub NamesPage-insert_entry : (k : ℕ) (v : PropertyValue) (es : List (ℕ × PropertyValue)) → can_set k v ≡ true → NamesPage es → NamesPage (insert_entry nat_cmp es k v)
NamesPage-insert_entry k v es h g = rw (value_with_id-insert_entry 1 k v es) (still_named (k == 1) v (value_with_id 1 es) h g)

still_named_without : (b : Bool) (old : Option PropertyValue) → is_some (page_in old) ≡ true → is_some (page_in (cond b None old)) ≡ true
still_named_without true old g = refl
still_named_without false old g = g

pub NamesPage-without : (k : ℕ) (es : List (ℕ × PropertyValue)) → NamesPage es → NamesPage (filter (λ e. not (e.0 == k)) es)
NamesPage-without k es g = rw (value_with_id-without 1 k es) (still_named_without (k == 1) (value_with_id 1 es) g)

-- a page is named by its value
pub page_in-page_value : (p : CodePage) → page_in (Some (page_value p)) ≡ Some p
page_in-page_value page.Windows932 = refl
page_in-page_value page.Windows936 = refl
page_in-page_value page.Windows949 = refl
page_in-page_value page.Windows950 = refl
page_in-page_value page.Windows951 = refl
page_in-page_value page.Windows1250 = refl
page_in-page_value page.Windows1251 = refl
page_in-page_value page.Windows1252 = refl
page_in-page_value page.Windows1253 = refl
page_in-page_value page.Windows1254 = refl
page_in-page_value page.Windows1255 = refl
page_in-page_value page.Windows1256 = refl
page_in-page_value page.Windows1257 = refl
page_in-page_value page.Windows1258 = refl
page_in-page_value page.MacintoshRoman = refl
page_in-page_value page.MacintoshCyrillic = refl
page_in-page_value page.UsAscii = refl
page_in-page_value page.Iso88591 = refl
page_in-page_value page.Iso88592 = refl
page_in-page_value page.Iso88593 = refl
page_in-page_value page.Iso88594 = refl
page_in-page_value page.Iso88595 = refl
page_in-page_value page.Iso88596 = refl
page_in-page_value page.Iso88597 = refl
page_in-page_value page.Iso88598 = refl
page_in-page_value page.Utf8 = refl

pub page_of-with_page : (p : CodePage) (set : Properties) → page_of (with_page p set) ≡ p
page_of-with_page p set = rw (value_with_id-insert_entry 1 1 (page_value p) set.values, page_in-page_value p) refl

pub OnOk-page_of : {T E : Type 0} (r : Result T E) (p : CodePage) (old new : Properties) → OnOk r (new ≡ with_page p old) → OnOk r (page_of new ≡ p)
OnOk-page_of (Ok x) p old new h = ap page_of h ∙ page_of-with_page p old
OnOk-page_of (Err e) p old new h = tt
