-- What the order of the entries tells of the texts' places.
use Rattle.std.proofs.Common.{◌≡◌, ℕ, ◌<◌, Bool, true, false, cond, not, ◌&&◌, ◌||◌, List, ◌∷◌, Some, None, inl, inr, refl, sym, ap, ap₂, ◌∙◌, Ordering, Less, Equal, Greater, is_eq, is_gt, nat_cmp, bytes_eq, slice_get, IfSome, subst, true≢false, arith}
use Rattle.std.specs.Cmp.Lexicographic.{slice_cmp}
use Rattle.std.specs.Ordering.{ordering_then, ordering_reverse}
use Rattle.std.specs.List.{list_any}
use Rattle.std.specs.BTreeMap.{is_at}
use Rattle.std.proofs.lemmas.Bool.{cases_Bool}
use Rattle.std.proofs.lemmas.Bool.Decides.{nat_tests}
use Rattle.std.proofs.lemmas.Cmp.{nat_list_cmp_total, nat_list_eq_equiv, tied_itself}
use Rattle.std.proofs.lemmas.Slice.Eq.{bytes_eq-Decides}
use Rattle.std.proofs.lemmas.Map.Text.{is_eq-slice_cmp}
use Rattle.msi_base.proofs.OrderingLemmas.{then_equal, nat_equal}
use Rattle.msi_pool_places.specs.declared.texts.Entry.{Entry}
use Rattle.msi_pool_places.specs.PoolIndexes.{IsLeast}
use Rattle.msi_pool_places.specs.TextIndexes.{entry_cmp, is_entered, is_same}

cond_or : (b x : Bool) → cond b true x ≡ (b || x)
cond_or true x = refl
cond_or false x = refl

cond_and : (b x : Bool) → cond b false x ≡ (not b && x)
cond_and true x = refl
cond_and false x = refl

abbrev entry : List ℕ → ℕ → Entry
entry t i = record { text = t; at = i }

-- an entry is found where the text and the place are its own
is_at-same : (e : Entry) (t : List ℕ) (i : ℕ) → is_at (entry_cmp e) (entry t i) ≡ is_same t i e.text e.at
is_at-same e t i = then_equal (slice_cmp nat_cmp e.text t) (nat_cmp e.at i) ∙ ap₂ (λ a b. a && b) (is_eq-slice_cmp e.text t) (nat_equal i e.at)

abbrev Updates : Entry → Bool → List Entry → List Entry → Type 0
Updates e b old new = (q : Entry)
    → list_any (is_at (entry_cmp q)) new ≡ cond (is_at (entry_cmp e) q) b (list_any (is_at (entry_cmp q)) old)

-- one entry more
pub entered : (e : Entry) (old new seen : List Entry) → old ≡ seen → Updates e true old new → (t : List ℕ) (i : ℕ)
    → is_entered new t i ≡ (is_same t i e.text e.at || is_entered seen t i)
entered e old new seen is updates t i = rw (← is) (updates (entry t i) ∙ ap (λ b. cond b true (is_entered old t i)) (is_at-same e t i) ∙ cond_or (is_same t i e.text e.at) (is_entered old t i))

-- one entry less
pub left_out : (e : Entry) (old new seen : List Entry) → old ≡ seen → Updates e false old new → (t : List ℕ) (i : ℕ)
    → is_entered new t i ≡ (not (is_same t i e.text e.at) && is_entered seen t i)
left_out e old new seen is updates t i = rw (← is) (updates (entry t i) ∙ ap (λ b. cond b false (is_entered old t i)) (is_at-same e t i) ∙ cond_and (is_same t i e.text e.at) (is_entered old t i))

-- place 0 of a text is at the front of its places
pub in_front : (s : Entry) (i : ℕ) → s.at ≡ 0 → is_gt (entry_cmp s (entry s.text i)) ≡ false
in_front s i zero_at = rw (tied_itself nat_list_cmp_total s.text, zero_at) (grind (arith, nat_tests))

-- the entries from s on begin with k
abbrev pub BeginsWith : Entry → Entry → List Entry → Type 0
BeginsWith s k seen = (q : Entry) → is_gt (entry_cmp s q) ≡ false → list_any (is_at (entry_cmp q)) seen ≡ true → is_gt (entry_cmp k q) ≡ false

behind : (t u : List ℕ) (i j : ℕ) → t ≡ u → j < i → is_gt (ordering_then (slice_cmp nat_cmp t u) (nat_cmp i j)) ≡ true
behind t u i j same less = rw (same, tied_itself nat_list_cmp_total u) (grind (arith, nat_tests))

pub least_found : (s k : Entry) (seen : List Entry) → s.at ≡ 0 → bytes_eq k.text s.text ≡ true → list_any (is_at (entry_cmp k)) seen ≡ true → BeginsWith s k seen
    → IsLeast (is_entered seen s.text) (Some k.at)
least_found s k seen zero_at same found begins =
    let is : k.text ≡ s.text = (bytes_eq-Decides k.text s.text).0 same in (
      ap (λ t. is_entered seen t k.at) (sym is) ∙ found,
      λ j less. elim (cases_Bool (is_entered seen s.text j)) [
        | inl held ↦ absurd (true≢false (sym (behind k.text s.text k.at j is less) ∙ begins (entry s.text j) (in_front s j zero_at) held))
        | inr missing ↦ missing
      ],
    )

apart : (o p r : Ordering) → is_eq o ≡ false → is_gt (ordering_then o p) ≡ false → is_gt (ordering_then (ordering_reverse o) r) ≡ false → ⊥
apart Less p r e f g = true≢false g
apart Equal p r e f g = true≢false e
apart Greater p r e f g = true≢false f

pub none_found : (s k : Entry) (seen : List Entry) → s.at ≡ 0 → bytes_eq k.text s.text ≡ false → is_gt (entry_cmp s k) ≡ false → BeginsWith s k seen
    → IsLeast (is_entered seen s.text) None
none_found s k seen zero_at other after begins i = elim (cases_Bool (is_entered seen s.text i)) [
  | inl held ↦ absurd (apart (slice_cmp nat_cmp s.text k.text) (nat_cmp s.at k.at) (nat_cmp k.at i) (is_eq-slice_cmp s.text k.text ∙ nat_list_eq_equiv.symm s.text k.text ∙ other) after
      (ap (λ o. is_gt (ordering_then o (nat_cmp k.at i))) (sym (nat_list_cmp_total.antisymm k.text s.text)) ∙ begins (entry s.text i) (in_front s i zero_at) held))
  | inr missing ↦ missing
]

-- what holds of the first of the entries
pub first_of : (P : Entry → Type 0) (run others : List Entry) (k : Entry) → run ≡ k ∷ others → IfSome (slice_get run 0) P → P k
first_of P run others k is first = subst (λ (es : List Entry). IfSome (slice_get es 0) P) is first
