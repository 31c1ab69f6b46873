-- Sums over entries in the order of their names, of a number for each name.
use Rattle.std.proofs.Common.{◌≡◌, ℕ, ◌+◌, ◌≤◌, Bool, true, false, ◌&&◌, T, List, [], ◌∷◌, map, filter, refl, sym, ap, subst, arith}
use Rattle.std.specs.Prelude.{None, is_some, if◌then◌else◌}
use Rattle.std.specs.Cmp.{eq_by_cmp_equiv}
use Rattle.std.specs.FinMap.{find, is_sorted}
use Rattle.std.specs.FinMap.Entries.{below_all}
use Rattle.std.specs.Ordering.{eq_by_cmp, is_lt}
use Rattle.std.specs.declared.cmp.Ordering.{Ordering}
use Rattle.std.specs.declared.cmp.Ordering.TheVariants.{Less}
use Rattle.msi_base.specs.Lists.{list_cmp}
use Rattle.msi_base.proofs.BoolLemmas.{T_parts, by_test, yes_is_no}
use Rattle.msi_transform_laws.proofs.CarriedOutLemmas.{is_less, less}
use Rattle.msi_transform_laws.proofs.ListedTablesLemmas.{exact_names}
use Rattle.msi_transform_laws.proofs.StoredRecordsLemmas.{names_total}

both : (a b : Bool) → T a → T b → T (a && b)
both true b p q = q
both false b p q = p

-- one name alone, those that pass a test, and those of other entries
abbrev pub only_at : List ℕ → (List ℕ → ℕ) → List ℕ → ℕ
only_at name f m = if eq_by_cmp list_cmp name m then f m else 0

abbrev pub if_passing : (List ℕ → Bool) → (List ℕ → ℕ) → List ℕ → ℕ
if_passing q f m = if q m then f m else 0

abbrev pub if_among : {Y : Type 0} → List (List ℕ × Y) → (List ℕ → ℕ) → List ℕ → ℕ
if_among ts f m = if is_some (find list_cmp m ts) then f m else 0

module _ {X : Type 0} where
  abbrev pub named_sum : (List ℕ → ℕ) → List (List ℕ × X) → ℕ
  named_sum f [] = 0
  named_sum f (e ∷ es) = f e.0 + named_sum f es

  pub sum_same : (f g : List ℕ → ℕ) → ((name : List ℕ) → f name ≡ g name) → (es : List (List ℕ × X)) → named_sum f es ≡ named_sum g es
  sum_same f g h [] = refl
  sum_same f g h (e ∷ es) = omega (arith, h e.0, sum_same f g h es)

  pub sum_none : (f : List ℕ → ℕ) → ((name : List ℕ) → f name ≡ 0) → (es : List (List ℕ × X)) → named_sum f es ≡ 0
  sum_none f h [] = refl
  sum_none f h (e ∷ es) = omega (arith, h e.0, sum_none f h es)

  pub sum_both : (f g : List ℕ → ℕ) (es : List (List ℕ × X)) → named_sum (λ name. f name + g name) es ≡ named_sum f es + named_sum g es
  sum_both f g [] = omega arith
  sum_both f g (e ∷ es) = omega (arith, sum_both f g es)

  pub sum_found : (name : List ℕ) (f : List ℕ → ℕ) (es : List (List ℕ × X)) → is_some (find list_cmp name es) ≡ true → f name ≤ named_sum f es
  sum_found name f [] found = yes_is_no false found refl
  sum_found name f (e ∷ es) found = by_test (eq_by_cmp list_cmp name e.0)
      (λ t. let here : f name ≡ f e.0 = ap f (exact_names name e.0 t) in omega (arith, here))
      (λ t. omega (arith, sum_found name f es (rw t at found)))

  below_before : (k l : List ℕ) (es : List (List ℕ × X)) → list_cmp k l ≡ Less → T (below_all list_cmp l es) → T (below_all list_cmp k es)
  below_before k l [] p h = tt
  below_before k l (e ∷ es) p h =
      let q = T_parts (is_lt (list_cmp l e.0)) (below_all list_cmp l es) h in
      both (is_lt (list_cmp k e.0)) (below_all list_cmp k es)
      (subst (λ (o : Ordering). T (is_lt o)) (sym (names_total.trans k l e.0 p (is_less (list_cmp l e.0) q.0))) tt)
      (below_before k l es p q.1)

  none_behind : (name : List ℕ) (f : List ℕ → ℕ) (es : List (List ℕ × X)) → T (below_all list_cmp name es) → named_sum (only_at name f) es ≡ 0
  none_behind name f [] h = refl
  none_behind name f (e ∷ es) h =
      let q = T_parts (is_lt (list_cmp name e.0)) (below_all list_cmp name es) h in
      let apart : eq_by_cmp list_cmp name e.0 ≡ false = less (list_cmp name e.0) q.0 in
      rw apart (omega (arith, none_behind name f es q.1))

  pub sum_at : (name : List ℕ) (f : List ℕ → ℕ) (es : List (List ℕ × X)) → T (is_sorted list_cmp es) → named_sum (only_at name f) es ≡ (if is_some (find list_cmp name es) then f name else 0)
  sum_at name f [] h = refl
  sum_at name f (e ∷ es) h =
      let q = T_parts (below_all list_cmp e.0 es) (is_sorted list_cmp es) h in
      by_test (eq_by_cmp list_cmp name e.0)
      (λ t. let same = exact_names name e.0 t in
      let none = none_behind name f es (subst (λ (n : List ℕ). T (below_all list_cmp n es)) (sym same) q.0) in
      let here : f e.0 ≡ f name = ap f (sym same) in
      rw t (omega (arith, none, here)))
      (λ t. rw t (omega (arith, sum_at name f es q.1)))

  -- no entry of a name that is before all of them
  none_found : (name : List ℕ) (es : List (List ℕ × X)) → T (below_all list_cmp name es) → find list_cmp name es ≡ None
  none_found name [] h = refl
  none_found name (e ∷ es) h =
      let q = T_parts (is_lt (list_cmp name e.0)) (below_all list_cmp name es) h in
      rw (less (list_cmp name e.0) q.0) (none_found name es q.1)

  pub sum_passing : (q : List ℕ → Bool) (f : List ℕ → ℕ) (sum : List (List ℕ) → ℕ) → sum [] ≡ 0 → ((m : List ℕ) (ms : List (List ℕ)) → sum (m ∷ ms) ≡ f m + sum ms)
      → (es : List (List ℕ × X)) → named_sum (if_passing q f) es ≡ sum (filter q (map (λ (e : List ℕ × X). e.0) es))
  sum_passing q f sum none more [] = sym none
  sum_passing q f sum none more (e ∷ es) = by_test (q e.0)
      (λ t. rw t (omega (arith, more e.0 (filter q (map (λ (e : List ℕ × X). e.0) es)), sum_passing q f sum none more es)))
      (λ t. rw t (omega (arith, sum_passing q f sum none more es)))

-- the names of other entries
module _ {X Y : Type 0} (f : List ℕ → ℕ) (es : List (List ℕ × X)) (sorted : T (is_sorted list_cmp es)) (none : (name : List ℕ) → is_some (find list_cmp name es) ≡ false → f name ≡ 0) where
  among_first : (e : List ℕ × Y) (ts : List (List ℕ × Y)) → T (below_all list_cmp e.0 ts) → (m : List ℕ) → if_among (e ∷ ts) f m ≡ only_at e.0 f m + if_among ts f m
  among_first e ts below m =
      let turned : eq_by_cmp list_cmp e.0 m ≡ eq_by_cmp list_cmp m e.0 = (eq_by_cmp_equiv names_total).symm e.0 m in
      by_test (eq_by_cmp list_cmp m e.0)
      (λ t. let nothing : find list_cmp m ts ≡ None = none_found m ts (subst (λ (n : List ℕ). T (below_all list_cmp n ts)) (sym (exact_names m e.0 t)) below) in
      rw (turned, t, nothing) (omega arith))
      (λ t. rw (turned, t) (omega arith))

  pub sum_among : (ts : List (List ℕ × Y)) → T (is_sorted list_cmp ts) → named_sum (if_among ts f) es ≡ named_sum f ts
  sum_among [] h = sum_none (if_among {Y = Y} [] f) (λ name. refl) es
  sum_among (e ∷ ts) h =
      let q = T_parts (below_all list_cmp e.0 ts) (is_sorted list_cmp ts) h in
      let first : (if is_some (find list_cmp e.0 es) then f e.0 else 0) ≡ f e.0 = by_test (is_some (find list_cmp e.0 es)) (λ t. rw t refl) (λ t. rw (t, none e.0 t) refl) in
      omega (
        arith,
        sum_same (if_among (e ∷ ts) f) (λ m. only_at e.0 f m + if_among ts f m) (among_first e ts q.0) es,
        sum_both (only_at e.0 f) (if_among ts f) es,
        sum_at e.0 f es sorted,
        first,
        sum_among ts q.1,
      )
