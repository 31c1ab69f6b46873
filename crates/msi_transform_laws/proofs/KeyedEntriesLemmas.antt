-- Entries in the order of their keys: what their values come to, with an entry more, less or exchanged.
use Rattle.std.proofs.Common.{◌≡◌, ℕ, ◌+◌, ◌≤◌, Bool, true, false, cond, not, ◌&&◌, T, List, [], ◌∷◌, filter, refl, sym, ap, subst, arith}
use Rattle.std.specs.Prelude.{Option, Some, None}
use Rattle.std.specs.FinMap.{find, is_sorted, put}
use Rattle.std.specs.FinMap.Entries.{below_all, by_order}
use Rattle.std.specs.Ordering.{eq_by_cmp, is_eq, is_lt}
use Rattle.std.specs.declared.cmp.Ordering.{Ordering}
use Rattle.std.specs.declared.cmp.Ordering.TheVariants.{Less, Equal, Greater}
use Rattle.msi_base.proofs.BoolLemmas.{T_parts, by_test}
use Rattle.msi_base.proofs.OptionLemmas.{none_is, some_is}
use Rattle.msi_table_values.specs.declared.value.Value.{Value}
use Rattle.msi_transform_rows.specs.KeyOfRows.{key_cmp}
use Rattle.msi_transform_laws.proofs.CarriedOutLemmas.{is_less, keys_total, less, same}

both : (a b : Bool) → T a → T b → T (a && b)
both true b p q = q
both false b p q = p

module _ {X : Type 0} where
  abbrev pub without : List Value → List (List Value × X) → List (List Value × X)
  without k es = filter (λ e. not (eq_by_cmp key_cmp k e.0)) es

  -- a key before all others isn't among them
  none_found : (k : List Value) (es : List (List Value × X)) → T (below_all key_cmp k es) → find key_cmp k es ≡ None
  none_found k [] h = refl
  none_found k (e ∷ es) h =
      let p = T_parts (is_lt (key_cmp k e.0)) (below_all key_cmp k es) h in
      rw (less (key_cmp k e.0) p.0) (none_found k es p.1)

  none_left_out : (k : List Value) (es : List (List Value × X)) → T (below_all key_cmp k es) → without k es ≡ es
  none_left_out k [] h = refl
  none_left_out k (e ∷ es) h =
      let p = T_parts (is_lt (key_cmp k e.0)) (below_all key_cmp k es) h in
      rw (less (key_cmp k e.0) p.0) (ap (λ (l : List (List Value × X)). e ∷ l) (none_left_out k es p.1))

  below_before : (k l : List Value) (es : List (List Value × X)) → key_cmp k l ≡ Less → T (below_all key_cmp l es) → T (below_all key_cmp k es)
  below_before k l [] p h = tt
  below_before k l (e ∷ es) p h =
      let q = T_parts (is_lt (key_cmp l e.0)) (below_all key_cmp l es) h in
      both (is_lt (key_cmp k e.0)) (below_all key_cmp k es)
      (subst (λ (o : Ordering). T (is_lt o)) (sym (keys_total.trans k l e.0 p (is_less (key_cmp l e.0) q.0))) tt)
      (below_before k l es p q.1)

  module _ (f : X → ℕ) where
    abbrev pub sum_of : List (List Value × X) → ℕ
    sum_of [] = 0
    sum_of (e ∷ es) = f e.1 + sum_of es

    abbrev pub held : Option X → ℕ
    held None = 0
    held (Some x) = f x

    pub sum_of-put : (k : List Value) (x : X) (es : List (List Value × X)) → T (is_sorted key_cmp es) → sum_of (put key_cmp k x es) + held (find key_cmp k es) ≡ sum_of es + f x
    sum_of-put k x [] h = omega arith
    sum_of-put k x (e ∷ es) h =
        let p = T_parts (below_all key_cmp e.0 es) (is_sorted key_cmp es) h in
        elim (key_cmp k e.0) as (λ o. key_cmp k e.0 ≡ o → sum_of (by_order o ((k, x) ∷ e ∷ es) ((e.0, x) ∷ es) (e ∷ put key_cmp k x es)) + held (cond (is_eq o) (Some e.1) (find key_cmp k es)) ≡ f e.1 + sum_of es + f x) [
          | Less ↦ λ o. let none : held (find key_cmp k es) ≡ 0 = ap held (none_found k es (below_before k e.0 es o p.0)) in omega (arith, none)
          | Equal ↦ λ o. omega arith
          | Greater ↦ λ o. omega (arith, sum_of-put k x es p.1)
        ] refl

    pub sum_of-without : (k : List Value) (es : List (List Value × X)) → T (is_sorted key_cmp es) → sum_of (without k es) + held (find key_cmp k es) ≡ sum_of es
    sum_of-without k [] h = refl
    sum_of-without k (e ∷ es) h =
        let p = T_parts (below_all key_cmp e.0 es) (is_sorted key_cmp es) h in
        by_test (eq_by_cmp key_cmp k e.0)
        (λ t. let rest : sum_of (without k es) ≡ sum_of es = ap sum_of (none_left_out k es (subst (λ (q : List Value). T (below_all key_cmp q es)) (sym (same k e.0 t)) p.0)) in
        rw t (omega (arith, rest)))
        (λ t. rw t (omega (arith, sum_of-without k es p.1)))

    pub found_within : (k : List Value) (x : X) (es : List (List Value × X)) → find key_cmp k es ≡ Some x → f x ≤ sum_of es
    found_within k x [] h = none_is h
    found_within k x (e ∷ es) h = by_test (eq_by_cmp key_cmp k e.0)
        (λ t. let here : f e.1 ≡ f x = ap f (some_is e.1 x (rw t at h)) in omega (arith, here))
        (λ t. omega (arith, found_within k x es (rw t at h)))
