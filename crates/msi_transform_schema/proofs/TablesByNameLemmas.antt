-- Maps under names that are borrowed.
use Rattle.std.proofs.Common.{◌≡◌, ℕ, Bool, true, false, cond, ◌&&◌, List, [], ◌∷◌, length, refl, sym, ap, subst, ◌∙◌, arith}
use Rattle.std.proofs.lemmas.Map.Lookups.{exact_bytes}
use Rattle.std.proofs.lemmas.Map.Text.{btree_map_updates_str, is_eq-slice_cmp}
use Rattle.std.specs.Prelude.{Option, Some, T}
use Rattle.std.specs.Borrow.{Bor}
use Rattle.std.specs.BTreeMap as tree
use Rattle.std.specs.BTreeMap.{BTreeMap, is_at}
use Rattle.std.specs.Cmp.{eq_by_cmp_equiv}
use Rattle.std.specs.Cmp.Lexicographic.{slice_cmp, nat_list_cmp_total}
use Rattle.std.specs.FinMap.Entries.{below_all, is_sorted, same_entries}
use Rattle.std.specs.FinMap.{entries, entries_sorted, find, from_entries, get, get-entries, get-from_entries, get-insert, entries-insert, len-empty, len-entries, put, same_map}
use Rattle.std.specs.List.{AllByRecursion}
use Rattle.std.specs.List.Sorted.{IsStrictlySortedBy}
use Rattle.std.specs.Map.{keys_of, lookup}
use Rattle.std.specs.Ordering.{eq_by_cmp, is_lt, nat_cmp}
use Rattle.std.specs.declared.cmp.Ordering.{Ordering}
use Rattle.std.specs.declared.cmp.Ordering.TheVariants.{Less}
use Rattle.msi_base.specs.Lists.{list_cmp}
use Rattle.msi_transform_schema.specs.TablesInHand.{named}

abbrev at_name : List ℕ → Bor (List ℕ) → Bool
at_name q = is_at (λ k. slice_cmp nat_cmp q k.now)

nothing : {A : Type 0} (xs : List A) → length xs ≡ 0 → xs ≡ []
nothing [] none = refl
nothing (x ∷ xs) none = absurd (omega arith)

both : (a b : Bool) → T a → T b → T (a && b)
both true b p q = q
both false b p q = p

is_less : (o : Ordering) → o ≡ Less → T (is_lt o)
is_less o e = subst (λ p. T (is_lt p)) (sym e) tt

module _ {X : Type 0} where
  no_tables : entries (from_entries {R = list_cmp} (named {X = X} [])) ≡ []
  no_tables = nothing _ (sym (len-entries (from_entries {R = list_cmp} (named {X = X} []))) ∙ len-empty list_cmp X)

  pub no_entries : (es : List (Bor (List ℕ) × X)) → es ≡ [] → entries (from_entries {R = list_cmp} (named es)) ≡ []
  no_entries es none = ap (λ (fs : List (Bor (List ℕ) × X)). entries (from_entries {R = list_cmp} (named fs))) none ∙ no_tables

  -- the first entry of a name is what a look-up finds
  find_is_lookup : (q : List ℕ) (es : List (Bor (List ℕ) × X)) → find list_cmp q (named es) ≡ lookup (at_name q) es
  find_is_lookup q [] = refl
  find_is_lookup q (e ∷ es) = ap (cond (at_name q e.0) (Some e.1)) (find_is_lookup q es)

  get_is_lookup : (es : List (Bor (List ℕ) × X)) (q : List ℕ) → get (from_entries {R = list_cmp} (named es)) q ≡ lookup (at_name q) es
  get_is_lookup es q = get-from_entries nat_list_cmp_total (named es) q ∙ find_is_lookup q es

  pub entries_found : (es : List (Bor (List ℕ) × X)) (q : List ℕ) → lookup (at_name q) es ≡ find list_cmp q (entries (from_entries {R = list_cmp} (named es)))
  entries_found es q = sym (get_is_lookup es q) ∙ get-entries (from_entries {R = list_cmp} (named es)) q

  -- a new table at one name, and else the tables as they were
  pub entries_put : (m n : BTreeMap (Bor (List ℕ)) X) (bs : List ℕ) (v : X)
      → tree.UpdatesBy (λ x y. slice_cmp nat_cmp x.now y.now) (λ k. slice_cmp nat_cmp bs k.now) m n (Some v)
      → entries (from_entries {R = list_cmp} (named n.entries)) ≡ put list_cmp bs v (entries (from_entries {R = list_cmp} (named m.entries)))
  entries_put m n bs v updates =
      ap entries (same_map nat_list_cmp_total exact_bytes _ _ (λ q.
      get_is_lookup n.entries q ∙ btree_map_updates_str bs m n (Some v) updates q
      ∙ ap (λ b. cond b (Some v) (lookup (at_name q) m.entries)) (sym (is_eq-slice_cmp bs q) ∙ (eq_by_cmp_equiv nat_list_cmp_total).symm bs q)
      ∙ sym (get-insert nat_list_cmp_total (from_entries (named m.entries)) bs v q ∙ ap (cond (eq_by_cmp list_cmp q bs) (Some v)) (get_is_lookup m.entries q))))
      ∙ entries-insert nat_list_cmp_total (from_entries (named m.entries)) bs v

  below_each : (x : Bor (List ℕ)) (es : List (Bor (List ℕ) × X)) → AllByRecursion (λ y. slice_cmp nat_cmp x.now y.now ≡ Less) (keys_of es) → T (below_all list_cmp x.now (named es))
  below_each x [] h = tt
  below_each x (e ∷ es) h = both _ _ (is_less _ h.0) (below_each x es h.1)

  sorted_names : (es : List (Bor (List ℕ) × X)) → IsStrictlySortedBy (λ x y. slice_cmp nat_cmp x.now y.now) (keys_of es) → T (is_sorted list_cmp (named es))
  unfolding IsStrictlySortedBy
  sorted_names [] h = tt
  sorted_names (e ∷ es) h = both _ _ (below_each e.0 es h.0) (sorted_names es h.1)

  -- entries in the order of their names are those of their map
  pub entries_listed : (es : List (Bor (List ℕ) × X)) → IsStrictlySortedBy (λ x y. slice_cmp nat_cmp x.now y.now) (keys_of es) → named es ≡ entries (from_entries {R = list_cmp} (named es))
  entries_listed es h = sym (same_entries list_cmp nat_list_cmp_total exact_bytes _ (named es) (entries_sorted (from_entries (named es))) (sorted_names es h)
      (λ q. sym (get-entries (from_entries (named es)) q) ∙ get-from_entries nat_list_cmp_total (named es) q))
