-- Bytes under strings: the map that the entries make of the strings' texts.
use Rattle.std.proofs.Common.{◌≡◌, ℕ, Bool, true, false, cond, suc, ◌&&◌, List, [], ◌∷◌, String, length, string_bytes, refl, sym, ap, subst, ◌∙◌, arith}
use Rattle.std.proofs.lemmas.Map.Lookups.{exact_bytes}
use Rattle.std.proofs.lemmas.Map.Text.{btree_map_updates_text, is_eq-slice_cmp}
use Rattle.std.specs.Prelude.{Some, T}
use Rattle.std.specs.BTreeMap as tree
use Rattle.std.specs.BTreeMap.{BTreeMap, is_at}
use Rattle.std.specs.Cmp.{eq_by_cmp_equiv}
use Rattle.std.specs.Cmp.Lexicographic.{slice_cmp, nat_list_cmp_total}
use Rattle.std.specs.FinMap.{FinMap, entries, entries-insert, entries_sorted, find, from_entries, get, get-entries, get-from_entries, get-insert, len-empty, len-entries, put, same_map}
use Rattle.std.specs.FinMap.Entries.{below_all, is_sorted, same_entries}
use Rattle.std.specs.List.{AllByRecursion}
use Rattle.std.specs.List.Sorted.{IsStrictlySortedBy}
use Rattle.std.specs.Map.{keys_of, lookup}
use Rattle.std.specs.Ordering.{eq_by_cmp, is_lt, nat_cmp}
use Rattle.std.specs.String.{string_cmp}
use Rattle.std.specs.declared.cmp.Ordering.{Ordering}
use Rattle.std.specs.declared.cmp.Ordering.TheVariants.{Less}
use Rattle.msi_base.specs.Lists.{list_cmp}
use Rattle.msi_transform.specs.RecordsByTable.{by_text}

nothing : {A : Type 0} (xs : List A) → length xs ≡ 0 → xs ≡ []
nothing [] none = refl
nothing (x ∷ xs) none = absurd (omega arith)

both : (a b : Bool) → T a → T b → T (a && b)
both true b p q = q
both false b p q = p

is_less : (o : Ordering) → o ≡ Less → T (is_lt o)
is_less o e = subst (λ p. T (is_lt p)) (sym e) tt

abbrev at_text : {Z : Type 0} → List ℕ → String Z → Bool
at_text q = is_at (λ k. slice_cmp nat_cmp q (string_bytes k))

abbrev pub map_of : {Z X : Type 0} → List (String Z × X) → FinMap list_cmp X
map_of es = from_entries {R = list_cmp} (by_text es)

module _ (Z X : Type 0) where
  no_tables : entries (map_of {Z = Z} {X = X} []) ≡ []
  no_tables = nothing _ (sym (len-entries (map_of {Z = Z} {X = X} [])) ∙ len-empty list_cmp X)

module _ {Z X : Type 0} where
  pub no_entries : (es : List (String Z × X)) → es ≡ [] → entries (map_of es) ≡ []
  no_entries es none = ap (λ (fs : List (String Z × X)). entries (map_of fs)) none ∙ no_tables Z X

  -- the first entry of a text is what a look-up finds
  find_is_lookup : (q : List ℕ) (es : List (String Z × X)) → find list_cmp q (by_text es) ≡ lookup (at_text q) es
  find_is_lookup q [] = refl
  find_is_lookup q (e ∷ es) = ap (cond (at_text q e.0) (Some e.1)) (find_is_lookup q es)

  get_is_lookup : (es : List (String Z × X)) (q : List ℕ) → get (map_of es) q ≡ lookup (at_text q) es
  get_is_lookup es q = get-from_entries nat_list_cmp_total (by_text es) q ∙ find_is_lookup q es

  pub entries_found : (es : List (String Z × X)) (q : List ℕ) → lookup (at_text q) es ≡ find list_cmp q (entries (map_of es))
  entries_found es q = sym (get_is_lookup es q) ∙ get-entries (map_of es) q

  -- new bytes at one text, and else the bytes as they were
  pub entries_put : (m n : BTreeMap (String Z) X) (bs : List ℕ) (v : X)
      → tree.UpdatesBy string_cmp (λ k. slice_cmp nat_cmp bs (string_bytes k)) m n (Some v)
      → entries (map_of n.entries) ≡ put list_cmp bs v (entries (map_of m.entries))
  entries_put m n bs v updates =
      ap entries (same_map nat_list_cmp_total exact_bytes _ _ (λ q.
      get_is_lookup n.entries q ∙ btree_map_updates_text bs m n (Some v) updates q
      ∙ ap (λ b. cond b (Some v) (lookup (at_text q) m.entries)) (sym (is_eq-slice_cmp bs q) ∙ (eq_by_cmp_equiv nat_list_cmp_total).symm bs q)
      ∙ sym (get-insert nat_list_cmp_total (map_of m.entries) bs v q ∙ ap (cond (eq_by_cmp list_cmp q bs) (Some v)) (get_is_lookup m.entries q))))
      ∙ entries-insert nat_list_cmp_total (map_of m.entries) bs v

  below_each : (x : String Z) (es : List (String Z × X)) → AllByRecursion (λ y. string_cmp x y ≡ Less) (keys_of es) → T (below_all list_cmp (string_bytes x) (by_text es))
  below_each x [] h = tt
  below_each x (e ∷ es) h = both _ _ (is_less _ h.0) (below_each x es h.1)

  sorted_entries : (es : List (String Z × X)) → IsStrictlySortedBy string_cmp (keys_of es) → T (is_sorted list_cmp (by_text es))
  unfolding IsStrictlySortedBy
  sorted_entries [] h = tt
  sorted_entries (e ∷ es) h = both _ _ (below_each e.0 es h.0) (sorted_entries es h.1)

  -- entries in order are those of their map
  pub entries_in_order : (es : List (String Z × X)) → IsStrictlySortedBy string_cmp (keys_of es) → by_text es ≡ entries (map_of es)
  entries_in_order es h =
      sym (same_entries list_cmp nat_list_cmp_total exact_bytes _ (by_text es) (entries_sorted (map_of es)) (sorted_entries es h)
      (λ q. sym (get-entries (map_of es) q) ∙ get-from_entries nat_list_cmp_total (by_text es) q))

  pub len_by_text : (es : List (String Z × X)) → length es ≡ length (by_text es)
  len_by_text [] = refl
  len_by_text (e ∷ es) = ap suc (len_by_text es)
