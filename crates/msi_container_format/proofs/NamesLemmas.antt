-- Maps under names.
use Rattle.std.proofs.Common.{◌≡◌, ◌≢◌, ℕ, Bool, true, false, cond, ◌&&◌, List, [], ◌∷◌, ◌++◌, length, refl, sym, ap, subst, ◌∙◌, rules}
use Rattle.std.proofs.lemmas.List.Elements.{All-head, All-tail}
use Rattle.std.proofs.lemmas.Map.Lookups.{exact_bytes}
use Rattle.std.proofs.lemmas.Map.Views.{tells_apart}
use Rattle.std.specs.Prelude.{None, Some, T}
use Rattle.std.specs.BTreeMap.{is_at}
use Rattle.std.specs.Cmp.{IsTotalOrder, eq_by_cmp_equiv}
use Rattle.std.specs.Cmp.Rules.{comparing}
use Rattle.std.specs.FinMap.{IsAntisymmetric, entries, entries_sorted, from_entries, from_entries_push, get, get-entries, get-from_entries, get-insert, get-remove, insert, len, len-entries, remove, same_map}
use Rattle.std.specs.FinMap.Entries.{below_all, find, is_sorted, same_entries}
use Rattle.std.specs.List.{All, AllByRecursion}
use Rattle.std.specs.List.Sorted.{IsStrictlySortedBy}
use Rattle.std.specs.Map.{keys_of, lookup}
use Rattle.std.specs.Ordering.{eq_by_cmp, is_lt, ordering_then}
use Rattle.std.specs.declared.cmp.Ordering.{Ordering}
use Rattle.std.specs.declared.cmp.Ordering.TheVariants.{Less, Equal, Greater}
use Rattle.msi_container_format.specs.Names.{name_cmp}

pub names_total : IsTotalOrder name_cmp
names_total = search (comparing, rules)

second_is_equal : (o p : Ordering) → ordering_then o p ≡ Equal → p ≡ Equal
second_is_equal Less p h = absurd cc
second_is_equal Equal p h = h
second_is_equal Greater p h = absurd cc

-- only equal names tie
pub exact_names : IsAntisymmetric name_cmp
exact_names a b h = exact_bytes a b (second_is_equal _ _ (second_is_equal _ _ h))

both : (a b : Bool) → T a → T b → T (a && b)
both true b p q = q
both false b p q = p

is_less : (o : Ordering) → o ≡ Less → T (is_lt o)
is_less o e = subst (λ p. T (is_lt p)) (sym e) tt

module _ {X : Type 0} where
  -- the first entry with a name is what a look-up finds
  pub find_is_lookup : (q : List ℕ) (es : List (List ℕ × X)) → find name_cmp q es ≡ lookup (is_at (name_cmp q)) es
  find_is_lookup q [] = refl
  find_is_lookup q (e ∷ es) = ap (cond (is_at (name_cmp q) e.0) (Some e.1)) (find_is_lookup q es)

  -- a map of entries answers as a look-up in them
  pub get_is_lookup : (es : List (List ℕ × X)) (q : List ℕ) → get (from_entries {R = name_cmp} es) q ≡ lookup (is_at (name_cmp q)) es
  get_is_lookup es q = get-from_entries names_total es q ∙ find_is_lookup q es

  -- entries with v at one name, and else as they were
  pub from_entries_updated : (es fs : List (List ℕ × X)) (k : List ℕ) (v : X) → ((q : List ℕ) → lookup (is_at (name_cmp q)) fs ≡ cond (is_at (name_cmp k) q) (Some v) (lookup (is_at (name_cmp q)) es)) → from_entries {R = name_cmp} fs ≡ insert (from_entries es) k v
  from_entries_updated es fs k v updates = same_map names_total exact_names _ _ (λ q.
      get_is_lookup fs q ∙ updates q
      ∙ ap (λ b. cond b (Some v) (lookup (is_at (name_cmp q)) es)) ((eq_by_cmp_equiv names_total).symm k q)
      ∙ sym (get-insert names_total (from_entries es) k v q ∙ ap (cond (eq_by_cmp name_cmp q k) (Some v)) (get_is_lookup es q)))

  -- entries with nothing at one name, and else as they were
  pub from_entries_removed : (es fs : List (List ℕ × X)) (k : List ℕ) → ((q : List ℕ) → lookup (is_at (name_cmp q)) fs ≡ cond (is_at (name_cmp k) q) None (lookup (is_at (name_cmp q)) es)) → from_entries {R = name_cmp} fs ≡ remove (from_entries es) k
  from_entries_removed es fs k updates = same_map names_total exact_names _ _ (λ q.
      get_is_lookup fs q ∙ updates q
      ∙ ap (λ b. cond b None (lookup (is_at (name_cmp q)) es)) ((eq_by_cmp_equiv names_total).symm k q)
      ∙ sym (get-remove names_total (from_entries es) k q ∙ ap (cond (eq_by_cmp name_cmp q k) None) (get_is_lookup es q)))

  below_each : (x : List ℕ) (es : List (List ℕ × X)) → AllByRecursion (λ y. name_cmp x y ≡ Less) (keys_of es) → T (below_all name_cmp x es)
  below_each x [] h = tt
  below_each x (e ∷ es) h = both _ _ (is_less _ h.0) (below_each x es h.1)

  sorted_entries : (es : List (List ℕ × X)) → IsStrictlySortedBy name_cmp (keys_of es) → T (is_sorted name_cmp es)
  unfolding IsStrictlySortedBy
  sorted_entries [] h = tt
  sorted_entries (e ∷ es) h = both _ _ (below_each e.0 es h.0) (sorted_entries es h.1)

  -- entries in the order of their names are those of their map
  pub entries-from_entries : (es : List (List ℕ × X)) → IsStrictlySortedBy name_cmp (keys_of es) → entries (from_entries {R = name_cmp} es) ≡ es
  entries-from_entries es h =
      same_entries name_cmp names_total exact_names _ es (entries_sorted (from_entries es)) (sorted_entries es h)
      (λ q. sym (get-entries (from_entries es) q) ∙ get-from_entries names_total es q)

  pub len-from_entries : (es : List (List ℕ × X)) → IsStrictlySortedBy name_cmp (keys_of es) → len (from_entries {R = name_cmp} es) ≡ length es
  len-from_entries es h = len-entries (from_entries es) ∙ ap length (entries-from_entries es h)

  -- a name that no entry has isn't found
  find_new : (k : List ℕ) (es : List (List ℕ × X)) → All (λ e. e.0 ≢ k) es → find name_cmp k es ≡ None
  find_new k [] new = refl
  find_new k (e ∷ es) new =
      elim (eq_by_cmp name_cmp k e.0) as (λ b. eq_by_cmp name_cmp k e.0 ≡ b → cond b (Some e.1) (find name_cmp k es) ≡ None) [
        | true ↦ λ tied. absurd (All-head (λ (f : List ℕ × X). f.0 ≢ k) e es new (sym (tells_apart exact_names k e.0 tied)))
        | false ↦ λ _. find_new k es (All-tail (λ (f : List ℕ × X). f.0 ≢ k) e es new)
      ] refl

  -- to push an entry of a new name is to insert it
  pub from_entries_push_new : (es : List (List ℕ × X)) (k : List ℕ) (v : X) → All (λ e. e.0 ≢ k) es → from_entries {R = name_cmp} (es ++ (k, v) ∷ []) ≡ insert (from_entries es) k v
  from_entries_push_new es k v new = from_entries_push names_total exact_names es k v (find_new k es new)
