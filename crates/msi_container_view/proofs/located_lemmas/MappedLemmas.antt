-- A map under names, seen by what its values stand for.
use Rattle.std.proofs.Common.{◌≡◌, ℕ, Bool, true, false, cond, List, [], ◌∷◌, map, Option, Some, sym, ◌∙◌, ap, refl}
use Rattle.std.specs.FinMap.{FinMap, empty, entries, from_entries, insert, find, get, get-empty, get-entries, get-from_entries, get-insert, same_map}
use Rattle.std.specs.Option.{option_map}
use Rattle.std.specs.Ordering.{eq_by_cmp}
use Rattle.msi_container_format.specs.Names.{name_cmp}
use Rattle.msi_container_format.proofs.NamesLemmas.{names_total, exact_names}

module _ {X Y : Type 0} (f : X → Y) where
  -- the map with each value in its place
  abbrev pub mapped : FinMap name_cmp X → FinMap name_cmp Y
  mapped m = from_entries (map (λ e. (e.0, f e.1)) (entries m))

  find_mapped : (q : List ℕ) (es : List (List ℕ × X)) → find name_cmp q (map (λ e. (e.0, f e.1)) es) ≡ option_map f (find name_cmp q es)
  find_mapped q [] = refl
  find_mapped q (e ∷ es) =
      elim (eq_by_cmp name_cmp q e.0) as (λ b. cond b (Some (f e.1)) (find name_cmp q (map (λ d. (d.0, f d.1)) es)) ≡ option_map f (cond b (Some e.1) (find name_cmp q es))) [
        | true ↦ refl
        | false ↦ find_mapped q es
      ]

  -- a look-up finds what the value stands for
  get_mapped : (m : FinMap name_cmp X) (q : List ℕ) → get (mapped m) q ≡ option_map f (get m q)
  get_mapped m q = get-from_entries names_total _ q ∙ find_mapped q (entries m) ∙ ap (option_map f) (sym (get-entries m q))

  either : (b : Bool) (v : X) (o : Option X) → option_map f (cond b (Some v) o) ≡ cond b (Some (f v)) (option_map f o)
  either true v o = refl
  either false v o = refl

  pub mapped_insert : (m : FinMap name_cmp X) (k : List ℕ) (v : X) → mapped (insert m k v) ≡ insert (mapped m) k (f v)
  mapped_insert m k v = same_map names_total exact_names _ _ (λ q.
      get_mapped (insert m k v) q
      ∙ ap (option_map f) (get-insert names_total m k v q)
      ∙ either (eq_by_cmp name_cmp q k) v (get m q)
      ∙ sym (get-insert names_total (mapped m) k (f v) q ∙ ap (cond (eq_by_cmp name_cmp q k) (Some (f v))) (get_mapped m q)))

  pub mapped_none : mapped empty ≡ from_entries []
  mapped_none = same_map names_total exact_names _ _ (λ q. get_mapped empty q ∙ ap (option_map f) (get-empty name_cmp q) ∙ sym (get-from_entries names_total [] q))
