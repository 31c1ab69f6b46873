-- Streams that are stored together: what was put is put back, and what goes may go last.
use Rattle.std.proofs.Common.{◌≡◌, ◌≢◌, ℕ, Bool, true, false, cond, List, [], ◌∷◌, Option, Some, None, is_some, refl, sym, ap, subst, ◌∙◌}
use Rattle.std.specs.Cmp.{eq_by_cmp_equiv}
use Rattle.std.specs.List.{AllByRecursion}
use Rattle.std.specs.FinMap.{insert, remove, get, get-insert, get-remove, same_map, contains_key}
use Rattle.std.specs.Ordering.{eq_by_cmp}
use Rattle.msi_container_format.specs.Names.{name_cmp}
use Rattle.msi_container_format.specs.Streams.{Streams, with_or_without}
use Rattle.msi_container_format.proofs.NamesLemmas.{names_total, exact_names}
use Rattle.msi_container_format.proofs.StreamsLemmas.{put_back_same, is_equal}
use Rattle.msi_database_changes.specs.declared.storing.Stored.{Stored}
use Rattle.msi_database_changes.specs.Storing.{stored_all, HaveOwnNames}

-- what stands at a name after one is stored
abbrev after : Option (List ℕ) → Bool → Option (List ℕ) → Option (List ℕ)
after value same held = cond same value held

get_stored : (m : Streams) (k : List ℕ) (v : Option (List ℕ)) (q : List ℕ) → get (with_or_without m k v) q ≡ after v (eq_by_cmp name_cmp q k) (get m q)
get_stored m k None q = get-remove names_total m k q
get_stored m k (Some v) q = get-insert names_total m k v q

swapped : (b c : Bool) (v w x : Option (List ℕ)) → (b ≡ true → c ≡ true → ⊥) → after v b (after w c x) ≡ after w c (after v b x)
swapped true true v w x h = absurd (h refl refl)
swapped true false v w x h = refl
swapped false c v w x h = refl

tied : (q k : List ℕ) → eq_by_cmp name_cmp q k ≡ true → q ≡ k
tied q k e = exact_names q k (is_equal _ e)

-- two names in either order
stored_swapped : (m : Streams) (k l : List ℕ) (v w : Option (List ℕ)) → l ≢ k
    → with_or_without (with_or_without m k v) l w ≡ with_or_without (with_or_without m l w) k v
stored_swapped m k l v w apart = same_map names_total exact_names _ _ (λ q.
    get_stored (with_or_without m k v) l w q
    ∙ ap (after w (eq_by_cmp name_cmp q l)) (get_stored m k v q)
    ∙ swapped (eq_by_cmp name_cmp q l) (eq_by_cmp name_cmp q k) w v (get m q) (λ a b. apart (sym (tied q l a) ∙ tied q k b))
    ∙ sym (get_stored (with_or_without m l w) k v q ∙ ap (after v (eq_by_cmp name_cmp q k)) (get_stored m l w q)))

-- what goes may go last
stored_last : (m : Streams) (k : List ℕ) (v : Option (List ℕ)) (es : List Stored) → AllByRecursion (λ f. f.name ≢ k) es
    → with_or_without (stored_all m es) k v ≡ stored_all (with_or_without m k v) es
stored_last m k v [] all = refl
stored_last m k v (e ∷ es) all =
    stored_last (with_or_without m e.name e.bytes) k v es all.1
    ∙ ap (λ n. stored_all n es) (stored_swapped m e.name k e.bytes v (λ h. all.0 (sym h)))

pub contains_inserted : (m n : Streams) (k l v : List ℕ) → n ≡ insert m l v → l ≡ k → contains_key n k ≡ true
contains_inserted m n k l v e f =
    ap (λ a. contains_key a k) (e ∙ ap (λ a. insert m a v) f) ∙ ap is_some (get-insert names_total m k v k)
    ∙ ap (λ b. is_some (cond b (Some v) (get m k))) ((eq_by_cmp_equiv names_total).refl k)

-- the undoing of one that was put, after the others were refused
pub put_back_all : (m n o : Streams) (k l v : List ℕ) (before : Option (List ℕ)) → n ≡ insert m l v → l ≡ k → before ≡ get m l → o ≡ with_or_without n k before → o ≡ m
put_back_all m n o k l v before e f g h =
    h ∙ ap (λ a. with_or_without a k before) (e ∙ ap (λ a. insert m a v) f) ∙ ap (with_or_without (insert m k v) k) (g ∙ ap (get m) f) ∙ put_back_same m k v

pub removed_last : (m n o : Streams) (e : Stored) (es all : List Stored) → e.bytes ≡ None → HaveOwnNames all → all ≡ e ∷ es → n ≡ stored_all m es → o ≡ remove n e.name → o ≡ stored_all m all
removed_last m n o e es all none own is ok gone =
    let own' = subst HaveOwnNames is own in
    gone ∙ ap (λ a. remove a e.name) ok ∙ stored_last m e.name None es own'.0
    ∙ sym (ap (stored_all m) is ∙ ap (λ b. stored_all (with_or_without m e.name b) es) none)
