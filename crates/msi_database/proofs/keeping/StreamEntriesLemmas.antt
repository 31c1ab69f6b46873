-- The entries of maps of streams.
use Rattle.std.proofs.Common.{◌≡◌, ℕ, not, cond, List, [], ◌∷◌, Option, Some, None, refl, sym, ap, ◌∙◌}
use Rattle.std.specs.FinMap.{entries, entries_sorted, remove, get, get-entries, get-remove, entries-insert}
use Rattle.std.specs.FinMap.Entries.{find, same_entries, is_sorted-where_key, find-where_key}
use Rattle.std.specs.Cmp.{eq_by_cmp_equiv, alike_right}
use Rattle.std.specs.Ordering.{eq_by_cmp, is_eq}
use Rattle.msi_base.proofs.BoolLemmas.{cond_not}
use Rattle.msi_container_format.specs.Names.{name_cmp}
use Rattle.msi_container_format.specs.Streams as maps
use Rattle.msi_container_format.proofs.NamesLemmas.{names_total, exact_names}
use Rattle.msi_database_storage.specs.Streams.{without_stream, with_stream_or_none}
use Rattle.msi_database_changes.specs.declared.storing.Stored.{Stored}
use Rattle.msi_database_changes.specs.Storing.{stored_all}
use Rattle.msi_database_storage.specs.Storing.{stored_in}

entries_removed : (m : maps.Streams) (k : List ℕ) → entries (remove m k) ≡ without_stream k (entries m)
entries_removed m k =
    let p = λ (x : List ℕ). not (eq_by_cmp name_cmp k x) in
    same_entries name_cmp names_total exact_names (entries (remove m k)) (without_stream k (entries m)) (entries_sorted (remove m k))
    (is_sorted-where_key name_cmp p (entries m) (entries_sorted m))
    (λ q. sym (get-entries (remove m k) q) ∙ get-remove names_total m k q
    ∙ ap (λ b. cond b None (get m q)) ((eq_by_cmp_equiv names_total).symm q k)
    ∙ ap (cond (eq_by_cmp name_cmp k q) None) (get-entries m q)
    ∙ sym (find-where_key name_cmp p q (λ x t. ap (λ r. not (is_eq r)) (sym (alike_right names_total q x k t))) (entries m) ∙ cond_not (eq_by_cmp name_cmp k q) (find name_cmp q (entries m)) None))

pub entries_either : (m : maps.Streams) (k : List ℕ) (v : Option (List ℕ)) → entries (maps.with_or_without m k v) ≡ with_stream_or_none k v (entries m)
entries_either m k None = entries_removed m k
entries_either m k (Some v) = entries-insert names_total m k v

pub entries_stored : (m : maps.Streams) (es : List Stored) → entries (stored_all m es) ≡ stored_in es (entries m)
entries_stored m [] = refl
entries_stored m (e ∷ es) = entries_stored (maps.with_or_without m e.name e.bytes) es ∙ ap (stored_in es) (entries_either m e.name e.bytes)
