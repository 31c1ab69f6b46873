-- The names of the streams that are listed, by the names that the container has.
use Rattle.std.proofs.Common.{◌≡◌, ℕ, suc, ◌+◌, Bool, true, false, not, cond, ◌&&◌, T, List, [], ◌∷◌, length, map, filter, Option, Some, None, is_some, IfSome, refl, sym, ap, ◌∙◌, arith}
use Rattle.std.specs.Cmp.{IsTotalOrder}
use Rattle.std.specs.Prelude.{◌||◌, bytes_eq}
use Rattle.std.specs.FinMap.{contains_key, entries, entries_sorted, get-entries, keys}
use Rattle.std.specs.FinMap.Entries.{by_order, find, is_sorted, length-put, put}
use Rattle.std.specs.Ordering.{is_eq}
use Rattle.std.specs.declared.cmp.Ordering.{Ordering}
use Rattle.std.specs.declared.cmp.Ordering.TheVariants.{Less, Equal, Greater}
use Rattle.std.proofs.lemmas.Bool.{true≢false}
use Rattle.std.proofs.lemmas.Slice.Eq.{bytes_eq-Decides}
use Rattle.msi_container_format.specs.Streams as maps
use Rattle.msi_container_format.specs.StreamNames.{is_marked}
use Rattle.msi_container_format.proofs.NamesLemmas.{names_total}
use Rattle.msi_database_schema.specs.Keys.{document_summary_key, signature_ex_key, signature_key, summary_key}
use Rattle.msi_database_storage.specs.Kept.{Kept}
use Rattle.msi_database_storage.specs.Streams.{Streams}
use Rattle.msi_streams.specs.Listing.{is_listed, listed_names, text_of_key}
use Rattle.msi.specs.State.{is_other_name, names_of, others_among}
use Rattle.msi.specs.Renewing.{opened}
use Rattle.msi.specs.Whole.{IsOpen}
use Rattle.msi.proofs.named_streams.OtherStreamLemmas.{other_key}
use Rattle.msi.proofs.named_streams.StreamCallLemmas.{told_at}

-- what a first filter keeps anyway for the second
module _ (text : List ℕ → List ℕ) (m o : List ℕ → Bool) (within : (n : List ℕ) → m n ≡ true → o n ≡ true) where
  abbrev front_names : Streams → List (List ℕ)
  front_names es = map (λ s. text s.0) (filter (λ s. m s.0) es)

  one_name : (e : List ℕ × List ℕ) (es : Streams) (ns : List (List ℕ)) (b c : Bool) → m e.0 ≡ b → (b ≡ true → c ≡ true)
      → front_names es ≡ map text ns → front_names (cond c (e ∷ es) es) ≡ map text (cond b (e.0 ∷ ns) ns)
  one_name e es ns true true is kept h = rw is (ap (λ names. text e.0 ∷ names) h)
  one_name e es ns true false is kept h = absurd (true≢false (sym (kept refl)))
  one_name e es ns false true is kept h = rw is h
  one_name e es ns false false is kept h = h

  pub names_kept : (es : Streams) → front_names (filter (λ s. o s.0) es) ≡ map text (filter m (map (λ s. s.0) es))
  names_kept [] = refl
  names_kept (e ∷ es) =
      one_name e (filter (λ s. o s.0) es) (filter m (map (λ s. s.0) es)) (m e.0) (o e.0) refl (within e.0) (names_kept es)

-- what is listed is no table's, and not the summary's
neither : (a b c d e : Bool) → not (a || (b || c || d || e)) ≡ true → (a ≡ false) × (b ≡ false)
neither true b c d e h = absurd cc
neither false true c d e h = absurd cc
neither false false c d e h = (refl, refl)

listed_other : (tables : List (List ℕ)) (name : List ℕ) → is_listed name ≡ true → is_other_name tables name ≡ true
listed_other tables name h =
    let parts = neither (is_marked name) (bytes_eq name summary_key) (bytes_eq name document_summary_key) (bytes_eq name signature_key) (bytes_eq name signature_ex_key) h in
    other_key tables name parts.0 (λ e. true≢false (sym ((bytes_eq-Decides name summary_key).1 e) ∙ parts.1))

last_holds : (a b : Bool) → T (a && b) → T b
last_holds true b h = h
last_holds false b h = absurd h

module _ {K X : Type 0} {R : K → K → Ordering} (o : IsTotalOrder R) where
  -- a value put at a key that is there leaves the keys
  keys_put : (k : K) (v : X) (es : List (K × X)) → T (is_sorted R es) → is_some (find R k es) ≡ true
      → map (λ e. e.0) (put R k v es) ≡ map (λ e. e.0) es
  keys_put k v [] sorted there = absurd cc
  keys_put k v (e ∷ es) sorted there =
      elim (R k e.0) as (λ r. R k e.0 ≡ r → is_some (cond (is_eq r) (Some e.1) (find R k es)) ≡ true
      → map (λ f. f.0) (by_order r ((k, v) ∷ e ∷ es) ((e.0, v) ∷ es) (e ∷ put R k v es)) ≡ e.0 ∷ map (λ f. f.0) es) [
        | Less ↦ λ less found.
            let longer : suc (suc (length es)) ≡ suc (length es) =
            ap (λ r. length (by_order r ((k, v) ∷ e ∷ es) ((e.0, v) ∷ es) (e ∷ put R k v es))) (sym less)
            ∙ length-put R o k v (e ∷ es) sorted
            ∙ ap (λ b. cond b (suc (length es)) (suc (length es) + 1)) there in
            absurd (omega arith)
        | Equal ↦ λ same found. refl
        | Greater ↦ λ greater found. ap (λ ks. e.0 ∷ ks) (keys_put k v es (last_holds _ _ sorted) found)
      ] refl there

-- the open stream is there already
keys_opened : (m : maps.Streams) (name : Option (List ℕ)) (bytes : List ℕ) → IfSome name (λ n. contains_key m n ≡ true)
    → map (λ s. s.0) (opened name bytes (entries m)) ≡ keys m
keys_opened m None bytes there = refl
keys_opened m (Some name) bytes there =
    keys_put names_total name bytes (entries m) (entries_sorted m) (ap is_some (sym (get-entries m name)) ∙ there)

module _ (k : Kept) (m : maps.Streams) (same : entries m ≡ k.streams) where
  there_in : (name : Option (List ℕ)) → IfSome name (IsOpen k) → IfSome name (λ n. contains_key m n ≡ true)
  there_in None is = tt
  there_in (Some name) is = ap is_some (told_at k m same name) ∙ is.there

  pub names_told : (name : Option (List ℕ)) (bytes : List ℕ) → IfSome name (IsOpen k)
      → listed_names (keys m) ≡ map (λ s. text_of_key s.0) (filter (λ s. is_listed s.0) (others_among (opened name bytes k.streams) k.database))
  names_told name bytes is =
      ap listed_names (sym (keys_opened m name bytes (there_in name is)))
      ∙ sym (names_kept text_of_key is_listed (is_other_name (names_of k.database))
      (listed_other (names_of k.database)) (opened name bytes (entries m)))
      ∙ ap (λ (s : Streams). map (λ s. text_of_key s.0) (filter (λ s. is_listed s.0) (others_among (opened name bytes s) k.database))) same
