-- What entries and their members give, by the entries' names.
use Rattle.std.proofs.Common.{◌≡◌, ℕ, ◌+◌, ◌<◌, min, List, [], ◌∷◌, ◌++◌, length, get_or, map, take, sym, ◌∙◌, ap, arith, refl}
use Rattle.std.specs.List.{zip}
use Rattle.std.specs.FinMap.{from_entries, insert}
use Rattle.std.proofs.lemmas.List.{get_or-map, get_or-take, length-map, length-take-le, take_more}
use Rattle.std.proofs.lemmas.Slice.Zip.{length-zip, get_or-zip}
use Rattle.msi_container_format.specs.Names.{name_cmp}
use Rattle.msi_container_format.specs.Chains.{AreBelow}
use Rattle.msi_container_format.specs.Container.{entry_count, name, size, HasName, named_bytes}
use Rattle.msi_container_format.proofs.NamesLemmas.{from_entries_push_new}
use Rattle.msi_container_format.proofs.PlanOnceLemmas.{Each}
use Rattle.msi_container_tables.proofs.entry_names.OwnNameLemmas.{AreOwn}
use Rattle.msi_container_tables.proofs.parts.ListingLemmas.{each_rest}
use Rattle.msi_container_view.specs.Copied.{HasHeaderOf, AreCopied}
use Rattle.msi_container_view.specs.Extents.{bytes_stored}
use Rattle.msi_container_view.proofs.copies.DirectoryCopyLemmas.{same_entry_size, same_name, name_of_copy}

module _ (bytes directory : List ℕ) (given : ℕ → List ℕ → List ℕ) (ks : List ℕ) (chains : List (List ℕ)) where
  abbrev pub named : List (List ℕ × List ℕ)
  named = map (λ (x : ℕ × List ℕ). (name bytes directory x.0, given x.0 x.1)) (zip ks chains)

  pub length-named : length named ≡ min (length ks) (length chains)
  length-named = length-map (zip ks chains) (λ (x : ℕ × List ℕ). (name bytes directory x.0, given x.0 x.1)) ∙ length-zip ks chains

  named_at : (i : ℕ) (d : List ℕ × List ℕ) → i < length ks → i < length chains
      → get_or named i d ≡ (name bytes directory (get_or ks i 0), given (get_or ks i 0) (get_or chains i []))
  named_at i d l h =
      let f : ℕ × List ℕ → List ℕ × List ℕ = λ x. (name bytes directory x.0, given x.0 x.1) in
      get_or-map f (zip ks chains) i (0, []) d (omega (arith, length-zip ks chains)) ∙ ap f (get_or-zip ks chains i (0, []) l h)

  -- the next one is inserted at a name that none before it has
  pub from_named_more : (i : ℕ) → AreOwn (name bytes directory) ks (i + 1) → i < length ks → i < length chains
      → from_entries {R = name_cmp} (take (i + 1) named)
      ≡ insert (from_entries (take i named)) (name bytes directory (get_or ks i 0)) (given (get_or ks i 0) (get_or chains i []))
  from_named_more i apart l h =
      let long : i < length named = omega (arith, length-named) in
      let front = length-take-le i named (omega arith) in
      let k = name bytes directory (get_or ks i 0) in
      let v = given (get_or ks i 0) (get_or chains i []) in
      let next : take (i + 1) named ≡ take i named ++ (k, v) ∷ [] =
      take_more named i (k, v) long ∙ ap (λ e. take i named ++ e ∷ []) (named_at i (k, v) l h) in
      ap (λ es. from_entries {R = name_cmp} es) next
      ∙ from_entries_push_new (take i named) k v (λ j d b same. apart j i (omega arith) (omega arith)
      (ap (λ (e : List ℕ × List ℕ). e.0) (sym (get_or-take i named j d (omega arith) ∙ named_at j d (omega arith) (omega arith))) ∙ same))

-- the names and sizes of a copy's entries are the file's, so their streams' bytes are too
pub named_in_file : (file copy directory places : List ℕ) → HasHeaderOf file copy → AreCopied file copy directory places → (mini_stream ks : List ℕ) (chains : List (List ℕ))
    → AreBelow (entry_count file directory) ks
    → Each (HasName copy places) ks
    → named copy places (λ k c. bytes_stored file mini_stream (size copy places k) c) ks chains ≡ named_bytes file mini_stream directory ks chains
named_in_file file copy directory places h c mini_stream [] chains b n = refl
named_in_file file copy directory places h c mini_stream (k ∷ ks) [] b n = refl
named_in_file file copy directory places h c mini_stream (k ∷ ks) (chain ∷ chains) b n =
    let below : k < entry_count file directory = b 0 (omega arith) in
    let has : HasName copy places k = n 0 (omega arith) in
    let called = same_name file copy directory places h c k below (name_of_copy file copy directory places h c k below has).most in
    let sized = same_entry_size file copy directory places h c k below in
    let rest = named_in_file file copy directory places h c mini_stream ks chains (each_rest (λ x. x < entry_count file directory) k ks b) (each_rest (HasName copy places) k ks n) in
    rw (called, sized, rest) refl
