-- Where streams lie by a copied directory is where they lie by the file's.
use Rattle.std.proofs.Common.{◌≡◌, ℕ, List, sym, ◌∙◌, ap, subst}
use Rattle.std.specs.FinMap.{from_entries}
use Rattle.msi_container_format.specs.Names.{name_cmp}
use Rattle.msi_container_format.specs.Chains.{AreBelow}
use Rattle.msi_container_format.specs.Container.{entry_count, sector_size, size, named_bytes}
use Rattle.msi_container_tables.specs.Reading.{HaveNamesApart}
use Rattle.msi_container_view.specs.Copied.{HasHeaderOf, AreCopied}
use Rattle.msi_container_view.specs.Extents.{bytes_stored}
use Rattle.msi_container_view.specs.Views.{Located, streams_in}
use Rattle.msi_container_view.proofs.copies.HeaderCopyLemmas.{same_size}
use Rattle.msi_container_view.proofs.copies.DirectoryCopyLemmas.{same_entry_count}
use Rattle.msi_container_view.proofs.copies.TreeCopyLemmas.{apart_of_copy, apart_in_copy}
use Rattle.msi_container_view.proofs.located_lemmas.NamedLemmas.{named, named_in_file}

-- where the copy's bytes, its sectors and the entries have other names
module _ (copy bytes places sectors storages stored streams listed : List ℕ) (same : bytes ≡ copy) (directories : sectors ≡ places) (first : stored ≡ storages) (second : listed ≡ streams)
    (storages_below : AreBelow (entry_count copy places) storages) (streams_below : AreBelow (entry_count copy places) streams) where
  below_file : (file directory : List ℕ) → HasHeaderOf file copy → AreCopied file copy directory places → (ks : List ℕ) → AreBelow (entry_count copy places) ks → AreBelow (entry_count file directory) ks
  below_file file directory h c ks b = subst (λ count. AreBelow count ks) (same_entry_count file copy directory places h c) b

  names_seen : HaveNamesApart bytes sectors stored listed → HaveNamesApart copy places storages streams
  names_seen apart = rw (same, directories, first, second) at apart

  pub names_found : (file directory : List ℕ) → HasHeaderOf file copy → AreCopied file copy directory places → HaveNamesApart bytes sectors stored listed → HaveNamesApart file directory storages streams
  names_found file directory h c apart =
      apart_of_copy file copy directory places h c storages streams (below_file file directory h c storages storages_below) (below_file file directory h c streams streams_below) (names_seen apart)

  pub names_in_copy : (file directory : List ℕ) → HasHeaderOf file copy → AreCopied file copy directory places → HaveNamesApart file directory storages streams → HaveNamesApart bytes sectors stored listed
  names_in_copy file directory h c apart =
      rw (same, directories, first, second)
      (apart_in_copy file copy directory places h c storages streams (below_file file directory h c storages storages_below) (below_file file directory h c streams streams_below) apart)

  pub streams_found : (mini_stream : List ℕ) (chains : List (List ℕ)) (located : Located)
      → ((file : List ℕ) → sector_size file ≡ sector_size bytes
      → streams_in file located ≡ from_entries (named bytes sectors (λ k c. bytes_stored file mini_stream (size bytes sectors k) c) listed chains))
      → HaveNamesApart bytes sectors stored listed
      → (file directory : List ℕ) → HasHeaderOf file copy → AreCopied file copy directory places
      → streams_in file located ≡ from_entries (named_bytes file mini_stream directory streams chains)
  streams_found mini_stream chains located found apart file directory h c =
      let sized : sector_size file ≡ sector_size bytes = rw same (sym (same_size file copy h)) in
      let seen : streams_in file located ≡ from_entries (named copy places (λ k c. bytes_stored file mini_stream (size copy places k) c) streams chains) =
      rw (same, directories, second) at (found file sized) in
      seen ∙ ap (λ es. from_entries {R = name_cmp} es)
      (named_in_file file copy directory places h c mini_stream streams chains (below_file file directory h c streams streams_below) (names_seen apart).streams_named.named)
