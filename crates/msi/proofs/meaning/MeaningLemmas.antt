-- A package with nothing unwritten: what its image holds means it, and opens to it.
use Rattle.std.proofs.Common.{◌≡◌, ℕ, false, length, refl, sym, ap, subst}
use Rattle.std.specs.Prelude.{Ok}
use Rattle.std.specs.FinMap.{entries, from_sorted, entries-from_sorted}
use Rattle.msi_container_format.specs.Names.{name_cmp}
use Rattle.msi_container_format.specs.Container.{Holds}
use Rattle.msi_container_write.specs.Layout.{layout, refuses}
use Rattle.msi_container_write.specs.LayoutLaw.{IsContents, HaveNames}
use Rattle.msi_container_write.proofs.reading_back.LayoutHeldLemmas.{layout_holds}
use Rattle.msi_database_storage.specs.Streams.{Streams}
use Rattle.msi_database_storage.specs.Agreement.{DatabaseIs}
use Rattle.msi_database_storage.proofs.StreamLemmas.{AreSorted}
use Rattle.msi.specs.declared.kinds.PackageType.{PackageType}
use Rattle.msi.specs.declared.kinds.PackageType.TheVariants as kind
use Rattle.msi.specs.Kinds.{clsid_of}
use Rattle.msi.specs.State.{State, others_among, parts_of}
use Rattle.msi.specs.Meaning.{SummaryIs, PoolIs, ContentsMean, Means, OpensTo, IsPackage, as_opened}
use Rattle.msi.specs.Steps.{contents_of}
use Rattle.msi.specs.Runs.{TextsAreWritable}

-- the names of the streams are names, so the image holds the contents
clsid_length : (k : PackageType) → length (clsid_of k) ≡ 16
clsid_length kind.Installer = refl
clsid_length kind.Patch = refl
clsid_length kind.Transform = refl

pub is_contents : (s : State) (streams : Streams) → AreSorted streams → HaveNames streams → IsContents (contents_of s streams)
is_contents s streams sorted names = record {
  clsid = clsid_length s.kind;
  names = subst HaveNames (sym (entries-from_sorted name_cmp streams sorted)) names;
}

module _ (s : State) (h : IsPackage s) (lent : s.is_summary_lent ≡ false) (changed : s.is_pool_changed ≡ false) where
  abbrev streams : Streams
  streams = s.kept.streams

  same_streams : entries (from_sorted {R = name_cmp} streams) ≡ streams
  same_streams = entries-from_sorted name_cmp streams h.database.in_order

  -- the contents of a package that is written mean it
  pub written_means : TextsAreWritable s → ContentsMean (contents_of s streams) (parts_of s)
  written_means writable = record {
    kind = refl;
    summary = subst (λ (es : Streams). SummaryIs es s.summary) (sym same_streams) (h.agrees.summary lent writable.1);
    pool = subst (λ (es : Streams). PoolIs es s.kept.database) (sym same_streams) (h.agrees.pool changed writable.0);
    database = subst (λ (es : Streams). DatabaseIs es s.kept.database) (sym same_streams) h.agrees.database;
    others = ap (λ (es : Streams). others_among es s.kept.database) (sym same_streams);
    storages = refl;
  }

  module _ (earlier : ℕ) (accepted : refuses (contents_of s streams) earlier ≡ false) where
    pub image_holds : Holds (layout (contents_of s streams) earlier) (contents_of s streams)
    image_holds = layout_holds (contents_of s streams) earlier (is_contents s streams h.database.in_order h.names) accepted

    -- so its image means it
    pub image_means : TextsAreWritable s → Means (layout (contents_of s streams) earlier) (parts_of s)
    image_means writable = (contents_of s streams, image_holds, written_means writable)

    -- and opening the image gives it, where nothing else is unwritten
    opened_again : s.is_unwritten ≡ false → s ≡ as_opened (entries (contents_of s streams).streams) (parts_of s)
    opened_again clean = λ i. record {
      kind = s.kind;
      summary = s.summary;
      kept = record { database = s.kept.database; streams = sym same_streams i };
      has_storages = s.has_storages;
      is_unwritten = clean i;
      is_summary_lent = lent i;
      is_pool_changed = changed i;
    }

    pub image_opens : s.is_unwritten ≡ false → TextsAreWritable s → OpensTo (layout (contents_of s streams) earlier) (Ok s)
    image_opens clean writable = (contents_of s streams, image_holds, written_means writable, opened_again clean)
