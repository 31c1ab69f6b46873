use Rattle.std.proofs.Common.{List, ℕ, length, ◌∙◌, ap, sym, subst}
use Rattle.std.proofs.lemmas.Bool.{false≢true}
use Rattle.std.specs.FinMap.{entries}
use Rattle.msi_container_format.specs.Container.{Holds}
use Rattle.msi_container_write.specs.Index.{streams_of}
use Rattle.msi_container_write.specs.Layout.{mini_sectors, taken_by}
use Rattle.msi_container_write.specs.LayoutLaw.{HaveNames}
use Rattle.msi_container_write.proofs.sectors.IndexLemmas.{is_index, streams_indexed}
use Rattle.msi_container_write.proofs.reading_back.LayoutHeldLemmas.{layout_holds}
use Rattle.msi_container_write.proofs.placing.LayoutLemmas.{not_true, room_for, same_file, taken_few}
use Rattle.msi_container_write.specs.Borrowed.{contents_of}
use Rattle.msi_container_write.proofs.writing.image_of.Goals as goal

pub index-requires : goal.index-requires
index-requires c = record { few = taken_few (contents_of c.args.contents.now) c.args.earlier_len c.in_ok-extent.extent.total c.in_ok-extent.ensures.total c.in_ok-extent.ensures.few }

pub layout_of-layout-requires-clause-indexed : goal.layout_of-layout-requires-clause-indexed
layout_of-layout-requires-clause-indexed c =
    is_index c.as_slice.result.now (entries c.args.contents.now.streams.now) (c.as_slice.ensures.value ∙ c.in_ok-places.ensures.indexed)

pub layout_of-layout-requires-clause-names : goal.layout_of-layout-requires-clause-names
layout_of-layout-requires-clause-names c =
    let same = streams_indexed c.as_slice.result.now (entries c.args.contents.now.streams.now) (c.as_slice.ensures.value ∙ c.in_ok-places.ensures.indexed) in
    subst HaveNames (sym same) c.in_ok-places.ensures.names

pub layout_of-layout-requires-clause-mini_sectors : goal.layout_of-layout-requires-clause-mini_sectors
layout_of-layout-requires-clause-mini_sectors c =
    let same = streams_indexed c.as_slice.result.now (entries c.args.contents.now.streams.now) (c.as_slice.ensures.value ∙ c.in_ok-places.ensures.indexed) in
    c.in_ok-extent.ensures.mini_sectors ∙ ap mini_sectors (sym same)

pub layout_of-layout-requires-clause-taken : goal.layout_of-layout-requires-clause-taken
layout_of-layout-requires-clause-taken c =
    let same = streams_indexed c.as_slice.result.now (entries c.args.contents.now.streams.now) (c.as_slice.ensures.value ∙ c.in_ok-places.ensures.indexed) in
    c.in_ok-extent.ensures.taken ∙ ap taken_by (sym same)

pub layout_of-layout-requires-clause-room : goal.layout_of-layout-requires-clause-room
layout_of-layout-requires-clause-room c =
    room_for c.in_ok-extent.extent.taken c.in_ok-extent.extent.total (taken_by (entries c.args.contents.now.streams.now)) c.args.earlier_len c.in_ok-extent.ensures.taken c.in_ok-extent.ensures.total

pub returns-clause-ok : goal.returns-clause-ok
returns-clause-ok c =
    c.in_ok-image.ensures ∙
    same_file (contents_of c.args.contents.now) c.args.earlier_len c.layout_of-layout.result.extent.total c.layout_of-layout.result.clsid (streams_of c.layout_of-layout.result.places.now)
    c.layout_of-layout.ensures.clsid
    (ap streams_of c.layout_of-layout.ensures.places ∙ streams_indexed c.as_slice.result.now (entries c.args.contents.now.streams.now) (c.as_slice.ensures.value ∙ c.in_ok-places.ensures.indexed))
    (c.layout_of-layout.ensures.total ∙ c.in_ok-extent.ensures.total)

pub returns-clause-holds : goal.returns-clause-holds
returns-clause-holds c =
    let P : List ℕ → Type 0 = λ bytes. Holds bytes (contents_of c.args.contents.now) in
    subst P (sym (returns-clause-ok c))
    (layout_holds (contents_of c.args.contents.now) c.args.earlier_len
    (record { clsid = sym (ap length c.layout_of-layout.ensures.clsid) ∙ c.layout_of-layout.ensures.laid_out.clsid; names = c.in_ok-places.ensures.names })
    (not_true _ (λ h. false≢true (c.in_ok-extent.ensures.refused.1 h))))
