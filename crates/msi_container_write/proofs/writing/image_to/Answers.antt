use Rattle.std.proofs.Common.{◌≡◌, length, ◌∙◌, ap, sym, subst, inl, inr, refl}
use Rattle.std.proofs.lemmas.Bool.{false≢true}
use Rattle.std.proofs.lemmas.Result.{IfOk-from_err, IfErr-weaker, on_err_weaker, on_ok_weaker}
use Rattle.std.specs.FinMap.{entries}
use Rattle.msi_base.specs.declared.errors.ErrorKind.TheVariants.{InvalidInput, OutOfMemory}
use Rattle.msi_base.proofs.ResultLemmas.{on_err_from}
use Rattle.msi_container_device.specs.Held.{bytes_told}
use Rattle.msi_container_device.proofs.HeldLemmas.{part_none}
use Rattle.msi_container_write.specs.Index.{streams_of}
use Rattle.msi_container_write.specs.Layout.{layout, mini_sectors, taken_by}
use Rattle.msi_container_write.specs.LayoutLaw.{HaveNames}
use Rattle.msi_container_write.specs.Sectors.{file}
use Rattle.msi_container_write.proofs.sectors.IndexLemmas.{is_index, streams_indexed}
use Rattle.msi_container_write.proofs.reading_back.LayoutHeldLemmas.{layout_holds}
use Rattle.msi_container_write.proofs.placing.LayoutLemmas.{not_true, room_for, same_file, taken_few}
use Rattle.msi_container_write.proofs.sectors.SectorsHeldLemmas.{part_as, put_as}
use Rattle.msi_container_write.specs.Borrowed.{contents_of}
use Rattle.msi_container_write.proofs.sectors.FailedLemmas.{err_passed, err_is, input_passed, other_kind, not_io, unfailed, failed_by_io, io_only, ok_not_io, input_isnt_io, memory_isnt_io, memory_isnt_input, io_isnt_input}
use Rattle.msi_container_write.proofs.writing.image_to.Goals as goal

pub index-requires : goal.index-requires
index-requires g c = record { few = taken_few (contents_of c.args.contents.now) c.args.earlier_len c.in_ok-extent.extent.total c.in_ok-extent.ensures.total c.in_ok-extent.ensures.few }

pub layout_of-layout-requires-clause-indexed : goal.layout_of-layout-requires-clause-indexed
layout_of-layout-requires-clause-indexed g c =
    is_index c.as_slice.result.now (entries c.args.contents.now.streams.now) (c.as_slice.ensures.value ∙ c.in_ok-places.ensures.indexed)

pub layout_of-layout-requires-clause-names : goal.layout_of-layout-requires-clause-names
layout_of-layout-requires-clause-names g c =
    let same = streams_indexed c.as_slice.result.now (entries c.args.contents.now.streams.now) (c.as_slice.ensures.value ∙ c.in_ok-places.ensures.indexed) in
    subst HaveNames (sym same) c.in_ok-places.ensures.names

pub layout_of-layout-requires-clause-mini_sectors : goal.layout_of-layout-requires-clause-mini_sectors
layout_of-layout-requires-clause-mini_sectors g c =
    let same = streams_indexed c.as_slice.result.now (entries c.args.contents.now.streams.now) (c.as_slice.ensures.value ∙ c.in_ok-places.ensures.indexed) in
    c.in_ok-extent.ensures.mini_sectors ∙ ap mini_sectors (sym same)

pub layout_of-layout-requires-clause-taken : goal.layout_of-layout-requires-clause-taken
layout_of-layout-requires-clause-taken g c =
    let same = streams_indexed c.as_slice.result.now (entries c.args.contents.now.streams.now) (c.as_slice.ensures.value ∙ c.in_ok-places.ensures.indexed) in
    c.in_ok-extent.ensures.taken ∙ ap taken_by (sym same)

pub layout_of-layout-requires-clause-room : goal.layout_of-layout-requires-clause-room
layout_of-layout-requires-clause-room g c =
    room_for c.in_ok-extent.extent.taken c.in_ok-extent.extent.total (taken_by (entries c.args.contents.now.streams.now)) c.args.earlier_len c.in_ok-extent.ensures.taken c.in_ok-extent.ensures.total

pub returns-clause-ok : goal.returns-clause-ok
returns-clause-ok g c =
    let same : file c.layout_of-layout.result.clsid (streams_of c.layout_of-layout.result.places.now) c.layout_of-layout.result.extent.total ≡ layout (contents_of c.args.contents.now) c.args.earlier_len =
    same_file (contents_of c.args.contents.now) c.args.earlier_len c.layout_of-layout.result.extent.total c.layout_of-layout.result.clsid (streams_of c.layout_of-layout.result.places.now)
    c.layout_of-layout.ensures.clsid
    (ap streams_of c.layout_of-layout.ensures.places ∙ streams_indexed c.as_slice.result.now (entries c.args.contents.now.streams.now) (c.as_slice.ensures.value ∙ c.in_ok-places.ensures.indexed))
    (c.layout_of-layout.ensures.total ∙ c.in_ok-extent.ensures.total) in
    on_ok_weaker c.write_sectors.result
    (put_as (file c.layout_of-layout.result.clsid (streams_of c.layout_of-layout.result.places.now) c.layout_of-layout.result.extent.total) (layout (contents_of c.args.contents.now) c.args.earlier_len)
    (g.W.Source.held c.args.device.now) (g.W.Source.held c.clear_failed.new.self) (g.W.Source.held c.write_sectors.new.device) same c.clear_failed.ensures.held)
    c.write_sectors.ensures.ok

pub returns-clause-holds : goal.returns-clause-holds
returns-clause-holds g c =
    on_ok_weaker c.write_sectors.result (λ _. layout_holds (contents_of c.args.contents.now) c.args.earlier_len
    (record { clsid = sym (ap length c.layout_of-layout.ensures.clsid) ∙ c.layout_of-layout.ensures.laid_out.clsid; names = c.in_ok-places.ensures.names })
    (not_true _ (λ h. false≢true (c.in_ok-extent.ensures.refused.1 h)))) c.write_sectors.ensures.ok

pub returns-clause-part : goal.returns-clause-part
returns-clause-part g c =
    let same : file c.layout_of-layout.result.clsid (streams_of c.layout_of-layout.result.places.now) c.layout_of-layout.result.extent.total ≡ layout (contents_of c.args.contents.now) c.args.earlier_len =
    same_file (contents_of c.args.contents.now) c.args.earlier_len c.layout_of-layout.result.extent.total c.layout_of-layout.result.clsid (streams_of c.layout_of-layout.result.places.now)
    c.layout_of-layout.ensures.clsid
    (ap streams_of c.layout_of-layout.ensures.places ∙ streams_indexed c.as_slice.result.now (entries c.args.contents.now.streams.now) (c.as_slice.ensures.value ∙ c.in_ok-places.ensures.indexed))
    (c.layout_of-layout.ensures.total ∙ c.in_ok-extent.ensures.total) in
    on_err_weaker c.write_sectors.result
    (part_as (file c.layout_of-layout.result.clsid (streams_of c.layout_of-layout.result.places.now) c.layout_of-layout.result.extent.total) (layout (contents_of c.args.contents.now) c.args.earlier_len)
    (g.W.Source.held c.args.device.now) (g.W.Source.held c.clear_failed.new.self) (g.W.Source.held c.write_sectors.new.device) same c.clear_failed.ensures.held)
    c.write_sectors.ensures.part

pub returns-in_err-extent-clause-ok : goal.returns-in_err-extent-clause-ok
returns-in_err-extent-clause-ok g c = IfOk-from_err c.from_residual.result _ c.from_residual.ensures.0

pub returns-in_err-extent-clause-holds : goal.returns-in_err-extent-clause-holds
returns-in_err-extent-clause-holds g c = IfOk-from_err c.from_residual.result _ c.from_residual.ensures.0

pub returns-in_err-extent-clause-part : goal.returns-in_err-extent-clause-part
returns-in_err-extent-clause-part g c = on_err_from c.from_residual.result (part_none _ _ _ (ap bytes_told c.clear_failed.ensures.held))

pub returns-in_err-extent-clause-untouched : goal.returns-in_err-extent-clause-untouched
returns-in_err-extent-clause-untouched g c = err_passed _ c.from_residual.result InvalidInput (input_passed c.from_residual.result c.in_err-extent.field-0.0 c.from_residual.ensures.1 c.in_err-extent.ensures.kinds) (inr c.clear_failed.ensures.held)

pub returns-in_err-extent-clause-refused : goal.returns-in_err-extent-clause-refused
returns-in_err-extent-clause-refused g c = (λ _. c.in_err-extent.ensures.refused.0 refl, λ _. err_is c.from_residual.result InvalidInput (input_passed c.from_residual.result c.in_err-extent.field-0.0 c.from_residual.ensures.1 c.in_err-extent.ensures.kinds))

pub returns-in_err-extent-clause-failed : goal.returns-in_err-extent-clause-failed
returns-in_err-extent-clause-failed g c = unfailed c.from_residual.result InvalidInput _ (input_passed c.from_residual.result c.in_err-extent.field-0.0 c.from_residual.ensures.1 c.in_err-extent.ensures.kinds) input_isnt_io c.clear_failed.ensures.cleared

pub returns-in_err-extent-clause-faultless : goal.returns-in_err-extent-clause-faultless
returns-in_err-extent-clause-faultless g c = λ _. not_io c.from_residual.result InvalidInput (input_passed c.from_residual.result c.in_err-extent.field-0.0 c.from_residual.ensures.1 c.in_err-extent.ensures.kinds) refl

pub returns-in_err-extent-clause-kinds : goal.returns-in_err-extent-clause-kinds
returns-in_err-extent-clause-kinds g c = err_passed _ c.from_residual.result InvalidInput (input_passed c.from_residual.result c.in_err-extent.field-0.0 c.from_residual.ensures.1 c.in_err-extent.ensures.kinds) (inl refl)

pub returns-in_err-places-clause-ok : goal.returns-in_err-places-clause-ok
returns-in_err-places-clause-ok g c = IfOk-from_err c.from_residual-in_err-places.result _ c.from_residual-in_err-places.ensures.0

pub returns-in_err-places-clause-holds : goal.returns-in_err-places-clause-holds
returns-in_err-places-clause-holds g c = IfOk-from_err c.from_residual-in_err-places.result _ c.from_residual-in_err-places.ensures.0

pub returns-in_err-places-clause-part : goal.returns-in_err-places-clause-part
returns-in_err-places-clause-part g c = on_err_from c.from_residual-in_err-places.result (part_none _ _ _ (ap bytes_told c.clear_failed.ensures.held))

pub returns-in_err-places-clause-untouched : goal.returns-in_err-places-clause-untouched
returns-in_err-places-clause-untouched g c = err_passed _ c.from_residual-in_err-places.result OutOfMemory c.from_residual-in_err-places.ensures.1 (inr c.clear_failed.ensures.held)

pub returns-in_err-places-clause-refused : goal.returns-in_err-places-clause-refused
returns-in_err-places-clause-refused g c = (λ h. absurd (other_kind c.from_residual-in_err-places.result OutOfMemory InvalidInput c.from_residual-in_err-places.ensures.1 memory_isnt_input h), λ h. absurd (false≢true (c.in_ok-extent.ensures.refused.1 h)))

pub returns-in_err-places-clause-failed : goal.returns-in_err-places-clause-failed
returns-in_err-places-clause-failed g c = unfailed c.from_residual-in_err-places.result OutOfMemory _ c.from_residual-in_err-places.ensures.1 memory_isnt_io c.clear_failed.ensures.cleared

pub returns-in_err-places-clause-faultless : goal.returns-in_err-places-clause-faultless
returns-in_err-places-clause-faultless g c = λ _. not_io c.from_residual-in_err-places.result OutOfMemory c.from_residual-in_err-places.ensures.1 refl

pub returns-in_err-places-clause-kinds : goal.returns-in_err-places-clause-kinds
returns-in_err-places-clause-kinds g c = err_passed _ c.from_residual-in_err-places.result OutOfMemory c.from_residual-in_err-places.ensures.1 (inr (inl refl))

pub returns-clause-untouched : goal.returns-clause-untouched
returns-clause-untouched g c = IfErr-weaker c.write_sectors.result _ _ (λ kind io. inl io) c.write_sectors.ensures.kind

pub returns-clause-refused : goal.returns-clause-refused
returns-clause-refused g c = (λ h. absurd (io_only c.write_sectors.result InvalidInput c.write_sectors.ensures.kind io_isnt_input h), λ h. absurd (false≢true (c.in_ok-extent.ensures.refused.1 h)))

pub returns-clause-failed : goal.returns-clause-failed
returns-clause-failed g c = failed_by_io c.write_sectors.result _ _ c.clear_failed.ensures.cleared c.write_sectors.ensures.failed c.write_sectors.ensures.kind

pub returns-clause-faultless : goal.returns-clause-faultless
returns-clause-faultless g c = λ h. ok_not_io c.write_sectors.result (c.write_sectors.ensures.faultless h)

pub returns-clause-kinds : goal.returns-clause-kinds
returns-clause-kinds g c = IfErr-weaker c.write_sectors.result _ _ (λ kind io. inr (inr io)) c.write_sectors.ensures.kind
