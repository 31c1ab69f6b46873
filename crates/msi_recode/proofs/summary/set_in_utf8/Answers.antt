use Rattle.std.proofs.Common.{ap, arith, inl}
use Rattle.std.proofs.lemmas.Result.{err_from_is_err_and}
use Rattle.msi_summary_properties.specs.HeaderView.{view_head}
use Rattle.msi_recode.specs.declared.errors.RecodeError.TheVariants as error
use Rattle.msi_recode.specs.Readers.{page_of}
use Rattle.msi_recode.proofs.SummaryErrorLemmas.{no_header, no_section, no_page, values_error, put_memory}
use Rattle.msi_recode.proofs.SummarySetLemmas.{summary_made, set_written}
use Rattle.msi_recode.proofs.summary.set_in_utf8.Goals as goal

pub returns-clause-ok : goal.returns-clause-ok
returns-clause-ok c =
    summary_made c.args.given c.args.bytes.now c.rest_from.result.now (view_head c.in_ok-head.head) c.in_ok-pairs.pairs.items c.deref.result.now c.deref-3.result.now c.deref-2.result.now c.in_ok-page.page (page_of c.in_ok-reader.reader) c.new_set_of-set.result c.put_values.new.set
    (λ i. omega (arith, c.type_inv.bytes i)) c.in_ok-head.ensures c.rest_from.ensures c.in_ok-pairs.ensures c.deref.ensures.value c.deref-3.ensures.value c.deref-2.ensures.value c.in_ok-reader.ensures.ok c.new_set_of-set.ensures c.in_ok-page.ensures c.in_ok-put_values.ensures.ok c.in_ok-check_values.ensures.ok

pub returns-clause-written : goal.returns-clause-written
returns-clause-written c =
    let head = view_head c.in_ok-head.head in
    set_written head.version (page_of c.in_ok-reader.reader) c.args.bytes.now head.section c.in_ok-pairs.pairs.items c.deref-3.result.now c.deref-2.result.now c.new_set_of-set.result c.put_values.new.set
    c.deref-3.ensures.value c.deref-2.ensures.value c.in_ok-put_values.ensures.ok c.in_ok-check_values.ensures.ok

pub returns-in_err-head-clause-exact : goal.returns-in_err-head-clause-exact
returns-in_err-head-clause-exact c =
    let p = err_from_is_err_and c.from_residual.result c.from_residual.ensures.1 in
    rw (p.1, p.2) (no_header c.in_err-head.field-0.0 c.args.given c.args.bytes.now c.in_err-head.ensures)

pub returns-in_err-pairs-clause-exact : goal.returns-in_err-pairs-clause-exact
returns-in_err-pairs-clause-exact c =
    let p = err_from_is_err_and c.from_residual-in_err-pairs.result c.from_residual-in_err-pairs.ensures.1 in
    rw (p.1, p.2) (no_section c.args.given c.args.bytes.now c.rest_from.result.now (view_head c.in_ok-head.head) c.in_ok-head.ensures c.rest_from.ensures c.in_err-pairs.field-0.0 c.in_err-pairs.ensures)

pub returns-in_err-page-clause-exact : goal.returns-in_err-page-clause-exact
returns-in_err-page-clause-exact c =
    let p = err_from_is_err_and c.from_residual-in_err-page.result c.from_residual-in_err-page.ensures.1 in
    rw (p.1, p.2) (no_page c.args.given c.args.bytes.now c.rest_from.result.now (view_head c.in_ok-head.head) c.in_ok-head.ensures c.rest_from.ensures c.in_ok-pairs.pairs.items c.deref.result.now c.in_ok-pairs.ensures c.deref.ensures.value c.in_err-page.field-0.0 c.in_err-page.ensures)

pub returns-in_err-reader-clause-exact : goal.returns-in_err-reader-clause-exact
returns-in_err-reader-clause-exact c =
    let p = err_from_is_err_and c.from_residual-in_err-reader.result c.from_residual-in_err-reader.ensures.1 in
    rw (p.1, p.2) (inl (ap (λ k. error.Package k) c.in_err-reader.ensures.kind))

pub returns-in_err-check_values-clause-exact : goal.returns-in_err-check_values-clause-exact
returns-in_err-check_values-clause-exact c =
    let p = err_from_is_err_and c.from_residual-in_err-check_values.result c.from_residual-in_err-check_values.ensures.1 in
    rw (p.1, p.2) (values_error c.args.given c.args.bytes.now c.rest_from.result.now (view_head c.in_ok-head.head) c.in_ok-head.ensures c.rest_from.ensures c.in_ok-pairs.pairs.items c.deref.result.now c.in_ok-pairs.ensures c.deref.ensures.value
    c.deref-2.result.now c.in_ok-page.page (page_of c.in_ok-reader.reader) c.in_err-check_values.field-0.0 c.deref-2.ensures.value c.in_ok-reader.ensures.ok c.in_ok-page.ensures c.in_err-check_values.ensures.err)

pub returns-in_err-put_values-clause-exact : goal.returns-in_err-put_values-clause-exact
returns-in_err-put_values-clause-exact c =
    let head = view_head c.in_ok-head.head in
    let p = err_from_is_err_and c.from_residual-in_err-put_values.result c.from_residual-in_err-put_values.ensures.1 in
    rw (p.1, p.2) (inl (ap (λ k. error.Package k) (put_memory head.version (page_of c.in_ok-reader.reader) c.args.bytes.now head.section c.in_ok-pairs.pairs.items c.deref-2.result.now c.deref-3.result.now c.in_err-put_values.field-0.0
    c.deref-2.ensures.value c.deref-3.ensures.value c.in_ok-check_values.ensures.ok c.in_err-put_values.ensures.kinds c.in_err-put_values.ensures.refused)))
