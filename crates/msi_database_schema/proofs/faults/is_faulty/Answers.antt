use Rattle.std.proofs.Common.{◌≡◌, ◌∙◌, sym, refl, subst, Bool, IfOk}
use Rattle.msi_database_schema.specs.RowOrders.{has_faulty_row, rows_of, texts_at, texts_cmp}
use Rattle.msi_database_schema.proofs.FaultLemmas.{fault_in_keys, fault_in_row}
use Rattle.msi_database_schema.proofs.OrderLemmas.{ascending}
use Rattle.msi_database_schema.proofs.RowOrderLemmas.{texts_total}
use Rattle.msi_database_schema.proofs.faults.is_faulty.Goals as goal

pub returns-then-has_fault_in_row-clause-ok : goal.returns-then-has_fault_in_row-clause-ok
returns-then-has_fault_in_row-clause-ok c = fault_in_row (rows_of c.args.tables.items c.args.columns.items c.args.validation.items) c.as_slice.result.now c.as_slice-2.result.now c.as_slice-3.result.now
    (c.as_slice.ensures.value ∙ c.in_ok-sort_by_texts.ensures.ok) (c.as_slice-2.ensures.value ∙ c.in_ok-sort_by_texts-2.ensures.ok) c.as_slice-3.ensures.value
    (sym c.has_fault_in_row.ensures ∙ c.if-has_fault_in_row.true)

pub returns-clause-ok : goal.returns-clause-ok
returns-clause-ok c =
    let s = rows_of c.args.tables.items c.args.columns.items c.args.validation.items in
    subst (λ (faulty : Bool). IfOk c.has_shared_key.result (λ found. found ≡ faulty))
    (fault_in_keys s c.sort_by_texts.new.rows.items c.sort_by_texts-2.new.rows.items c.args.validation.items c.in_ok-sort_by_texts.ensures.ok c.in_ok-sort_by_texts-2.ensures.ok refl
    (sym (λ i. has_faulty_row (rows_of (c.as_slice.ensures.value i) (c.as_slice-2.ensures.value i) (c.as_slice-3.ensures.value i))) ∙ sym c.has_fault_in_row.ensures ∙ c.if-has_fault_in_row.false)) c.has_shared_key.ensures.ok

pub has_fault_in_row-requires-clause-by_name : goal.has_fault_in_row-requires-clause-by_name
has_fault_in_row-requires-clause-by_name c = ascending (texts_at 0) texts_cmp texts_total c.as_slice.result.now c.args.tables.items (c.as_slice.ensures.value ∙ c.in_ok-sort_by_texts.ensures.ok)

pub has_fault_in_row-requires-clause-by_column : goal.has_fault_in_row-requires-clause-by_column
has_fault_in_row-requires-clause-by_column c = ascending (texts_at 2) texts_cmp texts_total c.as_slice-2.result.now c.args.columns.items (c.as_slice-2.ensures.value ∙ c.in_ok-sort_by_texts-2.ensures.ok)
