use Rattle.std.proofs.Common.{◌∙◌, Some, codes, map, refl, sym}
use Rattle.msi_query_tokens.specs.Names.{name_text}
use Rattle.msi_query.specs.QueryTexts.{listed, named_columns_text}
use Rattle.msi_query.proofs.ListedLemmas.{bracketed-names}
use Rattle.msi_query.proofs.QueryTextLemmas.{failed_write, three_writes}
use Rattle.msi_query.proofs.query.insert.write_columns.Goals as goal

pub returns-in_err-write_str : goal.returns-in_err-write_str
returns-in_err-write_str g c =
    failed_write g.W.Write.write_str_gives c.args.f.now c.write_str.new.self c.from_residual.result (Some (named_columns_text c.args.columns.now))
    c.from_residual.ensures.0

pub returns-in_err-write_name_list : goal.returns-in_err-write_name_list
returns-in_err-write_name_list g c =
    failed_write g.W.Write.write_str_gives c.args.f.now c.write_name_list.new.f c.from_residual-in_err-write_name_list.result
    (Some (named_columns_text c.args.columns.now)) c.from_residual-in_err-write_name_list.ensures.0

pub returns : goal.returns
returns g c =
    three_writes g.W.Write.write_str_gives c.args.f.now c.write_str.new.self c.write_name_list.new.f c.write_str-2.new.self
    c.write_str.result c.write_name_list.result c.write_str-2.result
    (Some (codes " (")) (listed (map (λ n. Some (name_text n)) c.args.columns.now)) (Some (codes ")")) _
    (bracketed-names c.args.columns.now (sym c.is_empty.ensures ∙ c.if-is_empty.false))
    (rw c.in_ok-write_str.was refl) (rw c.in_ok-write_name_list.was refl)
    c.write_str.ensures.writes c.write_name_list.ensures c.write_str-2.ensures.writes
