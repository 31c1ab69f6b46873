use Rattle.std.proofs.Common.{ℕ, ◌++◌, List, Option, Some, codes, refl, ap, sym, append_assoc}
use Rattle.msi_query.specs.Queries.{Clauses}
use Rattle.msi_query.specs.QueryTexts.{columns_text, select_word}
use Rattle.msi_query.proofs.QueryTextLemmas.{failed_write, three_writes}
use Rattle.msi_query.proofs.query.select.write_columns.Goals as goal

-- what is written in front of the place that rows come from
abbrev text : Clauses → Option (List ℕ)
text clauses = Some (select_word clauses ++ columns_text clauses.columns ++ codes " FROM ")

pub returns-in_err-write_str : goal.returns-in_err-write_str
returns-in_err-write_str g c =
    failed_write g.W.Write.write_str_gives c.args.f.now c.write_str.new.self c.from_residual.result (text c.args.clauses.now) c.from_residual.ensures.0

pub returns-in_err-write_names : goal.returns-in_err-write_names
returns-in_err-write_names g c =
    failed_write g.W.Write.write_str_gives c.args.f.now c.write_names.new.f c.from_residual-in_err-write_names.result (text c.args.clauses.now)
    c.from_residual-in_err-write_names.ensures.0

pub returns : goal.returns
returns g c =
    three_writes g.W.Write.write_str_gives c.args.f.now c.write_str.new.self c.write_names.new.f c.write_str-2.new.self
    c.write_str.result c.write_names.result c.write_str-2.result
    (Some c.select_words.result.now) (Some (columns_text c.columns.result.now)) (Some (codes " FROM ")) (text c.args.clauses.now)
    (rw (c.select_words.ensures, c.columns.ensures)
    (ap (λ (t : List ℕ). Some t) (sym (append_assoc (select_word c.args.clauses.now) (columns_text c.args.clauses.now.columns) (codes " FROM ")))))
    (rw c.in_ok-write_str.was refl) (rw c.in_ok-write_names.was refl)
    c.write_str.ensures.writes c.write_names.ensures c.write_str-2.ensures.writes
