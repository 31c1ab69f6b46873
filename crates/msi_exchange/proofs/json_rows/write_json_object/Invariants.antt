use Rattle.std.proofs.Common.{List, ◌≡◌, ◌++◌}
use Rattle.json.specs.Token.{Token}
use Rattle.json.specs.Tree.{json_tokens}
use Rattle.msi_exchange.specs.JsonRows.{names_of, object_json}
use Rattle.msi_exchange.proofs.JsonLemmas.{members_from}
use Rattle.msi_exchange.proofs.json_rows.write_json_object.Given as goal

abbrev pub invariant-loop-i : goal.invariant-loop-i
invariant-loop-i l = record {
  left : l.writer.tokens ++ members_from l.row.columns l.row.values l.i ≡ l.fn.writer.tokens ++ json_tokens (object_json (names_of l.row.columns) l.row.values);
  front : (done : List Token) × (l.writer.tokens ≡ l.fn.writer.tokens ++ done);
  before : l.writer.before ≡ l.fn.writer.before;
}
