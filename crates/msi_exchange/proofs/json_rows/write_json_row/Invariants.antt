use Rattle.std.proofs.Common.{List, ◌≡◌, ◌++◌, drop}
use Rattle.json.specs.Token.{Token}
use Rattle.json.specs.Tree.{items_tokens, json_tokens}
use Rattle.msi_exchange.specs.JsonRows.{items_json, row_json}
use Rattle.msi_exchange.proofs.json_rows.write_json_row.Given as goal

abbrev pub invariant-loop-i : goal.invariant-loop-i
invariant-loop-i l = record {
  left : l.writer.tokens ++ items_tokens (items_json (drop l.i l.row.values)) ≡ l.fn.writer.tokens ++ json_tokens (row_json l.row.values);
  front : (done : List Token) × (l.writer.tokens ≡ l.fn.writer.tokens ++ done);
  before : l.writer.before ≡ l.fn.writer.before;
}
