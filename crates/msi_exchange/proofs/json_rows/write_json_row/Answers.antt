use Rattle.std.proofs.Common.{◌++◌, drop, sym, ◌∙◌, ap, append_assoc, arith}
use Rattle.std.proofs.lemmas.Option.{get_or_from_slice_get}
use Rattle.std.proofs.lemmas.Result.{on_err_weaker}
use Rattle.json.specs.Tree.{items_tokens, json_tokens}
use Rattle.msi_exchange.specs.JsonRows.{items_json, value_json}
use Rattle.msi_exchange.proofs.JsonLemmas.{item_more, on_err, stopped}
use Rattle.msi_exchange.proofs.json_rows.write_json_row.Goals as goal

pub loop-i-preserved : goal.loop-i-preserved
loop-i-preserved c =
    let l = c.loop-i in
    let row = c.args.row.now.values in
    let v = c.index.result.now in
    let written = c.in_ok-write_json_value.ensures in record {
      left = item_more row l.i v l.writer.tokens c.write_json_value.new.writer.tokens _ (omega arith) (sym (get_or_from_slice_get row l.i v v c.index.ensures)) written.ok l.invariant.left;
      front = (
        l.invariant.front.0 ++ json_tokens (value_json v),
        written.ok ∙ ap (λ ts. ts ++ json_tokens (value_json v)) l.invariant.front.1 ∙ append_assoc c.args.writer.now.tokens l.invariant.front.0 (json_tokens (value_json v)),
      );
      before = written.before ∙ l.invariant.before;
    }

pub returns-in_err-write_json_value-clause-err : goal.returns-in_err-write_json_value-clause-err
returns-in_err-write_json_value-clause-err c =
    let l = c.loop-i in
    on_err _ (stopped c.args.writer.now.tokens l.writer.tokens c.write_json_value.new.writer.tokens l.invariant.front.0
    (items_tokens (items_json (drop l.i c.args.row.now.values))) _
    c.in_err-write_json_value.ensures.err l.invariant.front.1 l.invariant.left)

pub returns-clause-err : goal.returns-clause-err
returns-clause-err c =
    let l = c.loop-i in
    on_err_weaker c.end_array.result (λ same. stopped c.args.writer.now.tokens l.writer.tokens c.end_array.new.self.tokens l.invariant.front.0
    (items_tokens (items_json (drop l.i c.args.row.now.values))) _ same l.invariant.front.1 l.invariant.left) c.end_array.ensures.err
