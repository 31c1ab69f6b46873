use Rattle.std.proofs.Common.{List, ◌≡◌, ◌+◌, ◌∷◌, [], ◌++◌, get_or, sym, ◌∙◌, ap, append_assoc, subst, arith, rules}
use Rattle.std.proofs.lemmas.Option.{get_or_from_slice_get}
use Rattle.std.proofs.lemmas.Result.{on_err_weaker, on_ok_weaker}
use Rattle.json.specs.Token.{Token, key}
use Rattle.json.specs.Tree.{json_tokens}
use Rattle.msi_table_values.specs.Columns.{ColumnDef}
use Rattle.msi_exchange.specs.JsonRows.{value_json}
use Rattle.msi_exchange.proofs.JsonLemmas.{member_begun, member_more, members_ended, members_from, on_err, stopped}
use Rattle.msi_exchange.proofs.json_rows.write_json_object.Goals as goal

pub loop-i-preserved : goal.loop-i-preserved
loop-i-preserved c =
    let l = c.loop-i in
    let row = c.args.row.now in
    let column = c.index-columns-i.result in
    let v = c.index.result.now in
    let old = c.args.writer.now.tokens in
    let named = key column.name ∷ [] in
    let value = json_tokens (value_json v) in
    let written : c.key.new.self.tokens ≡ l.writer.tokens ++ named = search rules in
    let kept : c.key.new.self.before ≡ l.writer.before = search rules in
    let is_column : column ≡ get_or row.columns l.i column = subst (λ (cs : List ColumnDef). column ≡ get_or cs l.i column) c.columns-columns.ensures.columns c.index-columns-i.is in
    let e = c.in_ok-write_json_value.ensures in record {
      left = member_more row.columns row.values l.i v c.key.new.self.tokens c.write_json_value.new.writer.tokens _ e.ok
          (member_begun row.columns row.values l.i column v l.writer.tokens c.key.new.self.tokens _ (omega (arith, c.columns-columns.ensures.len)) (omega arith)
          is_column (sym (get_or_from_slice_get row.values l.i v v c.index.ensures)) written l.invariant.left);
      front = (
        l.invariant.front.0 ++ named ++ value,
        e.ok ∙ ap (λ (ts : List Token). ts ++ value) (written ∙ ap (λ (ts : List Token). ts ++ named) l.invariant.front.1 ∙ append_assoc old l.invariant.front.0 named) ∙ append_assoc old (l.invariant.front.0 ++ named) value,
      );
      before = e.before ∙ kept ∙ l.invariant.before;
    }

pub returns-clause-ok : goal.returns-clause-ok
returns-clause-ok c =
    let l = c.loop-i in
    on_ok_weaker c.end_object.result (λ ended. members_ended c.args.row.now.columns c.args.row.now.values l.i l.writer.tokens c.end_object.new.self.tokens _ (omega arith) ended l.invariant.left)
    c.end_object.ensures.ok

pub returns-in_err-key-clause-err : goal.returns-in_err-key-clause-err
returns-in_err-key-clause-err c =
    let l = c.loop-i in
    on_err _ (stopped c.args.writer.now.tokens l.writer.tokens c.key.new.self.tokens l.invariant.front.0 (members_from c.args.row.now.columns c.args.row.now.values l.i) _
    c.in_err-key.ensures.err l.invariant.front.1 l.invariant.left)

pub returns-in_err-write_json_value-clause-err : goal.returns-in_err-write_json_value-clause-err
returns-in_err-write_json_value-clause-err c =
    let l = c.loop-i in
    let row = c.args.row.now in
    let column = c.index-columns-i.result in
    let v = c.index.result.now in
    let named = key column.name ∷ [] in
    let written : c.key.new.self.tokens ≡ l.writer.tokens ++ named = search rules in
    let is_column : column ≡ get_or row.columns l.i column = subst (λ (cs : List ColumnDef). column ≡ get_or cs l.i column) c.columns-columns.ensures.columns c.index-columns-i.is in
    on_err _ (stopped c.args.writer.now.tokens c.key.new.self.tokens c.write_json_value.new.writer.tokens (l.invariant.front.0 ++ named)
    (json_tokens (value_json v) ++ members_from row.columns row.values (l.i + 1)) _
    c.in_err-write_json_value.ensures.err
    (written ∙ ap (λ (ts : List Token). ts ++ named) l.invariant.front.1 ∙ append_assoc c.args.writer.now.tokens l.invariant.front.0 named)
    (member_begun row.columns row.values l.i column v l.writer.tokens c.key.new.self.tokens _ (omega (arith, c.columns-columns.ensures.len)) (omega arith)
    is_column (sym (get_or_from_slice_get row.values l.i v v c.index.ensures)) written l.invariant.left))

pub returns-clause-err : goal.returns-clause-err
returns-clause-err c =
    let l = c.loop-i in
    on_err_weaker c.end_object.result (λ same. stopped c.args.writer.now.tokens l.writer.tokens c.end_object.new.self.tokens l.invariant.front.0
    (members_from c.args.row.now.columns c.args.row.now.values l.i) _ same l.invariant.front.1 l.invariant.left) c.end_object.ensures.err
