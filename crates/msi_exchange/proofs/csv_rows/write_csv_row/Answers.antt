use Rattle.std.proofs.Common.{◌≡◌, ◌≢◌, ◌∙◌, ◌≤◌, ◌+◌, ◌^◌, ◌-◌, ◌<◌, IfSome, Some, false, length, get_or, ap, subst, sym, refl, arith, rules}
use Rattle.std.specs.Io.KnownBytes.{Appends}
use Rattle.std.proofs.lemmas.Option.{get_or_from_slice_get}
use Rattle.std.proofs.lemmas.Result.{on_ok_weaker}
use Rattle.csv.specs.Writing.{fields_written, first_length, has_written, is_blank, tail_text, text_written, writer_setup}
use Rattle.csv.specs.declared.writer.QuoteStyle.TheVariants.{NonNumeric}
use Rattle.csv.specs.declared.writer.WriterBuilder.{WriterBuilder}
use Rattle.csv.proofs.WriteFacts.{appends-none}
use Rattle.msi_exchange.proofs.CsvLemmas.{blank_more, field_more, line_ended}
use Rattle.msi_exchange.proofs.csv_rows.write_csv_row.Goals as goal

pub loop-i-init : goal.loop-i-init
unfolding is_blank
loop-i-init g c = record {
  setup = refl;
  first = refl;
  count = λ none. none;
  written = λ none clean style. (appends-none _, none, rw clean refl);
}

pub loop-i-preserved : goal.loop-i-preserved
loop-i-preserved g c =
    let l = c.loop-i in
    let e = c.in_ok-write_csv_value.ensures in
    let v = c.index.result.now in
    let is : v ≡ get_or c.args.row.now.values l.i v = sym (get_or_from_slice_get c.args.row.now.values l.i v v c.index.ensures) in
    let here : l.i < length c.args.row.now.values = omega arith in
    let setup = writer_setup c.args.writer.now in record {
      setup = e.setup ∙ l.invariant.setup;
      first = c.write_csv_value.ensures.first ∙ l.invariant.first;
      count = λ none.
          let fits : l.i + 1 ≤ 2 ^ 64 - 1 = search rules in
          e.fields ∙ rw (l.invariant.count none) (omega arith);
      written = λ none clean style.
          let p = l.invariant.written none clean style in
          let styled : (writer_setup l.writer).style ≢ NonNumeric = rw l.invariant.setup style in
          let fits : l.i + 1 ≤ 2 ^ 64 - 1 = search rules in (
            field_more setup c.args.row.now.values l.i v _ _ _ here is p.0 (rw (l.invariant.setup, p.1) at (e.text styled)),
            e.fields ∙ rw p.1 (omega arith),
            blank_more setup c.args.row.now.values l.i v (has_written l.writer) (has_written c.write_csv_value.new.writer) here is p.2
                (λ w. rw l.invariant.setup at (e.wrote w styled)) e.stays,
          );
    }

pub returns-clause-setup : goal.returns-clause-setup
returns-clause-setup g c = on_ok_weaker c.end_record.result (λ h. h ∙ c.loop-i.invariant.setup) c.end_record.ensures.same

pub returns-clause-bytes : goal.returns-clause-bytes
returns-clause-bytes g c =
    let l = c.loop-i in
    on_ok_weaker c.end_record.result (λ (tail : Appends (text_written g.W.Write.contents l.writer) (text_written g.W.Write.contents c.end_record.new.self) (tail_text (writer_setup l.writer) (has_written l.writer) (fields_written l.writer))) none clean style.
    let p = l.invariant.written none clean style in
    line_ended (writer_setup c.args.writer.now) c.args.row.now.values l.i (has_written l.writer) _ _ _ (omega arith) p.0 p.2 (rw (l.invariant.setup, p.1) at tail))
    c.end_record.ensures.bytes

pub returns-clause-lengths : goal.returns-clause-lengths
returns-clause-lengths g c =
    let l = c.loop-i in
    on_ok_weaker c.end_record.result (λ (h : (writer_setup l.writer).flexible ≡ false → IfSome (first_length l.writer) (λ e. fields_written l.writer ≡ e)) none rigid.
    let all : l.i ≡ length c.args.row.now.values = omega arith in
    subst (λ n. IfSome (first_length c.args.writer.now) (λ e. n ≡ e)) (l.invariant.count none ∙ all)
    (subst (λ first. IfSome first (λ e. fields_written l.writer ≡ e)) l.invariant.first (h (ap (λ (setup : WriterBuilder). setup.flexible) l.invariant.setup ∙ rigid))))
    c.end_record.ensures.lengths

pub returns-clause-noted : goal.returns-clause-noted
returns-clause-noted g c =
    let l = c.loop-i in
    on_ok_weaker c.end_record.result (λ (h : (writer_setup l.writer).flexible ≡ false → first_length c.end_record.new.self ≡ Some (fields_written l.writer)) none rigid.
    let all : l.i ≡ length c.args.row.now.values = omega arith in
    h (ap (λ (setup : WriterBuilder). setup.flexible) l.invariant.setup ∙ rigid) ∙ ap (λ n. Some n) (l.invariant.count none ∙ all))
    c.end_record.ensures.noted
