use Rattle.std.proofs.Common.{◌∙◌, length, ap, sym}
use Rattle.msi_query_tokens.specs.Tokens.{marks}
use Rattle.msi_query_tokens.proofs.TokenLemmas.{some_bytes, end_token, letter_token, digit_token, single_token, double_token, name_token, semicolon_token, mark_token, short_fits}
use Rattle.msi_query_tokens.proofs.lex.token.Goals as goal

pub returns-then-is_empty-clause-value : goal.returns-then-is_empty-clause-value
returns-then-is_empty-clause-value c = sym (end_token c.args.text.now (sym c.is_empty.ensures ∙ c.if-is_empty.true))

pub returns-then-is_in-clause-value : goal.returns-then-is_in-clause-value
returns-then-is_in-clause-value c =
    let some = some_bytes c.args.text.now (sym c.is_empty.ensures ∙ c.if-is_empty.false) in
    c.word.ensures.value ∙ sym (letter_token c.args.text.now c.byte_at-byte.result c.byte_at-byte.ensures.value some (sym c.is_in.ensures ∙ c.if-is_in.true))

pub returns-then-is_in-2-clause-value : goal.returns-then-is_in-2-clause-value
returns-then-is_in-2-clause-value c =
    let some = some_bytes c.args.text.now (sym c.is_empty.ensures ∙ c.if-is_empty.false) in
    sym (digit_token c.args.text.now c.byte_at-byte.result c.byte_at-byte.ensures.value some c.past.result c.past.ensures.value
    (sym c.is_in.ensures ∙ c.if-is_in.false) (sym c.is_in-else-is_in.ensures ∙ c.if-is_in-2.true))

pub returns-then-byte-eq39-clause-value : goal.returns-then-byte-eq39-clause-value
returns-then-byte-eq39-clause-value c =
    let some = some_bytes c.args.text.now (sym c.is_empty.ensures ∙ c.if-is_empty.false) in
    c.quoted.ensures.value ∙ sym (single_token c.args.text.now c.byte_at-byte.result c.byte_at-byte.ensures.value some
    (sym c.is_in.ensures ∙ c.if-is_in.false) (sym c.is_in-else-is_in.ensures ∙ c.if-is_in-2.false) c.if-byte-eq39.true)

pub returns-then-byte-eq34-clause-value : goal.returns-then-byte-eq34-clause-value
returns-then-byte-eq34-clause-value c =
    let some = some_bytes c.args.text.now (sym c.is_empty.ensures ∙ c.if-is_empty.false) in
    c.quoted-then-byte-eq34.ensures.value ∙ sym (double_token c.args.text.now c.byte_at-byte.result c.byte_at-byte.ensures.value some
    (sym c.is_in.ensures ∙ c.if-is_in.false) (sym c.is_in-else-is_in.ensures ∙ c.if-is_in-2.false) c.if-byte-eq39.false c.if-byte-eq34.true)

pub returns-then-byte-eq96-clause-value : goal.returns-then-byte-eq96-clause-value
returns-then-byte-eq96-clause-value c =
    let some = some_bytes c.args.text.now (sym c.is_empty.ensures ∙ c.if-is_empty.false) in
    c.quoted-then-byte-eq96.ensures.value ∙ sym (name_token c.args.text.now c.byte_at-byte.result c.byte_at-byte.ensures.value some
    (sym c.is_in.ensures ∙ c.if-is_in.false) (sym c.is_in-else-is_in.ensures ∙ c.if-is_in-2.false) c.if-byte-eq39.false c.if-byte-eq34.false c.if-byte-eq96.true)

pub returns-then-byte-eq59-clause-value : goal.returns-then-byte-eq59-clause-value
returns-then-byte-eq59-clause-value c =
    let some = some_bytes c.args.text.now (sym c.is_empty.ensures ∙ c.if-is_empty.false) in
    c.semicolon.ensures.value ∙ sym (semicolon_token c.args.text.now c.byte_at-byte.result c.byte_at-byte.ensures.value some
    (sym c.is_in.ensures ∙ c.if-is_in.false) (sym c.is_in-else-is_in.ensures ∙ c.if-is_in-2.false) c.if-byte-eq39.false c.if-byte-eq34.false c.if-byte-eq96.false c.if-byte-eq59.true)

pub returns-else-byte-eq59-clause-value : goal.returns-else-byte-eq59-clause-value
returns-else-byte-eq59-clause-value c =
    let some = some_bytes c.args.text.now (sym c.is_empty.ensures ∙ c.if-is_empty.false) in
    c.marks.ensures.value ∙ ap (marks c.byte_at-byte.result) c.byte_at.ensures.value
    ∙ sym (mark_token c.args.text.now c.byte_at-byte.result c.byte_at-byte.ensures.value some (sym c.is_in.ensures ∙ c.if-is_in.false)
    (sym c.is_in-else-is_in.ensures ∙ c.if-is_in-2.false) c.if-byte-eq39.false c.if-byte-eq34.false c.if-byte-eq96.false c.if-byte-eq59.false)

pub returns-else-byte-eq59-clause-within : goal.returns-else-byte-eq59-clause-within
returns-else-byte-eq59-clause-within c =
    let some = some_bytes c.args.text.now (sym c.is_empty.ensures ∙ c.if-is_empty.false) in
    short_fits c.byte_at.result c.marks.result.1 (length c.args.text.now) c.marks.ensures.within c.byte_at.ensures.within some
