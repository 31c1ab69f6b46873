use Rattle.std.proofs.Common.{◌≡◌, ◌≤◌, ◌∙◌, ap, length, string_bytes, subst, sym, take}
use Rattle.std.specs.Str.{IsUtf8}
use Rattle.std.proofs.lemmas.Str.{IsUtf8-string_bytes, IsCharBoundary-from_take}
use Rattle.msi_exchange.proofs.writing.push_row.Goals as goal

pub truncate-requires : goal.truncate-requires
truncate-requires c = λ within.
    let old = c.args.text.now in let new = c.push_fields-pushed.new.text in
    let held : c.len-held.result ≡ length (string_bytes old) = c.len-held.ensures ∙ old.bytes.ok.0 in
    let begins : take c.len-held.result (string_bytes new) ≡ string_bytes old =
    ap (λ n. take n (string_bytes new)) held ∙ c.push_fields-pushed.ensures.begins in
    let inside : c.len-held.result ≤ length (string_bytes new) = subst (λ n. c.len-held.result ≤ n) new.bytes.ok.0 within in
    let boundary = IsCharBoundary-from_take (string_bytes new) c.len-held.result (IsUtf8-string_bytes new) inside (subst IsUtf8 (sym begins) (IsUtf8-string_bytes old)) in
    (boundary.0, λ _. boundary.1)
