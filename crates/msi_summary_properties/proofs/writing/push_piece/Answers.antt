use Rattle.std.proofs.Common.{◌≡◌, ◌+◌, ◌-◌, ◌%◌, ◌++◌, List, ℕ, [], length, replicate, ap, ◌∙◌, arith}
use Rattle.std.specs.Prelude.{unwrap_or}
use Rattle.std.proofs.lemmas.List.{length-append}
use Rattle.msi_summary_properties.specs.PropertyStream.{value_bytes}
use Rattle.msi_summary_properties.proofs.PlainSectionLemmas.{padded_told, padded_written}
use Rattle.msi_summary_properties.proofs.writing.push_piece.Goals as goal

pub returns-clause-ok : goal.returns-clause-ok
returns-clause-ok c =
    let o = value_bytes c.args.page c.args.value.now in
    let grown : length c.push_value.new.held.items ≡ length c.args.held.now.items + length (unwrap_or o []) = ap length c.in_ok-push_value.ensures.ok ∙ length-append c.args.held.now.items (unwrap_or o []) in
    let len : c.len.result - c.len-start.result ≡ length (unwrap_or o []) = omega (arith, c.len.ensures, c.len-start.ensures, c.push_value.new.held.ok, c.args.held.now.ok) in
    let pad : c.padding.result ≡ (4 - length (unwrap_or o []) % 4) % 4 = c.padding.ensures.value ∙ ap (λ n. (4 - n % 4) % 4) len in
    let before : List ℕ = c.args.held.now.items in
    c.in_ok-push_zeros.ensures
    ∙ ap (λ (bytes : List ℕ). bytes ++ replicate c.padding.result 0) c.in_ok-push_value.ensures.ok
    ∙ padded_written o before c.padding.result (padded_told o c.requires) pad
