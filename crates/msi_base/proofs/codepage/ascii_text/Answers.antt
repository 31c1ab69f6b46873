use Rattle.std.proofs.Common.{sym, ◌∙◌}
use Rattle.std.proofs.lemmas.Str.{IsUtf8-from_ascii}
use Rattle.msi_base.proofs.PagesLemmas.{IsAscii-from_test}
use Rattle.msi_base.proofs.codepage.ascii_text.Goals as goal

pub unreachable-requires : goal.unreachable-requires
unreachable-requires c =
    c.in-Err.ensures.cases.0 (IsUtf8-from_ascii c.args.bytes.now (IsAscii-from_test c.args.bytes.now (sym c.is_ascii.ensures ∙ c.if-not-is_ascii.false)))
