use Rattle.std.proofs.Common.{◌≡◌, [], length}
use Rattle.msi_query_tokens.specs.declared.texts.Mode.TheVariants as mode
use Rattle.msi_query_tokens.specs.Texts.{unescaped_from}
use Rattle.msi_query_tokens.proofs.texts.unescaped.Given as goal

abbrev pub invariant-loop-text : goal.invariant-loop-text
invariant-loop-text l = unescaped_from (l.mode, l.bytes.items) l.text ≡ unescaped_from (mode.Plain, []) l.initial.text

abbrev pub decreases-loop-text : goal.decreases-loop-text
decreases-loop-text l = length l.text
