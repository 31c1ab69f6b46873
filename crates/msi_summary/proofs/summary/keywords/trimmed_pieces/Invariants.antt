use Rattle.std.proofs.Common.{◌≡◌, map}
use Rattle.std.specs.Prelude.{string_bytes}
use Rattle.std.specs.Str.{trim_end}
use Rattle.msi_summary.proofs.summary.keywords.trimmed_pieces.Given as goal

abbrev pub invariant-loop-piece : goal.invariant-loop-piece
invariant-loop-piece l = record {
  so_far : map string_bytes l.words.items ≡ map (λ piece. trim_end piece.now) l.yielded;
}
