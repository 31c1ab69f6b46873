use Rattle.std.proofs.Common.{◌≡◌, string_bytes}
use Rattle.std.specs.List.{flat_map}
use Rattle.msipkg_safe_names.specs.SafeNames.{safe_spelling_at}
use Rattle.msipkg_safe_names.proofs.safe_names.safe_name.Given as goal

-- the spelling of the characters so far
abbrev pub invariant-loop-place : goal.invariant-loop-place
invariant-loop-place l = string_bytes l.safe ≡ flat_map (λ p. safe_spelling_at l.fn.name p.0 p.1) l.yielded
