use Rattle.std.proofs.Common.{◌≡◌, string_bytes}
use Rattle.std.specs.List.{flat_map}
use Rattle.msipkg_safe_names.specs.SafeNames.{spelled, stands_anywhere}
use Rattle.msipkg_safe_names.proofs.safe_names.spelled_name.Given as goal

-- the spelling of the characters so far
abbrev pub invariant-loop-c : goal.invariant-loop-c
invariant-loop-c l = string_bytes l.spelled ≡ flat_map (λ c. spelled (stands_anywhere c) c) l.yielded
