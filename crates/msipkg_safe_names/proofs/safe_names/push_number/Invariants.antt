use Rattle.std.proofs.Common.{◌≡◌, ◌++◌, ◌-◌, ◌*◌, ◌/◌, ◌^◌, string_bytes}
use Rattle.msipkg_safe_names.specs.SafeNames.{hexadecimal}
use Rattle.msipkg_safe_names.proofs.safe_names.push_number.Given as goal

-- the digits in front of those to come
abbrev pub invariant-loop-place : goal.invariant-loop-place
invariant-loop-place l = string_bytes l.safe ≡ string_bytes l.initial.safe ++ hexadecimal (l.number / 2 ^ (36 - 4 * l.place))
