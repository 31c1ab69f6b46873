use Rattle.std.proofs.Common.{string_bytes}
use Rattle.msipkg_safe_names.proofs.SafeNamesLemmas.{with_ending}
use Rattle.msipkg_safe_names.proofs.safe_names.SafeName.with_ending.Goals as goal

pub invariant_of-result : goal.invariant_of-result
invariant_of-result c =
    rw (c.in_ok-push_str.ensures.bytes, c.in_ok-text.ensures.cases) (with_ending (string_bytes c.self.inside.text) c.ending_text.result.now c.self.invariant c.ending_text.ensures.safe)
