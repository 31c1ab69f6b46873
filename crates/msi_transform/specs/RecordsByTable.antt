-- Bytes under names, as a map under strings has them.
use Rattle.std.specs.Prelude.{ℕ, List, String, map, string_bytes}

abbrev pub by_text : {Z X : Type 0} → List (String Z × X) → List (List ℕ × X)
by_text {Z} {X} es = map {B = List ℕ × X} (λ e. (string_bytes e.0, e.1)) es
