-- No two expressions print alike, where literal texts are ASCII.
use Rattle.std.specs.Prelude.{◌≡◌, Bool, true, ◌&&◌, IsTrue}
use Rattle.msi_base.specs.Pages.{is_ascii}
use Rattle.msi_table_values.specs.declared.value.Value.{Value}
use Rattle.msi_table_values.specs.declared.value.Value.TheVariants.{Str}
use Rattle.msi_query_expressions.specs.Expressions.{Expression, literal, column, unary, binary, both, either}
use Rattle.msi_query_expressions.specs.Folding.{is_built}
use Rattle.msi_query_expressions.specs.Printing.{expression_text}

abbrev pub is_plain_value : Value → Bool
is_plain_value (Str text) = is_ascii text
is_plain_value _ = true

abbrev pub is_plain : Expression → Bool
is_plain (literal v) = is_plain_value v
is_plain (column n) = true
is_plain (unary op e) = is_plain e
is_plain (binary op l r) = is_plain l && is_plain r
is_plain (both l r) = is_plain l && is_plain r
is_plain (either l r) = is_plain l && is_plain r

-- of what the constructors make, nothing else prints these bytes
abbrev pub PrintsAlone : Expression → Type 0
PrintsAlone e = IsTrue (is_plain e) → (other : Expression) → IsTrue (is_plain other) → IsTrue (is_built other)
    → expression_text other ≡ expression_text e → other ≡ e

-- and so it is for everything that they make
abbrev pub PrintedConditionsAreUnambiguous : Type 0
PrintedConditionsAreUnambiguous = (e : Expression) → IsTrue (is_built e) → PrintsAlone e
