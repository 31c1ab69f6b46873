-- How names print.
use Rattle.std.specs.Prelude.{ℕ, Bool, ◌&&◌, if◌then◌else◌, ◌==◌, List, [], ◌∷◌, ◌++◌, flat_map}
use Rattle.msi_categories.specs.CategoryRules.{is_identifier}
use Rattle.msi_query_tokens.specs.declared.token.Kind.TheVariants as k
use Rattle.msi_query_tokens.specs.Tokens.{kind_of_word, same_kind}

-- an Identifier that is no key word in any case; it may have full stops, as the name of a joined column has
abbrev pub is_plain_name : List ℕ → Bool
is_plain_name name = is_identifier name && same_kind (kind_of_word name) k.Name

-- two back quotes stand for one
abbrev pub doubled_byte : ℕ → List ℕ
doubled_byte b = if b == 96 then 96 ∷ 96 ∷ [] else b ∷ []

abbrev pub doubled : List ℕ → List ℕ
doubled = flat_map doubled_byte

-- as it is, or else in back quotes
abbrev pub name_text : List ℕ → List ℕ
name_text name = if is_plain_name name then name else 96 ∷ (doubled name ++ 96 ∷ [])
