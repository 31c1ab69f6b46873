-- Texts are the same where keys of one text each are.
use Rattle.std.proofs.Common.{◌≡◌, ℕ, Bool, true, false, not, List, [], ◌∷◌, map, refl, sym, ◌∙◌}
use Rattle.std.specs.Prelude.{bytes_eq}
use Rattle.std.specs.List.{list_any}
use Rattle.std.specs.Ordering.{is_eq, ordering_then}
use Rattle.std.specs.declared.cmp.Ordering.{Ordering}
use Rattle.std.specs.declared.cmp.Ordering.TheVariants.{Less, Equal, Greater}
use Rattle.msi_base.specs.Lists.{has_pair, list_cmp}
use Rattle.msi_database_schema.proofs.SchemaLemmas.{names_tie}
use Rattle.msi_table_cells.specs.KeyOrder.{same_key}
use Rattle.msi_table_values.specs.declared.value.Value.{Value}
use Rattle.msi_table_values.specs.declared.value.Value.TheVariants.{Str}

abbrev pub key_of_text : List ℕ → List Value
key_of_text text = Str text ∷ []

alone : (o : Ordering) → is_eq (ordering_then o Equal) ≡ is_eq o
alone Less = refl
alone Equal = refl
alone Greater = refl

same_is : (a b : List ℕ) → same_key (key_of_text a) (key_of_text b) ≡ bytes_eq a b
same_is a b = alone (list_cmp a b) ∙ names_tie a b

any_is : (a : List ℕ) (texts : List (List ℕ)) → list_any (same_key (key_of_text a)) (map key_of_text texts) ≡ list_any (bytes_eq a) texts
any_is a [] = refl
any_is a (b ∷ texts) = rw (same_is a b, any_is a texts) refl

pub pairs_are : (texts : List (List ℕ)) → has_pair same_key (map key_of_text texts) ≡ has_pair bytes_eq texts
pairs_are [] = refl
pairs_are (a ∷ texts) = rw (any_is a texts, pairs_are texts) refl

-- and what is said of them turned round
pub not_same : (a b : Bool) → not a ≡ not b → a ≡ b
not_same true true e = refl
not_same false false e = refl
not_same true false e = sym e
not_same false true e = sym e
