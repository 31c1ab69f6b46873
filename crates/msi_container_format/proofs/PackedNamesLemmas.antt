-- Encoded names as names of entries: their units are well formed.
use Rattle.std.proofs.Common.{◌≡◌, ℕ, ◌<◌, Bool, true, false, List, [], ◌∷◌, length, chars, Option, Some, None, IfSome, refl, ap, arith}
use Rattle.std.specs.Prelude.{if◌then◌else◌, is_some, ◌&&◌}
use Rattle.std.specs.Str.{IsUtf8}
use Rattle.std.proofs.Math.Utf8.{scalar, scalars}
use Rattle.std.proofs.lemmas.Bool.{and_parts, and_from}
use Rattle.std.proofs.lemmas.Bool.Decides.{nat_tests}
use Rattle.std.proofs.lemmas.Str.{scalars-chars}
use Rattle.msi_container_format.specs.Names.{is_name_length, is_text, named, utf16_units}
use Rattle.msi_container_format.specs.StreamNames.{value_of, packed, packed_pair, packed_single, encoded_name}
use Rattle.msi_container_format.proofs.CharacterValueLemmas.{value_below}
use Rattle.msi_container_format.proofs.PackingLemmas.{packed_from, packed_is}
use Rattle.msi_container_format.proofs.Utf16Lemmas.{is_text_of_chars}

pub low_scalar : (c : ℕ) → c < 0xD800 → scalar c ≡ true
low_scalar c h = grind (arith, nat_tests)

-- a packed name of characters has characters
module _ (value : ℕ → Option ℕ) (below : (c v : ℕ) → value c ≡ Some v → v < 64) where
  scalars_at : (c : ℕ) (cs : List ℕ) (waiting own : Option ℕ) → value c ≡ own → scalar c ≡ true → IfSome waiting (λ v. v < 64)
      → ((next : Option ℕ) → IfSome next (λ v. v < 64) → scalars (packed_from value next cs) ≡ true) → scalars (packed_from value waiting (c ∷ cs)) ≡ true
  scalars_at c cs None None o one w h = rw o (and_from _ _ one (h None tt))
  scalars_at c cs None (Some u) o one w h = rw o (h (Some u) (below c u o))
  scalars_at c cs (Some v) None o one w h = rw o (and_from _ _ (low_scalar (packed_single v) (omega arith)) (and_from _ _ one (h None tt)))
  scalars_at c cs (Some v) (Some u) o one w h =
      let u_small = below c u o in
      rw o (and_from _ _ (low_scalar (packed_pair v u) (omega arith)) (h None tt))

  packed_scalars : (cs : List ℕ) (waiting : Option ℕ) → IfSome waiting (λ v. v < 64) → scalars cs ≡ true → scalars (packed_from value waiting cs) ≡ true
  packed_scalars [] None w h = refl
  packed_scalars [] (Some v) w h = and_from _ _ (low_scalar (packed_single v) (omega arith)) refl
  packed_scalars (c ∷ cs) waiting w h =
      let parts = and_parts (scalar c) (scalars cs) h in
      scalars_at c cs waiting (value c) refl parts.0 w (λ next n. packed_scalars cs next n parts.1)

plain_scalars : (cs : List ℕ) → scalars cs ≡ true → scalars (packed cs) ≡ true
plain_scalars cs h = rw (← packed_is) (packed_scalars value_of value_below cs None tt h)

pub encoded_scalars : (is_table : Bool) (cs : List ℕ) → scalars cs ≡ true → scalars (encoded_name is_table cs) ≡ true
encoded_scalars true cs h = and_from _ _ refl (plain_scalars cs h)
encoded_scalars false cs h = plain_scalars cs h

-- so its units are well formed
pub encoded_is_text : (is_table : Bool) (bytes : List ℕ) → IsUtf8 bytes → is_text (utf16_units (encoded_name is_table (chars bytes))) ≡ true
encoded_is_text is_table bytes utf8 =
    is_text_of_chars (encoded_name is_table (chars bytes)) (encoded_scalars is_table (chars bytes) (scalars-chars bytes utf8))

-- a name that is made of well-formed units, where they are few enough
pub named_some : (units : List ℕ) → is_name_length (length units) ≡ true → named units ≡ Some units
named_some units fits = ap (λ b. if b then Some units else None) fits

some_by : (a t : Bool) (units name : List ℕ) → name ≡ units → true ≡ (a && t) → Some name ≡ (if a then Some units else None)
some_by true t units name same e = ap Some same
some_by false t units name same e = absurd cc

no_name_by : (a t : Bool) (units : List ℕ) → t ≡ true → false ≡ (a && t) → None ≡ (if a then Some units else None)
no_name_by true true units is e = absurd cc
no_name_by true false units is e = absurd cc
no_name_by false t units is e = refl

pub named_by : (made : Option (List ℕ)) (units : List ℕ) → is_text units ≡ true → is_some made ≡ (is_name_length (length units) && is_text units)
    → IfSome made (λ name. name ≡ units) → made ≡ named units
named_by None units text told same = no_name_by (is_name_length (length units)) (is_text units) units text told
named_by (Some name) units text told same = some_by (is_name_length (length units)) (is_text units) units name same told
