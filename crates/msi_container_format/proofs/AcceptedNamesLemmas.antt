-- Which names are accepted: each part of the rule can refuse one.
use Rattle.std.proofs.Common.{◌≡◌, ◌==◌, ◌<◌, ◌≤◌, nat_lt, nat_le, ℕ, List, Bool, true, false, Some, None, length, not, chars, IsTrue, ap, sym, ◌∙◌, refl, arith}
use Rattle.std.specs.List.{list_any}
use Rattle.std.specs.Bool.{MatchBool}
use Rattle.std.specs.Str.{IsUtf8}
use Rattle.std.specs.Str.Pattern.{FindsCharPrefix, HasPrefixMatch}
use Rattle.std.proofs.lemmas.Bool.{not-true, not-false, and_from, and_left, and_right, and_parts, lt-ltb, le-leb, ltb-true, leb-true}
use Rattle.msi_container_format.specs.StreamNames.{encoded_name, encoded_units, is_forbidden, is_marked, is_valid_name, table_mark}
use Rattle.msi_container_format.proofs.TextLemmas.{chars_from_prefix, first_from_no_prefix, is_empty_by_chars}
use Rattle.msi_container_format.proofs.EncodedUnitsLemmas.{some_units}
use Rattle.msi_container_format.proofs.PackedNamesLemmas.{named_some}
use Rattle.msi_container_format.specs.Names.{is_name_length, named, utf16_units}

-- what `starts_with` answers at the mark
pub marked_is : (bs : List ℕ) (answer : Bool) → IsUtf8 bs → MatchBool answer (HasPrefixMatch (FindsCharPrefix table_mark) bs) (FindsCharPrefix table_mark bs None) → answer ≡ is_marked (chars bs)
marked_is bs true u (n, found, cut) = rw (chars_from_prefix bs table_mark n u found)
marked_is bs false u none = sym (first_from_no_prefix bs table_mark (omega arith) u none)

not_not : (b : Bool) → not (not b) ≡ b
not_not true = refl
not_not false = refl

-- what a call's answer tells of the test that it gives, by the value of `!call`
pub fails : {value answer test : Bool} → value ≡ not answer → value ≡ true → answer ≡ test → test ≡ false
fails v t e = sym e ∙ not-true _ (sym v ∙ t)

pub passes : {value answer test : Bool} → value ≡ not answer → value ≡ false → answer ≡ test → test ≡ true
passes v t e = sym e ∙ not-false _ (sym v ∙ t)

module _ (is_table : Bool) (bs : List ℕ) (utf8 : IsUtf8 bs) where
  some_characters : nat_lt 0 (length (chars bs)) ≡ not (length bs == 0)
  some_characters = sym (not_not (nat_lt 0 (length (chars bs)))) ∙ ap not (sym (is_empty_by_chars bs utf8))

  pub refused_empty : (length bs == 0) ≡ true → is_valid_name is_table (chars bs) ≡ false
  refused_empty e = and_left _ _ (and_left _ _ (and_left _ _ (some_characters ∙ ap not e)))

  pub refused_forbidden : list_any is_forbidden (chars bs) ≡ true → is_valid_name is_table (chars bs) ≡ false
  refused_forbidden e = and_left _ _ (and_left _ _ (and_right _ _ (ap not e)))

  pub refused_marked : is_marked (chars bs) ≡ true → is_valid_name is_table (chars bs) ≡ false
  refused_marked e = and_left _ _ (and_right _ _ (ap not e))

  pub accepted_by_units : (length bs == 0) ≡ false → list_any is_forbidden (chars bs) ≡ false → is_marked (chars bs) ≡ false → is_valid_name is_table (chars bs) ≡ nat_le (encoded_units is_table (chars bs)) 31
  accepted_by_units e f m = rw (some_characters, e, f, m)

-- what an accepted name is
pub record IsAccepted (is_table : Bool) (cs : List ℕ) : Type 0 where
  pub filled : 0 < length cs
  pub allowed : list_any is_forbidden cs ≡ false
  pub unmarked : is_marked cs ≡ false
  pub short : encoded_units is_table cs ≤ 31

pub accepted_is : (is_table : Bool) (cs : List ℕ) → is_valid_name is_table cs ≡ true → IsAccepted is_table cs
accepted_is is_table cs h =
    let units = and_parts _ _ h in
    let mark = and_parts _ _ units.0 in
    let forbidden = and_parts _ _ mark.0 in
    record {
      filled = ltb-true 0 (length cs) forbidden.0;
      allowed = not-true _ forbidden.1;
      unmarked = not-true _ mark.1;
      short = leb-true _ 31 units.1;
    }

-- an accepted name's encoding has the length of a container's name
pub accepted_fits : (is_table : Bool) (cs : List ℕ) → is_valid_name is_table cs ≡ true → IsTrue (is_name_length (encoded_units is_table cs))
accepted_fits is_table cs h =
    let name = accepted_is is_table cs h in
    and_from _ _ (lt-ltb 0 (encoded_units is_table cs) (some_units is_table cs name.filled)) (le-leb (encoded_units is_table cs) 31 name.short)

pub accepted_named : (is_table : Bool) (cs : List ℕ) → is_valid_name is_table cs ≡ true
    → named (utf16_units (encoded_name is_table cs)) ≡ Some (utf16_units (encoded_name is_table cs))
accepted_named is_table cs h = named_some (utf16_units (encoded_name is_table cs)) (accepted_fits is_table cs h)

pub answer_fits : (is_table : Bool) (cs : List ℕ) (answer : Bool) → answer ≡ is_valid_name is_table cs → IsTrue answer → IsTrue (is_name_length (encoded_units is_table cs))
answer_fits is_table cs true e t = accepted_fits is_table cs (sym e)
answer_fits is_table cs false e t = absurd cc
