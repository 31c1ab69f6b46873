-- Values: their order, truth and text.
use Rattle.std.specs.Prelude.{◌≡◌, ℕ, ℤ, pos, Bool, true, false, not, List, length, ◌++◌, Option, Some, None, codes}
use Rattle.std.specs.Prelude.{nat_lt}
use Rattle.std.specs.Ordering.{int_cmp, is_eq}
use Rattle.std.specs.declared.cmp.Ordering.{Ordering}
use Rattle.std.specs.declared.cmp.Ordering.TheVariants.{Less, Equal, Greater}
use Rattle.std.specs.Fmt.{signed_decimal, debug_str}
use Rattle.std.specs.Hash as fed
use Rattle.std.specs.Cmp.{IsTotalOrder}
use Rattle.msi_base.specs.Lists.{list_cmp}
use Rattle.msi_table_values.specs.declared.value.Value.{Value}
use Rattle.msi_table_values.specs.declared.value.Value.TheVariants.{Null, Int, Str, Binary}

-- Null, then numbers, then texts by their bytes, then Binary
abbrev pub value_cmp : Value → Value → Ordering
value_cmp Null Null = Equal
value_cmp Null _ = Less
value_cmp _ Null = Greater
value_cmp (Int m) (Int n) = int_cmp m n
value_cmp (Int m) _ = Less
value_cmp _ (Int n) = Greater
value_cmp (Str s) (Str t) = list_cmp s t
value_cmp (Str s) _ = Less
value_cmp _ (Str t) = Greater
value_cmp Binary Binary = Equal

-- no two values tie but equal ones
abbrev pub ValuesAreOrdered : Type 0
ValuesAreOrdered = IsTotalOrder value_cmp × ((v w : Value) → value_cmp v w ≡ Equal → v ≡ w)

abbrev pub is_null : Value → Bool
is_null Null = true
is_null _ = false

abbrev pub is_text : Value → Bool
is_text (Str s) = true
is_text _ = false

-- the number, where it is one
abbrev pub int_of : Value → Option ℤ
int_of (Int n) = Some n
int_of _ = None

-- the text, where it is one
abbrev pub text_of : Value → Option (List ℕ)
text_of (Str s) = Some s
text_of _ = None

-- Null, 0 and the empty text count as false
abbrev pub is_true : Value → Bool
is_true Null = false
is_true (Int n) = not (is_eq (int_cmp n (pos 0)))
is_true (Str s) = nat_lt 0 (length s)
is_true Binary = true

-- as it prints, where its text is ASCII
abbrev pub value_text : Value → Option (List ℕ)
value_text Null = Some (codes "NULL")
value_text (Int n) = Some (signed_decimal n)
value_text (Str s) = debug_str s
value_text Binary = Some (codes "BINARY_STREAM")

-- what a hash is fed: which of the four, and what it holds
abbrev pub value_hash_input : Value → fed.HashWrites
value_hash_input Null = fed.u8 0
value_hash_input (Int n) = fed.u8 1 ++ fed.i32 n
value_hash_input (Str s) = fed.u8 2 ++ fed.str s
value_hash_input Binary = fed.u8 3
