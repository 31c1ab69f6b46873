-- The bits of a column tell its flags and its type.
use Rattle.std.proofs.Common.{◌≡◌, ℕ, ◌+◌, ◌/◌, ◌%◌, ◌<◌, ◌≤◌, Bool, true, false, refl, ap, arith, Some}
use Rattle.std.specs.Prelude.{◌==◌}
use Rattle.std.proofs.lemmas.Bool.Decides.{Decides-eqb}
use Rattle.msi_base.proofs.BoolLemmas.{by_test}
use Rattle.msi_table_values.specs.declared.column.ColumnType.{ColumnType}
use Rattle.msi_table_values.specs.declared.column.ColumnType.TheVariants as coltype
use Rattle.msi_table_values.specs.Columns.{ColumnDef, HasShortLength, bit_if, has_bit, kind_bits, type_bits, type_of_bits}

-- the bits of a kind and of flags
abbrev pub bits_of : ℕ → Bool → Bool → Bool → ℕ
bits_of kind localizable nullable key = kind + bit_if localizable 0x200 + bit_if nullable 0x1000 + bit_if key 0x2000

set_bit : (bits mask : ℕ) → (bits / mask) % 2 ≡ 1 → has_bit bits mask ≡ true
set_bit bits mask e = ap (λ (n : ℕ). n == 1) e

clear_bit : (bits mask : ℕ) → (bits / mask) % 2 ≡ 0 → has_bit bits mask ≡ false
clear_bit bits mask e = ap (λ (n : ℕ). n == 1) e

-- what is left for the flags
record LeavesFlags (kind : ℕ) : Type 0 where
  small : kind ≤ 3583
  even : (kind / 512) % 2 ≡ 0

leaves_flags : (type : ColumnType) → HasShortLength type → LeavesFlags (kind_bits type)
leaves_flags coltype.Int16 h = record { small = omega arith; even = refl }
leaves_flags coltype.Int32 h = record { small = omega arith; even = refl }
leaves_flags (coltype.Str n) h = record { small = omega arith; even = omega arith }
leaves_flags coltype.Binary h = record { small = omega arith; even = refl }

localizable_back : (kind : ℕ) (l n k : Bool) → LeavesFlags kind → has_bit (bits_of kind l n k) 0x200 ≡ l
localizable_back kind true true true f = set_bit _ 512 (omega arith)
localizable_back kind true true false f = set_bit _ 512 (omega arith)
localizable_back kind true false true f = set_bit _ 512 (omega arith)
localizable_back kind true false false f = set_bit _ 512 (omega arith)
localizable_back kind false true true f = clear_bit _ 512 (omega arith)
localizable_back kind false true false f = clear_bit _ 512 (omega arith)
localizable_back kind false false true f = clear_bit _ 512 (omega arith)
localizable_back kind false false false f = clear_bit _ 512 (omega arith)

nullable_back : (kind : ℕ) (l n k : Bool) → LeavesFlags kind → has_bit (bits_of kind l n k) 0x1000 ≡ n
nullable_back kind true true true f = set_bit _ 4096 (omega arith)
nullable_back kind false true true f = set_bit _ 4096 (omega arith)
nullable_back kind true true false f = set_bit _ 4096 (omega arith)
nullable_back kind false true false f = set_bit _ 4096 (omega arith)
nullable_back kind true false true f = clear_bit _ 4096 (omega arith)
nullable_back kind false false true f = clear_bit _ 4096 (omega arith)
nullable_back kind true false false f = clear_bit _ 4096 (omega arith)
nullable_back kind false false false f = clear_bit _ 4096 (omega arith)

key_back : (kind : ℕ) (l n k : Bool) → LeavesFlags kind → has_bit (bits_of kind l n k) 0x2000 ≡ k
key_back kind true true true f = set_bit _ 8192 (omega arith)
key_back kind false true true f = set_bit _ 8192 (omega arith)
key_back kind true false true f = set_bit _ 8192 (omega arith)
key_back kind false false true f = set_bit _ 8192 (omega arith)
key_back kind true true false f = clear_bit _ 8192 (omega arith)
key_back kind false true false f = clear_bit _ 8192 (omega arith)
key_back kind true false false f = clear_bit _ 8192 (omega arith)
key_back kind false false false f = clear_bit _ 8192 (omega arith)

differs : (m n : ℕ) → (m ≡ n → ⊥) → (m == n) ≡ false
differs m n f = by_test (m == n) (λ t. absurd (f ((Decides-eqb m n).0 t))) (λ t. t)

-- bits with the string bit are those of a text's column, but for 0x900 and 0x1900
text_bits : (bits n : ℕ) → 3328 ≤ bits % 4096 → (bits / 2048) % 2 ≡ 1 → bits % 256 ≡ n → type_of_bits bits ≡ Some (coltype.Str n)
text_bits bits n far e is = rw (differs bits 0x900 (λ h. omega arith), differs bits 0x1900 (λ h. omega arith), set_bit bits 0x800 e, is)

text_back : (n : ℕ) (l u k : Bool) → n < 256 → type_of_bits (bits_of (0xD00 + n) l u k) ≡ Some (coltype.Str n)
text_back n true true true h = text_bits (bits_of (0xD00 + n) true true true) n (omega arith) (omega arith) (omega arith)
text_back n true true false h = text_bits (bits_of (0xD00 + n) true true false) n (omega arith) (omega arith) (omega arith)
text_back n true false true h = text_bits (bits_of (0xD00 + n) true false true) n (omega arith) (omega arith) (omega arith)
text_back n true false false h = text_bits (bits_of (0xD00 + n) true false false) n (omega arith) (omega arith) (omega arith)
text_back n false true true h = text_bits (bits_of (0xD00 + n) false true true) n (omega arith) (omega arith) (omega arith)
text_back n false true false h = text_bits (bits_of (0xD00 + n) false true false) n (omega arith) (omega arith) (omega arith)
text_back n false false true h = text_bits (bits_of (0xD00 + n) false false true) n (omega arith) (omega arith) (omega arith)
text_back n false false false h = text_bits (bits_of (0xD00 + n) false false false) n (omega arith) (omega arith) (omega arith)

type_back : (type : ColumnType) (l n k : Bool) → HasShortLength type → (type ≡ coltype.Binary → (l ≡ false) × (k ≡ false)) → type_of_bits (bits_of (kind_bits type) l n k) ≡ Some type
type_back coltype.Int16 true true true h p = refl
type_back coltype.Int16 true true false h p = refl
type_back coltype.Int16 true false true h p = refl
type_back coltype.Int16 true false false h p = refl
type_back coltype.Int16 false true true h p = refl
type_back coltype.Int16 false true false h p = refl
type_back coltype.Int16 false false true h p = refl
type_back coltype.Int16 false false false h p = refl
type_back coltype.Int32 true true true h p = refl
type_back coltype.Int32 true true false h p = refl
type_back coltype.Int32 true false true h p = refl
type_back coltype.Int32 true false false h p = refl
type_back coltype.Int32 false true true h p = refl
type_back coltype.Int32 false true false h p = refl
type_back coltype.Int32 false false true h p = refl
type_back coltype.Int32 false false false h p = refl
type_back (coltype.Str m) l n k h p = text_back m l n k h
type_back coltype.Binary false true false h p = refl
type_back coltype.Binary false false false h p = refl
type_back coltype.Binary true n k h p = let e = (p refl).0 in cc
type_back coltype.Binary false n true h p = let e = (p refl).1 in cc

pub bits_tell : (c : ColumnDef) → HasShortLength c.coltype
    → (has_bit (type_bits c) 0x200 ≡ c.is_localizable) × (has_bit (type_bits c) 0x1000 ≡ c.is_nullable) × (has_bit (type_bits c) 0x2000 ≡ c.is_primary_key)
    × ((c.coltype ≡ coltype.Binary → (c.is_localizable ≡ false) × (c.is_primary_key ≡ false)) → type_of_bits (type_bits c) ≡ Some c.coltype)
bits_tell c h =
    let f = leaves_flags c.coltype h in (
      localizable_back (kind_bits c.coltype) c.is_localizable c.is_nullable c.is_primary_key f,
      nullable_back (kind_bits c.coltype) c.is_localizable c.is_nullable c.is_primary_key f,
      key_back (kind_bits c.coltype) c.is_localizable c.is_nullable c.is_primary_key f,
      type_back c.coltype c.is_localizable c.is_nullable c.is_primary_key h,
    )
