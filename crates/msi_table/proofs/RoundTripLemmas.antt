-- Cells read back.
use Rattle.std.proofs.Common.{◌≡◌, ℕ, ◌<◌, Bool, true, false, length, refl, arith, ap, ◌∙◌}
use Rattle.std.specs.Prelude.{ℤ, pos, negsuc, ◌+ℤ◌, ◌-ℤ◌, neg_ℤ, ◌≤ℤ◌, ◌^◌, ◌==◌, if◌then◌else◌}
use Rattle.std.specs.Int.{w16, w32, to_le_bytes, bytes_low_first, cast_unsigned}
use Rattle.std.proofs.lemmas.Int.{ints}
use Rattle.std.proofs.lemmas.Bool.Decides.{nat_tests}
use Rattle.msi_table_values.specs.declared.column.ColumnType.{ColumnType}
use Rattle.msi_table_values.specs.declared.column.ColumnType.TheVariants as coltype
use Rattle.msi_table_cells.specs.declared.cell.ValueRef.{ValueRef}
use Rattle.msi_table_cells.specs.declared.cell.ValueRef.TheVariants as cell
use Rattle.msi_table.specs.Cells.{cell_of_number, cell_in, cell_bytes, width}
use Rattle.msi_pool.specs.References.{number_of, reference_width}
use Rattle.msi_table_cells.specs.Fitting.{FitsColumn, reference_bound}

pub number_of-to_le_bytes_16 : (m : ℕ) → m < 65536 → number_of (to_le_bytes w16 m) ≡ m
number_of-to_le_bytes_16 m h = omega arith

pub number_of-to_le_bytes_32 : (m : ℕ) → m < 4294967296 → number_of (to_le_bytes w32 m) ≡ m
number_of-to_le_bytes_32 m h = omega arith

pub number_of-reference : (long : Bool) (m : ℕ) → m < reference_bound long → number_of (bytes_low_first 0 (reference_width long) m) ≡ m
number_of-reference true m h = omega arith
number_of-reference false m h = omega arith

pub cell_of_number_is : (middle m : ℕ) (n : ℤ) → 0 < m → pos m ≡ n +ℤ pos middle → cell_of_number middle m ≡ cell.Int n
cell_of_number_is middle m n h e = let d : pos m -ℤ pos middle ≡ n = omega (arith, ints) in grind (arith, nat_tests, ap cell.Int d)

pub reference_is : (m : ℕ) → 0 < m → (if m == 0 then cell.Null else cell.Str m) ≡ cell.Str m
reference_is m h = grind (arith, nat_tests)

pub length-cell_bytes : (long : Bool) (type : ColumnType) (c : ValueRef) → length (cell_bytes long type c) ≡ width long type
length-cell_bytes long coltype.Int16 cell.Null = refl
length-cell_bytes long coltype.Int16 (cell.Int n) = refl
length-cell_bytes long coltype.Int16 (cell.Str s) = refl
length-cell_bytes long coltype.Int16 cell.Binary = refl
length-cell_bytes long coltype.Int32 cell.Null = refl
length-cell_bytes long coltype.Int32 (cell.Int n) = refl
length-cell_bytes long coltype.Int32 (cell.Str s) = refl
length-cell_bytes long coltype.Int32 cell.Binary = refl
length-cell_bytes true (coltype.Str k) cell.Null = refl
length-cell_bytes true (coltype.Str k) (cell.Int n) = refl
length-cell_bytes true (coltype.Str k) (cell.Str s) = refl
length-cell_bytes true (coltype.Str k) cell.Binary = refl
length-cell_bytes false (coltype.Str k) cell.Null = refl
length-cell_bytes false (coltype.Str k) (cell.Int n) = refl
length-cell_bytes false (coltype.Str k) (cell.Str s) = refl
length-cell_bytes false (coltype.Str k) cell.Binary = refl
length-cell_bytes long coltype.Binary cell.Null = refl
length-cell_bytes long coltype.Binary (cell.Int n) = refl
length-cell_bytes long coltype.Binary (cell.Str s) = refl
length-cell_bytes long coltype.Binary cell.Binary = refl

int_16 : (n : ℤ) (m : ℕ) → neg_ℤ (pos 32767) ≤ℤ n → n ≤ℤ pos 32767 → m ≡ cast_unsigned w16 (n +ℤ pos (2 ^ 15)) → (0 < m) × (m < 65536) × (pos m ≡ n +ℤ pos (2 ^ 15))
int_16 (pos a) m l h e = (omega (arith, ints), omega (arith, ints), omega (arith, ints))
int_16 (negsuc a) m l h e = (omega (arith, ints), omega (arith, ints), omega (arith, ints))

int_32 : (n : ℤ) (m : ℕ) → neg_ℤ (pos 2147483647) ≤ℤ n → n ≤ℤ pos 2147483647 → m ≡ cast_unsigned w32 (n +ℤ pos (2 ^ 31)) → (0 < m) × (m < 4294967296) × (pos m ≡ n +ℤ pos (2 ^ 31))
int_32 (pos a) m l h e = (omega (arith, ints), omega (arith, ints), omega (arith, ints))
int_32 (negsuc a) m l h e = (omega (arith, ints), omega (arith, ints), omega (arith, ints))

-- a cell that fits its column reads back
pub cell_in-cell_bytes : (long : Bool) (type : ColumnType) (c : ValueRef) → FitsColumn long type c → cell_in type (cell_bytes long type c) ≡ c
cell_in-cell_bytes long coltype.Int16 cell.Null h = refl
cell_in-cell_bytes long coltype.Int16 (cell.Int n) h =
    let m : ℕ = cast_unsigned w16 (n +ℤ pos (2 ^ 15)) in
    let f = int_16 n m h.0 h.1 refl in
    ap (cell_of_number (2 ^ 15)) (number_of-to_le_bytes_16 m f.1) ∙ cell_of_number_is (2 ^ 15) m n f.0 f.2
cell_in-cell_bytes long coltype.Int16 (cell.Str s) h = absurd h
cell_in-cell_bytes long coltype.Int16 cell.Binary h = absurd h
cell_in-cell_bytes long coltype.Int32 cell.Null h = refl
cell_in-cell_bytes long coltype.Int32 (cell.Int n) h =
    let m : ℕ = cast_unsigned w32 (n +ℤ pos (2 ^ 31)) in
    let f = int_32 n m h.0 h.1 refl in
    ap (cell_of_number (2 ^ 31)) (number_of-to_le_bytes_32 m f.1) ∙ cell_of_number_is (2 ^ 31) m n f.0 f.2
cell_in-cell_bytes long coltype.Int32 (cell.Str s) h = absurd h
cell_in-cell_bytes long coltype.Int32 cell.Binary h = absurd h
cell_in-cell_bytes true (coltype.Str k) cell.Null h = refl
cell_in-cell_bytes false (coltype.Str k) cell.Null h = refl
cell_in-cell_bytes long (coltype.Str k) (cell.Int n) h = absurd h
cell_in-cell_bytes long (coltype.Str k) (cell.Str s) h =
    ap (λ (m : ℕ). if m == 0 then cell.Null else cell.Str m) (number_of-reference long s h.1) ∙ reference_is s h.0
cell_in-cell_bytes long (coltype.Str k) cell.Binary h = absurd h
cell_in-cell_bytes long coltype.Binary cell.Null h = absurd h
cell_in-cell_bytes long coltype.Binary (cell.Int n) h = absurd h
cell_in-cell_bytes long coltype.Binary (cell.Str s) h = absurd h
cell_in-cell_bytes long coltype.Binary cell.Binary h = refl
