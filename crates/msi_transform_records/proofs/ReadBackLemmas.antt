-- What spells records is read as them.
use Rattle.std.proofs.Common.{◌≡◌, ℕ, ◌+◌, ◌^◌, ◌<◌, Bool, true, false, List, [], ◌∷◌, ◌++◌, length, Some, refl, sym, ap, ◌∙◌, arith, append_assoc, length-append}
use Rattle.std.specs.Prelude.{flat_map}
use Rattle.std.specs.Int.{w16, to_le_bytes}
use Rattle.std.specs.List.{AllByRecursion}
use Rattle.std.proofs.lemmas.Bool.{le-ltb}
use Rattle.std.proofs.lemmas.Bool.Decides.{nat_tests}
use Rattle.std.proofs.lemmas.List.{take_at, drop_at}
use Rattle.msi_base.specs.Numbers.{bytes_at}
use Rattle.msi_base.proofs.ReadFieldLemmas.{number_again, wide16}
use Rattle.msi_pool.specs.Pool.{Place, Pool}
use Rattle.msi_pool.specs.FirstFitLaws.{count_at}
use Rattle.msi_table_values.specs.declared.column.ColumnType.{ColumnType}
use Rattle.msi_table_values.specs.declared.column.ColumnType.TheVariants as coltype
use Rattle.msi_table_cells.specs.declared.cell.ValueRef.{ValueRef}
use Rattle.msi_table_cells.specs.declared.cell.ValueRef.TheVariants as cell
use Rattle.msi_table.specs.Cells.{width}
use Rattle.msi_table.proofs.RoundTripLemmas.{cell_in-cell_bytes, length-cell_bytes, number_of-reference}
use Rattle.msi_transform_records.specs.declared.records.Record.{Record}
use Rattle.msi_transform_records.specs.declared.shape.Shape.{Shape}
use Rattle.msi_transform_records.specs.Actions.{mask_of, told}
use Rattle.msi_transform_records.specs.Cells.{FitsCell, NamesPlaceInUse, bytes_of_cell, cell_at, cell_of_bytes, cells_at, text_cell}
use Rattle.msi_transform_records.specs.Laws.{RecordsAreUnambiguous, SpelledRecordsAreRead}
use Rattle.msi_transform_records.specs.Records.{FitColumns, FitsRecord, IsRecord, head_at, leading, record_at, record_bytes, told_bytes}
use Rattle.msi_transform_records.proofs.LeadingLemmas.{all_read, leading_next}
use Rattle.msi_transform_records.proofs.MaskLemmas.{action_again, mask_below}
use Rattle.msi_base.proofs.OptionLemmas.{some_is}

-- ---- cells

length-bytes_of_cell : (long : Bool) (type : ColumnType) (c : ValueRef) → length (bytes_of_cell long type c) ≡ width long type
length-bytes_of_cell long coltype.Int16 c = length-cell_bytes long coltype.Int16 c
length-bytes_of_cell long coltype.Int32 c = length-cell_bytes long coltype.Int32 c
length-bytes_of_cell long (coltype.Str k) c = length-cell_bytes long (coltype.Str k) c
length-bytes_of_cell long coltype.Binary cell.Null = refl
length-bytes_of_cell long coltype.Binary (cell.Int n) = refl
length-bytes_of_cell long coltype.Binary (cell.Str s) = refl
length-bytes_of_cell long coltype.Binary cell.Binary = refl

text_again : (places : List Place) (s : ℕ) → 0 < s → 0 < count_at places s → text_cell places s ≡ Some (cell.Str s)
text_again places s some used = grind (arith, nat_tests)

cell_again : (long : Bool) (places : List Place) (type : ColumnType) (c : ValueRef) → FitsCell long type c → NamesPlaceInUse places c → cell_of_bytes places type (bytes_of_cell long type c) ≡ Some c
cell_again long places coltype.Int16 c fits used = ap Some (cell_in-cell_bytes long coltype.Int16 c fits)
cell_again long places coltype.Int32 c fits used = ap Some (cell_in-cell_bytes long coltype.Int32 c fits)
cell_again true places (coltype.Str k) cell.Null fits used = refl
cell_again false places (coltype.Str k) cell.Null fits used = refl
cell_again long places (coltype.Str k) (cell.Int n) fits used = absurd fits
cell_again long places (coltype.Str k) (cell.Str s) fits used = ap (text_cell places) (number_of-reference long s fits.1) ∙ text_again places s fits.0 used
cell_again long places (coltype.Str k) cell.Binary fits used = absurd fits
cell_again long places coltype.Binary cell.Null fits used = refl
cell_again long places coltype.Binary (cell.Int n) fits used = absurd fits
cell_again long places coltype.Binary (cell.Str s) fits used = absurd fits
cell_again long places coltype.Binary cell.Binary fits used = refl

bytes_again : (n : ℕ) (front rest : List ℕ) → length front ≡ n → bytes_at n (front ++ rest) ≡ Some (front, rest)
bytes_again n front rest e = rw (le-ltb (length (front ++ rest)) n (omega (arith, length-append front rest)), take_at front rest n e, drop_at front rest n e) refl

cell_again_at : (pool : Pool) (type : ColumnType) (c : ValueRef) (rest : List ℕ) → FitsCell pool.long type c → NamesPlaceInUse pool.places c → cell_at pool type (bytes_of_cell pool.long type c ++ rest) ≡ Some (c, rest)
unfolding cell_at
cell_again_at pool type c rest fits used =
    let front = bytes_of_cell pool.long type c in
    rw (bytes_again (width pool.long type) front rest (length-bytes_of_cell pool.long type c), cell_again pool.long pool.places type c fits used) refl

cells_again : (pool : Pool) (columns : List (ℕ × Shape)) (cells : List ValueRef) (rest : List ℕ) → FitColumns pool.long columns cells → AllByRecursion (NamesPlaceInUse pool.places) cells
    → cells_at pool columns (told_bytes pool.long columns cells ++ rest) ≡ Some (cells, rest)
cells_again pool [] [] rest fits used = refl
cells_again pool [] (c ∷ cs) rest fits used = absurd fits
cells_again pool (column ∷ columns) [] rest fits used = absurd fits
cells_again pool (column ∷ columns) (c ∷ cs) rest fits used =
    let front = bytes_of_cell pool.long column.1.coltype c in
    let others = told_bytes pool.long columns cs in
    ap (cells_at pool (column ∷ columns)) (append_assoc front others rest)
    ∙ rw (cell_again_at pool column.1.coltype c (others ++ rest) fits.0 used.0, cells_again pool columns cs rest fits.1 used.1) refl

-- ---- records

head_again : (long : Bool) (shapes : List Shape) (r : Record) (rest : List ℕ) → FitsRecord long shapes r → head_at shapes (to_le_bytes w16 (mask_of r.action) ++ rest) ≡ Some (r.action, told shapes r.action, rest)
unfolding head_at
head_again long shapes r rest fits =
    rw (number_again w16 (2 ^ 16) wide16 (mask_of r.action) rest (mask_below r.action fits.action), action_again r.action fits.action, fits.columns) refl

pub record_again : (shapes : List Shape) (pool : Pool) (r : Record) (rest : List ℕ) → IsRecord shapes pool r → record_at shapes pool (record_bytes pool.long shapes r ++ rest) ≡ Some (r, rest)
unfolding record_at
record_again shapes pool r rest is =
    let cells = told_bytes pool.long (told shapes r.action) r.cells in
    ap (record_at shapes pool) (append_assoc (to_le_bytes w16 (mask_of r.action)) cells rest)
    ∙ rw (head_again pool.long shapes r (cells ++ rest) is.fits, cells_again pool (told shapes r.action) r.cells rest is.fits.cells is.texts) refl

records_again : (shapes : List Shape) (pool : Pool) (records : List Record) → AllByRecursion (IsRecord shapes pool) records → leading shapes pool (flat_map (record_bytes pool.long shapes) records) ≡ (records, [])
records_again shapes pool [] each = refl
records_again shapes pool (r ∷ rs) each =
    let others = flat_map (record_bytes pool.long shapes) rs in
    leading_next shapes pool (record_bytes pool.long shapes r ++ others) r others (record_again shapes pool r others each.0)
    ∙ ap (λ (found : List Record × List ℕ). (r ∷ found.0, found.1)) (records_again shapes pool rs each.1)

pub spelled_records_are_read : SpelledRecordsAreRead
spelled_records_are_read shapes pool bytes records spelled =
    let found : leading shapes pool bytes ≡ (records, []) = ap (leading shapes pool) spelled.whole ∙ records_again shapes pool records spelled.each in
    all_read shapes pool bytes (ap (λ (f : List Record × List ℕ). f.1) found) ∙ ap (λ (f : List Record × List ℕ). Some f.0) found

pub records_are_unambiguous : RecordsAreUnambiguous
records_are_unambiguous shapes pool bytes records others one other = some_is records others
    (sym (spelled_records_are_read shapes pool bytes records one) ∙ spelled_records_are_read shapes pool bytes others other)
