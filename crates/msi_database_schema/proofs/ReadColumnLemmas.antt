-- A column read from its rows, part by part.
use Rattle.std.proofs.Common.{◌≡◌, ℕ, Bool, true, false, List, [], ◌∷◌, refl, sym, ap, ◌∙◌, Some, None, Result, Ok, Err, ℤ}
use Rattle.std.specs.Prelude.{◌&&◌, ◌||◌, not, Option, option_map, if◌then◌else◌, bytes_eq, codes, find, IfOk, IfErr, IsErr, ◌↔◌}
use Rattle.std.specs.Option.{option_map_or}
use Rattle.std.proofs.lemmas.Slice.Eq.{bytes_eq-Decides}
use Rattle.std.proofs.lemmas.Bool.{or_parts}
use Rattle.msi_base.specs.Results.{FailsAs, Gives}
use Rattle.msi_base.specs.declared.errors.ErrorKind.{ErrorKind}
use Rattle.msi_base.specs.declared.errors.ErrorKind.TheVariants.{InvalidData}
use Rattle.msi_base.specs.declared.errors.ErrorKind.TheVariants as kind
use Rattle.msi_categories.specs.declared.category.Category.{Category}
use Rattle.msi_categories.specs.declared.category.Category.TheVariants as category
use Rattle.msi_categories.specs.Categories.{all_categories, category_in, category_name, other_name}
use Rattle.msi_table_values.specs.declared.value.Value.{Value}
use Rattle.msi_table_values.specs.declared.column.ColumnType.{ColumnType}
use Rattle.msi_table_values.specs.Columns.{ColumnDef, begun_column, column_of_bits, has_bit, type_of_bits, with_bits}
use Rattle.msi_database_schema.specs.Schema.{both_set, category_named, described, has_long_number, is_of_16_bits, number_of, text_at, text_of, value_at, values_in}
use Rattle.msi_base.proofs.ListLemmas.{find_same}
use Rattle.msi_base.proofs.BoolLemmas.{by_test, yes_is_no, or_first}

-- the parts that a row of `_Validation` gives, one after the other
abbrev pub with_nullable : Bool → ColumnDef → ColumnDef
with_nullable y c = if y then record c { is_nullable = true } else c

abbrev pub with_range : Option (ℤ × ℤ) → ColumnDef → ColumnDef
with_range r c = option_map_or (λ range. record c { value_range = Some range }) r c

abbrev pub with_category : Option Category → ColumnDef → ColumnDef
with_category k c = option_map_or (λ category. record c { category = Some category }) k c

abbrev pub with_foreign_key : Option (List ℕ × ℤ) → ColumnDef → ColumnDef
with_foreign_key f c = option_map_or (λ key. record c { foreign_key = Some key }) f c

abbrev pub parts_of : List ℕ → Bool → Option (ℤ × ℤ) → Option Category → Option (List ℕ × ℤ) → ColumnDef
parts_of name y r k f = with_foreign_key f (with_category k (with_range r (with_nullable y (begun_column name))))

parts_are : (name : List ℕ) (y : Bool) (r : Option (ℤ × ℤ)) (k : Option Category) (f : Option (List ℕ × ℤ)) (vs : List (List ℕ)) → record (parts_of name y r k f) { enum_values = vs }
    ≡ record (begun_column name) { is_nullable = false || y; value_range = r; foreign_key = f; category = k; enum_values = vs }
parts_are name true None None None vs = refl
parts_are name true None None (Some f) vs = refl
parts_are name true None (Some k) None vs = refl
parts_are name true None (Some k) (Some f) vs = refl
parts_are name true (Some r) None None vs = refl
parts_are name true (Some r) None (Some f) vs = refl
parts_are name true (Some r) (Some k) None vs = refl
parts_are name true (Some r) (Some k) (Some f) vs = refl
parts_are name false None None None vs = refl
parts_are name false None None (Some f) vs = refl
parts_are name false None (Some k) None vs = refl
parts_are name false None (Some k) (Some f) vs = refl
parts_are name false (Some r) None None vs = refl
parts_are name false (Some r) None (Some f) vs = refl
parts_are name false (Some r) (Some k) None vs = refl
parts_are name false (Some r) (Some k) (Some f) vs = refl

-- the parts of a row
abbrev pub row_parts : List ℕ → List Value → ColumnDef
row_parts name row = parts_of name (bytes_eq (text_at 2 row) (codes "Y")) (both_set number_of number_of (value_at 3 row) (value_at 4 row))
    (category_named (text_at 7 row)) (both_set text_of number_of (value_at 5 row) (value_at 6 row))

pub row_describes : (name : List ℕ) (row : List Value) → record (row_parts name row) { enum_values = values_in (value_at 8 row) } ≡ described (Some row) (begun_column name)
row_describes name row = parts_are name (bytes_eq (text_at 2 row) (codes "Y")) (both_set number_of number_of (value_at 3 row) (value_at 4 row))
    (category_named (text_at 7 row)) (both_set text_of number_of (value_at 5 row) (value_at 6 row)) (values_in (value_at 8 row))

-- describing a column and naming its bits come in either order
swapped : (b y : Bool) → (b || (false || y)) ≡ ((b || false) || y)
swapped true y = refl
swapped false y = refl

one_made : (row : List Value) (name : List ℕ) (bits : ℕ) (type : ColumnType) → with_bits (described (Some row) (begun_column name)) bits type ≡ described (Some row) (with_bits (begun_column name) bits type)
one_made row name bits type = λ i. record (with_bits (described (Some row) (begun_column name)) bits type) { is_nullable = swapped (has_bit bits 0x1000) (bytes_eq (text_at 2 row) (codes "Y")) i }

made_either : (about : Option (List Value)) (name : List ℕ) (bits : ℕ) (o : Option ColumnType) → option_map (with_bits (described about (begun_column name)) bits) o ≡ option_map (described about) (option_map (with_bits (begun_column name) bits) o)
made_either about name bits None = refl
made_either None name bits (Some type) = refl
made_either (Some row) name bits (Some type) = ap Some (one_made row name bits type)

pub described_bits : (about : Option (List Value)) (name : List ℕ) (bits : ℕ) → column_of_bits (described about (begun_column name)) bits ≡ option_map (described about) (column_of_bits (begun_column name) bits)
described_bits about name bits = made_either about name bits (type_of_bits bits)

-- the two spellings of a category's name
same_twice : (b : Bool) → (b || b) ≡ b
same_twice true = refl
same_twice false = refl

pub flips : (s t : List ℕ) → bytes_eq s t ≡ false → bytes_eq t s ≡ false
flips s t e = by_test (bytes_eq t s) (λ u. yes_is_no (bytes_eq s t) ((bytes_eq-Decides s t).1 (sym ((bytes_eq-Decides t s).0 u))) e) (λ u. u)

one_name : (text : List ℕ) → bytes_eq text (codes "FormattedSddlText") ≡ false → bytes_eq text (codes "Guid") ≡ false → (c : Category) → (bytes_eq (category_name c) text || bytes_eq (other_name c) text) ≡ bytes_eq (category_name c) text
one_name text s g category.Text = same_twice (bytes_eq (codes "Text") text)
one_name text s g category.UpperCase = same_twice (bytes_eq (codes "UpperCase") text)
one_name text s g category.LowerCase = same_twice (bytes_eq (codes "LowerCase") text)
one_name text s g category.Integer = same_twice (bytes_eq (codes "Integer") text)
one_name text s g category.DoubleInteger = same_twice (bytes_eq (codes "DoubleInteger") text)
one_name text s g category.Number = same_twice (bytes_eq (codes "Number") text)
one_name text s g category.TimeDate = same_twice (bytes_eq (codes "TimeDate") text)
one_name text s g category.Identifier = same_twice (bytes_eq (codes "Identifier") text)
one_name text s g category.Property = same_twice (bytes_eq (codes "Property") text)
one_name text s g category.Filename = same_twice (bytes_eq (codes "Filename") text)
one_name text s g category.WildCardFilename = same_twice (bytes_eq (codes "WildCardFilename") text)
one_name text s g category.Path = same_twice (bytes_eq (codes "Path") text)
one_name text s g category.Paths = same_twice (bytes_eq (codes "Paths") text)
one_name text s g category.AnyPath = same_twice (bytes_eq (codes "AnyPath") text)
one_name text s g category.DefaultDir = same_twice (bytes_eq (codes "DefaultDir") text)
one_name text s g category.RegPath = same_twice (bytes_eq (codes "RegPath") text)
one_name text s g category.Formatted = same_twice (bytes_eq (codes "Formatted") text)
one_name text s g category.FormattedSddlText = or_first (bytes_eq (codes "FormattedSDDLText") text) (bytes_eq (codes "FormattedSddlText") text) (flips text (codes "FormattedSddlText") s)
one_name text s g category.Template = same_twice (bytes_eq (codes "Template") text)
one_name text s g category.Condition = same_twice (bytes_eq (codes "Condition") text)
one_name text s g category.Guid = or_first (bytes_eq (codes "GUID") text) (bytes_eq (codes "Guid") text) (flips text (codes "Guid") g)
one_name text s g category.Version = same_twice (bytes_eq (codes "Version") text)
one_name text s g category.Language = same_twice (bytes_eq (codes "Language") text)
one_name text s g category.Binary = same_twice (bytes_eq (codes "Binary") text)
one_name text s g category.CustomSource = same_twice (bytes_eq (codes "CustomSource") text)
one_name text s g category.Cabinet = same_twice (bytes_eq (codes "Cabinet") text)
one_name text s g category.Shortcut = same_twice (bytes_eq (codes "Shortcut") text)

pub category_is : (text : List ℕ) → category_named text ≡ category_in text
category_is text = by_test (bytes_eq text (codes "FormattedSddlText"))
    (λ t. ap category_named ((bytes_eq-Decides text (codes "FormattedSddlText")).0 t) ∙ sym (ap category_in ((bytes_eq-Decides text (codes "FormattedSddlText")).0 t)))
    (λ s. by_test (bytes_eq text (codes "Guid"))
    (λ t. ap category_named ((bytes_eq-Decides text (codes "Guid")).0 t) ∙ sym (ap category_in ((bytes_eq-Decides text (codes "Guid")).0 t)))
    (λ g. rw (s, g) (sym (find_same (λ c. bytes_eq (category_name c) text || bytes_eq (other_name c) text) (λ c. bytes_eq (category_name c) text) all_categories (one_name text s g)))))

-- numbers of a row that is found among short ones
second_fits : (a b : Bool) → not (a && b) ≡ false → b ≡ true
second_fits true true e = refl
second_fits true false e = cc
second_fits false b e = cc

pub short_row : (p : List Value → Bool) (rows : List (List Value)) (row : List Value) → has_long_number rows ≡ false → Some row ≡ find p rows → is_of_16_bits (number_of (value_at 3 row)) ≡ true
short_row p [] row short e = cc
short_row p (r ∷ rows) row short e =
    let g = or_parts _ (has_long_number rows) short in
    by_test (p r)
    (λ t. let same : row ≡ r = let f = rw t at e in cc in ap (λ (x : List Value). is_of_16_bits (number_of (value_at 3 x))) same ∙ second_fits (is_of_16_bits (number_of (value_at 1 r))) (is_of_16_bits (number_of (value_at 3 r))) g.0)
    (λ t. short_row p rows row g.1 (rw t at e))

-- what gives exactly where bits name a type
pub bits_give : (r : Result ColumnDef ErrorKind) (o : Option ColumnDef) → IfOk r (λ c. o ≡ Some c) → (IsErr r ↔ (o ≡ None)) → IfErr r (λ e. e ≡ InvalidData) → Gives (λ c. c) r o
bits_give (Ok c) o given refused kind = given
bits_give (Err e) o given refused kind = rw kind (refused.0 refl)

pub fails_plainly : (e : ErrorKind) {X : Type 0} (o : Option X) → e ≡ InvalidData → o ≡ None → FailsAs e o
fails_plainly e o k n = rw k n

-- an error tells of what is read of it
pub fails_on : (e : ErrorKind) {X Y : Type 0} (o : Option X) (p : Option Y) → (o ≡ None → p ≡ None) → FailsAs e o → FailsAs e p
fails_on kind.InvalidData o p h f = h f
fails_on kind.OutOfMemory o p h f = tt
fails_on kind.AlreadyExists o p h f = f
fails_on kind.InvalidInput o p h f = f
fails_on kind.NotFound o p h f = f
fails_on kind.Io o p h f = f
