-- Worked rows of printed expressions, by computation.
use Rattle.std.proofs.Common.{◌≡◌, ℕ, true, List, [], ◌∷◌, Some, refl, codes, map, pos, negsuc, ℤ}
use Rattle.msi_table_values.specs.declared.value.Value.TheVariants.{Null, Int, Str}
use Rattle.msi_query_expressions.specs.declared.operators.UnaryOp.TheVariants as one
use Rattle.msi_query_expressions.specs.declared.operators.BinaryOp.TheVariants as two
use Rattle.msi_query_expressions.specs.Expressions.{Expression, literal, column, unary, binary, both, either}
use Rattle.msi_query_expressions.specs.Folding.{is_built, folded_binary}
use Rattle.msi_query_tokens.specs.Tokens.{kind_of_word, same_kind}
use Rattle.msi_query_expressions.specs.Printing.{expression_text}
use Rattle.msi_query_expressions.specs.Vocabulary.{is_plain}
use Rattle.msi_query_expressions.proofs.ReaderLemmas.{read}

abbrev int : ℤ → Expression
int n = literal (Int n)

abbrev text : List ℕ → Expression
text t = literal (Str t)

abbrev foo : Expression
foo = column (codes "Foo")

abbrev bar : Expression
bar = column (codes "Bar")

abbrev baz : Expression
baz = column (codes "Baz")

brackets_tell : map expression_text (binary two.Sub foo (binary two.Sub bar baz) ∷ binary two.Sub (binary two.Sub foo bar) baz ∷ both (either foo bar) baz
    ∷ binary two.Mul (unary one.Neg foo) bar ∷ unary one.Neg (binary two.Mul foo bar) ∷ unary one.BoolNot (binary two.Eq foo bar)
    ∷ binary two.Eq (unary one.BoolNot foo) bar ∷ binary two.Eq foo (binary two.Eq bar baz) ∷ binary two.Eq (binary two.Eq foo bar) baz ∷ [])
    ≡ Some (codes "Foo - (Bar - Baz)") ∷ Some (codes "Foo - Bar - Baz") ∷ Some (codes "(Foo OR Bar) AND Baz")
    ∷ Some (codes "-Foo * Bar") ∷ Some (codes "-(Foo * Bar)") ∷ Some (codes "NOT (Foo = Bar)")
    ∷ Some (codes "NOT Foo = Bar") ∷ Some (codes "Foo = (Bar = Baz)") ∷ Some (codes "Foo = Bar = Baz") ∷ []
unfolding kind_of_word same_kind
brackets_tell = refl

literals_print : map expression_text (folded_binary two.Sub (folded_binary two.Mul (int (pos 3)) (int (pos 4))) (int (pos 2))
    ∷ text (codes "a\" OR \"b") ∷ binary two.Sub foo (int (negsuc 4)) ∷ unary one.Neg (unary one.Neg foo) ∷ both (int (pos 1)) (int (pos 1))
    ∷ folded_binary two.Add (text (codes "a")) (text (codes "b")) ∷ [])
    ≡ Some (codes "10") ∷ Some (codes "\"a\\\" OR \\\"b\"") ∷ Some (codes "Foo - -5") ∷ Some (codes "--Foo") ∷ Some (codes "1 AND 1") ∷ Some (codes "\"ab\"") ∷ []
unfolding Rattle.std.specs.Fmt.digits Rattle.std.specs.Fmt.debug_escape kind_of_word same_kind
literals_print = refl

-- an expression with every kind of part: the premises of the law hold of it, and it is read back
abbrev sample : Expression
sample = either (binary two.Sub (column (codes "NOTa")) (int (negsuc 2147483647)))
    (both (unary one.BoolNot (unary one.Neg (unary one.Neg (column (codes "Foo.b")))))
    (binary two.Le (binary two.Sub (column (codes "AND")) (binary two.Sub (literal Null) (column (codes "OR")))) (text (codes "\" OR \\"))))

abbrev sample_text : List ℕ
sample_text = codes "NOTa - -2147483648 OR NOT --Foo.b AND `AND` - (NULL - `OR`) <= \"\\\" OR \\\\\""

prints_so : expression_text sample ≡ Some sample_text
unfolding Rattle.std.specs.Fmt.digits Rattle.std.specs.Fmt.debug_escape kind_of_word same_kind
prints_so = refl

is_within : (is_plain sample ≡ true) × (is_built sample ≡ true)
is_within = (refl, refl)

is_read : read sample_text ≡ sample
is_read = refl

-- columns that are named as key words, by no Identifier, or with a back quote
odd_names : map expression_text (column (codes "Set") ∷ column (codes "not") ∷ column (codes "a b") ∷ column (codes "a`b") ∷ column [] ∷ column (codes "a.B_1") ∷ [])
    ≡ Some (codes "`Set`") ∷ Some (codes "`not`") ∷ Some (codes "`a b`") ∷ Some (codes "`a``b`") ∷ Some (codes "``") ∷ Some (codes "a.B_1") ∷ []
unfolding kind_of_word same_kind
odd_names = refl

abbrev linked_names : Expression
linked_names = both (both (column (codes "AND")) (either (column (codes "OR")) (column (codes "AND")))) (column (codes "OR"))

linked_names_print : expression_text linked_names ≡ Some (codes "`AND` AND (`OR` OR `AND`) AND `OR`")
unfolding kind_of_word same_kind
linked_names_print = refl

linked_names_are_read : read (codes "`AND` AND (`OR` OR `AND`) AND `OR`") ≡ linked_names
linked_names_are_read = refl
