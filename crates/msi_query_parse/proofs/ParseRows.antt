-- Worked rows of texts, by computation: their symbols, what they spell, and where they are refused.
use Rattle.std.proofs.Common.{◌≡◌, true, false, [], ◌∷◌, Some, None, Err, refl, codes, map, pos}
use Rattle.msi_table_values.specs.declared.value.Value.TheVariants.{Int, Null}
use Rattle.msi_query_expressions.specs.declared.operators.UnaryOp.TheVariants as one
use Rattle.msi_query_expressions.specs.declared.operators.BinaryOp.TheVariants as two
use Rattle.msi_query_expressions.specs.Expressions.{literal, column, binary}
use Rattle.msi_query_expressions.specs.declared.joins.JoinKind.TheVariants.{Inner}
use Rattle.msi_query.specs.Queries.{table, product, no_clauses}
use Rattle.msi_query_tokens.specs.declared.token.Kind.TheVariants as k
use Rattle.msi_query_tokens.specs.declared.refusal.Expected.TheVariants as expected
use Rattle.msi_query_tokens.specs.declared.refusal.ParseError.TheVariants.{Refused}
use Rattle.msi_query_tokens.specs.Tokens.{token, skip_blanks, same_kind, kind_of_word}
use Rattle.msi_query_tokens.specs.Texts.{positive}
use Rattle.msi_query_tokens.specs.Input.{expect, sees, after, rise, refusal, kind, spelling, next, left as left_of}
use Rattle.msi_query_tokens.specs.Symbols.{mark, named, number, AreSymbols}
use Rattle.msi_query_parse.specs.Reading.{whole, condition, expression, level, operand, operations, operation, climb, bracketed, term, end}
use Rattle.msi_query_parse.specs.Printed.{phrase_of}
use Rattle.msi_query_parse.specs.Grammar.{Phrase, constant, reference, grouped, front, link, null_test, plain, phrase_symbols, is_phrase, expression_of, Source, whole as whole_table, tables_of, both_of, query_of, is_source, source_symbols, query_meant}

pub words : AreSymbols (codes "a-(B.c Or 12)") (named (codes "a") ∷ mark k.Sub ∷ mark k.Open ∷ named (codes "B.c") ∷ mark k.Or ∷ number 12 ∷ mark k.Close ∷ [])
unfolding token skip_blanks same_kind kind_of_word
words = record { rest = []; spans = (refl, refl, (refl, refl, (refl, refl, (refl, refl, (refl, refl, (refl, refl, (refl, refl, refl))))))); end = refl }

marks : AreSymbols (codes "<>!=<= <<") (mark k.Ne ∷ mark k.Ne ∷ mark k.Le ∷ mark k.Shl ∷ [])
unfolding token skip_blanks same_kind kind_of_word
marks = record { rest = []; spans = (refl, refl, (refl, refl, (refl, refl, (refl, refl, refl)))); end = refl }

-- an end that is missing
unclosed : AreSymbols (codes "a = 'b") (named (codes "a") ∷ mark k.Eq ∷ mark k.Unclosed ∷ named (codes "b") ∷ [])
unfolding token skip_blanks same_kind kind_of_word
unclosed = record { rest = []; spans = (refl, refl, (refl, refl, (refl, refl, (refl, refl, refl)))); end = refl }

abbrev foo : Phrase
foo = reference (plain (codes "Foo"))

abbrev bar : Phrase
bar = reference (plain (codes "Bar"))

abbrev baz : Phrase
baz = reference (plain (codes "Baz"))

-- `Foo - (Bar - Baz)` and `Foo - Bar - Baz`
abbrev right : Phrase
right = link k.Sub foo (grouped (link k.Sub bar baz))

abbrev left : Phrase
left = link k.Sub (link k.Sub foo bar) baz

right_spells : AreSymbols (codes "Foo - (Bar - Baz)") (phrase_symbols right)
unfolding token skip_blanks same_kind kind_of_word
right_spells = record { rest = []; spans = (refl, refl, (refl, refl, (refl, refl, (refl, refl, (refl, refl, (refl, refl, (refl, refl, refl))))))); end = refl }

left_spells : AreSymbols (codes "Foo-Bar-Baz") (phrase_symbols left)
unfolding token skip_blanks same_kind kind_of_word
left_spells = record { rest = []; spans = (refl, refl, (refl, refl, (refl, refl, (refl, refl, (refl, refl, refl))))); end = refl }

-- brackets are needed on the right, and a minus before digits belongs to them
both_are : map is_phrase (right ∷ left ∷ link k.Sub foo (link k.Sub bar baz) ∷ front one.Neg (constant (Int (pos 5))) ∷ []) ≡ true ∷ true ∷ false ∷ false ∷ []
both_are = refl

they_mean : map expression_of (right ∷ left ∷ []) ≡ binary two.Sub (column (codes "Foo")) (binary two.Sub (column (codes "Bar")) (column (codes "Baz")))
    ∷ binary two.Sub (binary two.Sub (column (codes "Foo")) (column (codes "Bar"))) (column (codes "Baz")) ∷ []
they_mean = refl

-- they print as these phrases
they_print : map phrase_of (binary two.Sub (column (codes "Foo")) (binary two.Sub (column (codes "Bar")) (column (codes "Baz")))
    ∷ binary two.Sub (binary two.Sub (column (codes "Foo")) (column (codes "Bar"))) (column (codes "Baz")) ∷ []) ≡ right ∷ left ∷ []
they_print = refl

-- IS NULL stands behind a sum, and no sum behind it
abbrev no_sum : Phrase
no_sum = null_test true (link k.Add foo bar)

null_spells : AreSymbols (codes "Foo+Bar is not null;") (phrase_symbols no_sum)
unfolding token skip_blanks same_kind kind_of_word
null_spells = record { rest = codes ";"; spans = (refl, refl, (refl, refl, (refl, refl, (refl, refl, (refl, refl, (refl, refl, refl)))))); end = refl }

they_group : map is_phrase (no_sum ∷ link k.Add (null_test false foo) bar ∷ link k.Eq (null_test false foo) bar ∷ link k.Eq foo (null_test false bar) ∷ link k.Is foo bar ∷ []) ≡ true ∷ false ∷ true ∷ false ∷ false ∷ []
they_group = refl

it_compares : expression_of no_sum ≡ binary two.Ne (binary two.Add (column (codes "Foo")) (column (codes "Bar"))) (literal Null)
it_compares = refl

-- a query with all that it may ask for but a condition
abbrev asked : Source
asked = query_of (record { is_distinct = true; columns = []; condition = None; order = plain (codes "a") ∷ plain (codes "T.b") ∷ [] }) (whole_table (codes "T"))

asked_spells : AreSymbols (codes "select distinct * from T order by a, T.b") (source_symbols asked)
unfolding token skip_blanks same_kind kind_of_word
asked_spells = record { rest = []; spans = (refl, refl, (refl, refl, (refl, refl, (refl, refl, (refl, refl, (refl, refl, (refl, refl, (refl, refl, (refl, refl, (refl, refl, refl)))))))))); end = refl }

asked_for : query_meant asked ≡ table (codes "T") (record { columns = []; condition = None; order = codes "a" ∷ codes "T.b" ∷ []; is_distinct = true })
asked_for = refl

-- a product, whose first table has a name of its own
abbrev listed : Source
listed = query_of (record { is_distinct = false; columns = []; condition = None; order = [] })
    (tables_of (record { table = codes "A"; own = Some (codes "b") } ∷ record { table = codes "C"; own = None } ∷ []))

listed_spells : AreSymbols (codes "SELECT * FROM A b,C") (source_symbols listed)
unfolding token skip_blanks same_kind kind_of_word
listed_spells = record { rest = []; spans = (refl, refl, (refl, refl, (refl, refl, (refl, refl, (refl, refl, (refl, refl, (refl, refl, refl))))))); end = refl }

listed_for : query_meant listed ≡ product (record { table = codes "A"; name = codes "b" } ∷ record { table = codes "C"; name = codes "C" } ∷ []) no_clauses
listed_for = refl

-- one table makes a product only under a name of its own, and no product is a side of a join
they_list : map is_source (tables_of [] ∷ tables_of (record { table = codes "A"; own = None } ∷ []) ∷ tables_of (record { table = codes "A"; own = Some (codes "A") } ∷ []) ∷ listed
    ∷ both_of Inner (tables_of (record { table = codes "A"; own = Some (codes "b") } ∷ [])) (whole_table (codes "C")) foo
    ∷ both_of Inner (whole_table (codes "C")) (tables_of (record { table = codes "A"; own = Some (codes "b") } ∷ [])) foo ∷ both_of Inner listed (whole_table (codes "C")) foo ∷ [])
    ≡ false ∷ false ∷ true ∷ true ∷ false ∷ false ∷ true ∷ []
they_list = refl

-- a refusal has its place, and what was expected there
pub refused : map (whole condition) (codes "1 +" ∷ codes "(1" ∷ codes "1 2" ∷ []) ≡ Err (Refused (record { place = 3; expected = expected.Operand }))
    ∷ Err (Refused (record { place = 2; expected = expected.CloseBracket })) ∷ Err (Refused (record { place = 2; expected = expected.End })) ∷ []
unfolding token skip_blanks same_kind kind_of_word condition expression level operand operations operation climb bracketed term positive end expect sees after rise refusal kind spelling next left_of
refused = refl
