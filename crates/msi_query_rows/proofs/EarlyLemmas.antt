-- What a query is refused for before a row is read.
use Rattle.std.proofs.Common.{◌≡◌, ℕ, List, [], ◌∷◌, Bool, true, false, Option, Some, None, Result, Ok, Err, option_map, refl, ap, sym, ◌∙◌}
use Rattle.std.proofs.Common.{inr}
use Rattle.std.specs.Prelude.{if◌then◌else◌, IfErr, IsErrAnd}
use Rattle.msi_base.specs.declared.errors.ErrorKind.{ErrorKind}
use Rattle.msi_base.specs.declared.errors.ErrorKind.TheVariants.{InvalidData, NotFound}
use Rattle.msi_pool.specs.Pool.{Place}
use Rattle.msi_table_cells.specs.declared.cell.ValueRef.{ValueRef}
use Rattle.msi_table_values.specs.declared.value.Value.{Value}
use Rattle.msi_table_values.specs.Columns.{ColumnDef}
use Rattle.msi_query_expressions.specs.Expressions.{Expression}
use Rattle.msi_query_expressions.specs.declared.joins.JoinKind.{JoinKind}
use Rattle.msi_query.specs.Queries.{Clauses, Query, Side, table, join, product}
use Rattle.msi_base.specs.Refusals.{AnswersWith, IsRefusal, earlier, first_refusal, refusal_of, unless, unless_refused, or_refused, ◌>>=◌}
use Rattle.msi_table_cells.specs.TableCells.{TableCells}
use Rattle.msi_query.specs.Rows.{columns_read, rows_values, table_values, tables_values}
use Rattle.msi_query.specs.Selection.{Relation, clause_refusals, early_refusal, first_unread, is_table, kept_of, kept_of_join, meant_clauses, product_of, relation_of, selected, side_refusals, sides_of}
use Rattle.msi_base.proofs.RefusalLemmas.{err_passed}

-- ONE TABLE

unless_again : {A B : Type 0} (o : Option ErrorKind) (x : A) (y : B) → unless o x ≡ unless (refusal_of (unless o y)) x
unless_again None x y = refl
unless_again (Some k) x y = refl

-- over a table that can be read, the clauses decide
pub clauses_decide : (columns : List ℕ → Result (List ColumnDef) ErrorKind) (q : Query) (name : List ℕ) (c : Clauses) (cs : List ColumnDef) (r : Result (Unit {0}) ErrorKind)
    → q ≡ table name c → columns name ≡ Ok cs → r ≡ unless_refused (clause_refusals (meant_clauses name cs c) cs) tt → r ≡ unless (early_refusal columns q) tt
clauses_decide columns q name c cs r q-is e d = rw (q-is, e) (d ∙ unless_again (first_refusal (clause_refusals (meant_clauses name cs c) cs)) tt cs)

erring : (r : Result (Unit {0}) ErrorKind) (k : ErrorKind) → IsErrAnd r (λ e. e ≡ k) → r ≡ Err k
erring (Ok x) k e = absurd e
erring (Err l) k e = ap Err e

-- one that isn't there or can't be read
pub table_lacks : (columns : List ℕ → Result (List ColumnDef) ErrorKind) (q : Query) (name : List ℕ) (c : Clauses) (k : ErrorKind) (r : Result (Unit {0}) ErrorKind)
    → q ≡ table name c → columns name ≡ Err k → IsErrAnd r (λ e. e ≡ k) → r ≡ unless (early_refusal columns q) tt
table_lacks columns q name c k r q-is e d = rw (q-is, e) (erring r k d)

-- A JOIN

left_holds : (o other : Option ErrorKind) (k : ErrorKind) (s : Result (Unit {0}) ErrorKind) → s ≡ unless o tt → s ≡ Err k → s ≡ unless (earlier o other) tt
left_holds None other k s e w = cc
left_holds (Some l) other k s e w = e

left_passes : (o other : Option ErrorKind) (s r : Result (Unit {0}) ErrorKind) → s ≡ unless o tt → s ≡ Ok tt → r ≡ unless other tt → r ≡ unless (earlier o other) tt
left_passes None other s r e w d = d
left_passes (Some l) other s r e w d = cc

-- the left query is refused
pub left_decides : (columns : List ℕ → Result (List ColumnDef) ErrorKind) (q : Query) (kind : JoinKind) (left right : Query) (on : Expression) (c : Clauses) (k : ErrorKind)
    (s r : Result (Unit {0}) ErrorKind) → q ≡ join kind left right on c → s ≡ unless (early_refusal columns left) tt → s ≡ Err k → IsErrAnd r (λ e. e ≡ k) → r ≡ unless (early_refusal columns q) tt
left_decides columns q kind left right on c k s r q-is e w d =
    rw q-is (erring r k d ∙ sym w ∙ left_holds (early_refusal columns left) (if is_table left then early_refusal columns right else None) k s e w)

-- it passes, and is over one table
pub right_decides : (columns : List ℕ → Result (List ColumnDef) ErrorKind) (q : Query) (kind : JoinKind) (left right : Query) (on : Expression) (c : Clauses) (s r : Result (Unit {0}) ErrorKind)
    → q ≡ join kind left right on c → s ≡ unless (early_refusal columns left) tt → s ≡ Ok tt → is_table left ≡ true → r ≡ unless (early_refusal columns right) tt
    → r ≡ unless (early_refusal columns q) tt
right_decides columns q kind left right on c s r q-is e w t d =
    rw q-is (left_passes (early_refusal columns left) (if is_table left then early_refusal columns right else None) s r e w (rw t d))

-- it passes, and is a join
pub join_behind : (columns : List ℕ → Result (List ColumnDef) ErrorKind) (q : Query) (kind : JoinKind) (left right : Query) (on : Expression) (c : Clauses) (s r : Result (Unit {0}) ErrorKind)
    → q ≡ join kind left right on c → s ≡ unless (early_refusal columns left) tt → s ≡ Ok tt → is_table left ≡ false → r ≡ Ok tt
    → r ≡ unless (early_refusal columns q) tt
join_behind columns q kind left right on c s r q-is e w t d =
    rw q-is (left_passes (early_refusal columns left) (if is_table left then early_refusal columns right else None) s r e w (rw t d))

-- THE TABLES OF A PRODUCT

-- the first can't be read
pub first_lacks : (columns : List ℕ → Result (List ColumnDef) ErrorKind) (whole : List Side) (side : Side) (sides : List Side) (k : ErrorKind) (r : Result (Unit {0}) ErrorKind)
    → whole ≡ side ∷ sides → columns side.table ≡ Err k → IsErrAnd r (λ e. e ≡ k) → r ≡ unless (first_unread columns whole) tt
first_lacks columns whole side sides k r is e d = rw (is, e) (erring r k d)

-- it can, so those behind it decide
pub others_decide : (columns : List ℕ → Result (List ColumnDef) ErrorKind) (whole : List Side) (side : Side) (sides : List Side) (cs : List ColumnDef) (r : Result (Unit {0}) ErrorKind)
    → whole ≡ side ∷ sides → columns side.table ≡ Ok cs → r ≡ unless (first_unread columns sides) tt → r ≡ unless (first_unread columns whole) tt
others_decide columns whole side sides cs r is e d = rw (is, e) d

pub product_unread : (columns : List ℕ → Result (List ColumnDef) ErrorKind) (q : Query) (sides : List Side) (c : Clauses) (k : ErrorKind) (s r : Result (Unit {0}) ErrorKind)
    → q ≡ product sides c → s ≡ unless (first_unread columns sides) tt → s ≡ Err k → IsErrAnd r (λ e. e ≡ k) → r ≡ unless (early_refusal columns q) tt
product_unread columns q sides c k s r q-is e w d = rw q-is (erring r k d ∙ sym w ∙ left_holds (first_unread columns sides) (first_refusal (side_refusals sides)) k s e w)

pub names_decide : (columns : List ℕ → Result (List ColumnDef) ErrorKind) (q : Query) (sides : List Side) (c : Clauses) (s r : Result (Unit {0}) ErrorKind)
    → q ≡ product sides c → s ≡ unless (first_unread columns sides) tt → s ≡ Ok tt → r ≡ unless_refused (side_refusals sides) tt → r ≡ unless (early_refusal columns q) tt
names_decide columns q sides c s r q-is e w d = rw q-is (left_passes (first_unread columns sides) (first_refusal (side_refusals sides)) s r e w d)

-- THE ANSWER OF A QUERY THAT IS REFUSED EARLY

refused_too : {A B : Type 0} (o : Option ErrorKind) (x : A) (y : B) (k : ErrorKind) → refusal_of (unless o y) ≡ Some k → unless o x ≡ Err k
refused_too None x y k e = cc
refused_too (Some l) x y k e = cc

rows_refused : (places : List Place) (name : List ℕ) (c : Clauses) (columns : List ColumnDef) (rows : Option (List (List ValueRef))) (k : ErrorKind)
    → refusal_of ((or_refused InvalidData rows >>= λ rows. Ok columns) >>= λ cs. unless_refused (clause_refusals (meant_clauses name cs c) cs) cs) ≡ Some k
    → (or_refused InvalidData (option_map (rows_values places) rows) >>= λ rows. kept_of c (record { name = name; columns = columns; rows = rows })) ≡ Err k
rows_refused places name c columns None k e = cc
rows_refused places name c columns (Some rows) k e =
    let r : Relation = record { name = name; columns = columns; rows = rows_values places rows } in
    refused_too (first_refusal (clause_refusals (meant_clauses name columns c) columns)) (selected (meant_clauses name columns c) r) columns k e

found_refused : (places : List Place) (name : List ℕ) (c : Clauses) (found : Option TableCells) (k : ErrorKind)
    → refusal_of ((or_refused NotFound found >>= λ t. or_refused InvalidData t.rows >>= λ rows. Ok t.columns) >>= λ cs. unless_refused (clause_refusals (meant_clauses name cs c) cs) cs) ≡ Some k
    → (or_refused NotFound (option_map (table_values places) found) >>= λ t. or_refused InvalidData t.rows >>= λ rows. kept_of c (record { name = name; columns = t.columns; rows = rows })) ≡ Err k
found_refused places name c None k e = cc
found_refused places name c (Some t) k e = rows_refused places name c t.columns t.rows k e

abbrev Passes : Result Relation ErrorKind → Type 0
Passes (Ok r) = Unit {0}
Passes (Err k) = ⊥

unless_passes : {B : Type 0} (o : Option ErrorKind) (x : Relation) (y : B) → refusal_of (unless o y) ≡ None → Passes (unless o x)
unless_passes None x y e = tt
unless_passes (Some l) x y e = absurd (cc)

rows_pass : (places : List Place) (name : List ℕ) (c : Clauses) (columns : List ColumnDef) (rows : Option (List (List ValueRef)))
    → refusal_of ((or_refused InvalidData rows >>= λ rows. Ok columns) >>= λ cs. unless_refused (clause_refusals (meant_clauses name cs c) cs) cs) ≡ None
    → Passes (or_refused InvalidData (option_map (rows_values places) rows) >>= λ rows. kept_of c (record { name = name; columns = columns; rows = rows }))
rows_pass places name c columns None e = cc
rows_pass places name c columns (Some rows) e =
    let r : Relation = record { name = name; columns = columns; rows = rows_values places rows } in
    unless_passes (first_refusal (clause_refusals (meant_clauses name columns c) columns)) (selected (meant_clauses name columns c) r) columns e

found_passes : (places : List Place) (name : List ℕ) (c : Clauses) (found : Option TableCells)
    → refusal_of ((or_refused NotFound found >>= λ t. or_refused InvalidData t.rows >>= λ rows. Ok t.columns) >>= λ cs. unless_refused (clause_refusals (meant_clauses name cs c) cs) cs) ≡ None
    → Passes (or_refused NotFound (option_map (table_values places) found) >>= λ t. or_refused InvalidData t.rows >>= λ rows. kept_of c (record { name = name; columns = t.columns; rows = rows }))
found_passes places name c None e = cc
found_passes places name c (Some t) e = rows_pass places name c t.columns t.rows e

-- a query over one table that isn't refused early isn't refused at all
one_table_passes : (places : List Place) (tables : List ℕ → Option TableCells) (q : Query) → is_table q ≡ true → early_refusal (columns_read tables) q ≡ None
    → Passes (relation_of (tables_values places tables) q)
one_table_passes places tables (table name c) t e = found_passes places name c (tables name) e
one_table_passes places tables (join kind l r on c) t e = cc
one_table_passes places tables (product sides c) t e = cc

sides_refused : (kind : JoinKind) (on : Expression) (c : Clauses) (el er : Option ErrorKind) (is_one : Bool) (left right : Result Relation ErrorKind) (k : ErrorKind)
    → ((m : ErrorKind) → el ≡ Some m → left ≡ Err m) → (is_one ≡ true → el ≡ None → Passes left) → ((m : ErrorKind) → er ≡ Some m → right ≡ Err m)
    → earlier el (if is_one then er else None) ≡ Some k → (left >>= λ l. right >>= λ r. kept_of_join kind on c l r) ≡ Err k
sides_refused kind on c (Some m) er one left right k hl p hr e = rw (hl m refl) cc
sides_refused kind on c None er false left right k hl p hr e = cc
sides_refused kind on c None er true (Ok l) right k hl p hr e = rw (hr k e) refl
sides_refused kind on c None er true (Err m) right k hl p hr e = absurd (p refl refl)

some_of : (o : Option ErrorKind) (k : ErrorKind) (s : Result (Unit {0}) ErrorKind) → s ≡ unless o tt → s ≡ Err k → o ≡ Some k
some_of None k s e w = cc
some_of (Some l) k s e w = cc

-- A PRODUCT

abbrev named_relation : List ℕ → List ColumnDef → List (List Value) → Result Relation ErrorKind
named_relation name columns rows = Ok (record { name = name; columns = columns; rows = rows })

rows_unread : (places : List Place) (name : List ℕ) (columns : List ColumnDef) (rows : Option (List (List ValueRef))) (k : ErrorKind)
    → refusal_of (or_refused InvalidData rows >>= λ rows. Ok columns) ≡ Some k
    → (or_refused InvalidData (option_map (rows_values places) rows) >>= λ rows. named_relation name columns rows) ≡ Err k
rows_unread places name columns None k e = cc
rows_unread places name columns (Some rows) k e = cc

found_unread : (places : List Place) (name : List ℕ) (found : Option TableCells) (k : ErrorKind)
    → refusal_of (or_refused NotFound found >>= λ t. or_refused InvalidData t.rows >>= λ rows. Ok t.columns) ≡ Some k
    → (or_refused NotFound (option_map (table_values places) found) >>= λ t. or_refused InvalidData t.rows >>= λ rows. named_relation name t.columns rows) ≡ Err k
found_unread places name None k e = cc
found_unread places name (Some t) k e = rows_unread places name t.columns t.rows k e

rows_read : (places : List Place) (name : List ℕ) (columns : List ColumnDef) (rows : Option (List (List ValueRef)))
    → refusal_of (or_refused InvalidData rows >>= λ rows. Ok columns) ≡ None
    → (r : Relation) × ((or_refused InvalidData (option_map (rows_values places) rows) >>= λ rows. named_relation name columns rows) ≡ Ok r)
rows_read places name columns None e = cc
rows_read places name columns (Some rows) e = (record { name = name; columns = columns; rows = rows_values places rows }, refl)

found_read : (places : List Place) (name : List ℕ) (found : Option TableCells)
    → refusal_of (or_refused NotFound found >>= λ t. or_refused InvalidData t.rows >>= λ rows. Ok t.columns) ≡ None
    → (r : Relation) × ((or_refused NotFound (option_map (table_values places) found) >>= λ t. or_refused InvalidData t.rows >>= λ rows. named_relation name t.columns rows) ≡ Ok r)
found_read places name None e = cc
found_read places name (Some t) e = rows_read places name t.columns t.rows e

-- a table that can't be read, in front of others
unread_at : (places : List Place) (tables : List ℕ → Option TableCells) (side : Side) (sides : List Side) (k : ErrorKind) (o : Option ErrorKind)
    → refusal_of (columns_read tables side.table) ≡ o → (first_unread (columns_read tables) sides ≡ Some k → sides_of (tables_values places tables) sides ≡ Err k)
    → earlier o (first_unread (columns_read tables) sides) ≡ Some k → sides_of (tables_values places tables) (side ∷ sides) ≡ Err k
unread_at places tables side sides k (Some m) is h e = rw (found_unread places side.name (tables side.table) m is) cc
unread_at places tables side sides k None is h e = let (r, at) = found_read places side.name (tables side.table) is in rw (at, h e) refl

sides_unread : (places : List Place) (tables : List ℕ → Option TableCells) (sides : List Side) (k : ErrorKind)
    → first_unread (columns_read tables) sides ≡ Some k → sides_of (tables_values places tables) sides ≡ Err k
sides_unread places tables [] k e = cc
sides_unread places tables (side ∷ sides) k e =
    unread_at places tables side sides k (refusal_of (columns_read tables side.table)) refl (λ h. sides_unread places tables sides k h) e

read_at : (places : List Place) (tables : List ℕ → Option TableCells) (side : Side) (sides : List Side) (o : Option ErrorKind)
    → refusal_of (columns_read tables side.table) ≡ o → (first_unread (columns_read tables) sides ≡ None → (rs : List Relation) × (sides_of (tables_values places tables) sides ≡ Ok rs))
    → earlier o (first_unread (columns_read tables) sides) ≡ None → (rs : List Relation) × (sides_of (tables_values places tables) (side ∷ sides) ≡ Ok rs)
read_at places tables side sides (Some m) is h e = cc
read_at places tables side sides None is h e =
    let (r, at) = found_read places side.name (tables side.table) is in
    let (rs, all) = h e in
    (r ∷ rs, rw (at, all) refl)

sides_read : (places : List Place) (tables : List ℕ → Option TableCells) (sides : List Side)
    → first_unread (columns_read tables) sides ≡ None → (rs : List Relation) × (sides_of (tables_values places tables) sides ≡ Ok rs)
sides_read places tables [] e = ([], refl)
sides_read places tables (side ∷ sides) e =
    read_at places tables side sides (refusal_of (columns_read tables side.table)) refl (λ h. sides_read places tables sides h) e

-- a table of a product can't be read, or two go by one name
product_refused : (places : List Place) (tables : List ℕ → Option TableCells) (sides : List Side) (c : Clauses) (k : ErrorKind) (o : Option ErrorKind)
    → first_unread (columns_read tables) sides ≡ o → earlier o (first_refusal (side_refusals sides)) ≡ Some k → relation_of (tables_values places tables) (product sides c) ≡ Err k
product_refused places tables sides c k (Some m) is e = rw (sides_unread places tables sides m is) cc
product_refused places tables sides c k None is e =
    let (rs, all) = sides_read places tables sides is in
    rw (all, e) refl

-- an early refusal is the answer
pub early_is_answer : (places : List Place) (tables : List ℕ → Option TableCells) (q : Query) (k : ErrorKind) → early_refusal (columns_read tables) q ≡ Some k
    → relation_of (tables_values places tables) q ≡ Err k
early_is_answer places tables (table name c) k e = found_refused places name c (tables name) k e
early_is_answer places tables (join kind l r on c) k e =
    sides_refused kind on c (early_refusal (columns_read tables) l) (early_refusal (columns_read tables) r) (is_table l)
    (relation_of (tables_values places tables) l) (relation_of (tables_values places tables) r) k
    (λ m h. early_is_answer places tables l m h) (λ t h. one_table_passes places tables l t h) (λ m h. early_is_answer places tables r m h) e
early_is_answer places tables (product sides c) k e = product_refused places tables sides c k (first_unread (columns_read tables) sides) refl e

-- so a call that is refused early is refused as it is to be
pub refused_early : {A : Type 0} (places : List Place) (tables : List ℕ → Option TableCells) (q : Query) (k : ErrorKind) (s : Result (Unit {0}) ErrorKind) (r : Result A ErrorKind)
    → s ≡ unless (early_refusal (columns_read tables) q) tt → s ≡ Err k → IsErrAnd r (λ e. e ≡ k) → IfErr r (IsRefusal (relation_of (tables_values places tables) q))
refused_early places tables q k s r e w d =
    err_passed r k (relation_of (tables_values places tables) q) d (inr (early_is_answer places tables q k (some_of (early_refusal (columns_read tables) q) k s e w)))

-- and the answer is that refusal
pub answered_early : {A : Type 0} (o : Option ErrorKind) (k : ErrorKind) (s : Result (Unit {0}) ErrorKind) (r : Result A ErrorKind)
    → s ≡ unless o tt → s ≡ Err k → IsErrAnd r (λ e. e ≡ k) → AnswersWith o r
answered_early None k s r e w d = tt
answered_early (Some l) k s (Ok x) e w d = absurd d
answered_early (Some l) k s (Err m) e w d = cc (e, w, d)

-- where nothing is refused early
pub none_early : {A : Type 0} (o : Option ErrorKind) (s : Result (Unit {0}) ErrorKind) (r : Result A ErrorKind) → s ≡ unless o tt → s ≡ Ok tt → AnswersWith o r
none_early None s r e w = tt
none_early (Some l) s r e w = absurd (cc (e, w))
