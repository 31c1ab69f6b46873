-- Values and rows as JSON: their tokens one after another.
use Rattle.std.proofs.Common.{◌≡◌, ℕ, ◌+◌, ◌<◌, ◌≤◌, List, [], ◌∷◌, ◌++◌, get_or, drop, length, Result, Ok, Err, OnErr, refl, sym, ap, ◌∙◌, append_assoc}
use Rattle.std.proofs.lemmas.List.{append_cancel_left, drop_all, drop_more}
use Rattle.json.specs.Token.{Token, end_array, end_object, key}
use Rattle.json.specs.Tree.{items_tokens, json_tokens, members_tokens}
use Rattle.json.specs.Written.{WritesFront}
use Rattle.msi_table_values.specs.Columns.{ColumnDef}
use Rattle.msi_table_values.specs.declared.value.Value.{Value}
use Rattle.msi_exchange.specs.JsonRows.{items_json, members_json, names_of, value_json}

-- the rest of a list from a place on, of which the first is known
rest_at : {X : Type 0} (xs : List X) (i : ℕ) (x : X) → i < length xs → x ≡ get_or xs i x → drop i xs ≡ x ∷ drop (i + 1) xs
rest_at xs i x l is = drop_more xs i x l ∙ ap (λ y. y ∷ drop (i + 1) xs) (sym is)

-- where a call fails that writes nothing then, what is written is in front of the whole
pub stopped : (old mid new done rest all : List Token) → new ≡ mid → mid ≡ old ++ done → mid ++ rest ≡ old ++ all → WritesFront old new all
stopped old mid new done rest all same e left =
    (done, rest, sym (append_cancel_left old (done ++ rest) all (sym (append_assoc old done rest) ∙ ap (λ ts. ts ++ rest) (sym e) ∙ left)), same ∙ e)

pub on_err : {T E : Type 0} {P : Type 0} (r : Result T E) → P → OnErr r P
on_err (Ok x) p = tt
on_err (Err e) p = p

-- ---- lists

pub item_more : (row : List Value) (i : ℕ) (v : Value) (mid new all : List Token) → i < length row → v ≡ get_or row i v → new ≡ mid ++ json_tokens (value_json v)
    → mid ++ items_tokens (items_json (drop i row)) ≡ all → new ++ items_tokens (items_json (drop (i + 1) row)) ≡ all
item_more row i v mid new all l is e left =
    let rest = items_tokens (items_json (drop (i + 1) row)) in
    ap (λ front. front ++ rest) e
    ∙ append_assoc mid (json_tokens (value_json v)) rest
    ∙ ap (λ vs. mid ++ items_tokens (items_json vs)) (sym (rest_at row i v l is))
    ∙ left

pub items_ended : (row : List Value) (i : ℕ) (last new all : List Token) → length row ≤ i → new ≡ last ++ end_array ∷ []
    → last ++ items_tokens (items_json (drop i row)) ≡ all → new ≡ all
items_ended row i last new all l e left = e ∙ ap (λ vs. last ++ items_tokens (items_json vs)) (sym (drop_all i row l)) ∙ left

-- ---- objects

abbrev pub members_from : List ColumnDef → List Value → ℕ → List Token
members_from columns row i = members_tokens (members_json (names_of (drop i columns)) (drop i row))

-- a key that is written, with what its column's value and the later ones will be
pub member_begun : (columns : List ColumnDef) (row : List Value) (i : ℕ) (c : ColumnDef) (v : Value) (mid named all : List Token)
    → i < length columns → i < length row → c ≡ get_or columns i c → v ≡ get_or row i v → named ≡ mid ++ key c.name ∷ []
    → mid ++ members_from columns row i ≡ all → named ++ (json_tokens (value_json v) ++ members_from columns row (i + 1)) ≡ all
member_begun columns row i c v mid named all lc lr is_c is_v n left =
    let rest = json_tokens (value_json v) ++ members_from columns row (i + 1) in
    ap (λ front. front ++ rest) n
    ∙ append_assoc mid (key c.name ∷ []) rest
    ∙ ap (λ cs. mid ++ members_tokens (members_json (names_of cs) (v ∷ drop (i + 1) row))) (sym (rest_at columns i c lc is_c))
    ∙ ap (λ vs. mid ++ members_tokens (members_json (names_of (drop i columns)) vs)) (sym (rest_at row i v lr is_v))
    ∙ left

pub member_more : (columns : List ColumnDef) (row : List Value) (i : ℕ) (v : Value) (named new all : List Token) → new ≡ named ++ json_tokens (value_json v)
    → named ++ (json_tokens (value_json v) ++ members_from columns row (i + 1)) ≡ all → new ++ members_from columns row (i + 1) ≡ all
member_more columns row i v named new all e left =
    ap (λ front. front ++ members_from columns row (i + 1)) e ∙ append_assoc named (json_tokens (value_json v)) (members_from columns row (i + 1)) ∙ left

no_values : (names : List (List ℕ)) → members_tokens (members_json names []) ≡ end_object ∷ []
no_values [] = refl
no_values (name ∷ names) = refl

pub members_ended : (columns : List ColumnDef) (row : List Value) (i : ℕ) (last new all : List Token) → length row ≤ i → new ≡ last ++ end_object ∷ []
    → last ++ members_from columns row i ≡ all → new ≡ all
members_ended columns row i last new all l e left =
    e ∙ ap (λ ts. last ++ ts) (sym (no_values (names_of (drop i columns))))
    ∙ ap (λ vs. last ++ members_tokens (members_json (names_of (drop i columns)) vs)) (sym (drop_all i row l)) ∙ left
