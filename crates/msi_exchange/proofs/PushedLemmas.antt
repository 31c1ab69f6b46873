-- Lines that are written field by field.
use Rattle.std.proofs.Common.{◌≡◌, ℕ, ◌≤◌, List, [], ◌∷◌, ◌++◌, sym, ap, ◌∙◌, map, take, length, append_assoc, cond, Option, Some, None, Result, Ok, Err}
use Rattle.std.specs.Prelude.{OnOk, is_ok}
use Rattle.std.specs.Fmt.{decimal}
use Rattle.std.specs.List.{flat_map}
use Rattle.std.proofs.lemmas.List.{take_all}
use Rattle.std.proofs.lemmas.List.Folds.{flat_map-map}
use Rattle.msi_exchange.specs.Archives.{KeysDef}
use Rattle.msi_exchange.specs.Writing.{key_fields, line_of, page_front, text_field}

-- the line of fields, of which the first is written apart
pub line_apart : {X : Type 0} (f : X → List ℕ) (x : X) (xs : List X) → line_of (map f (x ∷ xs)) ≡ (f x ++ flat_map (λ y. 9 ∷ f y) xs) ++ 13 ∷ 10 ∷ []
line_apart f x xs = ap (λ rest. (f x ++ rest) ++ 13 ∷ 10 ∷ []) (flat_map-map (λ other. 9 ∷ other) f xs)

regrouped : (old first rest end : List ℕ) → ((old ++ first) ++ rest) ++ end ≡ old ++ ((first ++ rest) ++ end)
regrouped old first rest end = ap (λ front. front ++ end) (append_assoc old first rest) ∙ append_assoc old (first ++ rest) end

-- the texts in between, from the one in front of the line to the one behind it
pub line_written : {X : Type 0} (f : X → List ℕ) (x : X) (xs : List X) (i : ℕ) (old begun gone new : List ℕ) → length xs ≤ i → begun ≡ old ++ f x → gone ≡ begun ++ flat_map (λ y. 9 ∷ f y) (take i xs) → new ≡ gone ++ 13 ∷ 10 ∷ [] → new ≡ old ++ line_of (map f (x ∷ xs))
line_written f x xs i old begun gone new l b g n =
    n
    ∙ (ap (λ front. front ++ 13 ∷ 10 ∷ []) (g ∙ (ap (λ ys. begun ++ flat_map (λ y. 9 ∷ f y) ys) (take_all i xs l) ∙ ap (λ front. front ++ flat_map (λ y. 9 ∷ f y) xs) b))
    ∙ (regrouped old (f x) (flat_map (λ y. 9 ∷ f y) xs) (13 ∷ 10 ∷ []) ∙ ap (λ line. old ++ line) (sym (line_apart f x xs))))

-- ---- the third line

paged : (front table rest end : List ℕ) → (front ++ 9 ∷ (table ++ rest)) ++ end ≡ (front ++ 9 ∷ []) ++ ((table ++ rest) ++ end)
paged front table rest end =
    ap (λ line. line ++ end) (sym (append_assoc front (9 ∷ []) (table ++ rest)))
    ∙ append_assoc (front ++ 9 ∷ []) (table ++ rest) end

pub keys_apart : (head : KeysDef) → line_of (key_fields head) ≡ page_front head.page ++ ((text_field head.table ++ flat_map (λ key. 9 ∷ text_field key) head.keys) ++ 13 ∷ 10 ∷ [])
keys_apart head = by_page head.page
  where
    by_page : (page : Option ℕ) → line_of (key_fields (record head { page = page })) ≡ page_front page ++ ((text_field head.table ++ flat_map (λ key. 9 ∷ text_field key) head.keys) ++ 13 ∷ 10 ∷ [])
    by_page None = line_apart text_field head.table head.keys
    by_page (Some page) =
        ap (λ rest. (decimal page ++ 9 ∷ (text_field head.table ++ rest)) ++ 13 ∷ 10 ∷ []) (flat_map-map (λ other. 9 ∷ other) text_field head.keys)
        ∙ paged (decimal page) (text_field head.table) (flat_map (λ key. 9 ∷ text_field key) head.keys) (13 ∷ 10 ∷ [])

pub keys_written : (head : KeysDef) (i : ℕ) (old paged begun gone new : List ℕ) → length head.keys ≤ i → paged ≡ old ++ page_front head.page → begun ≡ paged ++ text_field head.table → gone ≡ begun ++ flat_map (λ key. 9 ∷ text_field key) (take i head.keys) → new ≡ gone ++ 13 ∷ 10 ∷ [] → new ≡ old ++ line_of (key_fields head)
keys_written head i old paged begun gone new l p b g n =
    n
    ∙ (ap (λ front. front ++ 13 ∷ 10 ∷ []) (g ∙ (ap (λ ks. begun ++ flat_map (λ key. 9 ∷ text_field key) ks) (take_all i head.keys l) ∙ ap (λ front. front ++ flat_map (λ key. 9 ∷ text_field key) head.keys) b))
    ∙ (regrouped paged (text_field head.table) (flat_map (λ key. 9 ∷ text_field key) head.keys) (13 ∷ 10 ∷ [])
    ∙ (ap (λ front. front ++ ((text_field head.table ++ flat_map (λ key. 9 ∷ text_field key) head.keys) ++ 13 ∷ 10 ∷ [])) p
    ∙ (append_assoc old (page_front head.page) ((text_field head.table ++ flat_map (λ key. 9 ∷ text_field key) head.keys) ++ 13 ∷ 10 ∷ [])
    ∙ ap (λ line. old ++ line) (sym (keys_apart head))))))

-- ---- what a last call that writes tells

pub when_pushed : {X E : Type 0} (r : Result X E) (before end new : List ℕ) (P : Type 0) → new ≡ cond (is_ok r) (before ++ end) before → (new ≡ before ++ end → P) → OnOk r P
when_pushed (Ok x) before end new P h f = f h
when_pushed (Err e) before end new P h f = tt
