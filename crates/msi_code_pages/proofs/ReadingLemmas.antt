-- What callers need of reading bytes.
use Rattle.std.proofs.Common.{◌≡◌, ℕ, ◌+◌, ◌<◌, ◌≤◌, take, drop, length-drop, Bool, eqb, eqb-true, true, false, cond, ◌&&◌, List, [], ◌∷◌, ◌++◌, map, length, Option, Some, None, is_some, option_map, encode_utf8, encode_utf8_all, refl, sym, ap, ◌∙◌, arith, append_assoc}
use Rattle.std.specs.List.{list_all}
use Rattle.std.specs.Prelude.{not}
use Rattle.std.proofs.lemmas.Bool.{and_from}
use Rattle.std.proofs.lemmas.List.{length-take-le}
use Rattle.msi_base.proofs.OptionLemmas.{none_is, some_there, none_there, map_some}
use Rattle.msi_base.proofs.BoolLemmas.{by_test, yes_is_no}
use Rattle.msi_code_pages.specs.declared.page.Page.{Page}
use Rattle.msi_code_pages.specs.Sequences.{is_lead, character_of}
use Rattle.msi_code_pages.specs.Reading.{sequences, text_of, text_in, place_unmapped, first_unmapped, character_read}
use Rattle.msi_code_pages.proofs.PresentLemmas.{all_there, one_missing}

-- less is left behind a sequence
pub shorter : (rest later : List ℕ) (n : ℕ) → later ≡ drop n rest → 0 < n → n ≤ length rest → length later < length rest
shorter rest later n is some within = omega (arith, ap length is, length-drop n rest)

-- one sequence more is read
pub text_more : (page : Page) (whole text s : List ℕ) (c : ℕ) (ss later : List (List ℕ)) → ss ≡ s ∷ later
    → c ≡ character_read page s → whole ≡ text ++ encode_utf8_all (map (character_read page) ss)
    → whole ≡ (text ++ encode_utf8 c) ++ encode_utf8_all (map (character_read page) later)
text_more page whole text s c ss later split is h =
    h
    ∙ ap (λ ts. text ++ encode_utf8_all (map (character_read page) ts)) split
    ∙ ap (λ d. text ++ (encode_utf8 d ++ encode_utf8_all (map (character_read page) later))) (sym is)
    ∙ sym (append_assoc text (encode_utf8 c) (encode_utf8_all (map (character_read page) later)))

-- the first sequence stands for no character, or the first that doesn't is among the others
unmapped_here : (page : Page) (s : List ℕ) (ss later : List (List ℕ)) → ss ≡ s ∷ later
    → is_some (character_of page s) ≡ false → place_unmapped page ss ≡ Some 0
unfolding place_unmapped
unmapped_here page s ss later split none =
    ap (place_unmapped page) split ∙ ap (λ b. cond b (option_map (λ n. length s + n) (place_unmapped page later)) (Some 0)) none

unmapped_later : (page : Page) (s : List ℕ) (ss later : List (List ℕ)) → ss ≡ s ∷ later
    → is_some (character_of page s) ≡ true → place_unmapped page ss ≡ option_map (λ n. length s + n) (place_unmapped page later)
unfolding place_unmapped
unmapped_later page s ss later split there =
    ap (place_unmapped page) split ∙ ap (λ b. cond b (option_map (λ n. length s + n) (place_unmapped page later)) (Some 0)) there

none_unmapped : (page : Page) → place_unmapped page [] ≡ None
unfolding place_unmapped
none_unmapped page = refl

added_twice : (m n : ℕ) (o : Option ℕ) → option_map (λ k. m + k) (option_map (λ k. n + k) o) ≡ option_map (λ k. (m + n) + k) o
added_twice m n None = refl
added_twice m n (Some k) = ap Some (omega arith)

-- the search so far: what is left begins with a sequence that stands for no character, or for one
pub unmapped_found : (page : Page) (bytes rest : List ℕ) (place n : ℕ) (o : Option ℕ) (b : Bool)
    → first_unmapped page bytes ≡ option_map (λ k. place + k) (first_unmapped page rest)
    → sequences (is_lead page) rest ≡ take n rest ∷ sequences (is_lead page) (drop n rest)
    → o ≡ character_of page (take n rest) → is_some o ≡ not b → b ≡ true → Some place ≡ first_unmapped page bytes
unmapped_found page bytes rest place n o b so_far split is test missing =
    let none = sym (ap is_some is) ∙ test ∙ ap not missing in
    let here = unmapped_here page (take n rest) (sequences (is_lead page) rest) (sequences (is_lead page) (drop n rest)) split none in
    sym (so_far ∙ ap (option_map (λ k. place + k)) here ∙ ap Some (omega arith))

pub mapped_passed : (page : Page) (bytes rest after : List ℕ) (place n : ℕ) (o : Option ℕ) (b : Bool)
    → first_unmapped page bytes ≡ option_map (λ k. place + k) (first_unmapped page rest)
    → sequences (is_lead page) rest ≡ take n rest ∷ sequences (is_lead page) (drop n rest)
    → o ≡ character_of page (take n rest) → is_some o ≡ not b → b ≡ false → n ≤ length rest → after ≡ drop n rest
    → first_unmapped page bytes ≡ option_map (λ k. (place + n) + k) (first_unmapped page after)
mapped_passed page bytes rest after place n o b so_far split is test present within left =
    let there = sym (ap is_some is) ∙ test ∙ ap not present in
    let later = unmapped_later page (take n rest) (sequences (is_lead page) rest) (sequences (is_lead page) (drop n rest)) split there in
    so_far ∙ ap (option_map (λ k. place + k)) (later ∙ ap (λ m. option_map (λ k. m + k) (first_unmapped page (drop n rest))) (length-take-le n rest within))
    ∙ added_twice place n (first_unmapped page (drop n rest))
    ∙ ap (λ bs. option_map (λ k. (place + n) + k) (first_unmapped page bs)) (sym left)

-- nothing is left
pub all_passed : (page : Page) (bytes rest : List ℕ) (place : ℕ) (ended : Bool)
    → first_unmapped page bytes ≡ option_map (λ k. place + k) (first_unmapped page rest)
    → ended ≡ eqb (length rest) 0 → ended ≡ true → None ≡ first_unmapped page bytes
all_passed page bytes [] place ended so_far is at_end = sym (so_far ∙ ap (option_map (λ k. place + k)) (none_unmapped page))
all_passed page bytes (b ∷ bs) place ended so_far is at_end =
    let none : length (b ∷ bs) ≡ 0 = eqb-true (length (b ∷ bs)) 0 (sym is ∙ at_end) in
    absurd (omega arith)

map_none : {X Y : Type 0} (f : X → Y) (o : Option X) → option_map f o ≡ None → o ≡ None
map_none f None h = refl
map_none f (Some x) h = absurd cc

all_mapped : (page : Page) (ss : List (List ℕ)) → place_unmapped page ss ≡ None
    → list_all (λ s. is_some (character_of page s)) ss ≡ true
unfolding place_unmapped
all_mapped page [] h = refl
all_mapped page (s ∷ ss) h =
    let either : Bool → Option ℕ = λ b. cond b (option_map (λ n. length s + n) (place_unmapped page ss)) (Some 0) in
    by_test (is_some (character_of page s))
    (λ there. and_from (is_some (character_of page s)) (list_all (λ t. is_some (character_of page t)) ss) there
    (all_mapped page ss (map_none (λ n. length s + n) (place_unmapped page ss) (sym (ap either there) ∙ h))))
    (λ none. none_is (sym h ∙ ap either none))

one_unmapped : (page : Page) (ss : List (List ℕ)) (n : ℕ) → place_unmapped page ss ≡ Some n
    → list_all (λ s. is_some (character_of page s)) ss ≡ false
unfolding place_unmapped
one_unmapped page [] n h = none_is h
one_unmapped page (s ∷ ss) n h =
    let others = list_all (λ t. is_some (character_of page t)) ss in
    by_test (is_some (character_of page s))
    (λ there.
    let later = map_some (place_unmapped page ss) (λ k. length s + k) n (sym (ap (λ b. cond b (option_map (λ k. length s + k) (place_unmapped page ss)) (Some 0)) there) ∙ h) in
    ap (λ b. b && others) there ∙ one_unmapped page ss later.0 later.1)
    (λ none. ap (λ b. b && others) none)

text_refused : (page : Page) (bytes : List ℕ) → is_some (first_unmapped page bytes) ≡ true → text_in page bytes ≡ None
unfolding text_of
text_refused page bytes h =
    let ss = sequences (is_lead page) bytes in
    ap (option_map encode_utf8_all) (one_missing (character_of page) ss (one_unmapped page ss _ (some_there (place_unmapped page ss) 0 h)))

text_is : (page : Page) (bytes : List ℕ) → is_some (first_unmapped page bytes) ≡ false
    → text_in page bytes ≡ Some (encode_utf8_all (map (character_read page) (sequences (is_lead page) bytes)))
unfolding text_of
text_is page bytes h =
    let ss = sequences (is_lead page) bytes in
    ap (option_map encode_utf8_all) (all_there (character_of page) 0xFFFD ss (all_mapped page ss (none_there (place_unmapped page ss) h)))

-- whether no sequence is unmapped tells whether the bytes have a text, and which
pub readable : (page : Page) (bytes : List ℕ) (b : Bool) → is_some (first_unmapped page bytes) ≡ not b
    → b ≡ is_some (text_in page bytes)
readable page bytes true is = sym (ap is_some (text_is page bytes is))
readable page bytes false is = sym (ap is_some (text_refused page bytes is))

pub text_there : (page : Page) (bytes : List ℕ) → is_some (text_in page bytes) ≡ true
    → text_in page bytes ≡ Some (encode_utf8_all (map (character_read page) (sequences (is_lead page) bytes)))
text_there page bytes there = by_test (is_some (first_unmapped page bytes))
    (λ unmapped. yes_is_no (is_some (text_in page bytes)) there (ap is_some (text_refused page bytes unmapped)))
    (λ mapped. text_is page bytes mapped)
