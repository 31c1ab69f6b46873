-- What is written of the values of a set: their bytes, their places, and the section.
use Rattle.std.proofs.Common.{◌≡◌, ℕ, suc, ◌+◌, ◌-◌, ◌*◌, ◌%◌, ◌^◌, ◌<◌, ◌≤◌, Bool, true, false, ltb, ◌&&◌, List, [], ◌∷◌, ◌++◌, length, map, Option, Some, None, Result, Ok, Err, replicate, refl, sym, ap, subst, ◌∙◌, append_assoc, arith}
use Rattle.std.specs.Prelude.{is_some, not, option_map, option_and_then, unwrap_or, zip, IsTrue, IfErr, IsErrOf}
use Rattle.std.specs.List.{flat_map}
use Rattle.std.specs.Int.{w32, to_le_bytes}
use Rattle.std.proofs.lemmas.Bool.{and_parts, not-false, ltb-true, ltb-false, lt-ltb, le-ltb}
use Rattle.std.proofs.lemmas.List.{append-nil, length-append, length-map, length-replicate}
use Rattle.std.proofs.lemmas.List.Folds.{flat_map-map}
use Rattle.msi_base.specs.declared.codepage.CodePage.{CodePage}
use Rattle.msi_base.specs.declared.errors.ErrorKind.{ErrorKind}
use Rattle.msi_base.specs.declared.errors.ErrorKind.TheVariants.{InvalidInput, OutOfMemory}
use Rattle.msi_base.specs.Lists.{all_present}
use Rattle.msi_base.proofs.OptionLemmas.{some_is, some_there}
use Rattle.msi_pool.specs.PoolWriting.{is_refused_spelling}
use Rattle.msi_summary_properties.specs.declared.propset.PropertyValue.{PropertyValue}
use Rattle.msi_summary_properties.specs.Properties.{Properties, page_of}
use Rattle.msi_summary_properties.specs.PropertyStream.{value_bytes, padded_to_four, piece_of, ids_of, section_of, section_bytes, section_head, pair_bytes, places_from, header_bytes, least_version, property_stream}
use Rattle.msi_summary_properties.specs.PropertyWriting.{is_refused, is_carried, can_write, piece_in, pieces_in, joined_pieces, pairs_from, section_size}

-- ---- one value

pub length-padded : (bytes : List ℕ) → length (padded_to_four bytes) ≡ length bytes + (4 - length bytes % 4) % 4
length-padded bytes = length-append bytes (replicate ((4 - length bytes % 4) % 4) 0) ∙ ap (λ n. length bytes + n) (length-replicate ((4 - length bytes % 4) % 4) 0)

untold_long : (bytes : List ℕ) → is_refused_spelling (Some bytes) ≡ true → 2 ^ 32 ≤ length bytes
untold_long bytes untold = ltb-false (length bytes) (2 ^ 32) (flipped (ltb (length bytes) (2 ^ 32)) untold)
  where
    flipped : (b : Bool) → not b ≡ true → b ≡ false
    flipped true e = cc
    flipped false e = refl

long_untold : (bytes : List ℕ) → 2 ^ 32 ≤ length bytes → is_refused_spelling (Some bytes) ≡ true
long_untold bytes long = ap not (le-ltb (length bytes) (2 ^ 32) long)

told_short : (bytes : List ℕ) → is_refused_spelling (Some bytes) ≡ false → length bytes < 2 ^ 32
told_short bytes told = ltb-true (length bytes) (2 ^ 32) (not-false _ told)

short_told : (bytes : List ℕ) → length bytes < 2 ^ 32 → is_refused_spelling (Some bytes) ≡ false
short_told bytes short = ap not (lt-ltb (length bytes) (2 ^ 32) short)

pub padded_told : (o : Option (List ℕ)) → is_refused_spelling (option_map padded_to_four o) ≡ false → is_refused_spelling o ≡ false
padded_told None told = told
padded_told (Some bytes) told =
    let short : length (padded_to_four bytes) < 2 ^ 32 = told_short (padded_to_four bytes) told in
    let padded = length-padded bytes in
    short_told bytes (omega arith)

-- a value that is refused is refused with its padding too
pub untold_padded : (o : Option (List ℕ)) → is_refused_spelling o ≡ true → is_refused_spelling (option_map padded_to_four o) ≡ true
untold_padded None untold = untold
untold_padded (Some bytes) untold =
    let long : 2 ^ 32 ≤ length bytes = untold_long bytes untold in
    let padded = length-padded bytes in
    long_untold (padded_to_four bytes) (omega arith)

-- how long a value of n bytes is with its padding
pub sized_padded : (o : Option (List ℕ)) (n pad : ℕ) → option_map length o ≡ Some n → pad ≡ (4 - n % 4) % 4
    → n + pad ≡ length (unwrap_or (option_map padded_to_four o) [])
sized_padded None n pad size e = absurd cc
sized_padded (Some bytes) n pad size e =
    let is : length bytes ≡ n = some_is (length bytes) n size in
    ap (λ k. n + k) e ∙ ap (λ k. k + (4 - k % 4) % 4) (sym is) ∙ sym (length-padded bytes)

pub padded_written : (o : Option (List ℕ)) (held : List ℕ) (pad : ℕ) → is_refused_spelling o ≡ false → pad ≡ (4 - length (unwrap_or o []) % 4) % 4
    → (held ++ unwrap_or o []) ++ replicate pad 0 ≡ held ++ unwrap_or (option_map padded_to_four o) []
padded_written None held pad told e = cc
padded_written (Some bytes) held pad told e = append_assoc held bytes (replicate pad 0) ∙ ap (λ n. held ++ (bytes ++ replicate n 0)) e

piece_there : (page : CodePage) (v : PropertyValue) → is_some (value_bytes page v) ≡ true → piece_of page v ≡ Some (piece_in page v)
piece_there page v there = some_there (piece_of page v) [] (mapped (value_bytes page v) there)
  where
    mapped : (o : Option (List ℕ)) → is_some o ≡ true → is_some (option_map padded_to_four o) ≡ true
    mapped None e = e
    mapped (Some bytes) e = refl

-- ---- the values in order

pub carried_first : (page : CodePage) (e : ℕ × PropertyValue) (es : List (ℕ × PropertyValue)) → is_carried page (e ∷ es) ≡ true → (is_some (value_bytes page e.1) ≡ true) × (is_carried page es ≡ true)
carried_first page e es carried = and_parts (is_some (value_bytes page e.1)) (is_carried page es) carried

pub length-values : (page : CodePage) (e : ℕ × PropertyValue) (es : List (ℕ × PropertyValue)) → length (joined_pieces page (e ∷ es)) ≡ length (piece_in page e.1) + length (joined_pieces page es)
length-values page e es = length-append (piece_in page e.1) (joined_pieces page es)

-- a value that is carried, among few bytes
pub first_told : (page : CodePage) (e : ℕ × PropertyValue) (es : List (ℕ × PropertyValue)) → is_carried page (e ∷ es) ≡ true → length (joined_pieces page (e ∷ es)) < 2 ^ 32 → is_refused_spelling (piece_of page e.1) ≡ false
first_told page e es carried room =
    let first = carried_first page e es carried in
    let long = length-values page e es in
    ap is_refused_spelling (piece_there page e.1 first.0) ∙ short_told (piece_in page e.1) (omega arith)

-- the same, of a value among others
pub told_at : (page : CodePage) (here rest : List (ℕ × PropertyValue)) (id : ℕ) (v : PropertyValue) → here ≡ (id, v) ∷ rest → is_carried page here ≡ true → length (joined_pieces page here) < 2 ^ 32 → is_refused_spelling (piece_of page v) ≡ false
told_at page here rest id v is carried room =
    first_told page (id, v) rest (ap (is_carried page) (sym is) ∙ carried) (subst (λ (es : List (ℕ × PropertyValue)). length (joined_pieces page es) < 2 ^ 32) is room)

right_false : (b : Bool) → b && false ≡ false
right_false true = refl
right_false false = refl

pub long_refused : (carried : Bool) (n : ℕ) → 2 ^ 32 ≤ n → carried && ltb n (2 ^ 32) ≡ false
long_refused carried n past = ap (λ b. carried && b) (le-ltb n (2 ^ 32) past) ∙ right_false carried

-- a value that can't be written makes a section that can't
first_untold : (page : CodePage) (size : ℕ) (e : ℕ × PropertyValue) (es : List (ℕ × PropertyValue)) (o : Option (List ℕ)) → value_bytes page e.1 ≡ o → is_refused_spelling (option_map padded_to_four o) ≡ true
    → is_carried page (e ∷ es) && ltb (size + 8 * length (e ∷ es) + length (joined_pieces page (e ∷ es))) (2 ^ 32) ≡ false
first_untold page size e es None is untold = ap (λ (o : Option (List ℕ)). (is_some o && is_carried page es) && ltb (size + 8 * length (e ∷ es) + length (joined_pieces page (e ∷ es))) (2 ^ 32)) is
first_untold page size e es (Some bytes) is untold =
    let piece : piece_in page e.1 ≡ padded_to_four bytes = ap (λ (o : Option (List ℕ)). unwrap_or (option_map padded_to_four o) []) is in
    let long : 2 ^ 32 ≤ length (padded_to_four bytes) = untold_long (padded_to_four bytes) untold in
    let same = ap length piece in
    let sum = length-values page e es in
    let past : 2 ^ 32 ≤ size + 8 * length (e ∷ es) + length (joined_pieces page (e ∷ es)) = omega arith in
    long_refused (is_carried page (e ∷ es)) _ past

-- the same, of a value among others
pub value_untold : (page : CodePage) (size : ℕ) (all here rest : List (ℕ × PropertyValue)) (id : ℕ) (v : PropertyValue)
    → here ≡ (id, v) ∷ rest
    → size + 8 * length here + length (joined_pieces page here) ≡ section_size page all
    → is_carried page here ≡ is_carried page all
    → is_refused_spelling (piece_of page v) ≡ true
    → can_write page all ≡ false
value_untold page size all here rest id v is sizes carried untold =
    ap (λ n. is_carried page all && ltb n (2 ^ 32)) (sym sizes)
    ∙ ap (λ b. b && ltb (size + 8 * length here + length (joined_pieces page here)) (2 ^ 32)) (sym carried)
    ∙ ap (λ es. is_carried page es && ltb (size + 8 * length es + length (joined_pieces page es)) (2 ^ 32)) is
    ∙ first_untold page size (id, v) rest (value_bytes page v) refl untold

-- a loop over the values: what holds of those that are left holds behind the first of them
module _ (page : CodePage) (here rest : List (ℕ × PropertyValue)) (id : ℕ) (v : PropertyValue) (is : here ≡ (id, v) ∷ rest) where
  pub carried_rest : is_carried page here ≡ true → is_carried page rest ≡ true
  carried_rest carried = (carried_first page (id, v) rest (ap (is_carried page) (sym is) ∙ carried)).1

  pub room_rest : length (joined_pieces page here) < 2 ^ 32 → length (joined_pieces page rest) < 2 ^ 32
  room_rest room =
      let all : length (joined_pieces page ((id, v) ∷ rest)) < 2 ^ 32 = subst (λ (es : List (ℕ × PropertyValue)). length (joined_pieces page es) < 2 ^ 32) is room in
      let long = length-values page (id, v) rest in
      omega arith

  pub written_rest : (old new whole : List ℕ) → old ++ joined_pieces page here ≡ whole → new ≡ old ++ piece_in page v → new ++ joined_pieces page rest ≡ whole
  written_rest old new whole written pushed =
      ap (λ (bytes : List ℕ). bytes ++ joined_pieces page rest) pushed
      ∙ append_assoc old (piece_in page v) (joined_pieces page rest)
      ∙ ap (λ (es : List (ℕ × PropertyValue)). old ++ joined_pieces page es) (sym is) ∙ written

  pub sized_rest : (size next len whole : ℕ) → size + 8 * length here + length (joined_pieces page here) ≡ whole → len ≡ length (piece_in page v) → next ≡ size + (8 + len)
      → next + 8 * length rest + length (joined_pieces page rest) ≡ whole
  sized_rest size next len whole sizes len_is next_is =
      let all : size + 8 * length ((id, v) ∷ rest) + length (joined_pieces page ((id, v) ∷ rest)) ≡ whole =
      ap (λ (es : List (ℕ × PropertyValue)). size + 8 * length es + length (joined_pieces page es)) (sym is) ∙ sizes in
      let long = length-values page (id, v) rest in
      omega arith

  pub carried_too : (b : Bool) → is_carried page here ≡ b → is_some (value_bytes page v) ≡ true → is_carried page rest ≡ b
  carried_too b carried there =
      ap (λ (x : Bool). x && is_carried page rest) (sym there) ∙ ap (is_carried page) (sym is) ∙ carried

-- and none is left at the end
module _ (page : CodePage) (here all : List (ℕ × PropertyValue)) (is : here ≡ []) where
  pub written_all : (held whole : List ℕ) → held ++ joined_pieces page here ≡ whole → held ≡ whole
  written_all held whole written =
      sym (append-nil held) ∙ ap (λ (es : List (ℕ × PropertyValue)). held ++ joined_pieces page es) (sym is) ∙ written

  pub sized_all : (size whole : ℕ) → size + 8 * length here + length (joined_pieces page here) ≡ whole → size ≡ whole
  sized_all size whole sizes =
      let none : size + 8 * 0 + 0 ≡ whole = ap (λ (es : List (ℕ × PropertyValue)). size + 8 * length es + length (joined_pieces page es)) (sym is) ∙ sizes in
      omega arith

  pub accepted_all : (size : ℕ) → size + 8 * length here + length (joined_pieces page here) ≡ section_size page all → size < 2 ^ 32
      → is_carried page here ≡ is_carried page all → can_write page all ≡ true
  accepted_all size sizes few carried =
      ap (λ (b : Bool). b && ltb (section_size page all) (2 ^ 32)) (sym carried ∙ ap (is_carried page) is)
      ∙ ap (λ (n : ℕ). ltb n (2 ^ 32)) (sym (sized_all size (section_size page all) sizes)) ∙ lt-ltb size (2 ^ 32) few

pub told_parts : (page : CodePage) (es : List (ℕ × PropertyValue)) → can_write page es ≡ true → (is_carried page es ≡ true) × (section_size page es < 2 ^ 32)
told_parts page es told = let parts = and_parts (is_carried page es) (ltb (section_size page es) (2 ^ 32)) told in (parts.0, ltb-true _ _ parts.1)

-- ---- the section

pieces_there : (page : CodePage) (es : List (ℕ × PropertyValue)) → is_carried page es ≡ true → all_present (map (λ e. piece_of page e.1) es) ≡ Some (pieces_in page es)
pieces_there page [] carried = refl
pieces_there page (e ∷ es) carried =
    let first = carried_first page e es carried in
    ap (option_and_then (λ x. option_map (λ xs. x ∷ xs) (all_present (map (λ e. piece_of page e.1) es)))) (piece_there page e.1 first.0)
    ∙ ap (option_map (λ xs. piece_in page e.1 ∷ xs)) (pieces_there page es first.1)

pub length-pairs : (page : CodePage) (place : ℕ) (es : List (ℕ × PropertyValue)) → length (pairs_from page place es) ≡ length es
length-pairs page place [] = refl
length-pairs page place (e ∷ es) = ap suc (length-pairs page (place + length (piece_in page e.1)) es)

length-pair_bytes : (pairs : List (ℕ × ℕ)) → length (flat_map pair_bytes pairs) ≡ 8 * length pairs
length-pair_bytes [] = refl
length-pair_bytes (p ∷ pairs) =
    let more = length-pair_bytes pairs in
    length-append (pair_bytes p) (flat_map pair_bytes pairs) ∙ omega arith

pub length-head : (size : ℕ) (pairs : List (ℕ × ℕ)) → length (section_head size pairs) ≡ 8 + 8 * length pairs
length-head size pairs =
    let each = length-pair_bytes pairs in
    let few : length (section_head size pairs) ≡ 8 + length (flat_map pair_bytes pairs) = omega arith in
    omega arith

-- the section of values that the page carries
abbrev pub plain_section : CodePage → List (ℕ × PropertyValue) → List ℕ
plain_section page es = section_head (section_size page es) (pairs_from page (8 + 8 * length es) es) ++ joined_pieces page es

pub section_carried : (page : CodePage) (es : List (ℕ × PropertyValue)) → is_carried page es ≡ true → section_of page es ≡ Some (plain_section page es)
section_carried page es carried =
    let count : length (pieces_in page es) ≡ length es = length-map es (λ e. piece_in page e.1) in
    let all : flat_map (λ piece. piece) (pieces_in page es) ≡ joined_pieces page es = flat_map-map (λ piece. piece) (λ e. piece_in page e.1) es in
    let whole : ℕ → List ℕ → List ℕ = λ n bytes. section_head (8 + 8 * n + length bytes) (zip (ids_of es) (places_from (8 + 8 * n) (pieces_in page es))) ++ bytes in
    ap (option_map (section_bytes (ids_of es))) (pieces_there page es carried)
    ∙ ap (λ n. Some (whole n (flat_map (λ piece. piece) (pieces_in page es)))) count
    ∙ ap (λ bytes. Some (whole (length es) bytes)) all

pub length-section : (page : CodePage) (es : List (ℕ × PropertyValue)) → length (plain_section page es) ≡ section_size page es
length-section page es =
    let pairs = pairs_from page (8 + 8 * length es) es in
    let head = length-head (section_size page es) pairs in
    let count = length-pairs page (8 + 8 * length es) es in
    length-append (section_head (section_size page es) pairs) (joined_pieces page es) ∙ omega arith

-- what can be written is what isn't refused
pub told_is : (page : CodePage) (es : List (ℕ × PropertyValue)) → can_write page es ≡ true → is_refused_spelling (section_of page es) ≡ false
told_is page es told =
    let parts = told_parts page es told in
    let size = length-section page es in
    ap is_refused_spelling (section_carried page es parts.0) ∙ short_told (plain_section page es) (omega arith)

none : (o : Option (List (List ℕ))) (x : List ℕ) → o ≡ None → option_map (λ xs. x ∷ xs) o ≡ None
none o x is = ap (option_map (λ xs. x ∷ xs)) is

first_missing : (page : CodePage) (e : ℕ × PropertyValue) (es : List (ℕ × PropertyValue)) (o : Option (List ℕ)) → value_bytes page e.1 ≡ o
    → is_some o && is_carried page es ≡ false
    → (is_carried page es ≡ false → all_present (map (λ e. piece_of page e.1) es) ≡ None)
    → all_present (map (λ e. piece_of page e.1) (e ∷ es)) ≡ None
first_missing page e es None is carried more = ap (λ (o : Option (List ℕ)). option_and_then (λ x. option_map (λ xs. x ∷ xs) (all_present (map (λ e. piece_of page e.1) es))) (option_map padded_to_four o)) is
first_missing page e es (Some bytes) is carried more =
    ap (λ (o : Option (List ℕ)). option_and_then (λ x. option_map (λ xs. x ∷ xs) (all_present (map (λ e. piece_of page e.1) es))) (option_map padded_to_four o)) is
    ∙ none (all_present (map (λ e. piece_of page e.1) es)) (padded_to_four bytes) (more carried)

pub missing : (page : CodePage) (es : List (ℕ × PropertyValue)) → is_carried page es ≡ false → all_present (map (λ e. piece_of page e.1) es) ≡ None
missing page [] carried = cc
missing page (e ∷ es) carried = first_missing page e es (value_bytes page e.1) refl carried (missing page es)

pub untold_is : (page : CodePage) (es : List (ℕ × PropertyValue)) → can_write page es ≡ false → is_refused_spelling (section_of page es) ≡ true
untold_is page es untold = by_carried (is_carried page es) refl
  where
    by_carried : (b : Bool) → is_carried page es ≡ b → is_refused_spelling (section_of page es) ≡ true
    by_carried false is = ap (λ (o : Option (List (List ℕ))). is_refused_spelling (option_map (section_bytes (ids_of es)) o)) (missing page es is)
    by_carried true is =
        let long : 2 ^ 32 ≤ section_size page es = ltb-false _ _ (sym (ap (λ b. b && ltb (section_size page es) (2 ^ 32)) is) ∙ untold) in
        let size = length-section page es in
        ap is_refused_spelling (section_carried page es is) ∙ long_untold (plain_section page es) (omega arith)

-- ---- the stream

pub stream_carried : (set : Properties) → is_carried (page_of set) set.values ≡ true → property_stream set ≡ Some (header_bytes set (least_version set) 1 48 ++ plain_section (page_of set) set.values)
stream_carried set carried = ap (option_map (λ section. header_bytes set (least_version set) 1 48 ++ section)) (section_carried (page_of set) set.values carried)

-- the head of the section, written piece by piece
pub head_written : (size count : ℕ) (pairs : List (ℕ × ℕ)) (start sized counted held : List ℕ)
    → count ≡ length pairs
    → sized ≡ start ++ to_le_bytes w32 size
    → counted ≡ sized ++ to_le_bytes w32 count
    → held ≡ counted ++ flat_map pair_bytes pairs
    → held ≡ start ++ section_head size pairs
head_written size count pairs start sized counted held count_is sized_is counted_is held_is =
    let all = flat_map pair_bytes pairs in
    let a : List ℕ = to_le_bytes w32 size in
    let b : List ℕ = to_le_bytes w32 (length pairs) in
    held_is
    ∙ ap (λ bytes. bytes ++ all) (counted_is ∙ ap (λ bytes. bytes ++ to_le_bytes w32 count) sized_is ∙ ap (λ n. (start ++ a) ++ to_le_bytes w32 n) count_is)
    ∙ ap (λ bytes. bytes ++ all) (append_assoc start a b)
    ∙ append_assoc start (a ++ b) all

-- the header, the head of the section and the values, written one behind the other
pub stream_written : (set : Properties) (page : CodePage) (values : List (ℕ × PropertyValue)) (size : ℕ) (start headed listed held : List ℕ)
    → page ≡ page_of set
    → values ≡ set.values
    → can_write page set.values ≡ true
    → size ≡ section_size page set.values
    → start ≡ []
    → headed ≡ start ++ header_bytes set (least_version set) 1 48
    → listed ≡ headed ++ section_head size (pairs_from page (8 + 8 * length values) values)
    → held ≡ listed ++ joined_pieces page values
    → property_stream set ≡ Some held
stream_written set page values size start headed listed held page_is values_are told size_is start_is headed_is listed_is held_is =
    let header = header_bytes set (least_version set) 1 48 in
    let head : ℕ → List (ℕ × PropertyValue) → List ℕ = λ n es. section_head n (pairs_from page (8 + 8 * length es) es) in
    let carried = ap (λ p. is_carried p set.values) (sym page_is) ∙ (told_parts page set.values told).0 in
    let whole : held ≡ (header ++ head (section_size page set.values) values) ++ joined_pieces page values =
    held_is
    ∙ ap (λ bytes. bytes ++ joined_pieces page values) (listed_is ∙ ap (λ bytes. bytes ++ head size values) (headed_is ∙ ap (λ bytes. bytes ++ header) start_is) ∙ ap (λ n. header ++ head n values) size_is) in
    let is : held ≡ header ++ plain_section page set.values =
    whole
    ∙ ap (λ es. (header ++ head (section_size page set.values) es) ++ joined_pieces page es) values_are
    ∙ append_assoc header (head (section_size page set.values) set.values) (joined_pieces page set.values) in
    stream_carried set carried ∙ ap (λ p. Some (header ++ plain_section p set.values)) (sym page_is) ∙ ap Some (sym is)

-- ---- which error comes

-- what is refused is told as an input
pub refused_input : {X : Type 0} (r : Result X ErrorKind) (e : ErrorKind) (b : Bool) → r ≡ Err e → e ≡ InvalidInput → b ≡ true → (IsErrOf r InvalidInput → IsTrue b) × (IsTrue b → IsErrOf r InvalidInput)
refused_input r e b is kind refused = (λ _. refused, λ _. is ∙ ap Err kind)

-- and nothing else is
pub never_input : {X : Type 0} (r : Result X ErrorKind) (b : Bool) → IfErr r (λ kind. kind ≡ OutOfMemory) → b ≡ false → (IsErrOf r InvalidInput → IsTrue b) × (IsTrue b → IsErrOf r InvalidInput)
never_input (Ok x) b kind told = (λ is. absurd (not_ok x is), λ refused. absurd (differ (sym refused ∙ told)))
  where
    not_ok : {X : Type 0} (x : X) → IsErrOf (Ok x) InvalidInput → ⊥
    not_ok x e = cc

    differ : true ≡ false → ⊥
    differ e = cc
never_input (Err e) b kind told = (λ is. absurd (not_both is kind), λ refused. absurd (differ (sym refused ∙ told)))
  where
    not_both : {X : Type 0} {e : ErrorKind} → IsErrOf {T = X} (Err e) InvalidInput → e ≡ OutOfMemory → ⊥
    not_both is kind = cc

    differ : true ≡ false → ⊥
    differ e = cc

pub refused_is : (set : Properties) (page : CodePage) (values : List (ℕ × PropertyValue)) → page ≡ page_of set → values ≡ set.values → can_write page values ≡ false → is_refused set ≡ true
refused_is set page values page_is values_are told = untold_is (page_of set) set.values (ap (λ p. can_write p set.values) (sym page_is) ∙ ap (can_write page) (sym values_are) ∙ told)

pub told_of : (set : Properties) (page : CodePage) (values : List (ℕ × PropertyValue)) → page ≡ page_of set → values ≡ set.values → can_write page values ≡ true → is_refused set ≡ false
told_of set page values page_is values_are told = told_is (page_of set) set.values (ap (λ p. can_write p set.values) (sym page_is) ∙ ap (can_write page) (sym values_are) ∙ told)
