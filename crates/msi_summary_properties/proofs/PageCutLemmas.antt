-- Bytes read as one text are cut where a character begins in each page.
use Rattle.std.proofs.Common.{◌≡◌, ℕ, suc, Bool, ◌+◌, ◌<◌, ◌≤◌, ◌⊎◌, inl, inr, true, false, List, [], ◌∷◌, ◌++◌, length, eqb, lt-ltb, map, Option, Some, None, is_some, encode_utf8_all, refl, sym, ap, ◌∙◌, arith}
use Rattle.std.specs.Prelude.{nat_lt}
use Rattle.std.proofs.lemmas.Bool.{and_from}
use Rattle.std.proofs.lemmas.Bool.Decides.{nat_tests}
use Rattle.std.proofs.lemmas.List.{append-nil, append_assoc, length-append, length-map, map-append}
use Rattle.std.proofs.lemmas.Str.{encodes-append, length-le-encodes}
use Rattle.std.proofs.Math.Utf8.{encode}
use Rattle.bstr.specs.Utf8.{Decoded, continues, decoded, good, lossy_chars, or_replacement, pieces, pieces_from}
use Rattle.bstr.proofs.lemmas.PieceLemmas.{pieces-append, pieces-nil, pieces-step}
use Rattle.msi_base.specs.declared.codepage.CodePage.{CodePage}
use Rattle.msi_base.specs.declared.codepage.CodePage.TheVariants as page
use Rattle.msi_base.specs.PageTables.{character_read, upper_characters}
use Rattle.msi_base.specs.Pages.{bytes_in, is_ascii, single_byte_spelling, single_byte_text, Reads}
use Rattle.msi_base.proofs.BoolLemmas.{by_test}
use Rattle.msi_base.proofs.PagesLemmas.{ascii_stands_for_itself}
use Rattle.msi_summary_properties.specs.SharedTexts.{ReadsAll, page_for_all, reads_any}

-- nothing stands on the left, or ASCII does at its end or on the right at the beginning
abbrev pub Breaks : List ℕ → List ℕ → Type 0
Breaks xs ys = (xs ≡ []) ⊎ ((front : List ℕ) × (b : ℕ) × (b < 0x80) × (xs ≡ front ++ b ∷ [])) ⊎ ((c : ℕ) × (rest : List ℕ) × (c < 0x80) × (ys ≡ c ∷ rest)) ⊎ (ys ≡ [])

ascii_first : (b : ℕ) (ys : List ℕ) → b < 0x80 → decoded (b ∷ ys) ≡ good b 1
ascii_first b ys small = rw (some, lt-ltb b 0x80 small) refl
  where
    some : eqb (length (b ∷ ys)) 0 ≡ false
    some = grind (arith, nat_tests)

pieces-ascii : (b : ℕ) (ys : List ℕ) → b < 0x80 → pieces (b ∷ ys) ≡ good b 1 ∷ pieces ys
pieces-ascii b ys small = pieces-step (b ∷ ys) (omega arith) ∙ rw (ascii_first b ys small) refl

starts : (b : ℕ) → b < 0x80 → continues b ≡ false
starts b small = grind (arith, nat_tests)

pieces-before : (xs ys : List ℕ) (b : ℕ) → b < 0x80 → pieces (xs ++ b ∷ ys) ≡ pieces xs ++ pieces (b ∷ ys)
pieces-before xs ys b small = pieces-append (length xs) xs (b ∷ ys) (omega arith) (λ some. starts b small)

pieces-behind : (front ys : List ℕ) (b : ℕ) → b < 0x80 → pieces ((front ++ b ∷ []) ++ ys) ≡ pieces (front ++ b ∷ []) ++ pieces ys
pieces-behind front ys b small =
    let whole : pieces ((front ++ b ∷ []) ++ ys) ≡ pieces front ++ (good b 1 ∷ pieces ys) =
    ap pieces (append_assoc front (b ∷ []) ys) ∙ pieces-before front ys b small ∙ ap (λ (l : List Decoded). pieces front ++ l) (pieces-ascii b ys small) in
    let left : pieces (front ++ b ∷ []) ≡ pieces front ++ (good b 1 ∷ []) =
    pieces-before front [] b small ∙ ap (λ (l : List Decoded). pieces front ++ l) (pieces-ascii b [] small ∙ ap (λ (l : List Decoded). good b 1 ∷ l) pieces-nil) in
    whole ∙ sym (append_assoc (pieces front) (good b 1 ∷ []) (pieces ys)) ∙ ap (λ (l : List Decoded). l ++ pieces ys) (sym left)

lossy-joined : (xs ys : List ℕ) → Breaks xs ys → lossy_chars (xs ++ ys) ≡ lossy_chars xs ++ lossy_chars ys
lossy-joined xs ys breaks = ap (λ (l : List Decoded). map (λ p. or_replacement p.char) l) (joined breaks) ∙ map-append (λ p. or_replacement p.char) (pieces xs) (pieces ys)
  where
    joined : Breaks xs ys → pieces (xs ++ ys) ≡ pieces xs ++ pieces ys
    joined (inl none) = rw none (ap (λ (l : List Decoded). l ++ pieces ys) (sym pieces-nil))
    joined (inr (inl (front, b, small, is))) = rw is (pieces-behind front ys b small)
    joined (inr (inr (inl (c, rest, small, is)))) = rw is (pieces-before xs rest c small)
    joined (inr (inr (inr none))) = rw none (ap pieces (append-nil xs) ∙ sym (append-nil (pieces xs)) ∙ ap (λ (l : List Decoded). pieces xs ++ l) (sym pieces-nil))

-- ---- pages that read any bytes

abbrev pub reads_high : Option (List ℕ) → Bool
reads_high upper = is_some (single_byte_text upper (0x80 ∷ []))

single_all : (upper : Option (List ℕ)) (bytes : List ℕ) → reads_high upper ≡ true → is_some (single_byte_text upper bytes) ≡ true
single_all (Some upper) bytes h = refl
single_all None bytes h = cc

pub reads_all : (page : CodePage) → reads_any page ≡ true → ReadsAll page
reads_all page.Utf8 h bytes = refl
reads_all page h bytes = single_all (upper_characters page) bytes h

same_Some : {X : Type 0} (x y : X) → Some x ≡ Some y → x ≡ y
same_Some x y e = cc

single_joined : (upper : Option (List ℕ)) (xs ys a b : List ℕ) → reads_high upper ≡ true → single_byte_text upper xs ≡ Some a → single_byte_text upper ys ≡ Some b → single_byte_text upper (xs ++ ys) ≡ Some (a ++ b)
single_joined (Some upper) xs ys a b h left right =
    let p : encode_utf8_all (map (character_read upper) xs) ≡ a = same_Some _ a left in
    let q : encode_utf8_all (map (character_read upper) ys) ≡ b = same_Some _ b right in
    ap (λ (cs : List ℕ). Some (encode_utf8_all cs)) (map-append (character_read upper) xs ys) ∙ ap Some (encodes-append (map (character_read upper) xs) (map (character_read upper) ys)) ∙ rw (p, q) refl
single_joined None xs ys a b h left right = cc

-- what the left and the right read as stand one behind the other
pub reads_joined : (page : CodePage) (xs ys a b : List ℕ) → reads_any page ≡ true → Breaks xs ys → Reads page xs a → Reads page ys b → Reads page (xs ++ ys) (a ++ b)
reads_joined page.Utf8 xs ys a b h breaks left right =
    let p : encode_utf8_all (lossy_chars xs) ≡ a = same_Some _ a left in
    let q : encode_utf8_all (lossy_chars ys) ≡ b = same_Some _ b right in
    ap (λ (cs : List ℕ). Some (encode_utf8_all cs)) (lossy-joined xs ys breaks) ∙ ap Some (encodes-append (lossy_chars xs) (lossy_chars ys)) ∙ rw (p, q) refl
reads_joined page xs ys a b h breaks left right = single_joined (upper_characters page) xs ys a b h left right

-- nothing reads as nothing
pub reads_nothing : (page : CodePage) → reads_any page ≡ true → Reads page [] []
unfolding pieces_from
reads_nothing page.Utf8 h = refl
reads_nothing page h = none (upper_characters page)
  where
    none : (upper : Option (List ℕ)) → single_byte_text upper [] ≡ Some []
    none (Some upper) = refl
    none None = refl

-- ---- pages that have ASCII alone are read as US-ASCII, where any other byte takes three

abbrev ascii_chars : List ℕ → List ℕ
ascii_chars bytes = map (character_read []) bytes

ascii_by_length : (bytes : List ℕ) → length (encode_utf8_all (ascii_chars bytes)) ≡ length bytes → is_ascii bytes ≡ true
unfolding encode
ascii_by_length [] e = refl
ascii_by_length (b ∷ bytes) e = by_test (nat_lt b 0x80) (small (ascii_by_length bytes)) large
  where
    long : length bytes ≤ length (encode_utf8_all (ascii_chars bytes))
    long = omega (arith, length-map bytes (character_read []), length-le-encodes (ascii_chars bytes))

    joined : length (encode (character_read [] b)) + length (encode_utf8_all (ascii_chars bytes)) ≡ suc (length bytes)
    joined = sym (length-append (encode (character_read [] b)) (encode_utf8_all (ascii_chars bytes))) ∙ e

    some : 1 ≤ length (encode (character_read [] b))
    some = omega (arith, length-le-encodes (character_read [] b ∷ []), ap length (append-nil (encode (character_read [] b))))

    small : (length (encode_utf8_all (ascii_chars bytes)) ≡ length bytes → is_ascii bytes ≡ true) → nat_lt b 0x80 ≡ true → is_ascii (b ∷ bytes) ≡ true
    small others s = and_from (nat_lt b 0x80) (is_ascii bytes) s (others (omega (arith, long, joined, some)))

    large : nat_lt b 0x80 ≡ false → is_ascii (b ∷ bytes) ≡ true
    large s =
        let three : length (encode (character_read [] b)) ≡ 3 = rw s refl in
        absurd (omega (arith, long, joined, three))

pub reads_ascii : (p : CodePage) (bytes text : List ℕ) → Reads page.UsAscii bytes text → length text ≡ length bytes → Reads p bytes text
reads_ascii p bytes text reads same =
    let is : encode_utf8_all (ascii_chars bytes) ≡ text = same_Some _ text reads in
    let ascii = ascii_by_length bytes (ap length is ∙ same) in
    (ascii_stands_for_itself p bytes ascii).1 ∙ sym (ascii_stands_for_itself page.UsAscii bytes ascii).1 ∙ reads

-- the page that a stream is read in reads any bytes
pub own_page : (p : CodePage) → reads_any p ≡ true → page_for_all p ≡ p
own_page p any = rw any refl

pub other_page : (p : CodePage) → reads_any p ≡ false → page_for_all p ≡ page.UsAscii
other_page p lacks = rw lacks refl

pub for_all_any : (page : CodePage) → reads_any (page_for_all page) ≡ true
for_all_any page = by_test (reads_any page) (λ yes. rw yes yes) (λ no. rw no refl)

-- what `carries` tells of a character past ASCII
pub carries_high : (page : CodePage) → is_some (bytes_in page (0xC2 ∷ 0x80 ∷ [])) ≡ reads_any page
carries_high page.Utf8 = refl
carries_high page = by (upper_characters page)
  where
    by : (upper : Option (List ℕ)) → is_some (single_byte_spelling upper (0xC2 ∷ 0x80 ∷ [])) ≡ reads_high upper
    by (Some upper) = refl
    by None = refl
