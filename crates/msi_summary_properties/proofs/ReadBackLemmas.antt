-- What is written of a set spells it.
use Rattle.std.proofs.Common.{◌≡◌, ℕ, zero, suc, ◌+◌, ◌-◌, ◌*◌, ◌%◌, ◌^◌, ◌<◌, Bool, true, false, cond, eqb, List, [], ◌∷◌, ◌++◌, length, map, Option, Some, None, replicate, refl, sym, ap, subst, ◌∙◌, append_assoc, arith}
use Rattle.std.specs.Prelude.{option_map, option_and_then, unwrap_or, is_some, zip}
use Rattle.std.specs.List.{list_any, AllByRecursion, AllZip}
use Rattle.std.specs.Int.{w16, w32, to_le_bytes}
use Rattle.std.proofs.lemmas.Bool.{or_left, or_right, or_from, ne_eqb}
use Rattle.std.proofs.lemmas.List.{length-append}
use Rattle.msi_base.specs.declared.codepage.CodePage.{CodePage}
use Rattle.msi_base.specs.Lists.{has_pair}
use Rattle.msi_base.specs.Pages.{bytes_in, text_in}
use Rattle.msi_summary_properties.specs.declared.propset.PropertyValue.{PropertyValue}
use Rattle.msi_summary_properties.specs.declared.propset.PropertyValue.TheVariants.{Empty, Null, I1, I2, I4, LpStr, FileTime}
use Rattle.msi_summary_properties.specs.Properties.{Properties, page_of}
use Rattle.msi_summary_properties.specs.PropertyStream.{os_number, ValueStandsAt, SpellsValue, FitsValue, FitsHeader, value_bytes, padded_to_four, needs_version_1, version_of, least_version, header_bytes, section_head, by_id, IsWritableValue, string_bytes_of}
use Rattle.msi_summary_properties.specs.PropertyLaws.{Ascending, OneSet, SetsReadBack}
use Rattle.msi_summary_properties.specs.PropertyWriting.{is_refused, can_write, piece_in, joined_pieces, pairs_from, section_size}
use Rattle.msi_base.proofs.ReadFieldLemmas.{IsBytes}
use Rattle.msi_base.proofs.OptionLemmas.{some_is}
use Rattle.msi_summary_properties.proofs.PlainSectionLemmas.{length-values, length-padded, length-pairs, length-head, told_parts, untold_is, stream_carried}
use Rattle.msi_summary_properties.proofs.PlainValueLemmas.{plain_value}
use Rattle.msi_summary_properties.proofs.SortedIdsLemmas.{sorted_same}
use Rattle.msi_summary_properties.proofs.SpelledSetLemmas.{one_set}

-- ---- the list of ids and places

pairs_fit : (q : CodePage) (place : ℕ) (es : List (ℕ × PropertyValue)) → AllByRecursion (λ e. e.0 < 2 ^ 32) es → place + length (joined_pieces q es) < 2 ^ 32
    → AllByRecursion (λ p. (p.0 < 2 ^ 32) × (p.1 < 2 ^ 32)) (pairs_from q place es)
pairs_fit q place [] ids room = tt
pairs_fit q place (e ∷ es) ids room =
    let long = length-values q e es in
    ((ids.0, omega arith), pairs_fit q (place + length (piece_in q e.1)) es ids.1 (omega arith))

apart_ids : (q : CodePage) (id place : ℕ) (es : List (ℕ × PropertyValue)) → AllByRecursion (λ f. id < f.0) es → list_any (λ p. eqb id p.0) (pairs_from q place es) ≡ false
apart_ids q id place [] above = refl
apart_ids q id place (e ∷ es) above =
    or_from (eqb id e.0) (list_any (λ p. eqb id p.0) (pairs_from q (place + length (piece_in q e.1)) es)) (ne_eqb id e.0 (λ same. omega (arith, same, above.0))) (apart_ids q id (place + length (piece_in q e.1)) es above.1)

listed_once : (q : CodePage) (place : ℕ) (es : List (ℕ × PropertyValue)) → Ascending es → has_pair (λ p r. eqb p.0 r.0) (pairs_from q place es) ≡ false
listed_once q place [] ascending = refl
listed_once q place (e ∷ es) ascending =
    let others = pairs_from q (place + length (piece_in q e.1)) es in
    or_from (list_any (λ p. eqb e.0 p.0) others) (has_pair (λ p r. eqb p.0 r.0) others) (apart_ids q e.0 (place + length (piece_in q e.1)) es ascending.0) (listed_once q (place + length (piece_in q e.1)) es ascending.1)

entries_again : (q : CodePage) (place : ℕ) (es : List (ℕ × PropertyValue)) → zip (map (λ p. p.0) (pairs_from q place es)) (map (λ e. e.1) es) ≡ es
entries_again q place [] = refl
entries_again q place (e ∷ es) = ap (λ (rest : List (ℕ × PropertyValue)). e ∷ rest) (entries_again q (place + length (piece_in q e.1)) es)

-- ---- the values

abbrev has_version_1 : List (ℕ × PropertyValue) → Bool
has_version_1 es = list_any (λ e. needs_version_1 e.1) es

writable_some : (q : CodePage) (v : PropertyValue) → IsWritableValue q v → is_some (value_bytes q v) ≡ true
writable_some q Empty ok = refl
writable_some q Null ok = refl
writable_some q (I1 n) ok = refl
writable_some q (I2 n) ok = refl
writable_some q (I4 n) ok = refl
writable_some q (LpStr text) ok = carried (text_in q) (bytes_in q text) text ok
  where
    carried : (f : List ℕ → Option (List ℕ)) (o : Option (List ℕ)) (text : List ℕ) → option_and_then f o ≡ Some text → is_some (option_map string_bytes_of o) ≡ true
    carried f None text e = cc
    carried f (Some piece) text e = refl
writable_some q (FileTime n) ok = refl

-- a value at its place, and the values behind it
value_stands : (version : ℕ) (q : CodePage) (bytes : List ℕ) (section place : ℕ) (front : List ℕ) (e : ℕ × PropertyValue) (others made : List ℕ)
    → value_bytes q e.1 ≡ Some made
    → length front ≡ section + place
    → bytes ≡ front ++ (padded_to_four made ++ others)
    → length (padded_to_four made ++ others) < 2 ^ 32
    → (needs_version_1 e.1 ≡ true → version ≡ 1)
    → FitsValue e.1
    → IsWritableValue q e.1
    → ValueStandsAt version q bytes section (e.0, place) e.1
value_stands version q bytes section place front e others made made_is at is room one fit ok =
    let pad : List ℕ = replicate ((4 - length made % 4) % 4) 0 in
    let long = length-append (padded_to_four made) others in
    let padded = length-padded made in
    let spelled : SpellsValue version q made e.1 = plain_value version q e.1 made one (omega arith) ok made_is in
    let parts : bytes ≡ (front ++ made) ++ (pad ++ others) =
    is ∙ ap (λ (x : List ℕ). front ++ x) (append_assoc made pad others) ∙ sym (append_assoc front made (pad ++ others)) in
    (fit, (front, made, pad ++ others, at, parts, spelled))

piece_is : (q : CodePage) (v : PropertyValue) (made : List ℕ) → value_bytes q v ≡ Some made → piece_in q v ≡ padded_to_four made
piece_is q v made is = ap (λ (o : Option (List ℕ)). unwrap_or (option_map padded_to_four o) []) is

made_of : (o : Option (List ℕ)) → is_some o ≡ true → o ≡ Some (unwrap_or o [])
made_of None there = cc
made_of (Some bytes) there = refl

-- each value is spelled at its place
values_stand : (version : ℕ) (q : CodePage) (bytes : List ℕ) (section place : ℕ) (front : List ℕ) (es : List (ℕ × PropertyValue))
    → length front ≡ section + place
    → bytes ≡ front ++ joined_pieces q es
    → length (joined_pieces q es) < 2 ^ 32
    → (has_version_1 es ≡ true → version ≡ 1)
    → AllByRecursion (λ e. FitsValue e.1) es
    → AllByRecursion (λ e. IsWritableValue q e.1) es
    → AllZip (ValueStandsAt version q bytes section) (pairs_from q place es) (map (λ e. e.1) es)
values_stand version q bytes section place front [] at is room one fit ok = tt
values_stand version q bytes section place front (e ∷ es) at is room one fit ok =
    let made = unwrap_or (value_bytes q e.1) [] in
    let made_is : value_bytes q e.1 ≡ Some made = made_of (value_bytes q e.1) (writable_some q e.1 ok.0) in
    let piece = piece_in q e.1 in
    let others = joined_pieces q es in
    let long : length (piece ++ others) ≡ length piece + length others = length-append piece others in
    let same : piece ++ others ≡ padded_to_four made ++ others = ap (λ (x : List ℕ). x ++ others) (piece_is q e.1 made made_is) in
    let first : needs_version_1 e.1 ≡ true → version ≡ 1 = λ needs. one (or_left (needs_version_1 e.1) (has_version_1 es) needs) in
    let rest : has_version_1 es ≡ true → version ≡ 1 = λ needs. one (or_right (needs_version_1 e.1) (has_version_1 es) needs) in
    let here = value_stands version q bytes section place front e others made made_is at (is ∙ ap (λ (x : List ℕ). front ++ x) same) (subst (λ (x : List ℕ). length x < 2 ^ 32) same room) first fit.0 ok.0 in
    let next : length (front ++ piece) ≡ section + (place + length piece) = omega (arith, length-append front piece) in
    let after : bytes ≡ (front ++ piece) ++ others = is ∙ sym (append_assoc front piece others) in
    (here, values_stand version q bytes section (place + length piece) (front ++ piece) es next after (omega arith) rest fit.1 ok.1)

-- ---- the whole set

version_small : (b : Bool) → cond b 1 0 < 2
version_small true = omega arith
version_small false = omega arith

version_one : (es : List (ℕ × PropertyValue)) → has_version_1 es ≡ true → version_of es ≡ 1
version_one es has = ap choice has
  where
    choice : Bool → ℕ
    choice b = cond b 1 0

length-header : (set : Properties) (version : ℕ) → FitsHeader set → length (header_bytes set version 1 48) ≡ 48
length-header set version fits =
    let front : List ℕ = to_le_bytes w16 0xFFFE ++ to_le_bytes w16 version ++ to_le_bytes w16 set.os_version ++ to_le_bytes w16 (os_number set.os) in
    let a = length-append (((front ++ set.clsid) ++ to_le_bytes w32 1) ++ set.format_identifier) (to_le_bytes w32 48) in
    let b = length-append ((front ++ set.clsid) ++ to_le_bytes w32 1) set.format_identifier in
    let c = length-append (front ++ set.clsid) (to_le_bytes w32 1) in
    let d = length-append front set.clsid in
    let class = fits.1 in
    let format = fits.2 in
    omega arith

pub told : (set : Properties) → is_refused set ≡ false → can_write (page_of set) set.values ≡ true
told set kept = by_test (can_write (page_of set) set.values) refl
  where
    both : {A : Type 0} → true ≡ false → A
    both e = absurd cc

    by_test : (b : Bool) → can_write (page_of set) set.values ≡ b → can_write (page_of set) set.values ≡ true
    by_test true is = is
    by_test false is = both (sym (untold_is (page_of set) set.values is) ∙ kept)

pub sets_read_back : SetsReadBack
sets_read_back set bytes kept writable refused written =
    let q = page_of set in
    let es = set.values in
    let version = least_version set in
    let first = 8 + 8 * length es in
    let pairs = pairs_from q first es in
    let header = header_bytes set version 1 48 in
    let head = section_head (section_size q es) pairs in
    let parts = told_parts q es (told set refused) in
    let is : bytes ≡ header ++ (head ++ joined_pieces q es) = some_is bytes _ (sym written ∙ stream_carried set parts.0) in
    let split : bytes ≡ (header ++ head) ++ joined_pieces q es = is ∙ sym (append_assoc header head (joined_pieces q es)) in
    let count = length-pairs q first es in
    let long : length header ≡ 48 = length-header set version kept.header in
    let size : section_size q es < 2 ^ 32 = parts.1 in
    let headed : length (header ++ head) ≡ 48 + first = omega (arith, length-append header head, length-head (section_size q es) pairs) in
    record {
      version = version;
      reserved = 1;
      section = 48;
      size = section_size q es;
      pairs = pairs;
      values = map (λ e. e.1) es;
      held = kept.header;
      fits = (version_small (has_version_1 es), omega arith, omega arith, omega arith, size, omega arith, pairs_fit q first es kept.ids size);
      header = ([], header, head ++ joined_pieces q es, refl, is, refl);
      head = (header, head, joined_pieces q es, long, split, refl);
      once = listed_once q first es kept.ascending;
      page = kept.page;
      spelled = values_stand version q bytes 48 first (header ++ head) es headed split (omega arith) (version_one es) kept.range writable;
      listed = sym (sorted_same es kept.ascending) ∙ ap (λ (x : List (ℕ × PropertyValue)). by_id x) (sym (entries_again q first es));
    }

-- ---- one set

bytes_small : (bytes : List ℕ) → AllByRecursion (λ b. b < 2 ^ 8) bytes → IsBytes bytes
bytes_small [] small i = omega arith
bytes_small (b ∷ bytes) small zero = small.0
bytes_small (b ∷ bytes) small (suc i) = bytes_small bytes small.1 i

pub only_one_set : OneSet
only_one_set bytes a b small p q = one_set bytes a b (bytes_small bytes small) p q
