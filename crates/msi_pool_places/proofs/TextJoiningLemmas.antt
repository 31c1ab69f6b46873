-- Entries that are put behind others, and texts whose ends take the place of their lengths.
use Rattle.std.proofs.Common.{◌≡◌, ℕ, zero, suc, ◌+◌, ◌<◌, ◌^◌, false, List, [], ◌∷◌, ◌++◌, length, get_or, set, take, drop, Some, refl, sym, ap, subst, ◌∙◌, arith}
use Rattle.std.specs.Prelude.{IsUtf8, slice_get}
use Rattle.std.proofs.lemmas.List.{append-nil, drop-set-lt, length-drop, take-append-drop, take_more, take_more_set}
use Rattle.std.proofs.lemmas.Option.{same_Some}
use Rattle.msi_base.proofs.ListLemmas.{drop_next}
use Rattle.msi_pool_places.specs.Pool.{Entry, Place}
use Rattle.msi_pool_places.specs.JoinedTexts.{IsAllCut, places_cut}
use Rattle.msi_pool_places.specs.TextJoining.{AreUnread, IsJoining, entries_left, entries_with}
use Rattle.msi_pool_places.specs.declared.count.Count.{Count}
use Rattle.msi_pool_places.specs.declared.joiner.TextJoiner.{TextJoiner}
use Rattle.msi_pool_places.proofs.JoinedTextsLemmas.{place_put, text_put}

-- ---- entries

pub unread_many : (lens : List ℕ) (counts : List Count) → AreUnread lens counts → length lens ≡ length counts
unread_many [] [] h = refl
unread_many [] (c ∷ counts) h = absurd h
unread_many (n ∷ lens) [] h = absurd h
unread_many (n ∷ lens) (c ∷ counts) h = omega (arith, unread_many lens counts h.3)

pub unread_more : (lens : List ℕ) (counts : List Count) (len : ℕ) (count : Count) → len < 2 ^ 32 → count.is_forgotten ≡ false → count.cells < 2 ^ 16 → AreUnread lens counts → AreUnread (lens ++ len ∷ []) (counts ++ count ∷ [])
unread_more [] [] len count short held few h = (short, held, few, tt)
unread_more [] (c ∷ counts) len count short held few h = absurd h
unread_more (n ∷ lens) [] len count short held few h = absurd h
unread_more (n ∷ lens) (c ∷ counts) len count short held few h = (h.0, h.1, h.2, unread_more lens counts len count short held few h.3)

pub entries_more : (lens : List ℕ) (counts : List Count) (len : ℕ) (count : Count) → length lens ≡ length counts
    → entries_with (lens ++ len ∷ []) (counts ++ count ∷ []) ≡ entries_with lens counts ++ record { len = len; count = count.cells } ∷ []
entries_more [] [] len count many = refl
entries_more [] (c ∷ counts) len count many = absurd (omega (arith, many))
entries_more (n ∷ lens) [] len count many = absurd (omega (arith, many))
entries_more (n ∷ lens) (c ∷ counts) len count many = ap (λ (es : List Entry). record { len = n; count = c.cells } ∷ es) (entries_more lens counts len count (omega (arith, many)))

pub length-entries : (lens : List ℕ) (counts : List Count) → AreUnread lens counts → length (entries_with lens counts) ≡ length counts
length-entries [] [] h = refl
length-entries [] (c ∷ counts) h = absurd h
length-entries (n ∷ lens) [] h = absurd h
length-entries (n ∷ lens) (c ∷ counts) h = omega (arith, length-entries lens counts h.3)

-- the length of a number, and the entry
pub short_at : (lens : List ℕ) (counts : List Count) (at len : ℕ) → AreUnread lens counts → at < length counts → len ≡ get_or lens at len → len < 2 ^ 32
short_at lens [] at len h lt len_is = absurd (omega (arith, lt))
short_at [] (c ∷ counts) at len h lt len_is = absurd h
short_at (n ∷ lens) (c ∷ counts) zero len h lt len_is = rw len_is h.0
short_at (n ∷ lens) (c ∷ counts) (suc at) len h lt len_is = short_at lens counts at len h.3 (omega (arith, lt)) len_is

pub entry_at : (lens : List ℕ) (counts : List Count) (at len : ℕ) (count : Count) → AreUnread lens counts → at < length counts → len ≡ get_or lens at len → count ≡ get_or counts at count
    → slice_get (entries_with lens counts) at ≡ Some (record { len = len; count = count.cells })
entry_at lens [] at len count h lt len_is count_is = absurd (omega (arith, lt))
entry_at [] (c ∷ counts) at len count h lt len_is count_is = absurd h
entry_at (n ∷ lens) (c ∷ counts) zero len count h lt len_is count_is = rw (len_is, count_is) refl
entry_at (n ∷ lens) (c ∷ counts) (suc at) len count h lt len_is count_is = entry_at lens counts at len count h.3 (omega (arith, lt)) len_is count_is

-- ---- the text that comes next

-- there is one, and where its length and its count stand
pub record IsNext (ends : List ℕ) (counts : List Count) (read len : ℕ) (count : Count) : Type 0 where
  pub lens : drop read ends ≡ len ∷ drop (read + 1) ends
  pub counted : drop read counts ≡ count ∷ drop (read + 1) counts
  pub short : len < 2 ^ 32
  pub held : count.is_forgotten ≡ false
  pub few : count.cells < 2 ^ 16
  pub rest : AreUnread (drop (read + 1) ends) (drop (read + 1) counts)

pub within_ends : (ends : List ℕ) (counts : List Count) (read : ℕ) → AreUnread (drop read ends) (drop read counts) → read < length counts → read < length ends
within_ends ends counts read h lt = omega (arith, lt, unread_many (drop read ends) (drop read counts) h, length-drop read ends, length-drop read counts)

pub next_is : (ends : List ℕ) (counts : List Count) (read len : ℕ) (count : Count) → AreUnread (drop read ends) (drop read counts) → read < length counts → len ≡ get_or ends read len → count ≡ get_or counts read count
    → IsNext ends counts read len count
next_is ends counts read len count h lt len_is count_is =
    let lens = drop_next ends read len (within_ends ends counts read h lt) len_is in
    let counted = drop_next counts read count lt count_is in
    let parts : AreUnread (len ∷ drop (read + 1) ends) (count ∷ drop (read + 1) counts) =
    subst (λ (xs : List ℕ). AreUnread xs (count ∷ drop (read + 1) counts)) lens (subst (λ (cs : List Count). AreUnread (drop read ends) cs) counted h) in
    record { lens = lens; counted = counted; short = parts.0; held = parts.1; few = parts.2; rest = parts.3 }

pub entries_next : (ends : List ℕ) (counts : List Count) (read len : ℕ) (count : Count) → IsNext ends counts read len count
    → entries_with (drop read ends) (drop read counts) ≡ record { len = len; count = count.cells } ∷ entries_with (drop (read + 1) ends) (drop (read + 1) counts)
entries_next ends counts read len count next = rw (next.lens, next.counted) refl

any_default : {X : Type 0} (xs : List X) (i : ℕ) (d e : X) → i < length xs → get_or xs i d ≡ get_or xs i e
any_default [] i d e lt = absurd (omega (arith, lt))
any_default (x ∷ xs) zero d e lt = refl
any_default (x ∷ xs) (suc i) d e lt = any_default xs i d e (omega (arith, lt))

abbrev pub no_count : Count
no_count = record { cells = 0; is_forgotten = false }

pub next_short : (ends : List ℕ) (counts : List Count) (read len : ℕ) → AreUnread (drop read ends) (drop read counts) → read < length counts → len ≡ get_or ends read len → len < 2 ^ 32
next_short ends counts read len h lt len_is =
    let count = get_or counts read no_count in
    (next_is ends counts read len count h lt len_is (any_default counts read no_count count lt)).short

pub left_within : (joiner : TextJoiner) → IsJoining joiner → 0 < length (entries_left joiner) → joiner.read < length joiner.counts.items
left_within joiner h lt = omega (arith, lt, length-entries (drop joiner.read joiner.ends) (drop joiner.read joiner.counts.items) h.left, length-drop joiner.read joiner.counts.items)

-- ---- a text that is put behind the others

-- the end stands where the length stood
pub record IsTextPut (whole more ends : List ℕ) (counts : List Count) (read end len : ℕ) (count : Count) : Type 0 where
  pub front : IsAllCut (whole ++ more) (take (read + 1) (set ends read end)) (take (read + 1) counts)
  pub left : AreUnread (drop (read + 1) (set ends read end)) (drop (read + 1) counts)
  pub places : places_cut (whole ++ more) 0 (take (read + 1) (set ends read end)) (take (read + 1) counts)
      ≡ places_cut whole 0 (take read ends) (take read counts) ++ record { text = more; count = count.cells } ∷ []
  pub entries : entries_with (drop (read + 1) (set ends read end)) (drop (read + 1) counts) ≡ drop 1 (entries_with (drop read ends) (drop read counts))
  pub entry : slice_get (entries_with (drop read ends) (drop read counts)) 0 ≡ Some (record { len = len; count = count.cells })

pub text_is_put : (whole more ends : List ℕ) (counts : List Count) (read end : ℕ) → IsUtf8 whole → IsUtf8 more → end ≡ length whole + length more
    → IsAllCut whole (take read ends) (take read counts) → AreUnread (drop read ends) (drop read counts) → read < length counts
    → IsTextPut whole more ends counts read end (get_or ends read 0) (get_or counts read no_count)
text_is_put whole more ends counts read end u v end_is front left lt =
    let inside = within_ends ends counts read left lt in
    let len = get_or ends read 0 in
    let count = get_or counts read no_count in
    let len_is : len ≡ get_or ends read len = any_default ends read 0 len inside in
    let count_is : count ≡ get_or counts read count = any_default counts read no_count count lt in
    let next = next_is ends counts read len count left lt len_is count_is in
    let ends_are : take (read + 1) (set ends read end) ≡ take read ends ++ end ∷ [] = take_more_set ends read end inside in
    let counts_are : take (read + 1) counts ≡ take read counts ++ count ∷ [] = take_more counts read no_count lt in
    let rest : drop (read + 1) (set ends read end) ≡ drop (read + 1) ends = drop-set-lt (read + 1) ends read end (omega arith) in
    let all = entries_next ends counts read len count next in
    record {
      front = rw (ends_are, counts_are) (text_put whole more (take read ends) (take read counts) end count u v end_is next.held next.few front);
      left = rw rest next.rest;
      places = rw (ends_are, counts_are) (place_put whole more (take read ends) (take read counts) end count end_is next.held front);
      entries = rw (rest, all) refl;
      entry = rw all refl;
    }

-- the count is that of the entry which came next
pub as_counted : (before : List Place) (text : List ℕ) (a b : Entry) → Some a ≡ Some b → before ++ record { text = text; count = a.count } ∷ [] ≡ before ++ record { text = text; count = b.count } ∷ []
as_counted before text a b same = ap (λ (e : Entry). before ++ record { text = text; count = e.count } ∷ []) (same_Some a b same)

-- ---- all texts are read

pub all_read : (lens : List ℕ) (counts : List Count) → AreUnread lens counts → entries_with lens counts ≡ [] → (lens ≡ []) × (counts ≡ [])
all_read [] [] h none = (refl, refl)
all_read [] (c ∷ counts) h none = absurd h
all_read (n ∷ lens) [] h none = absurd h
all_read (n ∷ lens) (c ∷ counts) h none = absurd (omega (arith, ap (λ (es : List Entry). length es) none))

-- the first are all of them
pub record IsFinished (joiner : TextJoiner) : Type 0 where
  pub ends : take joiner.read joiner.ends ≡ joiner.ends
  pub counts : take joiner.read joiner.counts.items ≡ joiner.counts.items

whole_front : {X : Type 0} (xs : List X) (n : ℕ) → drop n xs ≡ [] → take n xs ≡ xs
whole_front {X} xs n none = sym (append-nil (take n xs)) ∙ ap (λ (ys : List X). take n xs ++ ys) (sym none) ∙ take-append-drop n xs

pub finished : (joiner : TextJoiner) → IsJoining joiner → entries_left joiner ≡ [] → IsFinished joiner
finished joiner h none =
    let both = all_read (drop joiner.read joiner.ends) (drop joiner.read joiner.counts.items) h.left none in
    record { ends = whole_front joiner.ends joiner.read both.0; counts = whole_front joiner.counts.items joiner.read both.1 }
