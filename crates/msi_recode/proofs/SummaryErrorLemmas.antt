-- Why a summary isn't recoded: what is in the way of its set, and that nothing else is.
use Rattle.std.proofs.Common.{◌≡◌, ℕ, ◌+◌, Bool, true, false, true≢false, eqb, List, [], ◌∷◌, ◌++◌, length, drop, Option, Some, None, inl, inr, refl, sym, ap, subst, ◌∙◌, arith}
use Rattle.std.specs.Prelude.{◌⊎◌, ◌||◌}
use Rattle.std.specs.List.{AllZip, list_any}
use Rattle.std.proofs.lemmas.Bool.{cases_Bool, or_left, or_right}
use Rattle.msi_base.specs.declared.errors.ErrorKind.{ErrorKind}
use Rattle.msi_base.specs.declared.errors.ErrorKind.TheVariants as kind
use Rattle.msi_base.specs.Lists.{entry_where, has_pair}
use Rattle.msi_base.specs.Results.{FailsAs}
use Rattle.msi_base.proofs.OptionLemmas.{not_given, some_is}
use Rattle.msi_summary_properties.specs.declared.propset.PropertyValue.{PropertyValue}
use Rattle.msi_summary_properties.specs.Properties.{Properties}
use Rattle.msi_summary_properties.specs.PropertyStream.{header_bytes, section_head}
use Rattle.msi_summary_properties.specs.PropertyWriting.{is_refused}
use Rattle.msi_summary_properties.specs.Reading.{Header, header_at, section_at}
use Rattle.msi_summary_properties.proofs.HeaderLemmas.{IsHeader, header_again, section_again}
use Rattle.msi_summary_properties.proofs.SpelledSetLemmas.{stands_drop}
use Rattle.msi_recode.specs.declared.errors.RecodeError.{RecodeError}
use Rattle.msi_recode.specs.declared.errors.RecodeError.TheVariants as error
use Rattle.msi_recode.specs.declared.page.TextPage.{TextPage}
use Rattle.msi_recode.specs.Errors.{kind_of}
use Rattle.msi_recode.specs.SummaryReading.{CanBePut, CannotBePut, IsEntryRead}
use Rattle.msi_recode.specs.SummaryRecoding.{AreTooLong, EntryStandsAt, HasNoSummary, IsFirstUnread, IsListed, IsSummary, IsSummaryError, IsSummaryRecoded, IsValuesError, ListsNothing, is_too_long, page_stated}
use Rattle.msi_recode.proofs.SizeLemmas.{still_too_long}
use Rattle.msi_recode.proofs.SummaryOnlyLemmas.{entries_read, page_again}

-- ---- what a summary lists

abbrev header_of : Properties → ℕ → ℕ → ℕ → Header
header_of set version reserved section = record { version = version; os_version = set.os_version; os = set.os; clsid = set.clsid; reserved = reserved; format_identifier = set.format_identifier; section = section }

listed_again : (given : Option TextPage) (bytes : List ℕ) (set : Properties) (s : IsSummary given bytes set) → IsListed given bytes (header_of set s.version s.reserved s.section) s.pairs s.page
listed_again given bytes set s =
    let h = header_of set s.version s.reserved s.section in
    let is : IsHeader h = record { version = s.fits.0; os_version = s.held.0; clsid = s.held.1; some = s.fits.1; reserved = s.fits.2; format = s.held.2; section = s.fits.3 } in
    let top = stands_drop 0 bytes (λ front. front ≡ header_bytes set s.version s.reserved s.section) s.header in
    let low = stands_drop s.section bytes (λ front. front ≡ section_head s.size s.pairs) s.head in (
      ap header_at (top.parts ∙ ap (λ (x : List ℕ). x ++ top.others) top.is) ∙ header_again h top.others is,
      ap section_at (low.parts ∙ ap (λ (x : List ℕ). x ++ low.others) low.is) ∙ section_again s.size s.pairs low.others s.fits.4 s.fits.5 s.fits.6,
      page_again given s.version s.page bytes s.section s.pairs s.entries s.spelled s.named,
    )

-- bytes list one thing
one_list : (given : Option TextPage) (bytes : List ℕ) (h g : Header) (pairs others : List (ℕ × ℕ)) (text_page other : TextPage) → IsListed given bytes h pairs text_page → IsListed given bytes g others other
    → (P : Header → List (ℕ × ℕ) → TextPage → Type 0) → P g others other → P h pairs text_page
one_list given bytes h g pairs others text_page other a b P holds =
    let head : g ≡ h = some_is g h (sym b.0 ∙ a.0) in
    let list : others ≡ pairs = some_is others pairs (sym b.1 ∙ ap (λ (x : Header). section_at (drop x.section bytes)) head ∙ a.1) in
    let named : other ≡ text_page = some_is other text_page (
    sym b.2
    ∙ ap (λ (x : Header). page_stated given x.version bytes x.section (entry_where (λ k. eqb k 1) others)) head
    ∙ ap (λ (x : List (ℕ × ℕ)). page_stated given h.version bytes h.section (entry_where (λ k. eqb k 1) x)) list
    ∙ a.2
    ) in
    subst (λ (x : TextPage). P h pairs x) named (subst (λ (x : List (ℕ × ℕ)). P h x other) list (subst (λ (x : Header). P x others other) head holds))

-- ---- values that are spelled have no first in the way

zip_at : (version : ℕ) (text_page : TextPage) (bytes : List ℕ) (section : ℕ) (front behind : List (ℕ × ℕ)) (p : ℕ × ℕ) (entries : List (ℕ × PropertyValue))
    → AllZip (EntryStandsAt version text_page bytes section) (front ++ p ∷ behind) entries → (e : ℕ × PropertyValue) × EntryStandsAt version text_page bytes section p e
zip_at version text_page bytes section [] behind p [] all = absurd all
zip_at version text_page bytes section [] behind p (e ∷ entries) all = (e, all.0)
zip_at version text_page bytes section (q ∷ front) behind p [] all = absurd all
zip_at version text_page bytes section (q ∷ front) behind p (e ∷ entries) all = zip_at version text_page bytes section front behind p entries all.1

any_between : (k id place : ℕ) (front behind : List (ℕ × ℕ)) → eqb k id ≡ true → list_any (λ q. eqb k q.0) (front ++ (id, place) ∷ behind) ≡ true
any_between k id place [] behind same = or_left (eqb k id) (list_any (λ q. eqb k q.0) behind) same
any_between k id place (p ∷ front) behind same = or_right (eqb k p.0) (list_any (λ q. eqb k q.0) (front ++ (id, place) ∷ behind)) (any_between k id place front behind same)

listed_twice : (id place : ℕ) (front behind : List (ℕ × ℕ)) → list_any (λ p. eqb p.0 id) front ≡ true → has_pair (λ p q. eqb p.0 q.0) (front ++ (id, place) ∷ behind) ≡ true
listed_twice id place [] behind any = absurd cc
listed_twice id place (p ∷ front) behind any = elim (cases_Bool (eqb p.0 id)) [
  | inl same ↦ or_left (list_any (λ q. eqb p.0 q.0) (front ++ (id, place) ∷ behind)) (has_pair (λ r q. eqb r.0 q.0) (front ++ (id, place) ∷ behind)) (any_between p.0 id place front behind same)
  | inr other ↦ or_right (list_any (λ q. eqb p.0 q.0) (front ++ (id, place) ∷ behind)) (has_pair (λ r q. eqb r.0 q.0) (front ++ (id, place) ∷ behind))
      (listed_twice id place front behind (sym (ap (λ (t : Bool). t || list_any (λ r. eqb r.0 id) front) other) ∙ any))
]

none_unread : (version : ℕ) (text_page : TextPage) (bytes : List ℕ) (section id : ℕ) (pairs : List (ℕ × ℕ)) (entries : List (ℕ × PropertyValue)) → AllZip (EntryStandsAt version text_page bytes section) pairs entries
    → has_pair (λ p q. eqb p.0 q.0) pairs ≡ false → IsFirstUnread version text_page bytes section pairs id → ⊥
none_unread version text_page bytes section id pairs entries all once u = by_reason u.fails
  where
    by_reason : ((value : PropertyValue) → EntryStandsAt version text_page bytes section (id, u.place) (id, value) → ⊥) ⊎ (list_any (λ p. eqb p.0 id) u.front ≡ true) → ⊥
    by_reason (inl none) =
        let at = zip_at version text_page bytes section u.front u.behind (id, u.place) entries (subst (λ (ps : List (ℕ × ℕ)). AllZip (EntryStandsAt version text_page bytes section) ps entries) u.listed all) in
        none at.0.1 (refl, at.1.1, at.1.2)
    by_reason (inr twice) = true≢false (sym (listed_twice id u.place u.front u.behind twice) ∙ ap (has_pair (λ p q. eqb p.0 q.0)) (sym u.listed) ∙ once)

-- the first entries are the entries of the first pairs
entries_front : (version : ℕ) (text_page : TextPage) (bytes : List ℕ) (section : ℕ) (front behind : List (ℕ × ℕ)) (fs es : List (ℕ × PropertyValue)) → AllZip (IsEntryRead version text_page bytes section) front fs
    → AllZip (IsEntryRead version text_page bytes section) (front ++ behind) es → (rest : List (ℕ × PropertyValue)) × (es ≡ fs ++ rest)
entries_front version text_page bytes section [] behind [] es h k = (es, refl)
entries_front version text_page bytes section [] behind (f ∷ fs) es h k = absurd h
entries_front version text_page bytes section (p ∷ front) behind [] es h k = absurd h
entries_front version text_page bytes section (p ∷ front) behind (f ∷ fs) [] h k = absurd k
entries_front version text_page bytes section (p ∷ front) behind (f ∷ fs) (e ∷ es) ((id, read), more) ((key, found), later) =
    let value : e.1 ≡ f.1 = some_is e.1 f.1 (sym found ∙ read) in
    let first : e ≡ f = λ i. ((key ∙ sym id) i, value i) in
    let rest = entries_front version text_page bytes section front behind fs es more later in
    (rest.0, ap (λ (x : ℕ × PropertyValue). x ∷ es) first ∙ ap (λ (xs : List (ℕ × PropertyValue)). f ∷ xs) rest.1)

none_too_long : (version : ℕ) (text_page : TextPage) (bytes : List ℕ) (section : ℕ) (pairs : List (ℕ × ℕ)) (entries : List (ℕ × PropertyValue)) → AllZip (EntryStandsAt version text_page bytes section) pairs entries
    → is_too_long (length bytes) entries ≡ false → AreTooLong version text_page bytes section pairs → ⊥
none_too_long version text_page bytes section pairs entries all short u =
    let read = entries_read version text_page bytes section pairs entries all in
    let front = entries_read version text_page bytes section u.front u.entries u.spelled.0 in
    let rest = entries_front version text_page bytes section u.front u.behind u.entries entries front (subst (λ (ps : List (ℕ × ℕ)). AllZip (IsEntryRead version text_page bytes section) ps entries) u.listed read) in
    true≢false (sym (ap (is_too_long (length bytes)) rest.1 ∙ still_too_long (length bytes) u.entries rest.0 u.long) ∙ short)

-- ---- a summary that can be recoded has no error but of memory

-- the same values, by what the summary lists
values_of : (given : Option TextPage) (bytes : List ℕ) (set : Properties) (s : IsSummary given bytes set) (h : Header) (pairs : List (ℕ × ℕ)) (text_page : TextPage) → IsListed given bytes h pairs text_page
    → AllZip (EntryStandsAt h.version text_page bytes h.section) pairs s.entries × (has_pair (λ p q. eqb p.0 q.0) pairs ≡ false)
values_of given bytes set s h pairs text_page listed =
    one_list given bytes h (header_of set s.version s.reserved s.section) pairs s.pairs text_page s.page listed (listed_again given bytes set s)
    (λ x ps p. AllZip (EntryStandsAt x.version p bytes x.section) ps s.entries × (has_pair (λ r q. eqb r.0 q.0) ps ≡ false)) (s.spelled, s.once)

only_memory : (given : Option TextPage) (bytes : List ℕ) (err : RecodeError) (set : Properties) (s : IsSummary given bytes set) → is_too_long (length bytes) s.entries ≡ false → IsSummaryError given bytes err → kind_of err ≡ kind.OutOfMemory
only_memory given bytes err set s short (inl memory) = ap kind_of memory
only_memory given bytes err set s short (inr (inl (is, nothing))) = absurd (nothing (header_of set s.version s.reserved s.section) s.pairs s.page (listed_again given bytes set s))
only_memory given bytes err set s short (inr (inr (h, pairs, text_page, listed, inl memory))) = ap kind_of memory
only_memory given bytes err set s short (inr (inr (h, pairs, text_page, listed, inr (inl (id, is, unread))))) =
    let v = values_of given bytes set s h pairs text_page listed in
    absurd (none_unread h.version text_page bytes h.section id pairs s.entries v.0 v.1 unread)
only_memory given bytes err set s short (inr (inr (h, pairs, text_page, listed, inr (inr (is, long))))) =
    let v = values_of given bytes set s h pairs text_page listed in
    absurd (none_too_long h.version text_page bytes h.section pairs s.entries v.0 short long)

pub summary_only : (given : Option TextPage) (bytes after : List ℕ) (err : RecodeError) → IsSummaryError given bytes err → IsSummaryRecoded given bytes after → kind_of err ≡ kind.OutOfMemory
summary_only given bytes after err fails (set, s, short, written, said) = only_memory given bytes err set s short fails

-- invalid data have no summary
not_memory : {P : Type 0} (k : ErrorKind) → k ≡ kind.InvalidData → k ≡ kind.OutOfMemory → P
not_memory k invalid memory = let e : kind.InvalidData ≡ kind.OutOfMemory = sym invalid ∙ memory in cc

not_input : {P : Type 0} (err : RecodeError) → kind_of err ≡ kind.InvalidData → err ≡ error.Package kind.InvalidInput → P
not_input err invalid is = let e : kind.InvalidData ≡ kind.InvalidInput = sym invalid ∙ ap kind_of is in cc

pub summary_refused : (given : Option TextPage) (bytes : List ℕ) (err : RecodeError) → IsSummaryError given bytes err → kind_of err ≡ kind.InvalidData → HasNoSummary given bytes
summary_refused given bytes err (inl memory) invalid set s = not_memory (kind_of err) invalid (ap kind_of memory)
summary_refused given bytes err (inr (inl (is, nothing))) invalid set s = nothing (header_of set s.version s.reserved s.section) s.pairs s.page (listed_again given bytes set s)
summary_refused given bytes err (inr (inr (h, pairs, text_page, listed, inl memory))) invalid set s = not_memory (kind_of err) invalid (ap kind_of memory)
summary_refused given bytes err (inr (inr (h, pairs, text_page, listed, inr (inl (id, is, unread))))) invalid set s =
    let v = values_of given bytes set s h pairs text_page listed in
    none_unread h.version text_page bytes h.section id pairs s.entries v.0 v.1 unread
summary_refused given bytes err (inr (inr (h, pairs, text_page, listed, inr (inr (is, long))))) invalid set s = not_input err invalid is

-- ---- where a step of reading fails

nothing_listed : {Y : Type 0} (k : ErrorKind) (o : Option Y) (given : Option TextPage) (bytes : List ℕ) → FailsAs k o → (o ≡ None → ListsNothing given bytes) → IsSummaryError given bytes (error.Package k)
nothing_listed kind.AlreadyExists o given bytes fails nothing = absurd fails
nothing_listed kind.InvalidData o given bytes fails nothing = inr (inl (refl, nothing fails))
nothing_listed kind.InvalidInput o given bytes fails nothing = absurd fails
nothing_listed kind.NotFound o given bytes fails nothing = absurd fails
nothing_listed kind.Io o given bytes fails nothing = absurd fails
nothing_listed kind.OutOfMemory o given bytes fails nothing = inl refl

pub no_header : (k : ErrorKind) (given : Option TextPage) (bytes : List ℕ) → FailsAs k (header_at bytes) → IsSummaryError given bytes (error.Package k)
no_header k given bytes fails = nothing_listed k (header_at bytes) given bytes fails (λ none h pairs text_page listed. not_given h (sym listed.0 ∙ none))

module _ (given : Option TextPage) (bytes rest : List ℕ) (h : Header) (header : header_at bytes ≡ Some h) (is : rest ≡ drop (h.section + 0) bytes) where
  here : section_at (drop h.section bytes) ≡ section_at rest
  here = ap (λ (n : ℕ). section_at (drop n bytes)) (omega arith) ∙ ap section_at (sym is)

  pub no_section : (k : ErrorKind) → FailsAs k (section_at rest) → IsSummaryError given bytes (error.Package k)
  no_section k fails = nothing_listed k (section_at rest) given bytes fails nothing
    where
      nothing : section_at rest ≡ None → ListsNothing given bytes
      nothing none g pairs text_page listed =
          let head : g ≡ h = some_is g h (sym listed.0 ∙ header) in
          not_given pairs (sym listed.1 ∙ ap (λ (x : Header). section_at (drop x.section bytes)) head ∙ here ∙ none)

  module _ (pairs listed : List (ℕ × ℕ)) (section : section_at rest ≡ Some pairs) (same : listed ≡ pairs) where
    pub no_page : (k : ErrorKind) → FailsAs k (page_stated given h.version bytes h.section (entry_where (λ n. eqb n 1) listed)) → IsSummaryError given bytes (error.Package k)
    no_page k fails = nothing_listed k (page_stated given h.version bytes h.section (entry_where (λ n. eqb n 1) listed)) given bytes fails nothing
      where
        nothing : page_stated given h.version bytes h.section (entry_where (λ n. eqb n 1) listed) ≡ None → ListsNothing given bytes
        nothing none g others text_page l =
            let head : g ≡ h = some_is g h (sym l.0 ∙ header) in
            let list : others ≡ listed = some_is others pairs (sym l.1 ∙ ap (λ (x : Header). section_at (drop x.section bytes)) head ∙ here ∙ section) ∙ sym same in
            not_given text_page (
            sym l.2
            ∙ ap (λ (x : Header). page_stated given x.version bytes x.section (entry_where (λ n. eqb n 1) others)) head
            ∙ ap (λ (x : List (ℕ × ℕ)). page_stated given h.version bytes h.section (entry_where (λ n. eqb n 1) x)) list
            ∙ none
            )

    pub values_error : (again : List (ℕ × ℕ)) (text_page reader_page : TextPage) (err : RecodeError) → again ≡ pairs → reader_page ≡ text_page
        → page_stated given h.version bytes h.section (entry_where (λ n. eqb n 1) listed) ≡ Some text_page → IsValuesError h.version reader_page bytes h.section again err → IsSummaryError given bytes err
    values_error again text_page reader_page err again_is page_is stated fails = inr (inr (
      h,
      pairs,
      text_page,
      (header, here ∙ section, ap (λ (x : List (ℕ × ℕ)). page_stated given h.version bytes h.section (entry_where (λ n. eqb n 1) x)) (sym same) ∙ stated),
      subst (λ (x : TextPage). IsValuesError h.version x bytes h.section pairs err) page_is (subst (λ (x : List (ℕ × ℕ)). IsValuesError h.version reader_page bytes h.section x err) again_is fails),
    ))

-- values that were counted are put
pub put_memory : (version : ℕ) (text_page : TextPage) (bytes : List ℕ) (section : ℕ) (pairs first again : List (ℕ × ℕ)) (k : ErrorKind) → first ≡ pairs → again ≡ pairs → CanBePut version text_page bytes section first
    → (k ≡ kind.InvalidData) ⊎ (k ≡ kind.OutOfMemory) → (k ≡ kind.InvalidData → CannotBePut version text_page bytes section again) → k ≡ kind.OutOfMemory
put_memory version text_page bytes section pairs first again k first_is again_is can (inr memory) cannot = memory
put_memory version text_page bytes section pairs first again k first_is again_is can (inl invalid) cannot =
    let same : again ≡ first = again_is ∙ sym first_is in
    let refused : CannotBePut version text_page bytes section first = subst (λ (x : List (ℕ × ℕ)). CannotBePut version text_page bytes section x) same (cannot invalid) in
    absurd (true≢false (sym (refused can.entries can.read) ∙ can.once))

-- a set that can be written is, but for memory
pub unwritten_memory : (k : ErrorKind) (set : Properties) → (k ≡ kind.InvalidInput) ⊎ (k ≡ kind.OutOfMemory) → (k ≡ kind.InvalidInput → is_refused set ≡ true) → is_refused set ≡ false → k ≡ kind.OutOfMemory
unwritten_memory k set (inl input) refused written = absurd (true≢false (sym (refused input) ∙ written))
unwritten_memory k set (inr memory) refused written = memory

pub memory_valid : {P : Type 0} (k : ErrorKind) → k ≡ kind.OutOfMemory → k ≡ kind.InvalidData → P
memory_valid k memory invalid = not_memory k invalid memory
