-- The places of a pool as they are read and written, and why they aren't.
use Rattle.std.proofs.Common.{◌≡◌, ℕ, suc, ◌+◌, ◌^◌, ◌<◌, ◌≤◌, ◌++◌, Bool, true, false, true≢false, List, [], ◌∷◌, length, get_or, take, drop, Option, Some, None, inl, inr, refl, sym, ap, ◌∙◌, subst, append_assoc, arith}
use Rattle.std.specs.Prelude.{◌⊎◌, is_some, if◌then◌else◌, IsUtf8}
use Rattle.std.proofs.lemmas.List.{append-nil, take_at, take-append-drop, length-append, length-take}
use Rattle.std.proofs.lemmas.Bool.{or_from}
use Rattle.std.proofs.lemmas.Grind.{flat_map-append}
use Rattle.msi_base.specs.declared.errors.ErrorKind.{ErrorKind}
use Rattle.msi_base.specs.declared.errors.ErrorKind.TheVariants as kind
use Rattle.msi_base.proofs.ListLemmas.{any_joined, all_joined}
use Rattle.msi_base.proofs.OptionLemmas.{some_is, none_there, not_given}
use Rattle.msi_pool_places.specs.Pool.{Entry, Place, header_of, plain_entry}
use Rattle.msi_recode.specs.declared.page.TextPage.{TextPage}
use Rattle.msi_recode.specs.declared.errors.RecodeError.{RecodeError}
use Rattle.msi_recode.specs.declared.errors.RecodeError.TheVariants as error
use Rattle.msi_recode.specs.Errors.{kind_of, of_place}
use Rattle.msi_recode.specs.TextPages.{Reads, text_in}
use Rattle.msi_recode.specs.PoolRecoding.{PoolHead, IsHead, SpellsTexts, AreRecoded, CannotBeRecoded, HavePlaces, IsPoolError, FailsAt, FailsInFront, entry_of, is_long, has_long, entries_written, texts_written}
use Rattle.msi_recode.specs.PoolReading.{IsFront, IsPut, AreWritten, ArePut, IsTextError, IsTextsError}
use Rattle.msi_recode.proofs.HeadLemmas.{one_head}
use Rattle.msi_recode.proofs.TextsLemmas.{AreInFront, texts_fail, failing_is_long}
use Rattle.msi_recode.proofs.WrittenLemmas.{streams_are_pool}

-- the front of the bytes is what the entry says
front_is : (e : Entry) (bytes piece others : List ℕ) → bytes ≡ piece ++ others → length piece ≡ e.len → take e.len bytes ≡ piece
front_is e bytes piece others parts len = ap (take e.len) parts ∙ take_at piece others e.len len

-- too few bytes
pub cut_fails : (page : TextPage) (e : Entry) (bytes : List ℕ) → length bytes < e.len → FailsInFront page e bytes
cut_fails page e bytes few piece text others parts len reads =
    absurd (omega (arith, few, len, length-append piece others, ap length parts))

-- bytes that aren't read
pub unread_fails : (page : TextPage) (e : Entry) (bytes : List ℕ) (k : ErrorKind) → k ≡ (if is_some (text_in page (take e.len bytes)) then kind.OutOfMemory else kind.InvalidData) → IsTextError page e bytes k
unread_fails page e bytes k is = elim (cases_some (text_in page (take e.len bytes))) [
  | inl read ↦ subst (λ (x : ErrorKind). IsTextError page e bytes x) (sym (is ∙ ap (λ (b : Bool). if b then kind.OutOfMemory else kind.InvalidData) read)) tt
  | inr unread ↦ subst (λ (x : ErrorKind). IsTextError page e bytes x) (sym (is ∙ ap (λ (b : Bool). if b then kind.OutOfMemory else kind.InvalidData) unread))
      (λ piece text others parts len reads. absurd (not_given text (sym reads ∙ ap (text_in page) (sym (front_is e bytes piece others parts len)) ∙ none_there (text_in page (take e.len bytes)) unread)))
]
  where
    cases_some : (o : Option (List ℕ)) → (is_some o ≡ true) ⊎ (is_some o ≡ false)
    cases_some (Some x) = inl refl
    cases_some None = inr refl

-- a text that is too long
pub long_fails : (page : TextPage) (e : Entry) (bytes text : List ℕ) → Reads page (take e.len bytes) text → is_long (record { len = length text; count = e.count }) ≡ true → FailsInFront page e bytes
long_fails page e bytes text reads long piece other others parts len read =
    let same : text ≡ other = some_is text other (sym reads ∙ ap (text_in page) (front_is e bytes piece others parts len) ∙ read) in
    subst (λ (x : List ℕ). is_long (record { len = length x; count = e.count }) ≡ true) same long

-- the text in front
pub front_read : (page : TextPage) (e : Entry) (bytes text : List ℕ) → e.len ≤ length bytes → Reads page (take e.len bytes) text → IsFront page e bytes (record { text = text; count = e.count }) (drop e.len bytes)
front_read page e bytes text fits reads = record {
  piece = take e.len bytes;
  parts = sym (take-append-drop e.len bytes);
  len = omega (arith, length-take e.len bytes, fits);
  reads = reads;
  count = refl;
}

-- the place in front, written behind the others
pub put_made : (page : TextPage) (e : Entry) (bytes text front rest entries_before texts_before entries_after texts_after : List ℕ) → e.len ≤ length bytes → front ≡ take e.len bytes → rest ≡ drop e.len bytes → Reads page front text
    → is_long (record { len = length text; count = e.count }) ≡ false → e.count < 2 ^ 16 → IsUtf8 text → entries_after ≡ entries_before ++ plain_entry (record { len = length text; count = e.count }) → texts_after ≡ texts_before ++ text
    → IsPut page e bytes entries_before texts_before entries_after texts_after rest
put_made page e bytes text front rest entries_before texts_before entries_after texts_after fits front_is rest_is reads short count utf8 entries texts = record {
  place = record { text = text; count = e.count };
  front = subst (λ (x : List ℕ). IsFront page e bytes (record { text = text; count = e.count }) x) (sym rest_is) (front_read page e bytes text fits (ap (text_in page) (sym front_is) ∙ reads));
  short = short;
  count = count;
  utf8 = utf8;
  entries = entries;
  texts = texts;
}

pub written_start : (entries texts : List ℕ) → AreWritten [] entries texts entries texts
written_start entries texts = record { short = refl; counts = tt; utf8 = tt; entries = sym (append-nil entries); texts = sym (append-nil texts) }

pub written_next : (page : TextPage) (e : Entry) (bytes rest : List ℕ) (front : List Place) (entries texts entries_before texts_before entries_after texts_after : List ℕ)
    → AreWritten front entries texts entries_before texts_before → (put : IsPut page e bytes entries_before texts_before entries_after texts_after rest)
    → AreWritten (front ++ put.place ∷ []) entries texts entries_after texts_after
written_next page e bytes rest front entries texts entries_before texts_before entries_after texts_after w put = record {
  short = any_joined (λ (p : Place). is_long (entry_of p)) front (put.place ∷ []) w.short (or_from (is_long (entry_of put.place)) false put.short refl);
  counts = all_joined (λ (p : Place). p.count < 2 ^ 16) front (put.place ∷ []) w.counts (put.count, tt);
  utf8 = all_joined (λ (p : Place). IsUtf8 p.text) front (put.place ∷ []) w.utf8 (put.utf8, tt);
  entries = behind entries entries_before entries_after (entries_written front) (plain_entry (entry_of put.place)) (entries_written (front ++ put.place ∷ [])) w.entries put.entries (flat_map-append (λ (p : Place). plain_entry (entry_of p)) front (put.place ∷ []) ∙ ap (λ (x : List ℕ). entries_written front ++ x) (append-nil (plain_entry (entry_of put.place))));
  texts = behind texts texts_before texts_after (texts_written front) put.place.text (texts_written (front ++ put.place ∷ [])) w.texts put.texts (flat_map-append (λ (p : Place). p.text) front (put.place ∷ []) ∙ ap (λ (x : List ℕ). texts_written front ++ x) (append-nil put.place.text));
}
  where
    behind : (first before after front last all : List ℕ) → before ≡ first ++ front → after ≡ before ++ last → all ≡ front ++ last → after ≡ first ++ all
    behind first before after front last all p q r = q ∙ ap (λ (x : List ℕ). x ++ last) p ∙ append_assoc first front last ∙ ap (λ (x : List ℕ). first ++ x) (sym r)

-- why a text isn't put is why the texts aren't
pub texts_error : (k : ErrorKind) (page : TextPage) (entries : List Entry) (bytes : List ℕ) (i : ℕ) (front : List Place) (old : List ℕ) (e : Entry)
    → AreInFront page entries bytes i front old → i < length entries → e ≡ get_or entries i e → IsTextError page e old k → IsTextsError page bytes entries (of_place i k)
texts_error kind.AlreadyExists page entries bytes i front old e so_far lt is h = absurd h
texts_error kind.InvalidData page entries bytes i front old e so_far lt is h = texts_fail page entries bytes i front old e so_far lt is h
texts_error kind.InvalidInput page entries bytes i front old e so_far lt is h = absurd h
texts_error kind.NotFound page entries bytes i front old e so_far lt is h = absurd h
texts_error kind.Io page entries bytes i front old e so_far lt is h = absurd h
texts_error kind.OutOfMemory page entries bytes i front old e so_far lt is h = tt

same_length : (page : TextPage) (bytes : List ℕ) (es : List Entry) (ps : List Place) → SpellsTexts page bytes es ps → length ps ≡ length es
same_length page bytes [] [] h = refl
same_length page bytes [] (p ∷ ps) h = absurd h
same_length page bytes (e ∷ es) [] h = absurd h
same_length page bytes (e ∷ es) (p ∷ ps) (piece, others, parts, len, reads, count, more) = ap suc (same_length page others es ps more)

-- what is read and written is the pool in UTF-8
pub recoded : (hint : Option TextPage) (pool_stream data_stream : List ℕ) (head : PoolHead) (page : TextPage) (list : List Entry) (long : Bool) (entries_before texts_before entries texts : List ℕ) → IsHead hint pool_stream head
    → page ≡ head.page → list ≡ head.entries → long ≡ head.long → entries_before ≡ header_of 65001 long → texts_before ≡ []
    → ArePut page data_stream list entries_before texts_before entries texts → AreRecoded hint pool_stream data_stream entries texts
recoded hint pool_stream data_stream head page list long entries_before texts_before entries texts said page_is list_is long_is entries_are texts_are (places, spelled, w) =
    let few = said.6 in
    let here : SpellsTexts head.page data_stream head.entries places = subst (λ (x : TextPage). SpellsTexts x data_stream head.entries places) page_is (subst (λ (x : List Entry). SpellsTexts page data_stream x places) list_is spelled) in
    let same = same_length head.page data_stream head.entries places here in
    let start : entries ≡ header_of 65001 head.long ++ entries_written places = w.entries ∙ ap (λ (x : List ℕ). x ++ entries_written places) (entries_are ∙ ap (header_of 65001) long_is) in
    let all : texts ≡ texts_written places = w.texts ∙ ap (λ (x : List ℕ). x ++ texts_written places) texts_are in
    (head, places, (said, here), streams_are_pool head.long places entries texts (omega (arith, few, same)) w.counts w.short w.utf8 start all, (start, all), w.short)

-- ---- why a pool isn't recoded

-- where the head isn't read, there is none
pub head_error : (k : ErrorKind) (given : Option TextPage) (pool_stream data_stream : List ℕ) → (k ≡ kind.InvalidData) ⊎ (k ≡ kind.OutOfMemory) → ((head : PoolHead) → IsHead given pool_stream head → k ≡ kind.OutOfMemory)
    → IsPoolError given pool_stream data_stream (error.Package k)
head_error k given pool_stream data_stream (inl invalid) only = inr (inl (ap (λ (x : ErrorKind). error.Package x) invalid, λ head said. let e : kind.InvalidData ≡ kind.OutOfMemory = sym invalid ∙ only head said in cc))
head_error k given pool_stream data_stream (inr memory) only = inl (ap (λ (x : ErrorKind). error.Package x) memory)

error_of : (e : RecodeError) (page : TextPage) (data_stream : List ℕ) (list : List Entry) (head : PoolHead) → page ≡ head.page → list ≡ head.entries → IsTextsError page data_stream list e → IsTextsError head.page data_stream head.entries e
error_of e page data_stream list head page_is list_is h =
    subst (λ (x : TextPage). IsTextsError x data_stream head.entries e) page_is (subst (λ (x : List Entry). IsTextsError page data_stream x e) list_is h)

place_of : (e : RecodeError) (given : Option TextPage) (pool_stream data_stream : List ℕ) (head : PoolHead) → IsHead given pool_stream head → IsTextsError head.page data_stream head.entries e → IsPoolError given pool_stream data_stream e
place_of (error.Package kind.AlreadyExists) given pool_stream data_stream head said h = absurd h
place_of (error.Package kind.InvalidData) given pool_stream data_stream head said h = absurd h
place_of (error.Package kind.InvalidInput) given pool_stream data_stream head said h = absurd h
place_of (error.Package kind.NotFound) given pool_stream data_stream head said h = absurd h
place_of (error.Package kind.Io) given pool_stream data_stream head said h = absurd h
place_of (error.Package kind.OutOfMemory) given pool_stream data_stream head said h = inl refl
place_of (error.Property id k) given pool_stream data_stream head said h = elim h [ ]
place_of (error.Place n kind.AlreadyExists) given pool_stream data_stream head said h = absurd h
place_of (error.Place n kind.InvalidData) given pool_stream data_stream head said h = inr (inr (head, n, said, refl, h))
place_of (error.Place n kind.InvalidInput) given pool_stream data_stream head said h = absurd h
place_of (error.Place n kind.NotFound) given pool_stream data_stream head said h = absurd h
place_of (error.Place n kind.Io) given pool_stream data_stream head said h = absurd h
place_of (error.Place n kind.OutOfMemory) given pool_stream data_stream head said h = absurd h

pub place_error : (e : RecodeError) (given : Option TextPage) (pool_stream data_stream : List ℕ) (head : PoolHead) (page : TextPage) (list : List Entry) → page ≡ head.page → list ≡ head.entries
    → IsHead given pool_stream head → IsTextsError page data_stream list e → IsPoolError given pool_stream data_stream e
place_error e given pool_stream data_stream head page list page_is list_is said h = place_of e given pool_stream data_stream head said (error_of e page data_stream list head page_is list_is h)

-- a place that fails has no text that has an entry
fails_long : (given : Option TextPage) (pool_stream data_stream : List ℕ) (found head : PoolHead) (n : ℕ) (places : List Place) → IsHead given pool_stream found → FailsAt found.page data_stream found.entries n
    → HavePlaces given pool_stream data_stream head places → has_long places ≡ true
fails_long given pool_stream data_stream found head n places read fails (said, spelled) =
    failing_is_long head.page data_stream head.entries n places (subst (λ (x : PoolHead). FailsAt x.page data_stream x.entries n) (one_head given pool_stream found head read said) fails) spelled

-- a pool that can be recoded has no error but of memory
pub pool_only : (given : Option TextPage) (pool_stream data_stream entries texts : List ℕ) (e : RecodeError) → IsPoolError given pool_stream data_stream e → AreRecoded given pool_stream data_stream entries texts → kind_of e ≡ kind.OutOfMemory
pool_only given pool_stream data_stream entries texts e (inl memory) made = ap kind_of memory
pool_only given pool_stream data_stream entries texts e (inr (inl (is, none))) (head, places, have, pool, plain, short) = absurd (none head have.0)
pool_only given pool_stream data_stream entries texts e (inr (inr (found, n, read, is, fails))) (head, places, have, pool, plain, short) =
    absurd (true≢false (sym (fails_long given pool_stream data_stream found head n places read fails have) ∙ short))

-- invalid data have no places that can be recoded
pub pool_refused : (given : Option TextPage) (pool_stream data_stream : List ℕ) (e : RecodeError) → IsPoolError given pool_stream data_stream e → kind_of e ≡ kind.InvalidData → CannotBeRecoded given pool_stream data_stream
pool_refused given pool_stream data_stream e (inl memory) invalid head places have = let k : kind.InvalidData ≡ kind.OutOfMemory = sym invalid ∙ ap kind_of memory in cc
pool_refused given pool_stream data_stream e (inr (inl (is, none))) invalid head places have = absurd (none head have.0)
pool_refused given pool_stream data_stream e (inr (inr (found, n, read, is, fails))) invalid head places have = fails_long given pool_stream data_stream found head n places read fails have
