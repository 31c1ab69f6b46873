-- A pool that a package may have comes back as it is.
use Rattle.std.proofs.Common.{◌≡◌, ℕ, Bool, List, [], ◌∷◌, length, Some, None, take, drop, refl, sym, ap, subst, ◌∙◌}
use Rattle.std.proofs.lemmas.List.{take_at, drop_at}
use Rattle.msi_base.specs.declared.codepage.CodePage.{CodePage}
use Rattle.msi_base.specs.declared.codepage.CodePage.TheVariants as page
use Rattle.msi_base.specs.Pages as plain
use Rattle.msi_base.proofs.OptionLemmas.{some_is}
use Rattle.msi_pool_places.specs.Pool.{Entry, Place, IsPool}
use Rattle.msi_pool_places.specs.Pool as pools
use Rattle.msi_recode.specs.declared.page.TextPage.{TextPage}
use Rattle.msi_recode.specs.TextPages.{Reads, text_in}
use Rattle.msi_recode.specs.PoolRecoding.{PoolHead, IsHead, SpellsTexts}
use Rattle.msi_recode.specs.RecodingLaws.{PoolsStayAlike}
use Rattle.msi_recode.proofs.HeadLemmas.{one_head}
use Rattle.msi_recode.proofs.PageLemmas.{page_alone}
use Rattle.msi_recode.proofs.PagesAlikeLemmas.{pages_read_alike}

texts_alike : (p : CodePage) (q : TextPage) → ((bytes text : List ℕ) → plain.Reads p bytes text → Reads q bytes text) → (bytes : List ℕ) (es : List Entry) (ps : List Place) → pools.SpellsTexts p bytes es ps → SpellsTexts q bytes es ps
texts_alike p q alike bytes [] [] h = tt
texts_alike p q alike bytes [] (x ∷ ps) h = absurd h
texts_alike p q alike bytes (e ∷ es) [] h = absurd h
texts_alike p q alike bytes (e ∷ es) (x ∷ ps) (piece, others, parts, len, reads, count, more) = (piece, others, parts, len, alike piece x.text reads, count, texts_alike p q alike others es ps more)

same_place : (x y : Place) → x.text ≡ y.text → x.count ≡ y.count → x ≡ y
same_place x y p q = rw (p, q) refl

pub one_texts : (q : TextPage) (bytes : List ℕ) (es : List Entry) (xs ys : List Place) → SpellsTexts q bytes es xs → SpellsTexts q bytes es ys → xs ≡ ys
one_texts q bytes [] [] [] h k = refl
one_texts q bytes [] [] (y ∷ ys) h k = absurd k
one_texts q bytes [] (x ∷ xs) ys h k = absurd h
one_texts q bytes (e ∷ es) [] ys h k = absurd h
one_texts q bytes (e ∷ es) (x ∷ xs) [] h k = absurd k
one_texts q bytes (e ∷ es) (x ∷ xs) (y ∷ ys) (piece, others, parts, len, reads, count, more) (part, rest, cut, size, read, number, later) =
    let joined = sym parts ∙ cut in
    let same : piece ≡ part = sym (take_at piece others e.len len) ∙ ap (take e.len) joined ∙ take_at part rest e.len size in
    let left : rest ≡ others = sym (drop_at part rest e.len size) ∙ ap (drop e.len) (sym joined) ∙ drop_at piece others e.len len in
    let text : x.text ≡ y.text = some_is x.text y.text (sym reads ∙ ap (text_in q) same ∙ read) in
    let first : x ≡ y = same_place x y text (count ∙ sym number) in
    ap (λ (z : Place). z ∷ xs) first ∙ ap (λ (zs : List Place). y ∷ zs) (one_texts q others es xs ys more (subst (λ (b : List ℕ). SpellsTexts q b es ys) left later))

pub pools_stay_alike : PoolsStayAlike
pools_stay_alike pool_stream data_stream pool_after data_after pool (es, (id, others, small, known, parts, listed, few), texts) (head, places, (said, spelled), after, plain_streams, short) =
    let found = pages_read_alike id pool.page known in
    let mine : PoolHead = record { page = found.0; long = pool.long; entries = es } in
    let is : IsHead None pool_stream mine = (id, others, small, sym (page_alone id) ∙ found.1, parts, listed, few) in
    let same : head ≡ mine = one_head None pool_stream head mine said is in
    let read = texts_alike pool.page found.0 found.2 data_stream es pool.places texts in
    let here : SpellsTexts found.0 data_stream es places = subst (λ (h : PoolHead). SpellsTexts h.page data_stream h.entries places) same spelled in
    subst (λ (ps : List Place). IsPool pool_after data_after (record { page = page.Utf8; long = pool.long; places = ps })) (one_texts found.0 data_stream es places pool.places here read)
    (subst (λ (l : Bool). IsPool pool_after data_after (record { page = page.Utf8; long = l; places = places })) (ap (λ (h : PoolHead). h.long) same) after)
