-- The texts of the data stream one after the other, as a loop reads them.
use Rattle.std.proofs.Common.{◌≡◌, ℕ, suc, ◌≤◌, false, ltb, List, [], ◌∷◌, ◌++◌, length, take, drop, Some, None, refl, sym, ap, subst, ◌∙◌, append_assoc, arith}
use Rattle.std.specs.Prelude.{option_map, slice_get}
use Rattle.std.proofs.lemmas.Bool.{ltb-false, le-ltb}
use Rattle.std.proofs.lemmas.List.{append-nil, take_at, drop_at, take-append-drop, length-append, length-take}
use Rattle.std.proofs.lemmas.Option.{none-some, same_Some}
use Rattle.msi_base.specs.declared.codepage.CodePage.{CodePage}
use Rattle.msi_base.specs.declared.errors.ErrorKind.{ErrorKind}
use Rattle.msi_base.specs.declared.errors.ErrorKind.TheVariants as kind
use Rattle.msi_base.specs.Pages.{text_in}
use Rattle.msi_pool_places.specs.Pool.{Entry, Place, SpellsTexts}
use Rattle.msi_pool_places.specs.PoolReading.{place_with, place_in_front}
use Rattle.msi_base.specs.Results.{FailsAs}
use Rattle.msi_base.proofs.OptionLemmas.{map_some, guard_passed, given, some_is, not_given}

-- bytes in front read as the text of the place
pub record Placed (page : CodePage) (e : Entry) (bytes : List ℕ) (p : Place) (rest : List ℕ) : Type 0 where
  pub piece : List ℕ
  pub parts : bytes ≡ piece ++ rest
  pub len : length piece ≡ e.len
  pub reads : text_in page piece ≡ Some p.text
  pub count : p.count ≡ e.count

pub place_found : (page : CodePage) (e : Entry) (bytes : List ℕ) (p : Place) (rest : List ℕ) → place_in_front page e bytes ≡ Some (p, rest) → Placed page e bytes p rest
place_found page e bytes p rest h =
    let g = guard_passed (ltb (length bytes) e.len) (option_map (λ (text : List ℕ). (place_with e text, drop e.len bytes)) (text_in page (take e.len bytes))) (p, rest) h in
    let long : e.len ≤ length bytes = ltb-false _ _ g.0 in
    let m = map_some (text_in page (take e.len bytes)) (λ (text : List ℕ). (place_with e text, drop e.len bytes)) (p, rest) g.1 in
    subst (λ (x : Place × List ℕ). Placed page e bytes x.0 x.1) m.2
    (record { piece = take e.len bytes; parts = sym (take-append-drop e.len bytes); len = omega (arith, length-take e.len bytes, long); reads = m.1; count = refl })

pub place_again : (page : CodePage) (e : Entry) (p : Place) (piece rest : List ℕ) → length piece ≡ e.len → text_in page piece ≡ Some p.text → p.count ≡ e.count → place_in_front page e (piece ++ rest) ≡ Some (p, rest)
place_again page e p piece rest len reads count =
    let long : ltb (length (piece ++ rest)) e.len ≡ false = le-ltb _ _ (omega (arith, length-append piece rest, len)) in
    rw (long, take_at piece rest e.len len, drop_at piece rest e.len len, reads, ← count) refl

-- the places after the first
next_texts : (page : CodePage) (bytes : List ℕ) (e : Entry) (es : List Entry) (p : Place) (rest : List ℕ) (ps : List Place) → place_in_front page e bytes ≡ Some (p, rest) → SpellsTexts page bytes (e ∷ es) ps
    → (others : List Place) × (ps ≡ p ∷ others) × SpellsTexts page rest es others
next_texts page bytes e es p rest [] h spelled = absurd spelled
next_texts page bytes e es p rest (q ∷ qs) h (piece, others, parts, len, reads, count, more) =
    let both : (p, rest) ≡ (q, others) = some_is (p, rest) (q, others) (sym h ∙ ap (place_in_front page e) parts ∙ place_again page e q piece others len reads count) in
    let q-is : q ≡ p = ap (λ (x : Place × List ℕ). x.0) (sym both) in
    let rest-is : others ≡ rest = ap (λ (x : Place × List ℕ). x.1) (sym both) in
    (qs, ap (λ (x : Place). x ∷ qs) q-is, subst (λ (x : List ℕ). SpellsTexts page x es qs) rest-is more)

no_texts : (page : CodePage) (bytes : List ℕ) (e : Entry) (es : List Entry) (ps : List Place) → place_in_front page e bytes ≡ None → SpellsTexts page bytes (e ∷ es) ps → ⊥
no_texts page bytes e es [] h spelled = spelled
no_texts page bytes e es (q ∷ qs) h (piece, others, parts, len, reads, count, more) =
    not_given (q, others) (sym (place_again page e q piece others len reads count) ∙ ap (place_in_front page e) (sym parts) ∙ h)

pub same_length : (page : CodePage) (bytes : List ℕ) (es : List Entry) (ps : List Place) → SpellsTexts page bytes es ps → length ps ≡ length es
same_length page bytes [] [] h = refl
same_length page bytes [] (p ∷ ps) h = absurd h
same_length page bytes (e ∷ es) [] h = absurd h
same_length page bytes (e ∷ es) (p ∷ ps) (piece, others, parts, len, reads, count, more) = ap suc (same_length page others es ps more)

-- the bytes spell what the rest spells of the entries that are left, with these places in front
pub record AreInFront (page : CodePage) (entries : List Entry) (bytes : List ℕ) (left : List Entry) (front : List Place) (rest : List ℕ) : Type 0 where
  pub into : (ps : List Place) → SpellsTexts page rest left ps → SpellsTexts page bytes entries (front ++ ps)
  pub back : (ps : List Place) → SpellsTexts page bytes entries ps → (others : List Place) × (ps ≡ front ++ others) × SpellsTexts page rest left others

pub texts_start : (page : CodePage) (entries : List Entry) (bytes : List ℕ) → AreInFront page entries bytes entries [] bytes
texts_start page entries bytes = record { into = λ ps h. h; back = λ ps h. (ps, refl, h) }

pub texts_next : (page : CodePage) (entries : List Entry) (bytes : List ℕ) (left : List Entry) (front : List Place) (old : List ℕ) (e : Entry) (p : Place) (rest : List ℕ)
    → AreInFront page entries bytes left front old → slice_get left 0 ≡ Some e → place_in_front page e old ≡ Some (p, rest) → AreInFront page entries bytes (drop 1 left) (front ++ p ∷ []) rest
texts_next page entries bytes [] front old e p rest so_far next h = absurd (none-some e next)
texts_next page entries bytes (d ∷ ds) front old e p rest so_far next h =
    let f = place_found page d old p rest (ap (λ (x : Entry). place_in_front page x old) (same_Some d e next) ∙ h) in
    record {
      into = λ ps spelled. subst (λ (x : List Place). SpellsTexts page bytes entries x) (sym (append_assoc front (p ∷ []) ps))
          (so_far.into (p ∷ ps) (f.piece, rest, f.parts, f.len, f.reads, f.count, spelled));
      back = λ ps spelled. (let b = so_far.back ps spelled in
          let n = next_texts page old d ds p rest b.0 (ap (λ (x : Entry). place_in_front page x old) (same_Some d e next) ∙ h) b.2 in
          (n.0, b.1 ∙ ap (λ (x : List Place). front ++ x) n.1 ∙ sym (append_assoc front (p ∷ []) n.0), n.2));
    }

pub none_left : (left : List Entry) → slice_get left 0 ≡ None → left ≡ []
none_left [] none = refl
none_left (e ∷ es) none = absurd (none-some e (sym none))

pub texts_done : (page : CodePage) (entries : List Entry) (bytes : List ℕ) (left : List Entry) (front : List Place) (rest : List ℕ) → AreInFront page entries bytes left front rest → slice_get left 0 ≡ None → SpellsTexts page bytes entries front
texts_done page entries bytes left front rest so_far none =
    subst (λ (x : List Place). SpellsTexts page bytes entries x) (append-nil front) (so_far.into [] (subst (λ (x : List Entry). SpellsTexts page rest x []) (sym (none_left left none)) tt))

pub texts_only : (page : CodePage) (entries : List Entry) (bytes : List ℕ) (left : List Entry) (front : List Place) (rest : List ℕ) (ps : List Place) → AreInFront page entries bytes left front rest → slice_get left 0 ≡ None → SpellsTexts page bytes entries ps → ps ≡ front
texts_only page entries bytes left front rest ps so_far none spelled =
    let b = so_far.back ps spelled in
    b.1 ∙ ap (λ (x : List Place). front ++ x) (last_texts b.0 (subst (λ (x : List Entry). SpellsTexts page rest x b.0) (none_left left none) b.2)) ∙ append-nil front
  where
    last_texts : (others : List Place) → SpellsTexts page rest [] others → others ≡ []
    last_texts [] h = refl
    last_texts (q ∷ qs) h = absurd h

-- a fault of the next place is one of the places
cut_here : (page : CodePage) (left : List Entry) (old : List ℕ) (e : Entry) (others : List Place) → slice_get left 0 ≡ Some e → place_in_front page e old ≡ None → SpellsTexts page old left others → ⊥
cut_here page [] old e others next h spelled = absurd (none-some e next)
cut_here page (d ∷ ds) old e others next h spelled = no_texts page old d ds others (ap (λ (x : Entry). place_in_front page x old) (same_Some d e next) ∙ h) spelled

pub texts_cut : (k : ErrorKind) (page : CodePage) (entries : List Entry) (bytes : List ℕ) (left : List Entry) (front : List Place) (old : List ℕ) (e : Entry) (ps : List Place)
    → AreInFront page entries bytes left front old → slice_get left 0 ≡ Some e → FailsAs k (place_in_front page e old) → SpellsTexts page bytes entries ps → FailsAs k (given ps)
texts_cut kind.AlreadyExists page entries bytes left front old e ps so_far next h spelled = absurd h
texts_cut kind.InvalidData page entries bytes left front old e ps so_far next h spelled =
    let b = so_far.back ps spelled in
    absurd (cut_here page left old e b.0 next h b.2)
texts_cut kind.InvalidInput page entries bytes left front old e ps so_far next h spelled = absurd h
texts_cut kind.NotFound page entries bytes left front old e ps so_far next h spelled = absurd h
texts_cut kind.Io page entries bytes left front old e ps so_far next h spelled = absurd h
texts_cut kind.OutOfMemory page entries bytes left front old e ps so_far next h spelled = tt

pub one_texts : (page : CodePage) (bytes : List ℕ) (es : List Entry) (xs ys : List Place) → SpellsTexts page bytes es xs → SpellsTexts page bytes es ys → xs ≡ ys
one_texts page bytes [] [] [] p q = refl
one_texts page bytes [] [] (y ∷ ys) p q = absurd q
one_texts page bytes [] (x ∷ xs) ys p q = absurd p
one_texts page bytes (e ∷ es) [] ys p q = absurd p
one_texts page bytes (e ∷ es) (x ∷ xs) ys (piece, others, parts, len, reads, count, more) q =
    let read : place_in_front page e bytes ≡ Some (x, others) = ap (place_in_front page e) parts ∙ place_again page e x piece others len reads count in
    let n = next_texts page bytes e es x others ys read q in
    ap (λ (ps : List Place). x ∷ ps) (one_texts page others es xs n.0 more n.2) ∙ sym n.1
