-- The texts of the data stream one after the other, as a loop reads them.
use Rattle.std.proofs.Common.{◌≡◌, ℕ, zero, suc, ◌+◌, ◌<◌, ◌≤◌, Bool, true, false, List, [], ◌∷◌, ◌++◌, length, get_or, take, drop, refl, sym, ap, subst, ◌∙◌, append_assoc, arith}
use Rattle.std.proofs.lemmas.Bool.{or_left, or_right}
use Rattle.std.proofs.lemmas.List.{append-nil, drop_at, drop_all}
use Rattle.msi_pool_places.specs.Pool.{Entry, Place}
use Rattle.msi_base.proofs.ListLemmas.{drop_next}
use Rattle.msi_recode.specs.declared.page.TextPage.{TextPage}
use Rattle.msi_recode.specs.TextPages.{Reads}
use Rattle.msi_recode.specs.PoolRecoding.{SpellsTexts, FailsAt, FailsInFront, entry_of, is_long, has_long}
use Rattle.msi_recode.specs.PoolReading.{IsFront}

-- the bytes spell what the rest spells of the later entries, with these places in front, and fail where the rest does
pub record AreInFront (page : TextPage) (entries : List Entry) (bytes : List ℕ) (i : ℕ) (front : List Place) (rest : List ℕ) : Type 0 where
  pub into : (ps : List Place) → SpellsTexts page rest (drop i entries) ps → SpellsTexts page bytes entries (front ++ ps)
  pub fails : (k : ℕ) → FailsAt page rest (drop i entries) k → FailsAt page bytes entries (i + k)

pub texts_start : (page : TextPage) (entries : List Entry) (bytes : List ℕ) → AreInFront page entries bytes 0 [] bytes
texts_start page entries bytes = record {
  into = λ ps h. h;
  fails = λ k h. subst (λ (n : ℕ). FailsAt page bytes entries n) (omega arith) h;
}

pub texts_next : (page : TextPage) (entries : List Entry) (bytes : List ℕ) (i : ℕ) (front : List Place) (old : List ℕ) (e : Entry) (p : Place) (rest : List ℕ)
    → AreInFront page entries bytes i front old → i < length entries → e ≡ get_or entries i e → IsFront page e old p rest → is_long (entry_of p) ≡ false
    → AreInFront page entries bytes (i + 1) (front ++ p ∷ []) rest
texts_next page entries bytes i front old e p rest so_far lt is f short =
    let these = drop_next entries i e lt is in
    let small : is_long (record { len = length p.text; count = e.count }) ≡ false = ap (λ (n : ℕ). is_long (record { len = length p.text; count = n })) (sym f.count) ∙ short in
    record {
      into = λ ps spelled. subst (λ (x : List Place). SpellsTexts page bytes entries x) (sym (append_assoc front (p ∷ []) ps))
          (so_far.into (p ∷ ps) (subst (λ (x : List Entry). SpellsTexts page old x (p ∷ ps)) (sym these) (f.piece, rest, f.parts, f.len, f.reads, f.count, spelled)));
      fails = λ k h. subst (λ (n : ℕ). FailsAt page bytes entries n) (omega arith)
          (so_far.fails (suc k) (subst (λ (x : List Entry). FailsAt page old x (suc k)) (sym these) (f.piece, p.text, rest, f.parts, f.len, f.reads, small, h)));
    }

pub texts_done : (page : TextPage) (entries : List Entry) (bytes : List ℕ) (i : ℕ) (front : List Place) (rest : List ℕ) → AreInFront page entries bytes i front rest → length entries ≤ i → SpellsTexts page bytes entries front
texts_done page entries bytes i front rest so_far le =
    subst (λ (x : List Place). SpellsTexts page bytes entries x) (append-nil front) (so_far.into [] (subst (λ (x : List Entry). SpellsTexts page rest x []) (sym (drop_all i entries le)) tt))

-- where the next text fails, the texts do
pub texts_fail : (page : TextPage) (entries : List Entry) (bytes : List ℕ) (i : ℕ) (front : List Place) (old : List ℕ) (e : Entry)
    → AreInFront page entries bytes i front old → i < length entries → e ≡ get_or entries i e → FailsInFront page e old → FailsAt page bytes entries i
texts_fail page entries bytes i front old e so_far lt is h =
    let these = drop_next entries i e lt is in
    subst (λ (n : ℕ). FailsAt page bytes entries n) (omega arith)
    (so_far.fails 0 (subst (λ (x : List Entry). FailsAt page old x 0) (sym these) h))

-- bytes that fail spell no places, or one with a text that is too long
pub failing_is_long : (page : TextPage) (bytes : List ℕ) (es : List Entry) (n : ℕ) (ps : List Place) → FailsAt page bytes es n → SpellsTexts page bytes es ps → has_long ps ≡ true
failing_is_long page bytes [] n ps f h = absurd f
failing_is_long page bytes (e ∷ es) n [] f h = absurd h
failing_is_long page bytes (e ∷ es) zero (p ∷ ps) f (piece, others, parts, len, reads, count, more) =
    let long : is_long (entry_of p) ≡ true = ap (λ (n : ℕ). is_long (record { len = length p.text; count = n })) count ∙ f piece p.text others parts len reads in
    or_left (is_long (entry_of p)) (has_long ps) long
failing_is_long page bytes (e ∷ es) (suc n) (p ∷ ps) (start, text, after, cut, size, read, short, f) (piece, others, parts, len, reads, count, more) =
    let same : after ≡ others = sym (drop_at start after e.len size) ∙ ap (drop e.len) (sym cut ∙ parts) ∙ drop_at piece others e.len len in
    or_right (is_long (entry_of p)) (has_long ps) (failing_is_long page others es n ps (subst (λ (x : List ℕ). FailsAt page x es n) same f) more)
