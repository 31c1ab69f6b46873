-- Pieces of a printed text, and the symbols that each is made of whatever follows it.
use Rattle.std.proofs.Common.{◌≡◌, ℕ, true, List, [], ◌++◌, Option, Some, None, refl, sym, ap, subst, ◌∙◌, append_assoc, append-nil}
use Rattle.std.specs.Fmt.{◌++?◌}
use Rattle.msi_query_tokens.specs.Tokens.{token, skip_blanks, same_kind}
use Rattle.msi_query_tokens.specs.Symbols.{Symbol, AreSymbols}
use Rattle.msi_query_tokens.proofs.CutLemmas.{Over, over_append, is_apart}

-- whatever follows
pub record Front (text : List ℕ) (symbols : List Symbol) : Type 0 where
  pub over : (after : List ℕ) → Over (text ++ after) symbols after

-- where nothing follows that makes the last name or number longer
pub record Leads (text : List ℕ) (symbols : List Symbol) : Type 0 where
  pub over : (after : List ℕ) → is_apart after ≡ true → Over (text ++ after) symbols after

-- which itself makes no name or number before it longer
pub record Tail (text : List ℕ) (symbols : List Symbol) : Type 0 where
  pub apart : (after : List ℕ) → is_apart after ≡ true → is_apart (text ++ after) ≡ true
  pub over : (after : List ℕ) → is_apart after ≡ true → Over (text ++ after) symbols after

-- which does so whatever follows
pub record Link (text : List ℕ) (symbols : List Symbol) : Type 0 where
  pub apart : (after : List ℕ) → is_apart (text ++ after) ≡ true
  pub over : (after : List ℕ) → Over (text ++ after) symbols after

over_both : (a b : List ℕ) (s t : List Symbol) (after : List ℕ) → Over (a ++ (b ++ after)) s (b ++ after) → Over (b ++ after) t after → Over ((a ++ b) ++ after) (s ++ t) after
over_both a b s t after h g = subst (λ x. Over x (s ++ t) after) (sym (append_assoc a b after)) (over_append s t (a ++ (b ++ after)) (b ++ after) after h g)

pub front_leads : (a b : List ℕ) (s t : List Symbol) → Front a s → Leads b t → Leads (a ++ b) (s ++ t)
front_leads a b s t f h = record { over = λ after e. over_both a b s t after (f.over (b ++ after)) (h.over after e) }

pub leads_tail : (a b : List ℕ) (s t : List Symbol) → Leads a s → Tail b t → Leads (a ++ b) (s ++ t)
leads_tail a b s t h k = record { over = λ after e. over_both a b s t after (h.over (b ++ after) (k.apart after e)) (k.over after e) }

pub tail_tail : (a b : List ℕ) (s t : List Symbol) → Tail a s → Tail b t → Tail (a ++ b) (s ++ t)
tail_tail a b s t h k = record {
  apart = λ after e. ap is_apart (append_assoc a b after) ∙ h.apart (b ++ after) (k.apart after e);
  over = λ after e. over_both a b s t after (h.over (b ++ after) (k.apart after e)) (k.over after e);
}

pub link_leads : (a b : List ℕ) (s t : List Symbol) → Link a s → Leads b t → Tail (a ++ b) (s ++ t)
link_leads a b s t l h = record {
  apart = λ after e. ap is_apart (append_assoc a b after) ∙ l.apart (b ++ after);
  over = λ after e. over_both a b s t after (l.over (b ++ after)) (h.over after e);
}

pub leads_link : (a b : List ℕ) (s t : List Symbol) → Leads a s → Link b t → Front (a ++ b) (s ++ t)
leads_link a b s t h l = record { over = λ after. over_both a b s t after (h.over (b ++ after) (l.apart after)) (l.over after) }

pub front_front : (a b : List ℕ) (s t : List Symbol) → Front a s → Front b t → Front (a ++ b) (s ++ t)
front_front a b s t f h = record { over = λ after. over_both a b s t after (f.over (b ++ after)) (h.over after) }

pub as_leads : (a : List ℕ) (s : List Symbol) → Front a s → Leads a s
as_leads a s f = record { over = λ after _. f.over after }

pub link_tail : (a : List ℕ) (s : List Symbol) → Link a s → Tail a s
link_tail a s l = record { apart = λ after _. l.apart after; over = λ after _. l.over after }

pub no_tail : Tail [] []
no_tail = record { apart = λ after e. e; over = λ after e. refl }

-- a whole text
pub are_symbols : (text : List ℕ) (symbols : List Symbol) → Leads text symbols → AreSymbols text symbols
unfolding skip_blanks token same_kind
are_symbols text symbols h = record {
  rest = [];
  spans = subst (λ t. Over t symbols []) (append-nil text) (h.over [] refl);
  end = refl;
}

-- ---- texts that may be missing

pub record Prints (o : Option (List ℕ)) (symbols : List Symbol) : Type 0 where
  pub leads : (text : List ℕ) → o ≡ Some text → Leads text symbols

pub record Tails (o : Option (List ℕ)) (symbols : List Symbol) : Type 0 where
  pub tail : (text : List ℕ) → o ≡ Some text → Tail text symbols

both_there : (P : List ℕ → Type 0) (o p : Option (List ℕ)) → ((a b : List ℕ) → o ≡ Some a → p ≡ Some b → P (a ++ b)) → (text : List ℕ) → (o ++? p) ≡ Some text → P text
both_there P None p f text e = absurd (let clash : None ≡ Some text = e in cc)
both_there P (Some a) None f text e = absurd (let clash : None ≡ Some text = e in cc)
both_there P (Some a) (Some b) f text e =
    let whole : Some (a ++ b) ≡ Some text = e in
    let same : a ++ b ≡ text = cc in
    subst P same (f a b refl refl)

there : (P : List ℕ → Type 0) (a : List ℕ) → P a → (text : List ℕ) → Some a ≡ Some text → P text
there P a h text e = let same : a ≡ text = cc in subst P same h

pub text_prints : (a : List ℕ) (s : List Symbol) → Leads a s → Prints (Some a) s
text_prints a s h = record { leads = there (λ t. Leads t s) a h }

pub text_tails : (a : List ℕ) (s : List Symbol) → Tail a s → Tails (Some a) s
text_tails a s h = record { tail = there (λ t. Tail t s) a h }

pub prints_tails : (o p : Option (List ℕ)) (s t : List Symbol) → Prints o s → Tails p t → Prints (o ++? p) (s ++ t)
prints_tails o p s t h k = record {
  leads = both_there (λ x. Leads x (s ++ t)) o p (λ a b d e. leads_tail a b s t (h.leads a d) (k.tail b e));
}

pub tails_tails : (o p : Option (List ℕ)) (s t : List Symbol) → Tails o s → Tails p t → Tails (o ++? p) (s ++ t)
tails_tails o p s t h k = record {
  tail = both_there (λ x. Tail x (s ++ t)) o p (λ a b d e. tail_tail a b s t (h.tail a d) (k.tail b e));
}

pub front_prints : (a : List ℕ) (p : Option (List ℕ)) (s t : List Symbol) → Front a s → Prints p t → Prints (Some a ++? p) (s ++ t)
front_prints a p s t f k = record {
  leads = both_there (λ x. Leads x (s ++ t)) (Some a) p
      (λ b c d e. let same : a ≡ b = cc in subst (λ x. Leads (x ++ c) (s ++ t)) same (front_leads a c s t f (k.leads c e)));
}

pub link_prints : (a : List ℕ) (p : Option (List ℕ)) (s t : List Symbol) → Link a s → Prints p t → Tails (Some a ++? p) (s ++ t)
link_prints a p s t l k = record {
  tail = both_there (λ x. Tail x (s ++ t)) (Some a) p
      (λ b c d e. let same : a ≡ b = cc in subst (λ x. Tail (x ++ c) (s ++ t)) same (link_leads a c s t l (k.leads c e)));
}

-- a link between two texts
pub linked_prints : (a : List ℕ) (o p : Option (List ℕ)) (s m t : List Symbol) → Prints o s → Link a m → Prints p t → Prints (o ++? Some a ++? p) (s ++ (m ++ t))
linked_prints a o p s m t h l k = prints_tails o (Some a ++? p) s (m ++ t) h (link_prints a p m t l k)

-- a text between two others
pub enclosed_prints : (a b : List ℕ) (o : Option (List ℕ)) (s t m : List Symbol) → Front a s → Prints o t → Link b m → Prints (Some a ++? o ++? Some b) (s ++ (t ++ m))
enclosed_prints a b o s t m f h l = front_prints a (o ++? Some b) s (t ++ m) f (prints_tails o (Some b) t m h (text_tails b m (link_tail b m l)))

-- the symbols of a whole printed text
pub symbols_of : (o : Option (List ℕ)) (s : List Symbol) → Prints o s → (text : List ℕ) → o ≡ Some text → AreSymbols text s
symbols_of o s h text e = are_symbols text s (h.leads text e)
