-- What a step of reading shows once it came out well.
use Rattle.std.proofs.Common.{◌≡◌, ℕ, ◌+◌, ◌<◌, Bool, true, false, if◌then◌else◌, List, [], ◌∷◌, Option, Some, None, Result, Ok, Err, refl, sym, ◌∙◌, ap, subst, ◌++◌, nat_lt}
use Rattle.std.proofs.lemmas.Bool.{ltb-true}
use Rattle.msi_query_tokens.specs.declared.token.Kind.{Kind}
use Rattle.msi_query_tokens.specs.declared.token.Kind.TheVariants as k
use Rattle.msi_query_tokens.specs.declared.refusal.Expected.{Expected}
use Rattle.msi_query_tokens.specs.declared.refusal.Expected.TheVariants.{FewerLevels}
use Rattle.msi_query_tokens.specs.declared.refusal.ParseError.{ParseError}
use Rattle.msi_query_tokens.specs.Input.{Input, Outcome, Reader, and_then, pure, kind, spelling, next, sees, after, expect, rise, refusal, take_token, ◌>>◌}
use Rattle.msi_query_tokens.specs.Texts.{text, checked, taken, plain_bytes, utf8_text}
use Rattle.msi_query_tokens.specs.Symbols.{Symbol, Spans, ends, symbol_of, checked_bytes}
use Rattle.msi_query_tokens.proofs.TokenLemmas.{kind_is, other_kind}
use Rattle.msi_query_tokens.proofs.SymbolLemmas.{spans_append}

module _ {A B : Type 0} where
  -- what two readers in a row did
  pub record Both (p : Outcome A) (f : A → Reader B) (b : B) (j : Input) : Type 0 where
    pub found : A
    pub place : Input
    pub first : p ≡ Ok (found, place)
    pub second : f found place ≡ Ok (b, j)

  pub then_ok : (p : Outcome A) (f : A → Reader B) (b : B) (j : Input) → and_then p f ≡ Ok (b, j) → Both p f b j
  then_ok (Ok p) f b j e = record { found = p.0; place = p.1; first = refl; second = e }
  then_ok (Err x) f b j e = absurd (cc)

module _ {A : Type 0} where
  from_ok : A → Result A ParseError → A
  from_ok d (Ok a) = a
  from_ok d (Err e) = d

  pub ok_is : (a b : A) → ◌≡◌ {A = Result A ParseError} (Ok a) (Ok b) → a ≡ b
  unfolding from_ok
  ok_is a b e = ap (from_ok a) e

  pub ok_value : (a b : A) (i j : Input) → ◌≡◌ {A = Outcome A} (Ok (a, i)) (Ok (b, j)) → a ≡ b
  ok_value a b i j e = ap (λ r. (elim r as (λ x. A) [ Ok p ↦ p.0 | Err x ↦ a ])) e

  pub ok_place : (a b : A) (i j : Input) → ◌≡◌ {A = Outcome A} (Ok (a, i)) (Ok (b, j)) → i ≡ j
  ok_place a b i j e = ap (λ r. (elim r as (λ x. Input) [ Ok p ↦ p.1 | Err x ↦ i ])) e

  -- a test that leads to a refusal otherwise
  pub passed : (t : Bool) (u : Outcome A) (x : ParseError) (b : A) (j : Input) → (if t then u else Err x) ≡ Ok (b, j) → (t ≡ true) × (u ≡ Ok (b, j))
  passed true u x b j e = (refl, e)
  passed false u x b j e = absurd (cc)

pub refused : {A X : Type 0} (x : ParseError) (b : A) (j : Input) → ◌≡◌ {A = Outcome A} (Err x) (Ok (b, j)) → X
refused x b j e = absurd (cc)

-- ---- tokens

pub sees_ok : (kind_seen : Kind) (i : Input) → sees kind_seen i ≡ true → kind i ≡ kind_seen
unfolding sees
sees_ok kind_seen i e = kind_is (kind i) kind_seen e

pub after_yes : (kind_seen : Kind) (i : Input) → sees kind_seen i ≡ true → after kind_seen i ≡ next i
unfolding after
after_yes kind_seen i e = ap (λ t. if t then next i else i) e

pub after_no : (kind_seen : Kind) (i : Input) → sees kind_seen i ≡ false → after kind_seen i ≡ i
unfolding after
after_no kind_seen i e = ap (λ t. if t then next i else i) e

pub expect_ok : (kind_seen : Kind) (x : Expected) (i j : Input) (u : Unit {0}) → expect kind_seen x i ≡ Ok (u, j) → (kind i ≡ kind_seen) × (next i ≡ j)
unfolding expect
expect_ok kind_seen x i j u e =
    let h = passed (sees kind_seen i) (Ok (tt, next i)) (refusal x i) u j e in
    (sees_ok kind_seen i h.0, ok_place tt u (next i) j h.1)

pub rise_ok : (limit : ℕ) (i j : Input) (u : Unit {0}) → rise limit i ≡ Ok (u, j) → (i.height < limit) × (record i { height = i.height + 1 } ≡ j)
unfolding rise
rise_ok limit i j u e =
    let h = passed (nat_lt i.height limit) (Ok (tt, record i { height = i.height + 1 })) _ u j e in
    (ltb-true i.height limit h.0, ok_place tt u _ j h.1)

-- ---- the token that comes next, as a symbol

pub record Next (i : Input) (symbol : Symbol) : Type 0 where
  pub goes_on : ends i.ahead ≡ false
  pub is : symbol_of (kind i) (spelling i) ≡ symbol

-- these symbols lead from one place to another
pub record Leads (a : List ℕ) (symbols : List Symbol) (b : List ℕ) : Type 0 where
  pub spans : Spans a symbols b

pub leads_on : {symbols others : List Symbol} {a b c : List ℕ} → Leads a symbols b → Leads b others c → Leads a (symbols ++ others) c
leads_on {symbols} {others} {a} {b} {c} h g = record { spans = spans_append symbols others a b c h.spans g.spans }

pub stays : {a b : List ℕ} → a ≡ b → Leads a [] b
stays e = record { spans = e }

pub goes_on : (i : Input) (other : Kind) → kind i ≡ other → (other ≡ k.End → ⊥) → ends i.ahead ≡ false
unfolding kind
goes_on i other e f = other_kind (kind i) k.End (λ h. f (sym e ∙ h))

pub next_mark : (i : Input) (other : Kind) (symbol : Symbol) → kind i ≡ other → (other ≡ k.End → ⊥) → symbol_of other (spelling i) ≡ symbol → Next i symbol
next_mark i other symbol e f h = record { goes_on = goes_on i other e f; is = ap (λ c. symbol_of c (spelling i)) e ∙ h }

-- ---- names and texts

checked_ok : (o : Option (List ℕ)) (i j : Input) (bytes : List ℕ) → checked o i ≡ Ok (bytes, j) → (checked_bytes o ≡ Some bytes) × (next i ≡ j)
checked_ok None i j bytes e = refused _ bytes j e
checked_ok (Some b) i j bytes e = by (utf8_text b) e
  where
    by : (o : Option (List ℕ)) → taken o i ≡ Ok (bytes, j) → (o ≡ Some bytes) × (next i ≡ j)
    by None e = refused _ bytes j e
    by (Some t) e = (ap Some (ok_value t bytes (next i) j e), ok_place t bytes (next i) j e)

pub text_ok : (i j : Input) (bytes : List ℕ) → text i ≡ Ok (bytes, j) → (checked_bytes (plain_bytes (kind i) (spelling i)) ≡ Some bytes) × (next i ≡ j)
unfolding text
text_ok i j bytes e = checked_ok (plain_bytes (kind i) (spelling i)) i j bytes e

abbrev raised : Input → Outcome (Unit {0})
raised i = Ok (tt, record i { height = i.height + 1 })

-- a level more, and past the token
abbrev pub risen : Input → Input
risen i = next (record i { height = i.height + 1 })

pub rise_take : {A : Type 0} (limit : ℕ) (f : Reader A) (i j : Input) (a : A) → (rise limit >> take_token >> f) i ≡ Ok (a, j) → (i.height < limit) × (f (risen i) ≡ Ok (a, j))
unfolding rise
rise_take limit f i j a e = by (nat_lt i.height limit) refl e
  where
    by : (t : Bool) → nat_lt i.height limit ≡ t → and_then (and_then (if t then raised i else Err (refusal FewerLevels i)) (λ _. take_token)) (λ _. f) ≡ Ok (a, j)
        → (i.height < limit) × (f (risen i) ≡ Ok (a, j))
    by true s h = (ltb-true i.height limit s, h)
    by false s h = refused (refusal FewerLevels i) a j h

pub rise_then : {A : Type 0} (limit : ℕ) (f : Reader A) (i j : Input) (a : A) → (rise limit >> (take_token >> f)) i ≡ Ok (a, j) → (i.height < limit) × (f (risen i) ≡ Ok (a, j))
unfolding rise
rise_then limit f i j a e = by (nat_lt i.height limit) refl e
  where
    by : (t : Bool) → nat_lt i.height limit ≡ t → and_then (if t then raised i else Err (refusal FewerLevels i)) (λ _ m. and_then (take_token m) (λ _. f)) ≡ Ok (a, j)
        → (i.height < limit) × (f (risen i) ≡ Ok (a, j))
    by true s h = (ltb-true i.height limit s, h)
    by false s h = refused (refusal FewerLevels i) a j h

-- ---- symbols in a row

pub next_to : {i m : Input} {symbol : Symbol} {symbols : List Symbol} {b : List ℕ} → Next i symbol → next i ≡ m → Leads m.ahead symbols b → Leads i.ahead (symbol ∷ symbols) b
unfolding kind spelling next
next_to {symbols = symbols} {b = b} n e h = record { spans = (n.goes_on, n.is, subst (λ (x : Input). Spans x.ahead symbols b) (sym e) h.spans) }

pub next_height : (i j : Input) → next i ≡ j → j.height ≡ i.height
unfolding next
next_height i j e = sym (ap (λ (x : Input). x.height) e)

pub risen_ahead : (i : Input) → (risen i).ahead ≡ (next i).ahead
unfolding next
risen_ahead i = refl

pub risen_height : (i : Input) → (risen i).height ≡ i.height + 1
unfolding next
risen_height i = refl

pub risen_to : {i : Input} {symbol : Symbol} {symbols : List Symbol} {b : List ℕ} → Next i symbol → Leads (risen i).ahead symbols b → Leads i.ahead (symbol ∷ symbols) b
unfolding kind spelling next
risen_to n h = record { spans = (n.goes_on, n.is, h.spans) }
