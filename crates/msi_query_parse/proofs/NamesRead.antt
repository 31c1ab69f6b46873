-- Names and numbers that are spelled are read.
use Rattle.std.proofs.Common.{◌≡◌, ℕ, ◌+◌, ◌<◌, true, false, if◌then◌else◌, List, [], ◌∷◌, Option, Some, None, Ok, Err, refl, sym, ◌∙◌, ap, ap₂, nat_le, pos, neg_ℤ}
use Rattle.std.proofs.lemmas.Bool.{lt-ltb}
use Rattle.msi_query_tokens.specs.declared.token.Kind.{Kind}
use Rattle.msi_query_tokens.specs.declared.token.Kind.TheVariants as k
use Rattle.msi_query_tokens.specs.declared.refusal.Expected.{Expected}
use Rattle.msi_query_tokens.specs.declared.refusal.Expected.TheVariants as expected
use Rattle.msi_query_tokens.specs.Input.{Input, Outcome, Reader, and_then, ◌<$>◌, ◌>>◌, pure, take_token, kind, spelling, next, sees, after, expect, rise, refusal, start_of}
use Rattle.msi_query_tokens.specs.Tokens.{token, is_name}
use Rattle.msi_query_tokens.specs.Texts.{text, checked, taken, positive, negative, number_of, plain_bytes}
use Rattle.msi_query_tokens.specs.Symbols.{Symbol, mark, named, number, ends, checked_bytes}
use Rattle.msi_query_tokens.proofs.TokenLemmas.{is_kind, kind_is, other_kind, plain_name}
use Rattle.msi_query_tokens.proofs.SymbolLemmas.{named_token, number_token, marked_kind}
use Rattle.msi_query_tokens.proofs.StepLemmas.{Next, Leads, risen, after_yes, after_no}
use Rattle.msi_query_parse.specs.Reading.{name, column, dotted, end, end_by, whole, without_rest}
use Rattle.msi_query_parse.specs.Grammar.{ColumnName, plain, parts, bytes_of, name_symbols}

-- ---- places

-- the kind of the token at the front of a text
abbrev pub first_kind : List ℕ → Kind
first_kind a = (token a).0

abbrev pub at : Input → List ℕ → ℕ → Input
at i b h = record i { ahead = b; height = h }

pub kind_at : (i : Input) (b : List ℕ) → i.ahead ≡ b → kind i ≡ first_kind b
unfolding kind
kind_at i b e = ap first_kind e

pub next_at : (i : Input) (b : List ℕ) (h : ℕ) → (next i).ahead ≡ b → i.height ≡ h → next i ≡ at i b h
unfolding next
next_at i b h e f = ap₂ (λ x y. at i x y) e f

pub leads_next : (i : Input) (symbol : Symbol) (symbols : List Symbol) (b : List ℕ) → Leads i.ahead (symbol ∷ symbols) b → Next i symbol × Leads (next i).ahead symbols b
unfolding kind spelling next
leads_next i symbol symbols b h = (record { goes_on = h.spans.0; is = h.spans.1 }, record { spans = h.spans.2 })

-- ---- steps

pub then_read : {A B : Type 0} {p : Outcome A} {a : A} {m : Input} {r : Outcome B} (f : A → Reader B) → p ≡ Ok (a, m) → f a m ≡ r → and_then p f ≡ r
then_read f e h = ap (λ o. and_then o f) e ∙ h

pub mark_kind : {i : Input} {other : Kind} → Next i (mark other) → (other ≡ k.Unknown → ⊥) → kind i ≡ other
mark_kind {i = i} {other = other} n known = marked_kind (kind i) (spelling i) other known n.is

pub sees_yes : (c : Kind) (i : Input) → kind i ≡ c → sees c i ≡ true
unfolding sees
sees_yes c i e = is_kind (kind i) c e

pub sees_no : (c : Kind) (i : Input) → (kind i ≡ c → ⊥) → sees c i ≡ false
unfolding sees
sees_no c i e = other_kind (kind i) c e

pub expect_read : (c : Kind) (x : Expected) (i : Input) → kind i ≡ c → expect c x i ≡ Ok (tt, next i)
unfolding expect
expect_read c x i e = ap (λ t. if t then Ok (tt, next i) else Err (refusal x i)) (sees_yes c i e)

pub risen_read : {A : Type 0} (limit : ℕ) (f : Reader A) (i : Input) → i.height < limit → (rise limit >> take_token >> f) i ≡ f (risen i)
unfolding rise
risen_read limit f i h = ap (λ t. and_then (and_then (if t then Ok (tt, record i { height = i.height + 1 }) else Err (refusal expected.FewerLevels i)) (λ _. take_token)) (λ _. f)) (lt-ltb i.height limit h)

pub risen_then : {A : Type 0} (limit : ℕ) (f : Reader A) (i : Input) → i.height < limit → (rise limit >> (take_token >> f)) i ≡ f (risen i)
unfolding rise
risen_then limit f i h = ap (λ t. and_then (if t then Ok (tt, record i { height = i.height + 1 }) else Err (refusal expected.FewerLevels i)) (λ _ m. and_then (take_token m) (λ _. f))) (lt-ltb i.height limit h)

-- ---- names

checked_read : (o : Option (List ℕ)) (i : Input) (n : List ℕ) → checked_bytes o ≡ Some n → checked o i ≡ Ok (n, next i)
checked_read None i n e = absurd (cc)
checked_read (Some b) i n e = ap (λ o. taken o i) e

pub text_read : (i : Input) (n : List ℕ) → checked_bytes (plain_bytes (kind i) (spelling i)) ≡ Some n → text i ≡ Ok (n, next i)
unfolding text
text_read i n e = checked_read (plain_bytes (kind i) (spelling i)) i n e

pub named_here : (i : Input) (n : List ℕ) → Next i (named n) → (is_name (kind i) ≡ true) × (checked_bytes (plain_bytes (kind i) (spelling i)) ≡ Some n)
unfolding kind spelling
named_here i n h = named_token (kind i) (spelling i) n (plain_name i.ahead) h.is

pub name_read : (missing : Expected) (i : Input) (n : List ℕ) → Next i (named n) → name missing i ≡ Ok (n, next i)
unfolding name
name_read missing i n h =
    let t = named_here i n h in
    ap (λ b. if b then text i else Err (refusal missing i)) t.0 ∙ text_read i n t.1

three : (i : Input) (b : List ℕ) → (next (next (next i))).ahead ≡ b → next (next (next i)) ≡ at i b i.height
unfolding next
three i b e = ap (λ x. at i x i.height) e

pub column_read : (missing : Expected) (c : ColumnName) (i : Input) (b : List ℕ) → Leads i.ahead (name_symbols c) b → (first_kind b ≡ k.Dot → ⊥) → column missing i ≡ Ok (bytes_of c, at i b i.height)
unfolding column
column_read missing (plain n) i b h no_dot =
    let l = leads_next (i) (named n) ([]) (b) h in
    let off = sees_no k.Dot (next i) (λ e. no_dot (sym (kind_at (next i) b l.1.spans) ∙ e)) in
    let rest : Ok (n, after k.Dot (next i)) ≡ Ok (n, at i b i.height) = ap (λ x. Ok (n, x)) (after_no k.Dot (next i) off ∙ next_at i b i.height l.1.spans refl) in
    then_read _ (name_read missing i n l.0) (ap (λ t. (if t then dotted n <$> name expected.Name else pure n) (after k.Dot (next i))) off ∙ rest)
column_read missing (parts n s) i b h no_dot =
    let l = leads_next (i) (named n) (mark k.Dot ∷ named s ∷ []) (b) h in
    let dot = leads_next (next i) (mark k.Dot) (named s ∷ []) (b) l.1 in
    let second = leads_next (next (next i)) (named s) ([]) (b) dot.1 in
    let on = sees_yes k.Dot (next i) (mark_kind dot.0 (λ x. cc)) in
    let past = after_yes k.Dot (next i) on in
    let last : next (next (next i)) ≡ at i b i.height = three i b second.1.spans in
    let rest : (dotted n <$> name expected.Name) (next (next i)) ≡ Ok (dotted n s, at i b i.height) =
    then_read _ (name_read expected.Name (next (next i)) s second.0) (ap (λ x. Ok (dotted n s, x)) last) in
    then_read _ (name_read missing i n l.0)
    (ap (λ t. (if t then dotted n <$> name expected.Name else pure n) (after k.Dot (next i))) on ∙ ap (dotted n <$> name expected.Name) past ∙ rest)

-- ---- numbers

pub positive_read : (i : Input) (n : ℕ) → number_of (spelling i) ≡ n → nat_le n 2147483647 ≡ true → positive i ≡ Ok (pos n, next i)
unfolding positive
positive_read i n e low = ap (λ m. if nat_le m 2147483647 then Ok (pos m, next i) else Err (refusal expected.Number i)) e
    ∙ ap (λ t. if t then Ok (pos n, next i) else Err (refusal expected.Number i)) low

pub negative_read : (i : Input) (n : ℕ) → number_of (spelling i) ≡ n → nat_le n 2147483648 ≡ true → negative i ≡ Ok (neg_ℤ (pos n), next i)
unfolding negative
negative_read i n e low = ap (λ m. if nat_le m 2147483648 then Ok (neg_ℤ (pos m), next i) else Err (refusal expected.Number i)) e
    ∙ ap (λ t. if t then Ok (neg_ℤ (pos n), next i) else Err (refusal expected.Number i)) low

pub number_here : (i : Input) (n : ℕ) → Next i (number n) → (kind i ≡ k.Number) × (number_of (spelling i) ≡ n)
number_here i n h = number_token (kind i) (spelling i) n h.is

-- ---- whole texts

pub end_kind : (b : List ℕ) → ends b ≡ true → first_kind b ≡ k.End
end_kind b e = kind_is (first_kind b) k.End e

end_read : (j : Input) → ends j.ahead ≡ true → end j ≡ Ok (tt, j)
unfolding end kind
end_read j e = ap (λ c. end_by c j) (end_kind j.ahead e)

pub whole_read : {A : Type 0} (reader : Reader A) (text : List ℕ) (a : A) (j : Input) → reader (start_of text) ≡ Ok (a, j) → ends j.ahead ≡ true → whole reader text ≡ Ok a
whole_read reader whole_text a j read e = ap without_rest (then_read _ read (then_read _ (end_read j e) refl))
