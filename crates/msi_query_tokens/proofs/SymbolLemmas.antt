-- The symbols of texts.
use Rattle.std.proofs.Common.{◌≡◌, ℕ, ◌+◌, ◌-◌, ◌≤◌, ◌==◌, true, false, Bool, if◌then◌else◌, List, [], ◌∷◌, ◌++◌, length, drop, Option, Some, None, refl, sym, ◌∙◌, ap, ap₂, arith, length-drop}
use Rattle.std.specs.Str.{is_utf8}
use Rattle.msi_query_tokens.specs.declared.token.Kind.{Kind}
use Rattle.msi_query_tokens.specs.declared.token.Kind.TheVariants as k
use Rattle.msi_query_tokens.specs.declared.lex.Class.TheVariants as class
use Rattle.msi_query_tokens.specs.Tokens.{token, skip_blanks, same_kind, past, is_name}
use Rattle.msi_query_tokens.specs.Texts.{plain_bytes, number_of}
use Rattle.msi_query_tokens.specs.Symbols.{Symbol, Spans, AreSymbols, ends, mark, named, number, quote, symbol_of, with_bytes, checked_bytes}
use Rattle.msi_query_tokens.proofs.TokenLemmas.{token_takes}

abbrev pub behind : List ℕ → List ℕ
behind a = skip_blanks (drop (token a).1 a)

-- an end is no token
clash : (a b : List ℕ) → a ≡ b → ends b ≡ true → ends a ≡ false → ⊥
clash a b e h g = let both : false ≡ true = sym g ∙ ap ends e ∙ h in absurd (cc)

one : (s t : List Symbol) (a b c : List ℕ) → Spans a s b → ends b ≡ true → Spans a t c → ends c ≡ true → s ≡ t
one [] [] a b c h eb g ec = refl
one [] (t ∷ ts) a b c h eb g ec = absurd (clash a b h eb g.0)
one (s ∷ ss) [] a b c h eb g ec = absurd (clash a c g ec h.0)
one (s ∷ ss) (t ∷ ts) a b c h eb g ec = ap₂ ◌∷◌ (sym h.1 ∙ g.1) (one ss ts (behind a) b c h.2 eb g.2 ec)

pub one_list : (text : List ℕ) (symbols others : List Symbol) → AreSymbols text symbols → AreSymbols text others → symbols ≡ others
one_list text symbols others h g = one symbols others (skip_blanks text) h.rest g.rest h.spans h.end g.spans g.end

-- symbols behind others
pub spans_append : (s t : List Symbol) (a b c : List ℕ) → Spans a s b → Spans b t c → Spans a (s ++ t) c
spans_append [] t a b c h g = rw h g
spans_append (s ∷ ss) t a b c h g = (h.0, h.1, spans_append ss t (behind a) b c h.2 g)

-- where symbols lead, in two parts
pub spans_split : (s t : List Symbol) (a c : List ℕ) → Spans a (s ++ t) c → (b : List ℕ) × Spans a s b × Spans b t c
spans_split [] t a c h = (a, refl, h)
spans_split (s ∷ ss) t a c h = let more = spans_split ss t (behind a) c h.2 in (more.0, (h.0, h.1, more.1), more.2)

-- ---- each symbol takes bytes

taken_length : (a : List ℕ) → ends a ≡ false → length (behind a) + 1 ≤ length a
unfolding skip_blanks same_kind token
taken_length [] e = absurd (cc)
taken_length (b ∷ text) e =
    let some = token_takes (b ∷ text) e in
    let rest = drop (token (b ∷ text)).1 (b ∷ text) in
    let outer : length (drop (past class.Blank rest 0) rest) ≡ length rest - past class.Blank rest 0 = length-drop (past class.Blank rest 0) rest in
    let inner : length rest ≡ length (b ∷ text) - (token (b ∷ text)).1 = length-drop (token (b ∷ text)).1 (b ∷ text) in
    omega arith

pub behind_shorter : (a : List ℕ) → ends a ≡ false → length (behind a) + 1 ≤ length a
behind_shorter a e = taken_length a e

pub spans_shorter : (s : List Symbol) (a b : List ℕ) → Spans a s b → length b + length s ≤ length a
spans_shorter [] a b h = let e : length a ≡ length b = ap length h in omega arith
spans_shorter (s ∷ ss) a b h = let more = spans_shorter ss (behind a) b h.2 in let one = behind_shorter a h.0 in omega arith

-- ---- which token spells a symbol

abbrev mark_of : Symbol → Kind
mark_of (mark kind) = kind
mark_of _ = k.Unknown

abbrev bytes_in : Symbol → List ℕ
bytes_in (named bytes) = bytes
bytes_in (quote bytes) = bytes
bytes_in _ = []

abbrev number_in : Symbol → ℕ
number_in (number n) = n
number_in _ = 0

abbrev sort_of : Symbol → ℕ
sort_of (mark kind) = 0
sort_of (named bytes) = 1
sort_of (number n) = 2
sort_of (quote bytes) = 3

unmarked : (f : List ℕ → Symbol) (o : Option (List ℕ)) (kind : Kind) → ((t : List ℕ) → mark_of (f t) ≡ k.Unknown) → with_bytes f o ≡ mark kind → kind ≡ k.Unknown
unmarked f None kind h e = sym (ap mark_of e)
unmarked f (Some t) kind h e = sym (ap mark_of e) ∙ h t

pub marked_kind : (kind : Kind) (spelling : List ℕ) (other : Kind) → (other ≡ k.Unknown → ⊥) → symbol_of kind spelling ≡ mark other → kind ≡ other
marked_kind k.Name s other known e = absurd (known (sym (ap mark_of e)))
marked_kind k.Number s other known e = absurd (known (sym (ap mark_of e)))
marked_kind k.QuotedName s other known e = absurd (known (unmarked named _ other (λ t. refl) e))
marked_kind k.SingleQuoted s other known e = absurd (known (unmarked quote _ other (λ t. refl) e))
marked_kind k.DoubleQuoted s other known e = absurd (known (unmarked quote _ other (λ t. refl) e))
marked_kind kind s other known e = ap mark_of e

bytes_known : (f : List ℕ → Symbol) (o : Option (List ℕ)) (x : Symbol) → ((t : List ℕ) → bytes_in (f t) ≡ t) → (sort_of x ≡ 0 → ⊥) → with_bytes f o ≡ x → o ≡ Some (bytes_in x)
bytes_known f None x h sort e = absurd (sort (sym (ap sort_of e)))
bytes_known f (Some t) x h sort e = ap Some (sym (h t) ∙ ap bytes_in e)

apart : (m n : ℕ) → (m == n) ≡ false → m ≡ n → ⊥
apart m n f e = grind arith

other_sort : (f : List ℕ → Symbol) (o : Option (List ℕ)) (x : Symbol) (m : ℕ) → ((t : List ℕ) → sort_of (f t) ≡ m) → (0 ≡ sort_of x → ⊥) → (m ≡ sort_of x → ⊥) → with_bytes f o ≡ x → ⊥
other_sort f None x m h none some e = none (ap sort_of e)
other_sort f (Some t) x m h none some e = some (sym (h t) ∙ ap sort_of e)

pub named_token : (kind : Kind) (spelling name : List ℕ) → (kind ≡ k.Name → is_utf8 spelling ≡ true) → symbol_of kind spelling ≡ named name
    → (is_name kind ≡ true) × (checked_bytes (plain_bytes kind spelling) ≡ Some name)
named_token k.Name s n fits e = (refl, ap (λ b. if b then Some s else None) (fits refl) ∙ ap Some (ap bytes_in e))
named_token k.QuotedName s n fits e = (refl, bytes_known named _ (named n) (λ t. refl) (apart 1 0 refl) e)
named_token k.Number s n fits e = absurd (apart 2 1 refl (ap sort_of e))
named_token k.SingleQuoted s n fits e = absurd (other_sort quote _ (named n) 3 (λ t. refl) (apart 0 1 refl) (apart 3 1 refl) e)
named_token k.DoubleQuoted s n fits e = absurd (other_sort quote _ (named n) 3 (λ t. refl) (apart 0 1 refl) (apart 3 1 refl) e)
named_token kind s n fits e = absurd (apart 0 1 refl (ap sort_of e))

pub number_token : (kind : Kind) (spelling : List ℕ) (n : ℕ) → symbol_of kind spelling ≡ number n → (kind ≡ k.Number) × (number_of spelling ≡ n)
number_token k.Number s n e = (refl, ap number_in e)
number_token k.Name s n e = absurd (apart 1 2 refl (ap sort_of e))
number_token k.QuotedName s n e = absurd (other_sort named _ (number n) 1 (λ t. refl) (apart 0 2 refl) (apart 1 2 refl) e)
number_token k.SingleQuoted s n e = absurd (other_sort quote _ (number n) 3 (λ t. refl) (apart 0 2 refl) (apart 3 2 refl) e)
number_token k.DoubleQuoted s n e = absurd (other_sort quote _ (number n) 3 (λ t. refl) (apart 0 2 refl) (apart 3 2 refl) e)
number_token kind s n e = absurd (apart 0 2 refl (ap sort_of e))

abbrev pub is_text : Kind → Bool
is_text k.SingleQuoted = true
is_text k.DoubleQuoted = true
is_text _ = false

pub quoted_token : (kind : Kind) (spelling bytes : List ℕ) → symbol_of kind spelling ≡ quote bytes → (is_text kind ≡ true) × (checked_bytes (plain_bytes kind spelling) ≡ Some bytes)
quoted_token k.SingleQuoted s t e = (refl, bytes_known quote _ (quote t) (λ t. refl) (apart 3 0 refl) e)
quoted_token k.DoubleQuoted s t e = (refl, bytes_known quote _ (quote t) (λ t. refl) (apart 3 0 refl) e)
quoted_token k.Name s t e = absurd (apart 1 3 refl (ap sort_of e))
quoted_token k.QuotedName s t e = absurd (other_sort named _ (quote t) 1 (λ t. refl) (apart 0 3 refl) (apart 1 3 refl) e)
quoted_token k.Number s t e = absurd (apart 2 3 refl (ap sort_of e))
quoted_token kind s t e = absurd (apart 0 3 refl (ap sort_of e))

-- ---- which symbol a token spells

same_bytes : (o : Bool) (s n : List ℕ) → (if o then Some s else None) ≡ Some n → s ≡ n
same_bytes true s n e = ap (λ o. elim o [ Some x ↦ x | None ↦ s ]) e
same_bytes false s n e = absurd (cc)

pub named_symbol : (kind : Kind) (spelling name : List ℕ) → is_name kind ≡ true → checked_bytes (plain_bytes kind spelling) ≡ Some name → symbol_of kind spelling ≡ named name
named_symbol k.Name s n is e = ap named (same_bytes (is_utf8 s) s n e)
named_symbol k.QuotedName s n is e = ap (with_bytes named) e
named_symbol kind s n is e = absurd (cc)

pub quoted_symbol : (kind : Kind) (spelling bytes : List ℕ) → is_text kind ≡ true → checked_bytes (plain_bytes kind spelling) ≡ Some bytes → symbol_of kind spelling ≡ quote bytes
quoted_symbol k.SingleQuoted s t is e = ap (with_bytes quote) e
quoted_symbol k.DoubleQuoted s t is e = ap (with_bytes quote) e
quoted_symbol kind s t is e = absurd (cc)
