-- Names and numbers that were read are spelled.
use Rattle.std.proofs.Common.{◌≡◌, ℕ, Bool, true, false, if◌then◌else◌, List, Ok, refl, sym, ◌∙◌, ap, nat_le, ℤ, pos, neg_ℤ}
use Rattle.msi_query_tokens.specs.declared.token.Kind.TheVariants as k
use Rattle.msi_query_tokens.specs.declared.refusal.Expected.{Expected}
use Rattle.msi_query_tokens.specs.declared.refusal.Expected.TheVariants as expected
use Rattle.msi_query_tokens.specs.Tokens.{is_name}
use Rattle.msi_query_tokens.specs.Input.{Input, ◌<$>◌, pure, kind, spelling, next, sees, after, refusal}
use Rattle.msi_query_tokens.specs.Texts.{text, positive, negative, number_of}
use Rattle.msi_query_tokens.specs.Symbols.{mark, named, number, ends}
use Rattle.msi_query_tokens.proofs.TokenLemmas.{other_kind}
use Rattle.msi_query_tokens.proofs.SymbolLemmas.{named_symbol}
use Rattle.msi_query_tokens.proofs.StepLemmas.{Next, Leads, stays, then_ok, ok_value, ok_place, passed, text_ok, next_to, next_height, next_mark, sees_ok, after_yes, after_no}
use Rattle.msi_query_parse.specs.Reading.{name, column, dotted}
use Rattle.msi_query_parse.specs.Grammar.{ColumnName, plain, parts, bytes_of, name_symbols}

name_goes_on : (i : Input) → is_name (kind i) ≡ true → ends i.ahead ≡ false
unfolding kind
name_goes_on i e = other_kind (kind i) k.End (λ h. let f : is_name (kind i) ≡ false = ap is_name h in cc)

pub name_ok : (missing : Expected) (i j : Input) (n : List ℕ) → name missing i ≡ Ok (n, j) → Next i (named n) × (next i ≡ j)
unfolding name
name_ok missing i j n e =
    let h = passed (is_name (kind i)) (text i) (refusal missing i) n j e in
    let g = text_ok i j n h.1 in
    (record { goes_on = name_goes_on i h.0; is = named_symbol (kind i) (spelling i) n h.0 g.0 }, g.1)

pub record ColumnRead (i j : Input) (n : List ℕ) : Type 0 where
  pub name : ColumnName
  pub leads : Leads i.ahead (name_symbols name) j.ahead
  pub is : bytes_of name ≡ n
  pub height : j.height ≡ i.height

column_from : (i m j : Input) (first n : List ℕ) (t : Bool) → Next i (named first) → next i ≡ m → sees k.Dot m ≡ t
    → (if t then (dotted first <$> name expected.Name) else pure first) (after k.Dot m) ≡ Ok (n, j) → ColumnRead i j n
column_from i m j first n true f e s h =
    let g = then_ok (name expected.Name (after k.Dot m)) _ n j h in
    let second = name_ok expected.Name (after k.Dot m) g.place g.found g.first in
    let dot = next_mark m k.Dot (mark k.Dot) (sees_ok k.Dot m s) (λ x. cc) refl in
    let past : next m ≡ after k.Dot m = sym (after_yes k.Dot m s) in
    let done : next (after k.Dot m) ≡ j = second.1 ∙ ok_place (dotted first g.found) n g.place j g.second in
    record {
      name = parts first g.found;
      leads = next_to f e (next_to dot past (next_to second.0 done (stays refl)));
      is = ok_value (dotted first g.found) n g.place j g.second;
      height = next_height _ _ done ∙ next_height _ _ past ∙ next_height _ _ e;
    }
column_from i m j first n false f e s h =
    let done : next i ≡ j = e ∙ sym (after_no k.Dot m s) ∙ ok_place first n (after k.Dot m) j h in
    record {
      name = plain first;
      leads = next_to f done (stays refl);
      is = ok_value first n (after k.Dot m) j h;
      height = next_height _ _ done;
    }

pub column_ok : (missing : Expected) (i j : Input) (n : List ℕ) → column missing i ≡ Ok (n, j) → ColumnRead i j n
unfolding column
column_ok missing i j n e =
    let h = then_ok (name missing i) _ n j e in
    let first = name_ok missing i h.place h.found h.first in
    column_from i h.place j h.found n (sees k.Dot h.place) first.0 first.1 refl h.second

-- ---- numbers

pub record NumberRead (most : ℕ) (i j : Input) (made : ℕ → ℤ) (z : ℤ) : Type 0 where
  pub number : ℕ
  pub is : number_of (spelling i) ≡ number
  pub low : nat_le number most ≡ true
  pub value : made number ≡ z
  pub past : next i ≡ j

pub positive_ok : (i j : Input) (z : ℤ) → positive i ≡ Ok (z, j) → NumberRead 2147483647 i j pos z
unfolding positive
positive_ok i j z e =
    let h = passed (nat_le (number_of (spelling i)) 2147483647) (Ok (pos (number_of (spelling i)), next i)) _ z j e in
    record { number = number_of (spelling i); is = refl; low = h.0; value = ok_value _ z (next i) j h.1; past = ok_place _ z (next i) j h.1 }

pub negative_ok : (i j : Input) (z : ℤ) → negative i ≡ Ok (z, j) → NumberRead 2147483648 i j (λ n. neg_ℤ (pos n)) z
unfolding negative
negative_ok i j z e =
    let h = passed (nat_le (number_of (spelling i)) 2147483648) (Ok (neg_ℤ (pos (number_of (spelling i))), next i)) _ z j e in
    record { number = number_of (spelling i); is = refl; low = h.0; value = ok_value _ z (next i) j h.1; past = ok_place _ z (next i) j h.1 }

pub next_number : (i : Input) (n : ℕ) → kind i ≡ k.Number → number_of (spelling i) ≡ n → Next i (number n)
next_number i n e h = next_mark i k.Number (number n) e (λ x. cc) (ap number h)
