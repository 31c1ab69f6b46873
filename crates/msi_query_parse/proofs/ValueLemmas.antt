-- Literals and rows of them: what is read is spelled, and what is spelled is read.
use Rattle.std.proofs.Common.{◌≡◌, ℕ, zero, suc, ◌+◌, ◌≤◌, Bool, true, false, if◌then◌else◌, List, [], ◌∷◌, ◌++◌, map, length, Ok, Err, refl, sym, ◌∙◌, ap, subst, nat_le, pos, negsuc, neg_ℤ, arith, append_assoc}
use Rattle.std.specs.List.{list_all}
use Rattle.std.proofs.lemmas.Bool.{leb-true, le-leb}
use Rattle.msi_table_values.specs.declared.value.Value.{Value}
use Rattle.msi_table_values.specs.declared.value.Value.TheVariants as v
use Rattle.msi_query_tokens.specs.declared.token.Kind.{Kind}
use Rattle.msi_query_tokens.specs.declared.token.Kind.TheVariants as k
use Rattle.msi_query_tokens.specs.declared.refusal.Expected.TheVariants as expected
use Rattle.msi_query_tokens.specs.Input.{Input, and_then, ◌<$>◌, ◌>>=◌, ◌>>◌, pure, kind, spelling, next, sees, after, expect, refusal, left}
use Rattle.msi_query_tokens.specs.Texts.{text, positive, negative, number_of}
use Rattle.msi_query_tokens.specs.Symbols.{mark, number, quote, ends}
use Rattle.msi_query_tokens.proofs.SymbolLemmas.{quoted_symbol, quoted_token, is_text}
use Rattle.msi_query_tokens.proofs.StepLemmas.{Leads, stays, leads_on, then_ok, ok_value, ok_place, passed, refused, next_to, next_height, next_mark, goes_on, sees_ok, after_yes, after_no, expect_ok, text_ok}
use Rattle.msi_query_parse.specs.Reading.{digits, negative_value, value_by, value, one_value, values, row, listed_from}
use Rattle.msi_query_parse.specs.Grammar.{Constant, of_value, zero_below, constant_symbols, constant_value, is_literal, row_symbols, separated}
use Rattle.msi_query_parse.proofs.NamesSpelled.{positive_ok, negative_ok, next_number}
use Rattle.msi_query_parse.proofs.NamesRead.{first_kind, at, kind_at, next_at, leads_next, then_read, mark_kind, sees_yes, sees_no, expect_read, text_read, positive_read, negative_read, number_here}
use Rattle.msi_query_parse.proofs.ExpressionsRead.{leads_split}
use Rattle.msi_query_parse.proofs.ListLemmas.{Item, listed_ok, listed_read, listed_fails}

-- ---- literals that were read

pub record ConstantRead (i j : Input) (x : Value) : Type 0 where
  pub it : Constant
  pub good : is_literal it ≡ true
  pub leads : Leads i.ahead (constant_symbols it) j.ahead
  pub value : constant_value it ≡ x
  pub height : j.height ≡ i.height

minus_number : (i j : Input) (x : Value) (n : ℕ) → kind i ≡ k.Sub → number_of (spelling (next i)) ≡ n → kind (next i) ≡ k.Number → nat_le n 2147483648 ≡ true → v.Int (neg_ℤ (pos n)) ≡ x → next (next i) ≡ j → ConstantRead i j x
minus_number i j x zero minus is digits low value past = record {
  it = zero_below;
  good = refl;
  value = value;
  leads = next_to (next_mark i k.Sub (mark k.Sub) minus (λ x. cc) refl) refl (next_to (next_number (next i) 0 digits is) past (stays refl));
  height = next_height (next i) j past ∙ next_height i (next i) refl;
}
minus_number i j x (suc n) minus is digits low value past =
    let more : suc n ≡ n + 1 = omega arith in
    let below = leb-true (suc n) 2147483648 low in
    record {
      it = of_value (v.Int (negsuc n));
      good = le-leb n 2147483647 (omega arith);
      value = value;
      leads = next_to (next_mark i k.Sub (mark k.Sub) minus (λ x. cc) refl) refl (next_to (next_number (next i) (n + 1) digits (is ∙ more)) past (stays refl));
      height = next_height (next i) j past ∙ next_height i (next i) refl;
    }

text_from : (i j : Input) (x : Value) → ends i.ahead ≡ false → is_text (kind i) ≡ true → (v.Str <$> text) i ≡ Ok (x, j) → ConstantRead i j x
text_from i j x more is h =
    let g = then_ok (text i) _ x j h in
    let t = text_ok i g.place g.found g.first in
    let past : next i ≡ j = t.1 ∙ ok_place _ x g.place j g.second in
    record {
      it = of_value (v.Str g.found);
      good = refl;
      value = ok_value _ x g.place j g.second;
      height = next_height i j past;
      leads = next_to (record { goes_on = more; is = quoted_symbol (kind i) (spelling i) g.found is t.0 }) past (stays refl);
    }

value_from : (i j : Input) (x : Value) (kind_seen : Kind) → kind i ≡ kind_seen → value_by kind_seen i ≡ Ok (x, j) → ConstantRead i j x
unfolding negative_value
value_from i j x k.Null is h =
    let past = ok_place v.Null x (next i) j h in
    record {
      it = of_value v.Null;
      good = refl;
      value = ok_value v.Null x (next i) j h;
      height = next_height i j past;
      leads = next_to (next_mark i k.Null (mark k.Null) is (λ x. cc) refl) past (stays refl);
    }
value_from i j x k.BinaryStream is h =
    let past = ok_place v.Binary x (next i) j h in
    record {
      it = of_value v.Binary;
      good = refl;
      value = ok_value v.Binary x (next i) j h;
      height = next_height i j past;
      leads = next_to (next_mark i k.BinaryStream (mark k.BinaryStream) is (λ x. cc) refl) past (stays refl);
    }
value_from i j x k.Number is h =
    let g = then_ok (positive i) _ x j h in
    let n = positive_ok i g.place g.found g.first in
    let past : next i ≡ j = n.past ∙ ok_place _ x g.place j g.second in
    record {
      it = of_value (v.Int (pos n.number));
      good = n.low;
      value = ap v.Int n.value ∙ ok_value _ x g.place j g.second;
      height = next_height i j past;
      leads = next_to (next_number i n.number is n.is) past (stays refl);
    }
value_from i j x k.Sub is h =
    let p = passed (sees k.Number (next i)) ((v.Int <$> negative) (next i)) (refusal expected.Number (next i)) x j h in
    let g = then_ok (negative (next i)) _ x j p.1 in
    let n = negative_ok (next i) g.place g.found g.first in
    minus_number i j x n.number is n.is (sees_ok k.Number (next i) p.0) n.low (ap v.Int n.value ∙ ok_value _ x g.place j g.second) (n.past ∙ ok_place _ x g.place j g.second)
value_from i j x k.SingleQuoted is h = text_from i j x (goes_on i k.SingleQuoted is (λ x. cc)) (ap is_text is) h
value_from i j x k.DoubleQuoted is h = text_from i j x (goes_on i k.DoubleQuoted is (λ x. cc)) (ap is_text is) h
value_from i j x kind_seen is h = refused (refusal expected.Value i) x j h

pub value_ok : (i j : Input) (x : Value) → value i ≡ Ok (x, j) → ConstantRead i j x
unfolding value
value_ok i j x h = value_from i j x (kind i) refl h

-- ---- literals that are spelled

by_kind : (i : Input) (c : Kind) → kind i ≡ c → value i ≡ value_by c i
unfolding value
by_kind i c e = ap (λ c. value_by c i) e

text_by : (i : Input) (c : Kind) → is_text c ≡ true → value_by c i ≡ (v.Str <$> text) i
text_by i k.SingleQuoted is = refl
text_by i k.DoubleQuoted is = refl
text_by i c is = absurd (cc)

two_at : (i : Input) (b : List ℕ) → (next (next i)).ahead ≡ b → next (next i) ≡ at i b i.height
unfolding next
two_at i b e = ap (λ x. at i x i.height) e

minus_read : (n : ℕ) (i : Input) (b : List ℕ) → nat_le n 2147483648 ≡ true → Leads i.ahead (mark k.Sub ∷ number n ∷ []) b → value i ≡ Ok (v.Int (neg_ℤ (pos n)), at i b i.height)
unfolding negative_value
minus_read n i b low h =
    let l = leads_next i (mark k.Sub) (number n ∷ []) b h in
    let d = leads_next (next i) (number n) [] b l.1 in
    let here = number_here (next i) n d.0 in
    by_kind i k.Sub (mark_kind l.0 (λ x. cc)) ∙ ap (λ t. if t then (v.Int <$> negative) (next i) else Err (refusal expected.Number (next i))) (sees_yes k.Number (next i) here.0)
    ∙ then_read _ (negative_read (next i) n here.1 low) (ap (λ y. Ok (v.Int (neg_ℤ (pos n)), y)) (two_at i b d.1.spans))

pub value_read : (c : Constant) (i : Input) (b : List ℕ) → is_literal c ≡ true → Leads i.ahead (constant_symbols c) b → value i ≡ Ok (constant_value c, at i b i.height)
value_read zero_below i b good h = minus_read 0 i b refl h
value_read (of_value v.Null) i b good h =
    let l = leads_next i (mark k.Null) [] b h in
    by_kind i k.Null (mark_kind l.0 (λ x. cc)) ∙ ap (λ y. Ok (v.Null, y)) (next_at i b i.height l.1.spans refl)
value_read (of_value v.Binary) i b good h =
    let l = leads_next i (mark k.BinaryStream) [] b h in
    by_kind i k.BinaryStream (mark_kind l.0 (λ x. cc)) ∙ ap (λ y. Ok (v.Binary, y)) (next_at i b i.height l.1.spans refl)
value_read (of_value (v.Int (pos n))) i b good h =
    let l = leads_next i (number n) [] b h in
    let here = number_here i n l.0 in
    by_kind i k.Number here.0 ∙ then_read _ (positive_read i n here.1 good) (ap (λ y. Ok (v.Int (pos n), y)) (next_at i b i.height l.1.spans refl))
value_read (of_value (v.Int (negsuc n))) i b good h =
    let low = leb-true n 2147483647 good in
    let same : n + 1 ≡ suc n = omega arith in
    minus_read (suc n) i b (le-leb (suc n) 2147483648 (omega arith)) (subst (λ m. Leads i.ahead (mark k.Sub ∷ number m ∷ []) b) same h)
value_read (of_value (v.Str t)) i b good h =
    let l = leads_next i (quote t) [] b h in
    let here = quoted_token (kind i) (spelling i) t l.0.is in
    by_kind i (kind i) refl ∙ text_by i (kind i) here.0 ∙ then_read _ (text_read i t here.1) (ap (λ y. Ok (v.Str t, y)) (next_at i b i.height l.1.spans refl))

pub constant_some : (c : Constant) → 1 ≤ length (constant_symbols c)
constant_some zero_below = omega arith
constant_some (of_value v.Null) = omega arith
constant_some (of_value v.Binary) = omega arith
constant_some (of_value (v.Int (pos n))) = omega arith
constant_some (of_value (v.Int (negsuc n))) = omega arith
constant_some (of_value (v.Str t)) = omega arith

-- ---- literals with commas between them

pub goes_map : {B X : Type 0} (g : X → B) (found : List B) (x : X) (xs : List X) → (found ++ map g (x ∷ [])) ++ map g xs ≡ found ++ map g (x ∷ xs)
goes_map g found x xs = append_assoc found (g x ∷ []) (map g xs)

abbrev pub with_constants : List Value → List Constant → List Value
with_constants found xs = found ++ map constant_value xs

item_ok : (found more : List Value) (i j : Input) → one_value found i ≡ Ok (more, j) → Item (List Value) Constant expected.Value one_value constant_symbols is_literal with_constants found more i j
item_ok found more i j h =
    let g = then_ok (value i) _ more j h in
    let c = value_ok i g.place g.found g.first in
    let past = ok_place _ more g.place j g.second in
    record {
      it = c.it;
      good = c.good;
      leads = subst (λ (y : Input). Leads i.ahead (constant_symbols c.it) y.ahead) past c.leads;
      value = ap (λ x. found ++ x ∷ []) c.value ∙ ok_value _ more g.place j g.second;
      height = sym (ap (λ (y : Input). y.height) past) ∙ c.height;
    }

item_read : (found : List Value) (c : Constant) (i : Input) (b : List ℕ) → is_literal c ≡ true → Leads i.ahead (constant_symbols c) b → (first_kind b ≡ k.Dot → ⊥) → one_value found i ≡ Ok (with_constants found (c ∷ []), at i b i.height)
item_read found c i b good h no_dot = then_read _ (value_read c i b good h) refl

-- ---- rows

pub record RowRead (i j : Input) (values_read : List Value) : Type 0 where
  pub it : List Constant
  pub good : list_all is_literal it ≡ true
  pub leads : Leads i.ahead (row_symbols it) j.ahead
  pub value : map constant_value it ≡ values_read
  pub height : j.height ≡ i.height

row_from : (i m j : Input) (all : List Value) (t : Bool) → kind i ≡ k.Open → next i ≡ m → sees k.Close m ≡ t
    → (if t then pure [] else (values >>= (λ found. expect k.Close expected.CloseBracket >> pure found))) (after k.Close m) ≡ Ok (all, j) → RowRead i j all
unfolding left
row_from i m j all true is past s h =
    let done : next m ≡ j = sym (after_yes k.Close m s) ∙ ok_place [] all (after k.Close m) j h in
    record {
      it = [];
      good = refl;
      value = ok_value [] all (after k.Close m) j h;
      height = next_height m j done ∙ next_height i m past;
      leads = next_to (next_mark i k.Open (mark k.Open) is (λ x. cc) refl) past (next_to (next_mark m k.Close (mark k.Close) (sees_ok k.Close m s) (λ x. cc) refl) done (stays refl));
    }
row_from i m j all false is past s h =
    let here = after k.Close m in
    let same : m ≡ here = sym (after_no k.Close m s) in
    let g = then_ok (values here) _ all j h in
    let xs = listed_ok (List Value) Constant expected.Value one_value constant_symbols is_literal with_constants item_ok (goes_map constant_value) (length here.ahead) [] g.found here g.place g.first in
    let c = then_ok (expect k.Close expected.CloseBracket g.place) _ all j g.second in
    let close = expect_ok k.Close expected.CloseBracket g.place c.place c.found c.first in
    let done : next g.place ≡ j = close.1 ∙ ok_place g.found all c.place j c.second in
    record {
      it = xs.first ∷ xs.others;
      good = xs.good;
      value = xs.value ∙ ok_value g.found all c.place j c.second;
      height = next_height g.place j done ∙ xs.height ∙ sym (ap (λ (y : Input). y.height) same) ∙ next_height i m past;
      leads = next_to (next_mark i k.Open (mark k.Open) is (λ x. cc) refl) (past ∙ same) (leads_on xs.leads (next_to (next_mark g.place k.Close (mark k.Close) close.0 (λ x. cc) refl) done (stays refl)));
    }

pub row_ok : (i j : Input) (all : List Value) → row i ≡ Ok (all, j) → RowRead i j all
unfolding row
row_ok i j all h =
    let g = then_ok (expect k.Open expected.OpenBracket i) _ all j h in
    let open_mark = expect_ok k.Open expected.OpenBracket i g.place g.found g.first in
    row_from i g.place j all (sees k.Close g.place) open_mark.0 open_mark.1 refl g.second

-- no literal begins with a closing bracket
no_close : (m : Input) (n : ℕ) (all : List Value) (j : Input) → listed_from expected.Value one_value n [] m ≡ Ok (all, j) → kind m ≡ k.Close → ⊥
no_close m n all j h e = listed_fails (List Value) Constant expected.Value one_value constant_symbols is_literal with_constants n [] all m j (refusal expected.Value m)
    (ap (λ o. and_then o (λ x. pure ([] ++ x ∷ []))) (by_kind m k.Close e)) h

close_at : (i : Input) (a b : List ℕ) → (next (at (next i) a (next i).height)).ahead ≡ b → next (at (next i) a (next i).height) ≡ at i b i.height
unfolding next
close_at i a b e = ap (λ x. at i x i.height) e

pub row_read : (cs : List Constant) (i : Input) (b : List ℕ) → list_all is_literal cs ≡ true → Leads i.ahead (row_symbols cs) b → row i ≡ Ok (map constant_value cs, at i b i.height)
unfolding row left
row_read [] i b good h =
    let l = leads_next i (mark k.Open) (mark k.Close ∷ []) b h in
    let c = leads_next (next i) (mark k.Close) [] b l.1 in
    let on = sees_yes k.Close (next i) (mark_kind c.0 (λ x. cc)) in
    then_read _ (expect_read k.Open expected.OpenBracket i (mark_kind l.0 (λ x. cc)))
    (ap (λ t. (if t then pure [] else (values >>= (λ found. expect k.Close expected.CloseBracket >> pure found))) (after k.Close (next i))) on
    ∙ ap (λ y. Ok ([], y)) (after_yes k.Close (next i) on ∙ two_at i b c.1.spans))
row_read (c ∷ cs) i b good h =
    let l = leads_next i (mark k.Open) (separated (map constant_symbols (c ∷ cs)) ++ mark k.Close ∷ []) b h in
    let m = next i in
    let s = leads_split (separated (map constant_symbols (c ∷ cs))) (mark k.Close ∷ []) m.ahead b l.1 in
    let place = at m s.0 m.height in
    let close = leads_next place (mark k.Close) [] b s.2 in
    let is = mark_kind {i = place} {other = k.Close} close.0 (λ x. cc) in
    let first : first_kind s.0 ≡ k.Close = sym (kind_at place s.0 refl) ∙ is in
    let read = listed_read (List Value) Constant expected.Value one_value constant_symbols is_literal with_constants item_read constant_some (goes_map constant_value) cs c (length m.ahead) [] m s.0 (omega arith) good s.1
    (λ e. let f : k.Close ≡ k.Comma = sym first ∙ e in cc) (λ e. let f : k.Close ≡ k.Dot = sym first ∙ e in cc) in
    let off = sees_no k.Close m (no_close m (length m.ahead) _ place read) in
    then_read _ (expect_read k.Open expected.OpenBracket i (mark_kind l.0 (λ x. cc)))
    (ap (λ t. (if t then pure [] else (values >>= (λ found. expect k.Close expected.CloseBracket >> pure found))) (after k.Close m)) off
    ∙ ap (values >>= (λ found. expect k.Close expected.CloseBracket >> pure found)) (after_no k.Close m off)
    ∙ then_read _ read (then_read _ (expect_read k.Close expected.CloseBracket place is) (ap (λ y. Ok (map constant_value (c ∷ cs), y)) (close_at i s.0 b close.1.spans))))
