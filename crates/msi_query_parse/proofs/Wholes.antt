-- What reading a whole text shows once it came out well.
use Rattle.std.proofs.Common.{◌≡◌, ℕ, true, List, Result, Ok, Err, refl, ◌∙◌, ap}
use Rattle.msi_query_tokens.specs.declared.token.Kind.{Kind}
use Rattle.msi_query_tokens.specs.declared.token.Kind.TheVariants as k
use Rattle.msi_query_tokens.specs.declared.refusal.Expected.TheVariants.{End}
use Rattle.msi_query_tokens.specs.declared.refusal.ParseError.{ParseError}
use Rattle.msi_query_tokens.specs.Input.{Input, Outcome, Reader, and_then, pure, kind, refusal, ◌>>◌, start_of}
use Rattle.msi_query_tokens.specs.Symbols.{ends}
use Rattle.msi_query_tokens.proofs.TokenLemmas.{is_kind}
use Rattle.msi_query_tokens.proofs.StepLemmas.{then_ok, ok_is, ok_value, refused}
use Rattle.msi_query_parse.specs.Reading.{end_by, end, without_rest, whole}

end_from : (kind_seen : Kind) (i j : Input) (u : Unit {0}) → end_by kind_seen i ≡ Ok (u, j) → kind_seen ≡ k.End
end_from k.End i j u e = refl
end_from kind_seen i j u e = refused (refusal End i) u j e

end_ok : (i j : Input) (u : Unit {0}) → end i ≡ Ok (u, j) → ends i.ahead ≡ true
unfolding end kind
end_ok i j u e = is_kind (kind i) k.End (end_from (kind i) i j u e)

-- what a whole text was read as, and where its reader stopped
pub record Whole {A : Type 0} (reader : Reader A) (text : List ℕ) (a : A) : Type 0 where
  pub place : Input
  pub read : reader (start_of text) ≡ Ok (a, place)
  pub end : ends place.ahead ≡ true

with_rest : {A : Type 0} (o : Outcome A) (a : A) → without_rest o ≡ Ok a → (m : Input) × (o ≡ Ok (a, m))
with_rest (Ok p) a e = (p.1, ap (λ x. Ok (x, p.1)) (ok_is p.0 a e))
with_rest (Err x) a e = absurd (cc)

pub whole_ok : {A : Type 0} (reader : Reader A) (text : List ℕ) (a : A) → whole reader text ≡ Ok a → Whole reader text a
whole_ok reader text a e =
    let r = with_rest (and_then (reader (start_of text)) (λ x. end >> pure x)) a e in
    let g = then_ok (reader (start_of text)) (λ x. end >> pure x) a r.0 r.1 in
    let last = then_ok (end g.place) (λ _. pure g.found) a r.0 g.second in
    record {
      place = g.place;
      read = g.first ∙ ap (λ x. Ok (x, g.place)) (ok_value g.found a last.place r.0 last.second);
      end = end_ok g.place last.place last.found last.first;
    }
