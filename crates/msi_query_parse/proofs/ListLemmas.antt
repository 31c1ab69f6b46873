-- Lists with commas between their items: what is read is spelled, and what is spelled is read.
use Rattle.std.proofs.Common.{◌≡◌, ℕ, zero, suc, ◌+◌, ◌≤◌, Bool, true, false, if◌then◌else◌, List, [], ◌∷◌, map, length, Ok, Err, refl, sym, ◌∙◌, ap, subst, arith}
use Rattle.std.specs.List.{list_all}
use Rattle.msi_query_tokens.specs.declared.token.Kind.{Kind}
use Rattle.msi_query_tokens.specs.declared.token.Kind.TheVariants as k
use Rattle.msi_query_tokens.specs.declared.refusal.Expected.{Expected}
use Rattle.msi_query_tokens.specs.declared.refusal.ParseError.{ParseError}
use Rattle.msi_query_tokens.specs.Input.{Input, Reader, and_then, pure, next, sees, after, refusal}
use Rattle.msi_query_tokens.specs.Symbols.{Symbol, mark}
use Rattle.msi_query_tokens.proofs.SymbolLemmas.{spans_shorter, behind_shorter}
use Rattle.msi_query_tokens.proofs.StepLemmas.{Leads, leads_on, then_ok, ok_value, ok_place, refused, next_to, next_height, next_mark, sees_ok, after_yes, after_no}
use Rattle.msi_query_parse.specs.Reading.{listed_from}
use Rattle.msi_query_parse.specs.Grammar.{separated}
use Rattle.msi_query_parse.proofs.NamesRead.{first_kind, at, kind_at, leads_next, then_read, mark_kind, sees_yes, sees_no}
use Rattle.msi_query_parse.proofs.ExpressionsSpelled.{both_true}
use Rattle.msi_query_parse.proofs.ExpressionsRead.{both_left, both_right, leads_split}

module _ (A X : Type 0) (missing : Expected) (item : A → Reader A) (symbols : X → List Symbol) (is_good : X → Bool) (added : A → List X → A) where
  -- what one item did
  pub record Item (found more : A) (i j : Input) : Type 0 where
    pub it : X
    pub good : is_good it ≡ true
    pub leads : Leads i.ahead (symbols it) j.ahead
    pub value : added found (it ∷ []) ≡ more
    pub height : j.height ≡ i.height

  abbrev pub GivesItems : Type 0
  GivesItems = (found more : A) (i j : Input) → item found i ≡ Ok (more, j) → Item found more i j

  abbrev pub Goes : Type 0
  Goes = (found : A) (x : X) (xs : List X) → added (added found (x ∷ [])) xs ≡ added found (x ∷ xs)

  -- one item or more
  pub record Items (found all : A) (i j : Input) : Type 0 where
    pub first : X
    pub others : List X
    pub good : list_all is_good (first ∷ others) ≡ true
    pub leads : Leads i.ahead (separated (map symbols (first ∷ others))) j.ahead
    pub value : added found (first ∷ others) ≡ all
    pub height : j.height ≡ i.height

  more_from : Goes → (n : ℕ) (found more all : A) (i m j : Input) (t : Bool) → Item found more i m → ((all : A) (i j : Input) → listed_from missing item n more i ≡ Ok (all, j) → Items more all i j)
      → sees k.Comma m ≡ t → (if t then listed_from missing item n more else pure more) (after k.Comma m) ≡ Ok (all, j) → Items found all i j
  more_from goes n found more all i m j true x rest s h =
      let xs = rest all (after k.Comma m) j h in
      let past = sym (after_yes k.Comma m s) in
      record {
        first = x.it;
        others = xs.first ∷ xs.others;
        good = both_true _ _ x.good xs.good;
        leads = leads_on x.leads (next_to (next_mark m k.Comma (mark k.Comma) (sees_ok k.Comma m s) (λ x. cc) refl) past xs.leads);
        value = sym (goes found x.it (xs.first ∷ xs.others)) ∙ ap (λ a. added a (xs.first ∷ xs.others)) x.value ∙ xs.value;
        height = xs.height ∙ next_height m (after k.Comma m) past ∙ x.height;
      }
  more_from goes n found more all i m j false x rest s h =
      let past : m ≡ j = sym (after_no k.Comma m s) ∙ ok_place more all (after k.Comma m) j h in
      record {
        first = x.it;
        others = [];
        good = both_true _ _ x.good refl;
        leads = subst (λ (y : Input). Leads i.ahead (symbols x.it) y.ahead) past x.leads;
        value = x.value ∙ ok_value more all (after k.Comma m) j h;
        height = sym (ap (λ (y : Input). y.height) past) ∙ x.height;
      }

  pub listed_ok : GivesItems → Goes → (n : ℕ) (found all : A) (i j : Input) → listed_from missing item n found i ≡ Ok (all, j) → Items found all i j
  unfolding listed_from
  listed_ok gives goes zero found all i j h = refused (refusal missing i) all j h
  listed_ok gives goes (suc n) found all i j h =
      let g = then_ok (item found i) _ all j h in
      more_from goes n found g.found all i g.place j (sees k.Comma g.place) (gives found g.found i g.place g.first) (listed_ok gives goes n g.found) refl g.second

  -- nothing is read where the first item is refused
  pub listed_fails : (n : ℕ) (found all : A) (i j : Input) (x : ParseError) → item found i ≡ Err x → listed_from missing item n found i ≡ Ok (all, j) → ⊥
  unfolding listed_from
  listed_fails zero found all i j x e h = refused (refusal missing i) all j h
  listed_fails (suc n) found all i j x e h = refused x all j (sym (ap (λ o. and_then o (λ more m. (if sees k.Comma m then listed_from missing item n more else pure more) (after k.Comma m))) e) ∙ h)

  -- ---- the other way

  -- where a kind comes next that no item goes on with
  abbrev pub ReadsItemsTo : (Kind → Type 0) → Type 0
  ReadsItemsTo Stops = (found : A) (x : X) (i : Input) (b : List ℕ) → is_good x ≡ true → Leads i.ahead (symbols x) b → Stops (first_kind b) → item found i ≡ Ok (added found (x ∷ []), at i b i.height)

  abbrev pub ReadsItems : Type 0
  ReadsItems = ReadsItemsTo (λ c. c ≡ k.Dot → ⊥)

  abbrev pub HaveSymbols : Type 0
  HaveSymbols = (x : X) → 1 ≤ length (symbols x)

  after_comma : (i : Input) (a b : List ℕ) → at (next (at i a i.height)) b (next (at i a i.height)).height ≡ at i b i.height
  unfolding next
  after_comma i a b = refl

  next_shorter : (i : Input) (a : List ℕ) (others : List Symbol) (b : List ℕ) → Leads a (mark k.Comma ∷ others) b → length (next (at i a i.height)).ahead + 1 ≤ length a
  unfolding next
  next_shorter i a others b h = behind_shorter a h.spans.0

  pub listed_read_to : (Stops : Kind → Type 0) → Stops k.Comma → ReadsItemsTo Stops → HaveSymbols → Goes → (xs : List X) (x : X) (n : ℕ) (found : A) (i : Input) (b : List ℕ) → length i.ahead ≤ n → list_all is_good (x ∷ xs) ≡ true
      → Leads i.ahead (separated (map symbols (x ∷ xs))) b → (first_kind b ≡ k.Comma → ⊥) → Stops (first_kind b) → listed_from missing item n found i ≡ Ok (added found (x ∷ xs), at i b i.height)
  unfolding listed_from
  listed_read_to Stops at_comma reads some goes [] x zero found i b short good h no_comma stops = let l = spans_shorter (symbols x) i.ahead b h.spans in let one = some x in absurd (omega arith)
  listed_read_to Stops at_comma reads some goes [] x (suc n) found i b short good h no_comma stops =
      let m = at i b i.height in
      let off = sees_no k.Comma m (λ e. no_comma (sym (kind_at m b refl) ∙ e)) in
      then_read _ (reads found x i b (both_left _ _ good) h stops)
      (ap (λ t. (if t then listed_from missing item n (added found (x ∷ [])) else pure (added found (x ∷ []))) (after k.Comma m)) off ∙ ap (λ y. Ok (added found (x ∷ []), y)) (after_no k.Comma m off))
  listed_read_to Stops at_comma reads some goes (y ∷ ys) x zero found i b short good h no_comma stops =
      let s = leads_split (symbols x) (mark k.Comma ∷ separated (map symbols (y ∷ ys))) i.ahead b h in
      let l = spans_shorter (symbols x) i.ahead s.0 s.1.spans in let one = some x in absurd (omega arith)
  listed_read_to Stops at_comma reads some goes (y ∷ ys) x (suc n) found i b short good h no_comma stops =
      let s = leads_split (symbols x) (mark k.Comma ∷ separated (map symbols (y ∷ ys))) i.ahead b h in
      let m = at i s.0 i.height in
      let c = leads_next m (mark k.Comma) (separated (map symbols (y ∷ ys))) b s.2 in
      let is = mark_kind {i = m} {other = k.Comma} c.0 (λ x. cc) in
      let on = sees_yes k.Comma m is in
      let one = some x in
      let l = spans_shorter (symbols x) i.ahead s.0 s.1.spans in
      let fewer = next_shorter i s.0 (separated (map symbols (y ∷ ys))) b s.2 in
      then_read _ (reads found x i s.0 (both_left _ _ good) s.1 (subst Stops (sym is ∙ kind_at m s.0 refl) at_comma))
      (ap (λ t. (if t then listed_from missing item n (added found (x ∷ [])) else pure (added found (x ∷ []))) (after k.Comma m)) on
      ∙ ap (listed_from missing item n (added found (x ∷ []))) (after_yes k.Comma m on)
      ∙ listed_read_to Stops at_comma reads some goes ys y n (added found (x ∷ [])) (next m) b (omega arith) (both_right _ _ good) c.1 no_comma stops
      ∙ ap (λ z. Ok (z, at (next m) b (next m).height)) (goes found x (y ∷ ys))
      ∙ ap (λ z. Ok (added found (x ∷ y ∷ ys), z)) (after_comma i s.0 b))

  pub listed_read : ReadsItems → HaveSymbols → Goes → (xs : List X) (x : X) (n : ℕ) (found : A) (i : Input) (b : List ℕ) → length i.ahead ≤ n → list_all is_good (x ∷ xs) ≡ true
      → Leads i.ahead (separated (map symbols (x ∷ xs))) b → (first_kind b ≡ k.Comma → ⊥) → (first_kind b ≡ k.Dot → ⊥) → listed_from missing item n found i ≡ Ok (added found (x ∷ xs), at i b i.height)
  listed_read reads some goes xs x n found i b short good h no_comma no_dot = listed_read_to (λ c. c ≡ k.Dot → ⊥) (λ e. cc) reads some goes xs x n found i b short good h no_comma no_dot
