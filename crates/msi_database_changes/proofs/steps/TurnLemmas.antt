-- Moves one after another, along a list.
use Rattle.std.proofs.Common.{◌≡◌, ℕ, ◌+◌, ◌<◌, List, [], ◌∷◌, ◌++◌, map, Option, Some, None, option_map, refl, ap₂, ◌∙◌, subst, arith}
use Rattle.std.specs.List.{AllByRecursion}
use Rattle.std.proofs.lemmas.Option.{none-some, same_Some, option_and_then_some}
use Rattle.msi_pool.specs.Pool.{Place}
use Rattle.msi_pool.specs.FirstFitLaws.{text_at}
use Rattle.msi_database_changes.specs.Texts.{PoolInUse, in_turn}
use Rattle.msi_database_schema.proofs.AccountLemmas.{Uses, none, ◌⊕◌, Enough, Moved, unmoved}

-- the uses of the items of a list
abbrev pub total : {X : Type 0} → (X → Uses) → List X → Uses
total f [] n = 0
total f (x ∷ xs) n = f x n + total f xs n

pub total-append : {X : Type 0} (f : X → Uses) (xs ys : List X) (n : ℕ) → total f (xs ++ ys) n ≡ total f xs n + total f ys n
total-append f [] ys n = omega arith
total-append f (x ∷ xs) ys n = omega (arith, total-append f xs ys n)

pub total-none : {X : Type 0} (xs : List X) (n : ℕ) → total (λ (x : X). none) xs n ≡ 0
total-none [] n = refl
total-none (x ∷ xs) n = omega (arith, total-none xs n)

-- what follows from a value behind `option_map`
pub map_some : {A B P : Type 0} (f : A → B) (o : Option A) (y : B) → option_map f o ≡ Some y → ((x : A) → o ≡ Some x → f x ≡ y → P) → P
map_some f None y e k = absurd (none-some y e)
map_some f (Some x) y e k = k x refl (same_Some (f x) y e)

-- the texts of the places that are used are as they were
abbrev pub TextsStay : Uses → List Place → List Place → Type 0
TextsStay uses before after = (n : ℕ) → 0 < uses n → text_at after n ≡ text_at before n

-- A step turns an item into another and moves its cells. An item's value goes by the texts of the places that it uses.
module _ {X Y V : Type 0} (most : ℕ) (step : PoolInUse → X → Option (Y × PoolInUse)) (ins : X → Uses) (outs : Y → Uses)
    (old : List Place → X → V) (new : List Place → Y → V) (origin target : X → V) (Good : X → Type 0)
    (old_stays : (x : X) (before after : List Place) → TextsStay (ins x) before after → old after x ≡ old before x)
    (new_stays : (y : Y) (before after : List Place) → TextsStay (outs y) before after → new after y ≡ new before y) where
  -- the items still have the values that they began with
  abbrev pub AsAtFirst : List Place → List X → Type 0
  AsAtFirst places xs = AllByRecursion (λ x. (old places x ≡ origin x) × Good x) xs

  as_at_first_on : (xs : List X) (before after : List Place) → TextsStay (total ins xs) before after → AsAtFirst before xs → AsAtFirst after xs
  as_at_first_on [] before after h olds = tt
  as_at_first_on (x ∷ xs) before after h olds = ((old_stays x before after (λ n k. h n (omega (arith, k))) ∙ olds.0.0, olds.0.1), as_at_first_on xs before after (λ n k. h n (omega (arith, k))) olds.1)

  pub record Step (stay : Uses) (x : X) (before : PoolInUse) (r : Y × PoolInUse) : Type 0 where
    pub moved : Moved most stay (ins x) (outs r.0) before.places r.1.places
    pub value : new r.1.places r.0 ≡ target x

  pub record Turned (stay : Uses) (xs : List X) (before : PoolInUse) (r : List Y × PoolInUse) : Type 0 where
    pub moved : Moved most stay (total ins xs) (total outs r.0) before.places r.1.places
    pub values : map (new r.1.places) r.0 ≡ map target xs

  pub news_stay : (ys : List Y) (before after : List Place) → TextsStay (total outs ys) before after → map (new after) ys ≡ map (new before) ys
  news_stay [] before after h = refl
  news_stay (y ∷ ys) before after h = ap₂ (λ (v : V) (vs : List V). v ∷ vs) (new_stays y before after (λ n k. h n (omega (arith, k)))) (news_stay ys before after (λ n k. h n (omega (arith, k))))

  turns_on : (stay : Uses) (x : X) (xs : List X) (a : PoolInUse) (b : Y × PoolInUse) (c : List Y × PoolInUse)
      → Step (stay ⊕ total ins xs) x a b → Turned (stay ⊕ outs b.0) xs b.1 c → Turned stay (x ∷ xs) a (b.0 ∷ c.0, c.1)
  turns_on stay x xs a b c s t = record {
    moved = record {
      balance = λ n. omega (arith, s.moved.balance n, t.moved.balance n);
      texts = λ n k. t.moved.texts n (omega (arith, k)) ∙ s.moved.texts n (omega (arith, k));
      width = λ k. t.moved.width (s.moved.width k);
    };
    values = ap₂ (λ (v : V) (vs : List V). v ∷ vs) (new_stays b.0 b.1.places c.1.places (λ n k. t.moved.texts n (omega (arith, k))) ∙ s.value) t.values;
  }

  -- each step moves its cells, so all of them together do
  pub turned : ((stay : Uses) (x : X) (before : PoolInUse) (r : Y × PoolInUse) → Enough before.places (stay ⊕ ins x) → old before.places x ≡ origin x → Good x → step before x ≡ Some r → Step stay x before r)
      → (stay : Uses) (xs : List X) (before : PoolInUse) (r : List Y × PoolInUse) → Enough before.places (stay ⊕ total ins xs) → AsAtFirst before.places xs → in_turn step before xs ≡ Some r → Turned stay xs before r
  turned steps stay [] before r enough olds e = subst (λ r. Turned stay [] before r) (same_Some ([], before) r e) (record { moved = unmoved most stay none before.places; values = refl })
  turned steps stay (x ∷ xs) before r enough olds e = option_and_then_some _ (step before x) r e
      (λ b b_is rest. map_some _ (in_turn step b.1 xs) r rest
      (λ c c_is whole.
      let s = steps (stay ⊕ total ins xs) x before b (λ n. omega (arith, enough n)) olds.0.0 olds.0.1 b_is in
      subst (λ r. Turned stay (x ∷ xs) before r) whole (turns_on stay x xs before b c s
      (turned steps (stay ⊕ outs b.0) xs b.1 c (λ n. omega (arith, s.moved.balance n, enough n))
      (as_at_first_on xs before.places b.1.places (λ n k. s.moved.texts n (omega (arith, k))) olds.1) c_is))))
