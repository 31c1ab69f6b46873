-- What a recount of a package keeps and makes.
use Rattle.std.proofs.Common.{◌≡◌, ℕ, Bool, true, false, ◌||◌, List, [], ◌∷◌, Option, Some, None, Result, Ok, Err, refl, sym, ap, subst, ◌∙◌, arith, inl, inr}
use Rattle.std.specs.Prelude.{nat_lt}
use Rattle.std.proofs.lemmas.Bool.{or_parts}
use Rattle.std.proofs.lemmas.Bool.Decides.{nat_tests}
use Rattle.msi_base.specs.declared.errors.ErrorKind.{ErrorKind}
use Rattle.msi_base.specs.declared.errors.ErrorKind.TheVariants.{InvalidInput, Io, OutOfMemory}
use Rattle.msi_pool.specs.Pool as pools
use Rattle.msi_base.specs.Refusals.{first_refusal, IsRefusal, unless, unless_refused, ◌>>=◌}
use Rattle.msi_database.specs.Database.{Database}
use Rattle.msi_database.specs.RecountedDatabases.{counts_changed, recount, recount_refusals}
use Rattle.msi_database_storage.specs.Kept.{Kept}
use Rattle.msi_database.specs.Recounting as kept
use Rattle.msi_database.proofs.keeping.RecountingLemmas.{recount_exact, recount_kept, recount_unchanged}
use Rattle.msi.specs.State.{State, parts_of}
use Rattle.msi.specs.Meaning.{IsPackage, PoolIs}
use Rattle.msi.specs.Calls.{Answer}
use Rattle.msi.specs.Laws.{RecountsMakeExact}
use Rattle.msi.specs.Runs.{HasExactCounts}
use Rattle.msi.specs.Steps.{after_recount, recounted, recounting, storage_refusal}
use Rattle.msi.specs.Whole.{Whole, with_open, with_state}
use Rattle.msi.proofs.calls_in_turn.StepLemmas.{recounting_passes}

zero_from : (n : ℕ) → nat_lt 0 n ≡ false → n ≡ 0
zero_from n h = grind (arith, nat_tests)

module _ (s : State) (h : IsPackage s) (passes : first_refusal (recount_refusals s.kept.database) ≡ None) where
  unchanged : nat_lt 0 (counts_changed s.kept.database) ≡ false → (after_recount s).kept ≡ s.kept
  unchanged same = recount_unchanged s.kept h.database passes (zero_from (counts_changed s.kept.database) same)

  -- what it leaves is a package
  pub package_recounted : IsPackage (after_recount s)
  package_recounted = record {
    names = h.names;
    database = recount_kept s.kept h.database passes;
    summary = h.summary;
    format = h.format;
    agrees = record {
      summary = h.agrees.summary;
      pool = λ used writable.
          let flags = or_parts s.is_pool_changed (nat_lt 0 (counts_changed s.kept.database)) used in
          let same : (after_recount s).kept ≡ s.kept = unchanged flags.1 in
          subst (λ (k : Kept). PoolIs s.kept.streams k.database) (sym same)
          (h.agrees.pool flags.0 (subst (λ (k : Kept). pools.AreWritable k.database.pool) same writable));
      database = (recount_kept s.kept h.database passes).spelled;
    };
    changed = λ _. (recount_exact s.kept h.database passes).sound;
  }

  -- with exact counts
  pub recounted_exact : HasExactCounts (after_recount s).kept.database
  recounted_exact = record { sound = (recount_exact s.kept h.database passes).sound; counts = (recount_exact s.kept h.database passes).counts }

no_answer : {X : Type 0} (P : Type 0) (x : X) (kind : ErrorKind) → ◌≡◌ {A = Result X ErrorKind} (Ok x) (Err kind) → P
no_answer P x kind e = absurd cc

exact_by : (s new : State) (answer : Answer) (r : Result ℕ ErrorKind) → recounting (parts_of s) ≡ r → IsPackage s → recounted s r ≡ (Ok answer, new) → HasExactCounts new.kept.database
exact_by s new answer (Ok n) e h is = subst (λ (t : State). HasExactCounts t.kept.database) (ap (λ p. p.1) is) (recounted_exact s h (recounting_passes (parts_of s) n e))
exact_by s new answer (Err kind) e h is = no_answer _ answer kind (sym (ap (λ p. p.0) is))

pub recounts_make_exact : RecountsMakeExact
recounts_make_exact n old new answer h (inl is) = exact_by old new answer (recounting (parts_of old)) refl h is.0
recounts_make_exact n old new answer h (inr (inl memory)) = no_answer _ answer OutOfMemory memory.1
recounts_make_exact n old new answer h (inr (inr fault)) = no_answer _ answer Io fault.1

-- THE CALL

recounting_by : (b : Bool) (d : Database) → ◌≡◌ {A = Result (Unit {0}) ErrorKind} (Ok tt) (unless_refused ((b, InvalidInput) ∷ []) tt) → (unless_refused ((b, InvalidInput) ∷ []) d >>= recount) ≡ recount d
recounting_by true d passes = absurd cc
recounting_by false d passes = refl

answer_is : (o : Option ErrorKind) (m n : ℕ) → unless o m ≡ Ok n → n ≡ m
answer_is None m n e = cc
answer_is (Some kind) m n e = absurd cc

module _ (view old : Whole) (is : view ≡ old) (passes : ◌≡◌ {A = Result (Unit {0}) ErrorKind} (Ok tt) (unless_refused (storage_refusal (parts_of old.state)) tt))
    (k : Kept) (same : k ≡ view.state.kept) where
  recounting_is : recounting (parts_of old.state) ≡ recount k.database
  recounting_is = recounting_by old.state.has_storages old.state.kept.database passes
      ∙ ap (λ (k : Kept). recount k.database) (sym (same ∙ ap (λ (w : Whole). w.state.kept) is))

  pub recount_answered : (n : ℕ) → recount k.database ≡ Ok n → recounting (parts_of old.state) ≡ Ok n
  recount_answered n e = recounting_is ∙ e

  pub recount_refused : (kind : ErrorKind) → IsRefusal (recount k.database) kind → IsRefusal (recounting (parts_of old.state)) kind
  recount_refused kind refused = subst (λ (r : Result ℕ ErrorKind). IsRefusal r kind) (sym recounting_is) refused

  -- the state that is left, where it was noted
  abbrev noted : Kept → ℕ → Whole
  noted new n = with_state (record view.state { kept = new; is_unwritten = true; is_pool_changed = view.state.is_pool_changed || nat_lt 0 n }) view

  pub recount_left : (new : Kept) (name : Option (List ℕ)) (bytes : List ℕ) (n : ℕ) → name ≡ None → new ≡ kept.after_recount k → recount k.database ≡ Ok n
      → noted (with_open name bytes new) n ≡ with_state (after_recount old.state) old
  recount_left new name bytes n none left e =
      let now : new ≡ kept.after_recount view.state.kept = left ∙ ap kept.after_recount same in
      let many : n ≡ counts_changed view.state.kept.database = answer_is (first_refusal (recount_refusals k.database)) (counts_changed k.database) n e ∙ ap (λ (k : Kept). counts_changed k.database) same in
      ap (λ (o : Option (List ℕ)). noted (with_open o bytes new) n) none
      ∙ (λ i. noted (now i) (many i))
      ∙ ap (λ (w : Whole). with_state (after_recount w.state) w) is
