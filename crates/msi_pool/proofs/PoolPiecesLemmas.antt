-- The text of one place: how it is cut off the data stream and read, and why that fails.
use Rattle.std.proofs.Common.{◌≡◌, ◌⊎◌, ℕ, ◌<◌, ◌≤◌, Bool, cond, List, [], ◌∷◌, ◌++◌, length, take, drop, Option, Some, None, is_some, Result, Ok, Err, refl, sym, ap, subst, ◌∙◌, inl, inr}
use Rattle.std.specs.Prelude.{option_map, OnOk, IfErr, IsErrAnd, if◌then◌else◌}
use Rattle.std.proofs.lemmas.Bool.{lt-ltb, le-ltb}
use Rattle.msi_base.specs.declared.codepage.CodePage.{CodePage}
use Rattle.msi_base.specs.declared.errors.ErrorKind.{ErrorKind}
use Rattle.msi_base.specs.declared.errors.ErrorKind.TheVariants as kind
use Rattle.msi_base.specs.Pages.{text_in}
use Rattle.msi_base.specs.Results.{FailsAs, Gives}
use Rattle.msi_base.proofs.OptionLemmas.{given}
use Rattle.msi_pool_places.specs.Pool.{Entry, Place}
use Rattle.msi_pool_places.specs.PoolReading.{IsPut, place_with, place_in_front}
use Rattle.msi_pool.specs.PoolPieces.{IsPiecePut}

-- an error that is passed on stands for what it stood for
pub failed_as : {X Y : Type 0} (r : Result X ErrorKind) (e : ErrorKind) (read : Option Y) → IsErrAnd r (λ k. k ≡ e) → FailsAs e read → IfErr r (λ k. FailsAs k read)
failed_as (Ok x) e read is fails = absurd is
failed_as (Err k) e read is fails = subst (λ k. FailsAs k read) (sym is) fails

pub gives_failed : {X Y : Type 0} (view : X → Y) (r : Result X ErrorKind) (e : ErrorKind) (read : Option Y) → IsErrAnd r (λ k. k ≡ e) → FailsAs e read → Gives view r read
gives_failed view (Ok x) e read is fails = absurd is
gives_failed view (Err k) e read is fails = subst (λ k. FailsAs k read) (sym is) fails

pub memory_failed : {X Y : Type 0} (r : Result X ErrorKind) (read : Option Y) → IfErr r (λ k. k ≡ kind.OutOfMemory) → IfErr r (λ k. FailsAs k read)
memory_failed (Ok x) read memory = tt
memory_failed (Err k) read memory = subst (λ k. FailsAs k read) (sym memory) tt

pub fault_kind : {Y : Type 0} (k : ErrorKind) (read : Option Y) → FailsAs k read → (k ≡ kind.InvalidData) ⊎ (k ≡ kind.OutOfMemory)
fault_kind kind.AlreadyExists read h = absurd h
fault_kind kind.InvalidData read h = inl refl
fault_kind kind.InvalidInput read h = absurd h
fault_kind kind.NotFound read h = absurd h
fault_kind kind.Io read h = absurd h
fault_kind kind.OutOfMemory read h = inr refl

-- bytes that a page reads fail for memory alone
pub unread : {Y : Type 0} (read : Option Y) (e : ErrorKind) → e ≡ (if is_some read then kind.OutOfMemory else kind.InvalidData) → FailsAs e read
unread {Y} None e is = subst (λ (k : ErrorKind). FailsAs {Y = Y} k None) (sym is) refl
unread {Y} (Some y) e is = subst (λ (k : ErrorKind). FailsAs {Y = Y} k (Some y)) (sym is) tt

-- a text that was read stands behind the others
pub piece_put : (r : Result (Unit {0}) ErrorKind) (page : CodePage) (piece : List ℕ) (count : ℕ) (before after : List Place) (text : List ℕ)
    → text_in page piece ≡ Some text → OnOk r (after ≡ before ++ record { text = text; count = count } ∷ []) → OnOk r (IsPiecePut page piece count before after)
piece_put (Ok x) page piece count before after text reads put = record { text = text; reads = reads; put = put }
piece_put (Err k) page piece count before after text reads put = tt

module _ (page : CodePage) (e : Entry) (bytes : List ℕ) where
  abbrev cut_off : Option (List ℕ) → Option (Place × List ℕ)
  cut_off = option_map (λ (text : List ℕ). (place_with e text, drop e.len bytes))

  pub too_short : length bytes < e.len → place_in_front page e bytes ≡ None
  too_short short = ap (λ (b : Bool). cond b None (cut_off (text_in page (take e.len bytes)))) (lt-ltb (length bytes) e.len short)

  long_enough : (piece : List ℕ) → e.len ≤ length bytes → piece ≡ take e.len bytes → place_in_front page e bytes ≡ cut_off (text_in page piece)
  long_enough piece long is =
      ap (λ (b : Bool). cond b None (cut_off (text_in page (take e.len bytes)))) (le-ltb (length bytes) e.len long)
      ∙ ap (λ (x : List ℕ). cut_off (text_in page x)) (sym is)

  pub front_unread : (k : ErrorKind) (piece : List ℕ) → e.len ≤ length bytes → piece ≡ take e.len bytes
      → FailsAs k (text_in page piece) → FailsAs k (place_in_front page e bytes)
  front_unread kind.AlreadyExists piece long is h = absurd h
  front_unread kind.InvalidData piece long is h = long_enough piece long is ∙ ap cut_off h
  front_unread kind.InvalidInput piece long is h = absurd h
  front_unread kind.NotFound piece long is h = absurd h
  front_unread kind.Io piece long is h = absurd h
  front_unread kind.OutOfMemory piece long is h = tt

  pub front_put : (piece rest : List ℕ) (count : ℕ) (before after : List Place) → e.len ≤ length bytes → piece ≡ take e.len bytes → rest ≡ drop e.len bytes → count ≡ e.count
      → IsPiecePut page piece count before after → IsPut page e bytes before after rest
  front_put piece rest count before after long is rest_is count_is put = (
    place_with e put.text,
    long_enough piece long is ∙ ap cut_off put.reads ∙ ap (λ (x : List ℕ). given (place_with e put.text, x)) (sym rest_is),
    put.put ∙ ap (λ (n : ℕ). before ++ record { text = put.text; count = n } ∷ []) count_is,
  )
