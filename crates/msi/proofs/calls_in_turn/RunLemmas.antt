-- What steps and runs keep: packages, soundness, exact counts and distinct keys.
use Rattle.std.proofs.Common.{◌≡◌, true, List, [], ◌∷◌, length, Result, sym, ap, subst, ◌∙◌, inl, inr}
use Rattle.std.proofs.lemmas.Bool.{true≢false}
use Rattle.msi_base.specs.declared.codepage.CodePage.{CodePage}
use Rattle.msi_base.specs.declared.errors.ErrorKind.{ErrorKind}
use Rattle.msi_pool.proofs.TakenLemmas.{taken_takes}
use Rattle.msi_database.specs.Database.{Database, CountsAreExact, is_sound, is_well_formed}
use Rattle.msi_database.specs.Changes.{Change}
use Rattle.msi_database.specs.Laws as databases
use Rattle.msi_database.specs.Laws.{KeysAreDistinct}
use Rattle.msi_database.specs.RecountedDatabases.{IsRecounted, recounted as recounted_database}
use Rattle.msi_database.proofs.LawLemmas.{changes_keep, table_changes_keep}
use Rattle.msi_database.proofs.soundness.GivenBackLemmas.{given_back_gives}
use Rattle.msi_database.proofs.keeping.KeptLawLemmas.{kept_is_well_formed}
use Rattle.msi_database.proofs.keeping.RecountingLemmas.{recount_exact}
use Rattle.msi.specs.State.{State}
use Rattle.msi.specs.Meaning.{IsPackage}
use Rattle.msi.specs.Calls.{Call, Answer}
use Rattle.msi.specs.Calls as calls
use Rattle.msi.specs.Runs.{Session, SessionStep, FitsCall}
use Rattle.msi.specs.Laws.{KeepsPackage, StepsKeepPackages, RunsKeepPackages}
use Rattle.msi.proofs.packages.PackageLemmas as packages
use Rattle.msi.proofs.packages.RecountingLemmas.{package_recounted}
use Rattle.msi.proofs.packages.TransformedLemmas.{package_transformed, transformed_exact}
use Rattle.msi.proofs.calls_in_turn.StepLemmas.{AnyChange, Keeps, step_keeps}

package_kept : Keeps (Unit {0}) IsPackage
package_kept = record {
  is_package = λ s h. h;
  same = λ s t h same held. held;
  changed = packages.changed;
  paged = packages.paged;
  recounted = package_recounted;
  transformed = λ may s t passing k h is left. package_transformed s t passing k h is left;
}

-- A SOUND PACKAGE, WITH SOMETHING THAT ITS DATABASE KEEPS

pub record IsSoundWith (Q : Database → Type 0) (s : State) : Type 0 where
  pub is_package : IsPackage s
  pub sound : is_sound s.kept.database ≡ true
  pub also : Q s.kept.database

-- what changes of a sound database keep, and another page, and what exact counts are enough for where transforms are
-- applied
pub record KeptByChanges (Applied : Type 0) (Q : Database → Type 0) : Type 0 where
  pub changed : (d : Database) (c : Change) → databases.Keeps d c.database → Q d → Q c.database
  pub paged : (d : Database) (page : CodePage) → Q d → Q (record d { pool = record d.pool { page = page } })
  pub recounted : (d : Database) → IsRecounted d (recounted_database d) → Q d → Q (recounted_database d)
  pub transformed : Applied → (d : Database) → CountsAreExact d → Q d

any_change_keeps : (d : Database) (c : Change) → AnyChange d c → is_well_formed d ≡ true → is_sound d ≡ true → databases.Keeps d c.database
any_change_keeps d c (inl change) formed sound = changes_keep taken_takes given_back_gives d c change formed sound
any_change_keeps d c (inr change) formed sound = table_changes_keep taken_takes given_back_gives d c change formed sound

pub sound_kept : (Applied : Type 0) (Q : Database → Type 0) → KeptByChanges Applied Q → Keeps Applied (IsSoundWith Q)
sound_kept Applied Q kept = record {
  is_package = λ s h. h.is_package;
  same = λ s t h same held. record { is_package = held; sound = ap is_sound same ∙ h.sound; also = subst Q (sym same) h.also };
  changed = λ s c h change. record {
    is_package = packages.changed s c h.is_package change;
    sound = packages.sound_after s c h.is_package change;
    also = kept.changed s.kept.database c (any_change_keeps s.kept.database c change (kept_is_well_formed s.kept h.is_package.database) h.sound) h.also;
  };
  paged = λ s page h sound. record { is_package = packages.paged s page h.is_package sound; sound = sound; also = kept.paged s.kept.database page h.also };
  recounted = λ s h passes.
      let made = recount_exact s.kept h.is_package.database passes in
      record { is_package = package_recounted s h.is_package passes; sound = made.sound; also = kept.recounted s.kept.database made h.also };
  transformed = λ may s t passing k h is left.
      let exact = transformed_exact s t passing k h.is_package is left in
      record { is_package = package_transformed s t passing k h.is_package is left; sound = exact.0; also = kept.transformed may k.database exact.1 };
}

-- nothing more, exact counts, and distinct keys
abbrev Nothing : Database → Type 0
Nothing d = Unit {0}

nothing_kept : KeptByChanges (Unit {0}) Nothing
nothing_kept = record { changed = λ d c k h. tt; paged = λ d page h. tt; recounted = λ d k h. tt; transformed = λ may d h. tt }

counts_kept : KeptByChanges (Unit {0}) CountsAreExact
counts_kept = record { changed = λ d c k h. k.counts h; paged = λ d page h i l. h i l; recounted = λ d k h. k.counts; transformed = λ may d h. h }

-- transforms aside
keys_kept : KeptByChanges ⊥ KeysAreDistinct
keys_kept = record { changed = λ d c k h. k.keys h; paged = λ d page h name t found. h name t found; recounted = λ d k h. k.keys h; transformed = λ may. absurd may }

-- STEPS

pub steps_keep : StepsKeepPackages
steps_keep n old new call answer h fits step = record {
  is_package = step_keeps (Unit {0}) IsPackage package_kept n old h call answer new fits (λ _. tt) step;
  sound = λ sound. (step_keeps (Unit {0}) (IsSoundWith Nothing) (sound_kept (Unit {0}) Nothing nothing_kept) n old (record { is_package = h; sound = sound; also = tt }) call answer new fits (λ _. tt) step).sound;
  counts = λ sound counts. (step_keeps (Unit {0}) (IsSoundWith CountsAreExact) (sound_kept (Unit {0}) CountsAreExact counts_kept) n old (record { is_package = h; sound = sound; also = counts }) call answer new fits (λ _. tt) step).also;
  keys = λ none sound keys. (step_keeps ⊥ (IsSoundWith KeysAreDistinct) (sound_kept ⊥ KeysAreDistinct keys_kept) n old (record { is_package = h; sound = sound; also = keys }) call answer new fits
      (λ e. true≢false (sym e ∙ none.0)) step).also;
}

-- RUNS

pub keeps_itself : (sent : List Call) (s : State) → IsPackage s → KeepsPackage sent s s
keeps_itself sent s h = record { is_package = h; sound = λ sound. sound; counts = λ sound counts. counts; keys = λ none sound keys. keys }

then_keeps : (call : Call) (others : List Call) (a b c : State) → KeepsPackage (call ∷ []) a b → KeepsPackage others b c → KeepsPackage (call ∷ others) a c
then_keeps call others a b c h k = record {
  is_package = k.is_package;
  sound = λ sound. k.sound (h.sound sound);
  counts = λ sound counts. k.counts (h.sound sound) (h.counts sound counts);
  keys = λ none sound keys. k.keys none.1 (h.sound sound) (h.keys (none.0, tt) sound keys);
}

pub session_keeps : (x y : Session) (call : Call) (answer : Result Answer ErrorKind) → IsPackage x.state → FitsCall call → SessionStep x call answer y → KeepsPackage (call ∷ []) x.state y.state
session_keeps x y calls.device_failed answer h fits step = subst (λ (z : Session). KeepsPackage (calls.device_failed ∷ []) x.state z.state) (sym step.1) (keeps_itself (calls.device_failed ∷ []) x.state h)
session_keeps x y calls.flush answer h fits step = steps_keep (length x.held) x.state y.state calls.flush answer h fits step.0
session_keeps x y call answer h fits step = steps_keep (length x.held) x.state y.state call answer h fits step.0

pub runs_keep : RunsKeepPackages
runs_keep old new [] [] h fits run = subst (λ (z : Session). KeepsPackage [] old.state z.state) (sym run) (keeps_itself [] old.state h)
runs_keep old new [] (a ∷ others) h fits run = absurd run
runs_keep old new (c ∷ cs) [] h fits run = absurd run
runs_keep old new (c ∷ cs) (a ∷ others) h fits run =
    let first = session_keeps old run.0 c a h fits.0 run.1 in
    then_keeps c cs old.state run.0.state new.state first (runs_keep run.0 new cs others first.is_package fits.1 run.2)
