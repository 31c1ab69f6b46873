-- What a new package's bytes mean after calls and a flush.
use Rattle.std.proofs.Common.{◌≡◌, ℕ, ◌+◌, ◌*◌, ◌^◌, Bool, false, ◌||◌, nat_lt, List, [], ◌∷◌, length, Option, Some, Result, Ok, refl, ap, subst, ◌∙◌}
use Rattle.std.specs.FinMap.{entries-from_sorted}
use Rattle.std.specs.List.{AllByRecursion}
use Rattle.msi_base.specs.declared.errors.ErrorKind.{ErrorKind}
use Rattle.msi_base.specs.declared.errors.ErrorKind.TheVariants.{InvalidInput}
use Rattle.msi_base.specs.Refusals.{unless_refused, or_refused, ◌>>=◌}
use Rattle.msi_container_format.specs.Names.{name_cmp}
use Rattle.msi_container_write.specs.Image.{least_total}
use Rattle.msi_container_write.specs.Layout.{refuses, taken_by}
use Rattle.msi_database.proofs.RefusedLemmas.{same_Ok}
use Rattle.msi_database.proofs.ShownTablesLemmas.{ok_first}
use Rattle.msi_database_storage.specs.Streams.{Streams}
use Rattle.msi.specs.declared.kinds.PackageType.{PackageType}
use Rattle.msi.specs.declared.kinds.PackageType.TheVariants as kind
use Rattle.msi.specs.State.{State}
use Rattle.msi.specs.Meaning.{IsPackage}
use Rattle.msi.specs.Calls.{Answer, Call}
use Rattle.msi.specs.Calls as calls
use Rattle.msi.specs.Steps.{streams_written, image_refusals, contents_of, written_for}
use Rattle.msi.specs.Runs.{BeginsRecounted, FitsCall, HasExactCounts, Run, Session, IsSession, created, created_over, fresh, opened, unwritten}
use Rattle.msi.specs.Laws.{CreatedIsSession, ReplaysMean, ReplaysOverMean, IsExact}
use Rattle.msi.proofs.packages.FreshLemmas.{unwritten_package, fresh_package, fresh_written, fresh_sound, fresh_counts, fresh_keys}
use Rattle.msi.proofs.writing.FlushLemmas.{flush_package}
use Rattle.msi.proofs.reading.OpenedLemmas.{opened_is_session}
use Rattle.msi.proofs.calls_in_turn.StepLemmas.{written_is}
use Rattle.msi.proofs.packages.RecountingLemmas.{recounts_make_exact}
use Rattle.msi.proofs.calls_in_turn.RunLemmas.{runs_keep, session_keeps}
use Rattle.msi.proofs.calls_in_turn.SessionLemmas.{left_by, laid_out, runs_keep_sessions, session_step, flushed_clean}

-- A NEW PACKAGE

abbrev is_refused_by : Bool → ℕ → Streams → Bool
is_refused_by has_storages earlier streams = has_storages || nat_lt (2 ^ 31) (512 * (least_total (taken_by streams) earlier + 1))

fresh_small : (k : PackageType) → is_refused_by false 0 (fresh k).kept.streams ≡ false
unfolding Rattle.std.specs.Str.chars
fresh_small kind.Installer = refl
fresh_small kind.Patch = refl
fresh_small kind.Transform = refl

fresh_accepted : (k : PackageType) → refuses (contents_of (unwritten k) (fresh k).kept.streams) 0 ≡ false
fresh_accepted k = ap (is_refused_by false 0) (entries-from_sorted name_cmp (fresh k).kept.streams (fresh_package k).database.in_order) ∙ fresh_small k

-- over an empty device it is the package that a replay begins with
accepted_written : (s : State) (n : ℕ) (o : Option Streams) (streams : Streams) → o ≡ Some streams → refuses (contents_of s streams) n ≡ false
    → (or_refused InvalidInput o >>= λ streams. unless_refused (image_refusals s n streams) streams) ≡ Ok streams
accepted_written s n o streams e accepted =
    ap (λ (p : Option Streams). or_refused InvalidInput p >>= λ streams. unless_refused (image_refusals s n streams) streams) e
    ∙ ap (λ b. unless_refused ((b, InvalidInput) ∷ []) streams) accepted

pub created_over_nothing : (k : PackageType) → created_over k 0 ≡ Ok (created k)
created_over_nothing k = ap (λ (r : Result Streams ErrorKind). r >>= λ streams. Ok (laid_out (unwritten k) streams 0))
    (accepted_written (unwritten k) 0 (streams_written (unwritten k)) (fresh k).kept.streams (fresh_written k) (fresh_accepted k))

fresh_exact : (k : PackageType) → IsExact (fresh k).kept.database
fresh_exact k = record { sound = fresh_sound k; counts = fresh_counts k; keys = fresh_keys k }

made_session : (k : PackageType) (n : ℕ) (streams : Streams) → written_for (unwritten k) n ≡ Ok streams → IsSession (laid_out (unwritten k) streams n)
made_session k n streams e = record {
  is_package = flush_package (unwritten k) streams (unwritten_package k) (written_is (unwritten k) n streams e);
  held = left_by (unwritten k) streams n (unwritten_package k) e;
}

pub created_is_session : CreatedIsSession
created_is_session k n x e =
    let made = ok_first (written_for (unwritten k) n) (λ streams. Ok (laid_out (unwritten k) streams n)) x e in
    subst (λ (x : Session). IsSession x × IsExact x.state.kept.database) (same_Ok _ _ made.2) (made_session k n made.0 made.1, fresh_exact k)

-- THE RUN OF CALLS, and a last flush

pub replays_mean : ReplaysMean
replays_mean k sent answers last left fits run flush =
    let start = created_is_session k 0 (created k) (created_over_nothing k) in
    let before : IsSession last = runs_keep_sessions (created k) last sent answers start.0 fits run in
    let after : IsSession left = session_step last left calls.flush (Ok calls.done) tt flush before in
    let clean = flushed_clean last left calls.done flush in
    let kept = runs_keep (created k) last sent answers start.0.is_package fits run in
    let sound = kept.sound start.1.sound in
    let flushed = session_keeps last left calls.flush (Ok calls.done) before.is_package tt flush in
    record {
      last = last;
      left = left;
      run = run;
      flush = flush;
      held = refl;
      means = after.held clean;
      counts = flushed.counts sound (kept.counts start.1.sound start.1.counts);
      keys = λ none. flushed.keys (refl, tt) sound (kept.keys none start.1.sound start.1.keys);
    }

-- where the first call is a recount that is accepted, counts are exact from then on
recounted_first : (old new : Session) (sent : List Call) (answers : List (Result Answer ErrorKind)) → IsPackage old.state → AllByRecursion FitsCall sent → Run old sent answers new → BeginsRecounted sent answers
    → HasExactCounts new.state.kept.database
recounted_first old new (calls.recount ∷ later) (Ok answer ∷ others) h fits run begins =
    let exact = recounts_make_exact (length old.held) old.state run.0.state answer h run.1.0 in
    let kept = runs_keep run.0 new later others (session_keeps old run.0 calls.recount (Ok answer) h tt run.1).is_package fits.1 run.2 in
    record { sound = kept.sound exact.sound; counts = kept.counts exact.sound exact.counts }
recounted_first old new _ _ h fits run begins = absurd begins

-- and on a package that was opened
pub replays_over_mean : ReplaysOverMean
replays_over_mean bytes start sent answers last left small opens fits run flush =
    let first = opened_is_session bytes start small opens in
    let before : IsSession last = runs_keep_sessions (opened bytes start) last sent answers first fits run in
    let after : IsSession left = session_step last left calls.flush (Ok calls.done) tt flush before in
    let kept = runs_keep (opened bytes start) last sent answers first.is_package fits run in
    let flushed = session_keeps last left calls.flush (Ok calls.done) before.is_package tt flush in
    record {
      start = start;
      last = last;
      left = left;
      opens = opens;
      run = run;
      flush = flush;
      held = refl;
      means = after.held (flushed_clean last left calls.done flush);
      sound = λ sound. flushed.sound (kept.sound sound);
      counts = λ sound counts. flushed.counts (kept.sound sound) (kept.counts sound counts);
      keys = λ none sound keys. flushed.keys (refl, tt) (kept.sound sound) (kept.keys none sound keys);
      recounted = λ begins.
          let exact = recounted_first (opened bytes start) last sent answers first.is_package fits run begins in
          record { sound = flushed.sound exact.sound; counts = flushed.counts exact.sound exact.counts };
    }
