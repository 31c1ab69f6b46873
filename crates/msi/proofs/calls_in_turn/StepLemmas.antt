-- What every step keeps, of which four things are known.
use Rattle.std.proofs.Common.{◌≡◌, ℕ, Bool, true, false, not, List, [], ◌∷◌, ◌++◌, Option, Some, None, Result, Ok, Err, ◌⊎◌, refl, sym, ap, subst, ◌∙◌, inl, inr}
use Rattle.std.specs.Prelude.{MatchBool, if◌then◌else◌}
use Rattle.std.specs.List.{AllByRecursion}
use Rattle.std.specs.Str.{IsUtf8}
use Rattle.std.proofs.lemmas.Bool.{true≢false}
use Rattle.msi_base.specs.declared.codepage.CodePage.{CodePage}
use Rattle.msi_base.specs.declared.errors.ErrorKind.{ErrorKind}
use Rattle.msi_base.specs.declared.errors.ErrorKind.TheVariants.{InvalidInput, InvalidData, NotFound}
use Rattle.msi_base.specs.Refusals.{Refusals, first_refusal, unless, unless_refused, or_refused}
use Rattle.msi_database_schema.specs.Keys.{is_stream_name, stream_key}
use Rattle.msi_database.specs.Database.{Database, is_sound}
use Rattle.msi_database.specs.Changes.{Change, sound_refusal}
use Rattle.msi_database.specs.Insert.{insert_rows}
use Rattle.msi_database.specs.Update.{update_rows}
use Rattle.msi_database.specs.Delete.{delete_rows}
use Rattle.msi_database.specs.Create.{create_table}
use Rattle.msi_database.specs.Drop.{drop_table}
use Rattle.msi_database.specs.AddColumn.{add_column}
use Rattle.msi_database.specs.RecountedDatabases.{counts_changed, recount, recount_refusals}
use Rattle.msi_database.specs.Laws.{IsChange, IsTableChange, inserted, updated, deleted, created, dropped, column_added}
use Rattle.msi_database.proofs.RefusedLemmas.{not_refused, value_there}
use Rattle.msi_database.proofs.ShownTablesLemmas.{ok_first}
use Rattle.msi_database_storage.specs.Streams.{Streams, with_stream, without_stream}
use Rattle.msi.specs.State.{Parts, State, parts_of}
use Rattle.msi.specs.Meaning.{IsPackage}
use Rattle.msi_summary.specs.declared.property.SummaryProperty.{SummaryProperty}
use Rattle.msi.specs.Calls.{Call, Answer}
use Rattle.msi.specs.Calls as calls
use Rattle.msi.specs.Lent.{FitsSummaryCall}
use Rattle.msi_database_storage.specs.Kept.{Kept}
use Rattle.msi_transform.specs.Transforms.{TransformDef}
use Rattle.msi_transform.specs.declared.conditions.ErrorConditions.{ErrorConditions}
use Rattle.msi_transform_rows.specs.RecordRefusals.{Refusal}
use Rattle.msi.specs.Transforming.{IsLeft, after_transform, transforming}
use Rattle.msi.specs.Runs.{FitsCall, is_transform}
use Rattle.msi.specs.Steps.{after_change, after_recount, recounted, recounting, storage_refusal, changing, changed, with_page, with_streams, with_lent_summary, with_summary_calls, without_signature, name_refusals, has_stream, leaving_or, streams_written, written_for, image_refusals, as_written, flushed, outcome, transformed, LeavesKept, Lends, LendsOrRefuses, Step, is_lending}
use Rattle.msi.proofs.packages.SummarySetLemmas.{run_kept}
use Rattle.msi.proofs.packages.PackageLemmas as packages
use Rattle.msi.proofs.writing.FlushLemmas.{flush_package}

-- ANSWERS

abbrev pub AnyChange : Database → Change → Type 0
AnyChange d c = IsChange d c ⊎ IsTableChange d c

changing_is : (p : Parts) (change : Database → Result Change ErrorKind) (c : Change) → changing p change ≡ Ok c → change p.database ≡ Ok c
changing_is p change c e =
    let first = ok_first (unless_refused (storage_refusal p) p.database) change c e in
    ap change (not_refused (storage_refusal p) p.database first.0 first.1).1 ∙ first.2

-- an accepted recount passed its refusals
recount_passes : (o : Option ErrorKind) (m n : ℕ) → unless o m ≡ Ok n → o ≡ None
recount_passes None m n e = refl
recount_passes (Some kind) m n e = absurd cc

pub recounting_passes : (p : Parts) (n : ℕ) → recounting p ≡ Ok n → first_refusal (recount_refusals p.database) ≡ None
recounting_passes p n e =
    let first = ok_first (unless_refused (storage_refusal p) p.database) recount n e in
    recount_passes (first_refusal (recount_refusals p.database)) (counts_changed p.database) n (ap recount (not_refused (storage_refusal p) p.database first.0 first.1).1 ∙ first.2)

second_passes : (a b : Bool) (k l : ErrorKind) (rest : Option ErrorKind) → (if a then Some k else if not b then Some l else rest) ≡ None → b ≡ true
second_passes true b k l rest e = absurd cc
second_passes false true k l rest e = refl
second_passes false false k l rest e = absurd cc

-- a name that isn't refused is accepted
pub accepted_name : (p : Parts) (name : List ℕ) (others : Refusals) → first_refusal (name_refusals p name ++ others) ≡ None → is_stream_name name ≡ true
accepted_name p name others e = second_passes p.has_storages (is_stream_name name) InvalidInput InvalidInput (first_refusal others) e

pub written_is : (s : State) (earlier_len : ℕ) (streams : Streams) → written_for s earlier_len ≡ Ok streams → streams_written s ≡ Some streams
written_is s earlier_len streams e =
    let first = ok_first (or_refused InvalidInput (streams_written s)) (λ streams. unless_refused (image_refusals s earlier_len streams) streams) streams e in
    value_there InvalidInput (streams_written s) first.0 first.1 ∙ ap Some (not_refused (image_refusals s earlier_len first.0) first.0 streams first.2).1

-- WHAT IS KEPT

-- a lent summary, a changed stream and a flush leave the database; tables and the page are changed; and transforms are
-- applied, where it keeps what they leave
pub record Keeps (Applied : Type 0) (P : State → Type 0) : Type 0 where
  pub is_package : (s : State) → P s → IsPackage s
  pub same : (s t : State) → P s → t.kept.database ≡ s.kept.database → IsPackage t → P t
  pub changed : (s : State) (c : Change) → P s → AnyChange s.kept.database c → P (after_change s c)
  pub paged : (s : State) (page : CodePage) → P s → is_sound s.kept.database ≡ true → P (with_page page s)
  pub recounted : (s : State) → P s → first_refusal (recount_refusals s.kept.database) ≡ None → P (after_recount s)
  pub transformed : Applied → (s : State) (t : TransformDef) (passing : ErrorConditions) (k : Kept) → P s → transforming s t passing ≡ Ok k → IsLeft k → P (after_transform s k)

module _ (Applied : Type 0) (P : State → Type 0) (keeps : Keeps Applied P) where
  leaving_keeps : (o : Option ErrorKind) (old new : State) → P old → (o ≡ None → P new) → P (leaving_or o old new).1
  leaving_keeps None old new h next = next refl
  leaving_keeps (Some kind) old new h next = h

  changed_keeps : (s : State) (r : Result Change ErrorKind) → P s → ((c : Change) → r ≡ Ok c → AnyChange s.kept.database c) → P (changed s r).1
  changed_keeps s (Ok c) h is = keeps.changed s c h (is c refl)
  changed_keeps s (Err kind) h is = h

  recounted_keeps : (s : State) (r : Result ℕ ErrorKind) → P s → ((n : ℕ) → r ≡ Ok n → first_refusal (recount_refusals s.kept.database) ≡ None) → P (recounted s r).1
  recounted_keeps s (Ok n) h passes = keeps.recounted s h (passes n refl)
  recounted_keeps s (Err kind) h passes = h

  transformed_keeps : Applied → (s : State) (t : TransformDef) (passing : ErrorConditions) (r : Result Kept Refusal) → transforming s t passing ≡ r → P s
      → LeavesKept (calls.apply_transform t passing) (transformed s r).0 (transformed s r).1 → P (transformed s r).1
  transformed_keeps may s t passing (Ok k) is h left = keeps.transformed may s t passing k h is left
  transformed_keeps may s t passing (Err refusal) is h left = h

  flushed_keeps : (s : State) (r : Result Streams ErrorKind) → P s → ((streams : Streams) → r ≡ Ok streams → streams_written s ≡ Some streams) → P (flushed s r).1
  flushed_keeps s (Ok streams) h written = keeps.same s (as_written s streams) h refl (flush_package s streams (keeps.is_package s h) (written streams refl))
  flushed_keeps s (Err kind) h written = h

  flush_keeps : (s : State) (earlier_len : ℕ) (unwritten : Bool) → P s → P (if unwritten then flushed s (written_for s earlier_len) else (Ok calls.done, s)).1
  flush_keeps s earlier_len true h = flushed_keeps s (written_for s earlier_len) h (written_is s earlier_len)
  flush_keeps s earlier_len false h = h

  -- what a call lends is refused, or leaves something that is kept
  lending_keeps : (s : State) (call : Call) (o : Option ErrorKind) (next : State) (answer : Result Answer ErrorKind) (new : State)
      → LendsOrRefuses s call (leaving_or o s next) answer new → P s → (o ≡ None → (a : Answer) → Lends next call a new → P new) → P new
  lending_keeps s call None next (Ok a) new l h then' = then' refl a l
  lending_keeps s call None next (Err kind) new l h then' = absurd l
  lending_keeps s call (Some kind) next answer new l h then' = subst P (sym l.1) h

  info_keeps : (s : State) (questions : List SummaryProperty) (a : Answer) (new : State) → Lends s (calls.summary_info questions) a new → P s → P new
  info_keeps s questions (calls.summary_says answers) new l h = subst P (sym l.2) h
  info_keeps s questions _ new l h = absurd l

  mut_keeps : (s : State) (cs : List calls.SummaryCall) (a : Answer) (new : State) → AllByRecursion FitsSummaryCall cs → Lends (with_lent_summary s) (calls.summary_info_mut cs) a new → P s → P new
  mut_keeps s cs (calls.summary_says answers) new fits l h = subst P (sym l.2)
      (let held = keeps.is_package s h in keeps.same s (with_summary_calls l.0 (with_lent_summary s)) h refl
      (packages.summary_left s l.0 (run_kept s.summary l.0 cs answers fits l.1 (packages.package_summary s held)) held))
  mut_keeps s cs _ new fits l h = absurd l

  put_keeps : (s : State) (name bytes : List ℕ) → IsUtf8 name → is_stream_name name ≡ true → P s → P (with_streams (with_stream (stream_key name) bytes) s)
  put_keeps s name bytes utf8 is h = keeps.same s (with_streams (with_stream (stream_key name) bytes) s) h refl (packages.stream_put s name bytes utf8 is (keeps.is_package s h))

  write_keeps : (s : State) (name : List ℕ) (cs : List calls.WriterCall) (a : Answer) (new : State) → IsUtf8 name → is_stream_name name ≡ true
      → Lends (with_streams (with_stream (stream_key name) []) s) (calls.write_stream name cs) a new → P s → P new
  write_keeps s name cs (calls.stream_says answers) new utf8 is l h = subst P (sym l.2)
      (put_keeps (with_streams (with_stream (stream_key name) []) s) name (l.0).bytes utf8 is (put_keeps s name [] utf8 is h))
  write_keeps s name cs _ new utf8 is l h = absurd l

  read_keeps : (s : State) (name : List ℕ) (cs : List calls.ReaderCall) (a : Answer) (new : State) → Lends s (calls.read_stream name cs) a new → P s → P new
  read_keeps s name cs (calls.stream_says answers) new l h = subst P (sym l.2) h
  read_keeps s name cs _ new l h = absurd l

  -- EACH CALL

  module _ (earlier_len : ℕ) (s : State) (h : P s) where
    table_change : (change : Database → Result Change ErrorKind) → ((c : Change) → change s.kept.database ≡ Ok c → AnyChange s.kept.database c) → P (changed s (changing (parts_of s) change)).1
    table_change change is = changed_keeps s (changing (parts_of s) change) h (λ c e. is c (changing_is (parts_of s) change c e))

    -- a call that lends nothing
    outcome_keeps : (call : Call) → is_lending call ≡ false → (is_transform call ≡ true → Applied) → LeavesKept call (outcome earlier_len s call).0 (outcome earlier_len s call).1
        → P (outcome earlier_len s call).1
    outcome_keeps calls.package_type e may left = h
    outcome_keeps calls.database_codepage e may left = h
    outcome_keeps calls.device_failed e may left = h
    outcome_keeps (calls.has_table name) e may left = h
    outcome_keeps (calls.get_table name) e may left = h
    outcome_keeps calls.tables e may left = h
    outcome_keeps (calls.has_stream name) e may left = h
    outcome_keeps calls.streams e may left = h
    outcome_keeps calls.has_digital_signature e may left = h
    outcome_keeps (calls.select_rows query) e may left = h
    outcome_keeps (calls.insert_rows query) e may left = table_change (λ d. insert_rows d query) (λ c is. inl (inserted query is))
    outcome_keeps (calls.update_rows query) e may left = table_change (λ d. update_rows d query) (λ c is. inl (updated query is))
    outcome_keeps (calls.delete_rows query) e may left = table_change (λ d. delete_rows d query) (λ c is. inl (deleted query is))
    outcome_keeps (calls.create_table name columns) e may left = table_change (λ d. create_table d name columns) (λ c is. inr (created name columns is))
    outcome_keeps (calls.drop_table name) e may left = table_change (λ d. drop_table d name) (λ c is. inr (dropped name is))
    outcome_keeps (calls.add_column name column) e may left = table_change (λ d. add_column d name column) (λ c is. inr (column_added name column is))
    outcome_keeps (calls.apply_transform t passing) e may left = transformed_keeps (may refl) s t passing (transforming s t passing) refl h left
    outcome_keeps (calls.set_database_codepage page) e may left = leaving_keeps (first_refusal (storage_refusal (parts_of s) ++ sound_refusal s.kept.database)) s (with_page page s) h
        (λ passes. keeps.paged s page h (second_passes s.has_storages (is_sound s.kept.database) InvalidInput InvalidData None passes))
    outcome_keeps (calls.remove_stream name) e may left = leaving_keeps _ s (with_streams (without_stream (stream_key name)) s) h
        (λ passes. keeps.same s (with_streams (without_stream (stream_key name)) s) h refl
        (packages.stream_removed s name (accepted_name (parts_of s) name ((not (has_stream (parts_of s) name), NotFound) ∷ []) passes) (keeps.is_package s h)))
    outcome_keeps calls.remove_digital_signature e may left = leaving_keeps _ s (with_streams without_signature s) h (λ _. keeps.same s (with_streams without_signature s) h refl (packages.signature_removed s (keeps.is_package s h)))
    outcome_keeps calls.recount e may left = recounted_keeps s (recounting (parts_of s)) h (recounting_passes (parts_of s))
    outcome_keeps (calls.image n) e may left = h
    outcome_keeps calls.flush e may left = flush_keeps s earlier_len s.is_unwritten h
    outcome_keeps (calls.summary_info questions) e may left = absurd (true≢false e)
    outcome_keeps (calls.summary_info_mut summary_calls) e may left = absurd (true≢false e)
    outcome_keeps (calls.write_stream name stream_calls) e may left = absurd (true≢false e)
    outcome_keeps (calls.read_stream name stream_calls) e may left = absurd (true≢false e)

    -- a call that lends
    lent_keeps : (call : Call) (answer : Result Answer ErrorKind) (new : State) → is_lending call ≡ true → FitsCall call → LendsOrRefuses s call (outcome earlier_len s call) answer new → P new
    lent_keeps (calls.summary_info questions) answer new e fits l = lending_keeps s (calls.summary_info questions) None s answer new l h (λ _ a k. info_keeps s questions a new k h)
    lent_keeps (calls.summary_info_mut cs) answer new e fits l = lending_keeps s (calls.summary_info_mut cs) _ (with_lent_summary s) answer new l h (λ _ a k. mut_keeps s cs a new fits k h)
    lent_keeps (calls.write_stream name cs) answer new e fits l = lending_keeps s (calls.write_stream name cs) _ (with_streams (with_stream (stream_key name) []) s) answer new l h
        (λ passes a k. write_keeps s name cs a new fits (accepted_name (parts_of s) name [] passes) k h)
    lent_keeps (calls.read_stream name cs) answer new e fits l = lending_keeps s (calls.read_stream name cs) _ s answer new l h (λ _ a k. read_keeps s name cs a new k h)
    lent_keeps _ answer new e fits l = absurd (true≢false (sym e))

    step_by : (b : Bool) (call : Call) (answer : Result Answer ErrorKind) (new : State) → is_lending call ≡ b → FitsCall call → (is_transform call ≡ true → Applied)
        → MatchBool b (LendsOrRefuses s call (outcome earlier_len s call) answer new) ((outcome earlier_len s call ≡ (answer, new)) × LeavesKept call answer new) → P new
    step_by true call answer new e fits may l = lent_keeps call answer new e fits l
    step_by false call answer new e fits may is =
        let left : LeavesKept call (outcome earlier_len s call).0 (outcome earlier_len s call).1 =
        subst (λ (r : Result Answer ErrorKind × State). LeavesKept call r.0 r.1) (sym is.0) is.1 in
        subst P (ap (λ r. r.1) is.0) (outcome_keeps call e may left)

    pub step_keeps : (call : Call) (answer : Result Answer ErrorKind) (new : State) → FitsCall call → (is_transform call ≡ true → Applied) → Step earlier_len s call answer new → P new
    step_keeps call answer new fits may (inl is) = step_by (is_lending call) call answer new refl fits may is
    step_keeps call answer new fits may (inr (inl memory)) = subst P (sym memory.2) h
    step_keeps call answer new fits may (inr (inr fault)) = subst P (sym fault.2) h
