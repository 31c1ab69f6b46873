-- What a call leaves.
use Rattle.std.proofs.Common.{◌≡◌, ℕ, Bool, true, false, List, [], Option, Some, None, Result, Ok, Err, ◌⊎◌, refl, sym, ap, subst, ◌∙◌, inl, inr}
use Rattle.std.specs.Prelude.{MatchBool}
use Rattle.std.proofs.lemmas.Bool.{true≢false}
use Rattle.msi_base.specs.declared.errors.ErrorKind.{ErrorKind}
use Rattle.msi_database.specs.Changes.{Change}
use Rattle.msi_database_schema.specs.Keys.{stream_key}
use Rattle.msi.specs.State.{State, parts_of}
use Rattle.msi_database_storage.specs.Streams.{with_stream}
use Rattle.msi_database.specs.Insert.{insert_rows}
use Rattle.msi_database.specs.Update.{update_rows}
use Rattle.msi_database.specs.Delete.{delete_rows}
use Rattle.msi_database.specs.Create.{create_table}
use Rattle.msi_database.specs.Drop.{drop_table}
use Rattle.msi_database.specs.AddColumn.{add_column}
use Rattle.msi_summary.specs.declared.property.SummaryProperty.{SummaryProperty}
use Rattle.msi.specs.Calls.{Call, Answer}
use Rattle.msi.specs.Calls as calls
use Rattle.msi_database_storage.specs.Kept.{Kept}
use Rattle.msi_transform_rows.specs.RecordRefusals.{Refusal}
use Rattle.msi.specs.Transforming.{transforming}
use Rattle.msi.specs.Steps.{Step, outcome, changed, changing, recounted, recounting, transformed, leaving_or, is_lending, with_streams, LeavesKept, Lends, LendsOrRefuses}

-- the same state, or one that is unwritten; or it is a flush that writes

abbrev pub Leaves : State → State → Type 0
Leaves s new = (new ≡ s) ⊎ (new.is_unwritten ≡ true)

changed_leaves : (s : State) (r : Result Change ErrorKind) → Leaves s (changed s r).1
changed_leaves s (Ok c) = inr refl
changed_leaves s (Err kind) = inl refl

recounted_leaves : (s : State) (r : Result ℕ ErrorKind) → Leaves s (recounted s r).1
recounted_leaves s (Ok n) = inr refl
recounted_leaves s (Err kind) = inl refl

transformed_leaves : (s : State) (r : Result Kept Refusal) → Leaves s (transformed s r).1
transformed_leaves s (Ok k) = inr refl
transformed_leaves s (Err refusal) = inl refl

leaving_leaves : (o : Option ErrorKind) (s new : State) → new.is_unwritten ≡ true → Leaves s (leaving_or o s new).1
leaving_leaves None s new e = inr e
leaving_leaves (Some kind) s new e = inl refl

abbrev pub is_flush : Call → Bool
is_flush calls.flush = true
is_flush _ = false

outcome_leaves : (n : ℕ) (s : State) (call : Call) → is_flush call ≡ false → is_lending call ≡ false → Leaves s (outcome n s call).1
outcome_leaves n s (calls.insert_rows query) f e = changed_leaves s (changing (parts_of s) (λ d. insert_rows d query))
outcome_leaves n s (calls.update_rows query) f e = changed_leaves s (changing (parts_of s) (λ d. update_rows d query))
outcome_leaves n s (calls.delete_rows query) f e = changed_leaves s (changing (parts_of s) (λ d. delete_rows d query))
outcome_leaves n s (calls.create_table name columns) f e = changed_leaves s (changing (parts_of s) (λ d. create_table d name columns))
outcome_leaves n s (calls.drop_table name) f e = changed_leaves s (changing (parts_of s) (λ d. drop_table d name))
outcome_leaves n s (calls.add_column name column) f e = changed_leaves s (changing (parts_of s) (λ d. add_column d name column))
outcome_leaves n s (calls.apply_transform t passing) f e = transformed_leaves s (transforming s t passing)
outcome_leaves n s (calls.set_database_codepage page) f e = leaving_leaves _ s _ refl
outcome_leaves n s (calls.remove_stream name) f e = leaving_leaves _ s _ refl
outcome_leaves n s calls.remove_digital_signature f e = leaving_leaves _ s _ refl
outcome_leaves n s calls.recount f e = recounted_leaves s (recounting (parts_of s))
outcome_leaves n s calls.flush f e = absurd (true≢false f)
outcome_leaves n s (calls.summary_info questions) f e = absurd (true≢false e)
outcome_leaves n s (calls.summary_info_mut cs) f e = absurd (true≢false e)
outcome_leaves n s (calls.write_stream name cs) f e = absurd (true≢false e)
outcome_leaves n s (calls.read_stream name cs) f e = absurd (true≢false e)
outcome_leaves n s _ f e = inl refl

lending_leaves : (s : State) (call : Call) (o : Option ErrorKind) (next : State) (answer : Result Answer ErrorKind) (new : State)
    → LendsOrRefuses s call (leaving_or o s next) answer new → ((a : Answer) → Lends next call a new → Leaves s new) → Leaves s new
lending_leaves s call None next (Ok a) new l then' = then' a l
lending_leaves s call None next (Err kind) new l then' = absurd l
lending_leaves s call (Some kind) next answer new l then' = inl l.1

info_leaves : (s : State) (questions : List SummaryProperty) (a : Answer) (new : State) → Lends s (calls.summary_info questions) a new → Leaves s new
info_leaves s questions (calls.summary_says answers) new l = inl l.2
info_leaves s questions _ new l = absurd l

mut_leaves : (s next : State) (cs : List calls.SummaryCall) (a : Answer) (new : State) → next.is_unwritten ≡ true → Lends next (calls.summary_info_mut cs) a new → Leaves s new
mut_leaves s next cs (calls.summary_says answers) new e l = inr (ap (λ (t : State). t.is_unwritten) l.2 ∙ e)
mut_leaves s next cs _ new e l = absurd l

write_leaves : (s next : State) (name : List ℕ) (cs : List calls.WriterCall) (a : Answer) (new : State) → Lends next (calls.write_stream name cs) a new → Leaves s new
write_leaves s next name cs (calls.stream_says answers) new l = inr (ap (λ (t : State). t.is_unwritten) l.2)
write_leaves s next name cs _ new l = absurd l

read_leaves : (s : State) (name : List ℕ) (cs : List calls.ReaderCall) (a : Answer) (new : State) → Lends s (calls.read_stream name cs) a new → Leaves s new
read_leaves s name cs (calls.stream_says answers) new l = inl l.2
read_leaves s name cs _ new l = absurd l

lent_leaves : (n : ℕ) (s : State) (call : Call) (answer : Result Answer ErrorKind) (new : State) → is_lending call ≡ true → LendsOrRefuses s call (outcome n s call) answer new → Leaves s new
lent_leaves n s (calls.summary_info questions) answer new e l = lending_leaves s (calls.summary_info questions) None s answer new l (λ a k. info_leaves s questions a new k)
lent_leaves n s (calls.summary_info_mut cs) answer new e l = lending_leaves s (calls.summary_info_mut cs) _ _ answer new l (λ a k. mut_leaves s _ cs a new refl k)
lent_leaves n s (calls.write_stream name cs) answer new e l = lending_leaves s (calls.write_stream name cs) _ (with_streams (with_stream (stream_key name) []) s) answer new l (λ a k. write_leaves s (with_streams (with_stream (stream_key name) []) s) name cs a new k)
lent_leaves n s (calls.read_stream name cs) answer new e l = lending_leaves s (calls.read_stream name cs) _ s answer new l (λ a k. read_leaves s name cs a new k)
lent_leaves n s _ answer new e l = absurd (true≢false (sym e))

step_leaves_by : (b : Bool) (n : ℕ) (s : State) (call : Call) (answer : Result Answer ErrorKind) (new : State) → is_flush call ≡ false → is_lending call ≡ b
    → MatchBool b (LendsOrRefuses s call (outcome n s call) answer new) ((outcome n s call ≡ (answer, new)) × LeavesKept call answer new) → Leaves s new
step_leaves_by true n s call answer new f e l = lent_leaves n s call answer new e l
step_leaves_by false n s call answer new f e is = subst (Leaves s) (ap (λ r. r.1) is.0) (outcome_leaves n s call f e)

pub step_leaves : (n : ℕ) (s : State) (call : Call) (answer : Result Answer ErrorKind) (new : State) → is_flush call ≡ false → Step n s call answer new → Leaves s new
step_leaves n s call answer new f (inl is) = step_leaves_by (is_lending call) n s call answer new f refl is
step_leaves n s call answer new f (inr (inl memory)) = inl memory.2
step_leaves n s call answer new f (inr (inr fault)) = inl fault.2
