use Rattle.std.proofs.Common.{◌≡◌, ◌∙◌, ℕ, List, Result, ap, refl, subst, sym}
use Rattle.msi.specs.Text.ErrorKind.{ErrorKind}
use Rattle.msi.specs.Table.Columns.{ColumnDef}
use Rattle.msi.specs.Database.Changes.{Change, sound_refusal}
use Rattle.msi.specs.Database.AddColumn as adds
use Rattle.msi.specs.Database.Create as creates
use Rattle.msi.specs.Database.Delete as deletes
use Rattle.msi.specs.Database.Drop as drops
use Rattle.msi.specs.Database.Insert as inserts
use Rattle.msi.specs.Database.Update as updates
use Rattle.std.specs.Prelude.{◌++◌, [], ◌∷◌, not, string_bytes}
use Rattle.msi.specs.Text.ErrorKind.TheVariants.{NotFound}
use Rattle.msi.specs.Query.Refusals.{AnswersWith, Refusals}
use Rattle.msi.specs.Database.Keys.{stream_key}
use Rattle.msi.specs.Database.Streams.{without_stream}
use Rattle.msi.specs.State.{State, parts_of}
use Rattle.msi.specs.Calls as calls
use Rattle.msi.specs.Steps.{changed, changing, has_stream, leaving, name_refusals, refused_early, storage_refusal, with_page, with_streams, without_signature}
use Rattle.msi_replay.proofs.TakenLemmas.{change_takes, left_takes}
use Rattle.msi_replay.proofs.changing.changed.Goals as goal

-- what a change of tables is, for names and columns that are equal
made : State → List ℕ → List ColumnDef → Result Change ErrorKind
made s name columns = changing (parts_of s) (λ d. creates.create_table d name columns)

dropped : State → List ℕ → Result Change ErrorKind
dropped s name = changing (parts_of s) (λ d. drops.drop_table d name)

lengthened : State → ColumnDef → List ℕ → Result Change ErrorKind
lengthened s column name = changing (parts_of s) (λ d. adds.add_column d name column)

pub returns-in-CreateTable : goal.returns-in-CreateTable
unfolding made
returns-in-CreateTable c =
    let s = c.args.target.now.state in
    let name : c.in-CreateTable.name ≡ string_bytes c.into_string.result = sym c.into_string.ensures in
    let columns : c.in-CreateTable.columns ≡ c.into_vec.result.items = sym c.into_vec.ensures in
    rw c.in-CreateTable.is (change_takes c.args.target.now c.create_table.new.self (calls.create_table c.in-CreateTable.name c.in-CreateTable.columns) refl refl
    (made s (string_bytes c.into_string.result) c.into_vec.result.items)
    (λ n. ap (λ (x : List ℕ). changed s (made s x c.in-CreateTable.columns)) name
    ∙ ap (λ (xs : List ColumnDef). changed s (made s (string_bytes c.into_string.result) xs)) columns) c.create_table.result
    c.create_table.ensures.ok c.create_table.ensures.same c.create_table.ensures.kind
    (subst (λ (x : List ℕ). AnswersWith (refused_early s (calls.create_table x c.in-CreateTable.columns)) c.create_table.result) (sym name)
    (subst (λ (xs : List ColumnDef). AnswersWith (refused_early s (calls.create_table (string_bytes c.into_string.result) xs)) c.create_table.result) (sym columns)
    c.create_table.ensures.early)))

pub returns-in-InsertRows : goal.returns-in-InsertRows
returns-in-InsertRows c =
    rw c.in-InsertRows.is (change_takes c.args.target.now c.insert_rows.new.self (calls.insert_rows c.in-InsertRows.query) refl refl
    (changing (parts_of c.args.target.now.state) (λ d. inserts.insert_rows d c.in-InsertRows.query)) (λ n. refl) c.insert_rows.result
    c.insert_rows.ensures.ok c.insert_rows.ensures.same c.insert_rows.ensures.kind c.insert_rows.ensures.early)

pub returns-in-UpdateRows : goal.returns-in-UpdateRows
returns-in-UpdateRows c =
    rw c.in-UpdateRows.is (change_takes c.args.target.now c.update_rows.new.self (calls.update_rows c.in-UpdateRows.query) refl refl
    (changing (parts_of c.args.target.now.state) (λ d. updates.update_rows d c.in-UpdateRows.query)) (λ n. refl) c.update_rows.result
    c.update_rows.ensures.ok c.update_rows.ensures.same c.update_rows.ensures.kind c.update_rows.ensures.early)

pub returns-in-DeleteRows : goal.returns-in-DeleteRows
returns-in-DeleteRows c =
    rw c.in-DeleteRows.is (change_takes c.args.target.now c.delete_rows.new.self (calls.delete_rows c.in-DeleteRows.query) refl refl
    (changing (parts_of c.args.target.now.state) (λ d. deletes.delete_rows d c.in-DeleteRows.query)) (λ n. refl) c.delete_rows.result
    c.delete_rows.ensures.ok c.delete_rows.ensures.same c.delete_rows.ensures.kind c.delete_rows.ensures.early)

pub returns-in-DropTable : goal.returns-in-DropTable
unfolding dropped
returns-in-DropTable c =
    let s = c.args.target.now.state in
    let name : c.in-DropTable.name ≡ c.as_str.result.now = sym c.as_str.ensures in
    rw c.in-DropTable.is (change_takes c.args.target.now c.drop_table.new.self (calls.drop_table c.in-DropTable.name) refl refl
    (dropped s c.as_str.result.now) (λ n. ap (λ (x : List ℕ). changed s (dropped s x)) name) c.drop_table.result
    c.drop_table.ensures.ok c.drop_table.ensures.same c.drop_table.ensures.kind
    (subst (λ (x : List ℕ). AnswersWith (refused_early s (calls.drop_table x)) c.drop_table.result) (sym name) c.drop_table.ensures.early))

pub returns-in-AddColumn : goal.returns-in-AddColumn
unfolding lengthened
returns-in-AddColumn c =
    let s = c.args.target.now.state in
    let column = c.in-AddColumn.column in
    let name : c.in-AddColumn.name ≡ c.as_str-in-AddColumn.result.now = sym c.as_str-in-AddColumn.ensures in
    rw c.in-AddColumn.is (change_takes c.args.target.now c.add_column.new.self (calls.add_column c.in-AddColumn.name column) refl refl
    (lengthened s column c.as_str-in-AddColumn.result.now) (λ n. ap (λ (x : List ℕ). changed s (lengthened s column x)) name) c.add_column.result
    c.add_column.ensures.ok c.add_column.ensures.same c.add_column.ensures.kind
    (subst (λ (x : List ℕ). AnswersWith (refused_early s (calls.add_column x column)) c.add_column.result) (sym name) c.add_column.ensures.early))

pub returns-in-ApplyTransform : goal.returns-in-ApplyTransform
returns-in-ApplyTransform c = rw c.in-ApplyTransform.is c.transformed.ensures

pub returns-in-SetDatabaseCodepage : goal.returns-in-SetDatabaseCodepage
returns-in-SetDatabaseCodepage c =
    let s = c.args.target.now.state in
    rw c.in-SetDatabaseCodepage.is (left_takes c.args.target.now c.set_database_codepage.new.self (calls.set_database_codepage c.in-SetDatabaseCodepage.page) refl
    (storage_refusal (parts_of s) ++ sound_refusal s.kept.database) (with_page c.in-SetDatabaseCodepage.page s) (λ n. refl)
    c.set_database_codepage.result c.set_database_codepage.ensures.kind c.set_database_codepage.ensures.ok c.set_database_codepage.ensures.same)

-- why a stream isn't taken out, and what is left
unremoved : State → List ℕ → Refusals
unremoved s name = name_refusals (parts_of s) name ++ (not (has_stream (parts_of s) name), NotFound) ∷ []

removed : State → List ℕ → State
removed s name = with_streams (without_stream (stream_key name)) s

pub returns-in-RemoveStream : goal.returns-in-RemoveStream
unfolding unremoved removed
returns-in-RemoveStream c =
    let s = c.args.target.now.state in
    let name : c.in-RemoveStream.name ≡ c.as_str-in-RemoveStream.result.now = sym c.as_str-in-RemoveStream.ensures in
    rw c.in-RemoveStream.is (left_takes c.args.target.now c.remove_stream.new.self (calls.remove_stream c.in-RemoveStream.name) refl
    (unremoved s c.as_str-in-RemoveStream.result.now) (removed s c.as_str-in-RemoveStream.result.now)
    (λ n. ap (λ (x : List ℕ). leaving s (unremoved s x) (removed s x)) name)
    c.remove_stream.result c.remove_stream.ensures.kind c.remove_stream.ensures.ok c.remove_stream.ensures.same)

pub returns-in-RemoveDigitalSignature : goal.returns-in-RemoveDigitalSignature
returns-in-RemoveDigitalSignature c =
    let s = c.args.target.now.state in
    rw c.in-RemoveDigitalSignature.is (left_takes c.args.target.now c.remove_digital_signature.new.self calls.remove_digital_signature refl
    (storage_refusal (parts_of s)) (with_streams without_signature s) (λ n. refl)
    c.remove_digital_signature.result c.remove_digital_signature.ensures.kind c.remove_digital_signature.ensures.ok c.remove_digital_signature.ensures.same)
