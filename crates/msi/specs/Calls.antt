-- The calls on a package, as values, and what they answer.
use Rattle.std.specs.Prelude.{ℕ, Bool, List, Option, ℤ, Result}
use Rattle.msi_base.specs.declared.codepage.CodePage.{CodePage}
use Rattle.msi_base.specs.declared.errors.ErrorKind.{ErrorKind}
use Rattle.msi_summary.specs.declared.property.TextProperty.{TextProperty}
use Rattle.msi_summary.specs.declared.property.NumberProperty.{NumberProperty}
use Rattle.msi_summary.specs.declared.property.TimeProperty.{TimeProperty}
use Rattle.msi_summary.specs.declared.property.SummaryProperty.{SummaryProperty}
use Rattle.msi_table_values.specs.declared.value.Value.{Value}
use Rattle.msi_table.specs.Tables.{TableDef}
use Rattle.msi_table_values.specs.Columns.{ColumnDef}
use Rattle.msi_query.specs.Queries.{Query, InsertQuery, UpdateQuery, DeleteQuery}
use Rattle.msi_transform.specs.Transforms.{TransformDef}
use Rattle.msi_transform.specs.declared.conditions.ErrorConditions.{ErrorConditions}
use Rattle.msi.specs.declared.kinds.PackageType.{PackageType}

-- on the summary
pub data SummaryCall : Type 0 where
  ask : SummaryProperty → SummaryCall
  set_text : TextProperty → List ℕ → SummaryCall
  set_number : NumberProperty → ℤ → SummaryCall
  set_time : TimeProperty → ℕ → SummaryCall
  set_arch : List ℕ → SummaryCall
  set_languages : List ℕ → SummaryCall
  set_keywords : List (List ℕ) → SummaryCall
  set_uuid : List ℕ → SummaryCall
  set_codepage : CodePage → SummaryCall
  clear : SummaryProperty → SummaryCall

pub data SummaryAnswer : Type 0 where
  done : SummaryAnswer
  text_is : Option (List ℕ) → SummaryAnswer
  number_is : Option ℤ → SummaryAnswer
  time_is : Option ℕ → SummaryAnswer
  numbers_are : List ℕ → SummaryAnswer
  texts_are : List (List ℕ) → SummaryAnswer
  page_is : CodePage → SummaryAnswer

-- on the reader or writer of a stream
pub data SeekTo : Type 0 where
  from_start : ℕ → SeekTo
  from_end from_here : ℤ → SeekTo

pub data ReaderCall : Type 0 where
  read : ℕ → ReaderCall
  seek : SeekTo → ReaderCall

pub data WriterCall : Type 0 where
  write : List ℕ → WriterCall
  seek : SeekTo → WriterCall
  flush : WriterCall

pub data StreamAnswer : Type 0 where
  done : StreamAnswer
  bytes_are : List ℕ → StreamAnswer
  place_is : ℕ → StreamAnswer

-- on a package; what it lends is a list of calls of its own
pub data Call : Type 0 where
  package_type database_codepage tables streams : Call
  has_digital_signature remove_digital_signature recount device_failed flush : Call
  summary_info : List SummaryProperty → Call
  summary_info_mut : List SummaryCall → Call
  set_database_codepage : CodePage → Call
  has_table get_table drop_table has_stream remove_stream : List ℕ → Call
  create_table : List ℕ → List ColumnDef → Call
  add_column : List ℕ → ColumnDef → Call
  apply_transform : TransformDef → ErrorConditions → Call
  select_rows : Query → Call
  insert_rows : InsertQuery → Call
  update_rows : UpdateQuery → Call
  delete_rows : DeleteQuery → Call
  write_stream : List ℕ → List WriterCall → Call
  read_stream : List ℕ → List ReaderCall → Call
  image : ℕ → Call

pub data Answer : Type 0 where
  done : Answer
  kind_is : PackageType → Answer
  page_is : CodePage → Answer
  flag_is : Bool → Answer
  count_is : ℕ → Answer
  table_is : Option TableDef → Answer
  tables_are : List TableDef → Answer
  names_are : List (List ℕ) → Answer
  rows_are : List ColumnDef → List (List Value) → Answer
  bytes_are : List ℕ → Answer
  summary_says : List (Result SummaryAnswer ErrorKind) → Answer
  stream_says : List (Result StreamAnswer ErrorKind) → Answer
