-- Refusals as errors of the library.
use Rattle.msi_base.specs.declared.errors.ErrorKind.{ErrorKind}
use Rattle.msi_base.specs.declared.errors.ErrorKind.TheVariants as kinds
use Rattle.msi_query_tokens.specs.declared.refusal.ParseError.{ParseError}
use Rattle.msi_query_tokens.specs.declared.refusal.ParseError.TheVariants.{OutOfMemory, Refused}

abbrev pub error_kind_of : ParseError → ErrorKind
error_kind_of OutOfMemory = kinds.OutOfMemory
error_kind_of (Refused refused) = kinds.InvalidInput
