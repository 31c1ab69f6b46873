-- The kind of an error, and what it is about.
use Rattle.std.specs.Prelude.{ℕ}
use Rattle.msi_base.specs.declared.errors.ErrorKind.{ErrorKind}
use Rattle.msi_base.specs.declared.errors.ErrorKind.TheVariants as kind
use Rattle.msi_recode.specs.declared.errors.RecodeError.{RecodeError}
use Rattle.msi_recode.specs.declared.errors.RecodeError.TheVariants.{Package, Place, Property}

abbrev pub kind_of : RecodeError → ErrorKind
kind_of (Package k) = k
kind_of (Place number k) = k
kind_of (Property id k) = k

-- the error of a place's text and of a property's value. That memory was refused is about neither
abbrev pub of_place : ℕ → ErrorKind → RecodeError
of_place number kind.OutOfMemory = Package kind.OutOfMemory
of_place number k = Place number k

abbrev pub of_property : ℕ → ErrorKind → RecodeError
of_property id kind.OutOfMemory = Package kind.OutOfMemory
of_property id k = Property id k
