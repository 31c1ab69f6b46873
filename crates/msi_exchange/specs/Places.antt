-- Errors with their places, as contracts see them.
use Rattle.std.specs.Prelude.{◌≡◌, ◌≢◌, ◌==◌, ◌+◌, ℕ, Bool, min, if◌then◌else◌}
use Rattle.std.specs.Prelude.{List, [], ◌∷◌, Option, Some, None, Result, Ok, Err}
use Rattle.std.specs.Option.{option_or}
use Rattle.msi_base.specs.declared.errors.ErrorKind.{ErrorKind}
use Rattle.msi_base.specs.declared.errors.ErrorKind.TheVariants as error
use Rattle.msi_base.specs.Results.{FailsAs}
use Rattle.msi_exchange.specs.declared.errors.Place.{Place}

-- an error has a kind, and a place unless memory was refused
pub record Fault : Type 0 where
  pub kind : ErrorKind
  pub place : Option Place

abbrev pub no_memory : Fault
no_memory = record { kind = error.OutOfMemory; place = None }

abbrev pub at : ℕ → ℕ → Place
at line field = record { line = line; field = field }

-- what a function returned, seen by view, is what reading gives, unless memory was refused
abbrev pub Gives : {X Y : Type 0} → (X → Y) → Result X Fault → Option Y → Type 0
Gives view (Ok x) read = read ≡ Some (view x)
Gives view (Err e) read = FailsAs e.kind read

-- an error is at the place that is wrong, unless memory was refused
abbrev pub IsAt : Option Place → ErrorKind → Option Place → Type 0
IsAt None k wrong = k ≡ error.OutOfMemory
IsAt (Some place) k wrong = (k ≢ error.OutOfMemory) × (wrong ≡ Some place)

-- where a function succeeds, no place is wrong
abbrev pub Placed : {X : Type 0} → Result X Fault → Option Place → Type 0
Placed (Ok x) wrong = wrong ≡ None
Placed (Err e) wrong = IsAt e.place e.kind wrong

-- an error of a field gets its place, unless memory was refused
abbrev pub GetsPlace : {X : Type 0} → Place → Result X ErrorKind → Result X Fault → Type 0
GetsPlace place read (Ok x) = read ≡ Ok x
GetsPlace place read (Err e) = (read ≡ Err e.kind) × IsAt e.place e.kind (Some place)

-- ---- which place is wrong, if one is

-- a place is wrong where nothing is read, or where a part isn't as it has to be
abbrev pub unless_read : {X : Type 0} → Option X → Place → Option Place
unless_read (Some x) place = None
unless_read None place = Some place

abbrev pub unless : Bool → Place → Option Place
unless holds place = if holds then None else Some place

-- the first that is wrong of the elements of a list, of which the first has number n
abbrev pub first_wrong : {X : Type 0} → (ℕ → X → Option Place) → ℕ → List X → Option Place
first_wrong wrong n [] = None
first_wrong wrong n (x ∷ xs) = option_or (wrong n x) (first_wrong wrong (n + 1) xs)

-- the same of two lists, side by side
abbrev pub first_wrong_pair : {X Y : Type 0} → (ℕ → X → Y → Option Place) → ℕ → List X → List Y → Option Place
first_wrong_pair wrong n [] ys = None
first_wrong_pair wrong n (x ∷ xs) [] = None
first_wrong_pair wrong n (x ∷ xs) (y ∷ ys) = option_or (wrong n x y) (first_wrong_pair wrong (n + 1) xs ys)

-- where a line has another number of fields than there are columns, the first that is missing or too many is wrong
abbrev pub uneven : ℕ → ℕ → ℕ → Option Place
uneven line columns fields = unless (columns == fields) (at line (min columns fields + 1))
