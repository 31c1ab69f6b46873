-- Refusals in order: each is a condition and the kind of error that answers where it holds.
use Rattle.std.specs.Prelude.{◌≡◌, ◌⊎◌, Bool, List, [], ◌∷◌, Option, Some, None, Result, Ok, Err, IfSome}
use Rattle.std.specs.Prelude.{if◌then◌else◌}
use Rattle.msi_base.specs.declared.errors.ErrorKind.{ErrorKind}
use Rattle.msi_base.specs.declared.errors.ErrorKind.TheVariants.{OutOfMemory}

abbrev pub Refusals : Type 0
Refusals = List (Bool × ErrorKind)

-- the kind of the first that holds
abbrev pub first_refusal : Refusals → Option ErrorKind
first_refusal [] = None
first_refusal (r ∷ rs) = if r.0 then Some r.1 else first_refusal rs

-- the answer, or the refusal
abbrev pub unless : {A : Type 0} → Option ErrorKind → A → Result A ErrorKind
unless None answer = Ok answer
unless (Some kind) answer = Err kind

abbrev pub unless_refused : {A : Type 0} → Refusals → A → Result A ErrorKind
unless_refused refusals answer = unless (first_refusal refusals) answer

-- the value, or this refusal where there is none
abbrev pub or_refused : {A : Type 0} → ErrorKind → Option A → Result A ErrorKind
or_refused kind None = Err kind
or_refused kind (Some x) = Ok x

-- steps that each may be refused
infixl 10 ◌>>=◌
abbrev pub ◌>>=◌ : {A B : Type 0} → Result A ErrorKind → (A → Result B ErrorKind) → Result B ErrorKind
(Ok x) >>= f = f x
(Err kind) >>= f = Err kind

-- the kind of a refusal, where it is one
abbrev pub refusal_of : {A : Type 0} → Result A ErrorKind → Option ErrorKind
refusal_of (Ok x) = None
refusal_of (Err kind) = Some kind

-- the first of two refusals
abbrev pub earlier : Option ErrorKind → Option ErrorKind → Option ErrorKind
earlier None second = second
earlier (Some kind) second = Some kind

-- why a call is refused that has this answer where memory suffices
abbrev pub IsRefusal : {A : Type 0} → Result A ErrorKind → ErrorKind → Type 0
IsRefusal answer kind = (kind ≡ OutOfMemory) ⊎ (answer ≡ Err kind)

-- a refusal is the answer, and want of memory never comes in its place
abbrev pub AnswersWith : {A : Type 0} → Option ErrorKind → Result A ErrorKind → Type 0
AnswersWith refusal answer = IfSome refusal (λ kind. answer ≡ Err kind)

-- where a refusal holds, so is the first of them
abbrev pub AnswersFirst : {A : Type 0} → Refusals → Result A ErrorKind → Type 0
AnswersFirst refusals answer = AnswersWith (first_refusal refusals) answer
