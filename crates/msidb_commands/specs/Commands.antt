-- Which words fit a command, and which they are.
use Rattle.std.specs.Prelude.{ℕ, Bool, false, List, [], ◌∷◌, ◌||◌, map, codes, bytes_eq, string_bytes}
use Rattle.std.specs.declared.string.String.{String}
use Rattle.std.specs.declared.alloc.Global.{Global}
use Rattle.msidb_commands.specs.declared.command.Command.{Command}
use Rattle.msidb_commands.specs.declared.command.Command.TheVariants.{Raw, Wrap, New, Tables, Rows}
use Rattle.msidb_commands.specs.declared.command.Command.TheVariants.{Summary, Streams, Recount, Cat, Put}

-- the commands of a file alone
abbrev pub takes_file : List ℕ → Bool
takes_file verb = bytes_eq verb (codes "raw") || bytes_eq verb (codes "new") || bytes_eq verb (codes "tables")
    || bytes_eq verb (codes "summary") || bytes_eq verb (codes "streams") || bytes_eq verb (codes "recount")

-- the commands of a file and a name
abbrev pub takes_name : List ℕ → Bool
takes_name verb = bytes_eq verb (codes "wrap") || bytes_eq verb (codes "rows") || bytes_eq verb (codes "cat")
    || bytes_eq verb (codes "put")

abbrev pub fits : List (List ℕ) → Bool
fits (verb ∷ file ∷ []) = takes_file verb
fits (verb ∷ file ∷ name ∷ []) = takes_name verb
fits words = false

abbrev pub texts_of : List (String Global) → List (List ℕ)
texts_of words = map (λ w. string_bytes w) words

abbrev pub fits_command : List (String Global) → Bool
fits_command words = fits (texts_of words)

-- the words that ask for a command
abbrev pub words_of : Command → List (List ℕ)
words_of (Raw file) = codes "raw" ∷ file.now ∷ []
words_of (Wrap out name) = codes "wrap" ∷ out.now ∷ name.now ∷ []
words_of (New file) = codes "new" ∷ file.now ∷ []
words_of (Tables file) = codes "tables" ∷ file.now ∷ []
words_of (Rows file table) = codes "rows" ∷ file.now ∷ table.now ∷ []
words_of (Summary file) = codes "summary" ∷ file.now ∷ []
words_of (Streams file) = codes "streams" ∷ file.now ∷ []
words_of (Recount file) = codes "recount" ∷ file.now ∷ []
words_of (Cat file name) = codes "cat" ∷ file.now ∷ name.now ∷ []
words_of (Put file name) = codes "put" ∷ file.now ∷ name.now ∷ []
