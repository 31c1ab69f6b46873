-- What the calls on a summary keep, and what they give back.
use Rattle.std.specs.Prelude.{◌≡◌, ℕ, ◌^◌, ◌<◌, false, List}
use Rattle.std.specs.List.{list_any, AllByRecursion}
use Rattle.msi_summary_properties.specs.Properties.{Properties}
use Rattle.msi_summary.specs.Summary.{is_semicolon, nonempty, arch_of, languages_of, with_arch, with_languages}

-- an architecture without a `;` is read back, and the languages stay
abbrev pub ArchKeepsLanguages : Type 0
ArchKeepsLanguages = (arch : List ℕ) (set : Properties) → list_any is_semicolon arch ≡ false
    → (arch_of (with_arch arch set) ≡ nonempty arch) × (languages_of (with_arch arch set) ≡ languages_of set)

-- languages, which have ids of 16 bits, are read back, and the architecture stays
abbrev pub LanguagesKeepArch : Type 0
LanguagesKeepArch = (ids : List ℕ) (set : Properties) → AllByRecursion (λ id. id < 2 ^ 16) ids
    → (languages_of (with_languages ids set) ≡ ids) × (arch_of (with_languages ids set) ≡ arch_of set)
