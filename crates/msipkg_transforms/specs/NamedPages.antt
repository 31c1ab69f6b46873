-- Packages whose page is named before a transform is made of them.
use Rattle.std.specs.Prelude.{Bool, not, is_some, if◌then◌else◌, ◌&&◌, ◌++◌}
use Rattle.msi_base.specs.declared.codepage.CodePage.TheVariants.{Utf8}
use Rattle.msi_base.specs.Refusals.{first_refusal}
use Rattle.msi_database.specs.Changes.{sound_refusal}
use Rattle.msi.specs.State.{parts_of, storage_refusal}
use Rattle.msi.specs.Steps.{with_page}
use Rattle.msi.specs.Whole.{Whole, with_state}

-- a package that can be given another page
abbrev pub takes_page : Whole → Bool
takes_page p = not (is_some (first_refusal (storage_refusal (parts_of p.state) ++ sound_refusal p.state.kept.database)))

-- with the page UTF-8, where that is wanted and it can have it
abbrev pub named_if : Bool → Whole → Whole
named_if wanted p = if wanted && takes_page p then with_state (with_page Utf8 p.state) p else p
