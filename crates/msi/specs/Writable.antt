-- Packages whose texts are UTF-8, and whose pages are.
use Rattle.std.specs.Prelude.{◌≡◌}
use Rattle.msi_base.specs.declared.codepage.CodePage.TheVariants.{Utf8}
use Rattle.msi_pool.specs.Pool as pools
use Rattle.msi_summary.specs.Properties.{page_of}
use Rattle.msi_summary.specs.PropertyStream as properties
use Rattle.msi.specs.State.{State}
use Rattle.msi.specs.Runs.{TextsAreWritable}

-- each text of the pool and the summary is UTF-8, as every `String` is
abbrev pub HasUtf8Texts : State → Type 0
HasUtf8Texts s = pools.HaveUtf8Texts s.kept.database.pool.places × properties.HaveUtf8Texts s.summary.values

-- so are the page of the database and that of the summary
abbrev pub HasUtf8Pages : State → Type 0
HasUtf8Pages s = (s.kept.database.pool.page ≡ Utf8) × (page_of s.summary ≡ Utf8)

-- a package whose pages are UTF-8 can be written so that each text reads back
abbrev pub IsWritableUnderUtf8 : State → Type 0
IsWritableUnderUtf8 s = HasUtf8Pages s → TextsAreWritable s

-- under such pages each text can be written so that it reads back
abbrev pub Utf8TextsAreWritable : Type 0
Utf8TextsAreWritable = (s : State) → HasUtf8Pages s → HasUtf8Texts s → TextsAreWritable s
