-- The page of what reads texts.
use Rattle.msi_recode.specs.declared.page.TextPage.{TextPage}
use Rattle.msi_recode.specs.declared.page.TextPage.TheVariants as page
use Rattle.msi_recode.specs.declared.reader.TextReader.{TextReader}
use Rattle.msi_recode.specs.declared.reader.TextReader.TheVariants.{Plain, Tabled}

abbrev pub page_of : TextReader → TextPage
page_of (Plain p) = page.Plain p
page_of (Tabled p) = page.Tabled p
