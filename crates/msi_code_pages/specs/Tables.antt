-- The tables of the pages, as the code has them.
use Rattle.std.specs.Prelude.{ℕ, List}
use Rattle.msi_code_pages.specs.declared.page.Page.{Page}
use Rattle.msi_code_pages.specs.declared.page.Page.TheVariants as page
use Rattle.msi_code_pages.specs.declared.tables.single_bytes.TheConstants as single
use Rattle.msi_code_pages.specs.declared.tables.windows_932.TheConstants.{WINDOWS_932}
use Rattle.msi_code_pages.specs.declared.tables.windows_936.TheConstants.{WINDOWS_936}
use Rattle.msi_code_pages.specs.declared.tables.windows_949.TheConstants.{WINDOWS_949}
use Rattle.msi_code_pages.specs.declared.tables.windows_950.TheConstants.{WINDOWS_950}

-- the tables of two bytes each have a name, so that what names a page doesn't go through its text
unfoldable pub windows_932 : List ℕ
windows_932 = WINDOWS_932.now

unfoldable pub windows_936 : List ℕ
windows_936 = WINDOWS_936.now

unfoldable pub windows_949 : List ℕ
windows_949 = WINDOWS_949.now

unfoldable pub windows_950 : List ℕ
windows_950 = WINDOWS_950.now

-- a page is a text: the characters of the bytes from 0x80 to 0xFF that stand alone, and then a row of 192 for each
-- first byte of two, those of the second bytes from 0x40 to 0xFF. An ASCII character fills a place that stands for
-- nothing
unfoldable pub page_text : Page → List ℕ
page_text page.Windows874 = single.WINDOWS_874.now
page_text page.Windows932 = windows_932
page_text page.Windows936 = windows_936
page_text page.Windows949 = windows_949
page_text page.Windows950 = windows_950
page_text page.Windows1250 = single.WINDOWS_1250.now
page_text page.Windows1251 = single.WINDOWS_1251.now
page_text page.Windows1253 = single.WINDOWS_1253.now
page_text page.Windows1254 = single.WINDOWS_1254.now
page_text page.Windows1255 = single.WINDOWS_1255.now
page_text page.Windows1256 = single.WINDOWS_1256.now
page_text page.Windows1257 = single.WINDOWS_1257.now
page_text page.Windows1258 = single.WINDOWS_1258.now
page_text page.MacintoshCyrillic = single.MACINTOSH_CYRILLIC.now
page_text page.Iso88592 = single.ISO_8859_2.now
page_text page.Iso88593 = single.ISO_8859_3.now
page_text page.Iso88594 = single.ISO_8859_4.now
page_text page.Iso88595 = single.ISO_8859_5.now
page_text page.Iso88596 = single.ISO_8859_6.now
page_text page.Iso88597 = single.ISO_8859_7.now
page_text page.Iso88598 = single.ISO_8859_8.now
page_text page.Iso88599 = single.ISO_8859_9.now
