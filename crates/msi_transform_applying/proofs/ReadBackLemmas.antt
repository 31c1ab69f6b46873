-- Texts that read back in the page in which they are written.
use Rattle.std.proofs.Common.{◌≡◌, ℕ, ◌<◌, Bool, true, false, ◌&&◌, ◌||◌, List, [], ◌∷◌, Option, Some, None, refl, sym, ap, ◌∙◌, arith}
use Rattle.std.specs.Prelude.{IsUtf8, bytes_eq, option_and_then, ◌==◌}
use Rattle.std.specs.Cmp.Lexicographic.{bytes_decides}
use Rattle.std.specs.List.{AllByRecursion, list_all}
use Rattle.std.specs.Option.{option_map_or}
use Rattle.std.proofs.lemmas.Bool.{true≢false}
use Rattle.std.proofs.lemmas.Bool.Decides.{nat_tests}
use Rattle.std.proofs.lemmas.Option.{same_Some}
use mathlib.Core.Path.{ap₂}
use Rattle.msi_base.specs.declared.codepage.CodePage.{CodePage}
use Rattle.msi_base.specs.declared.codepage.CodePage.TheVariants as page
use Rattle.msi_base.specs.Pages.{IsWritable, bytes_in, text_in}
use Rattle.msi_base.proofs.PagesLemmas.{utf8_texts_come_back}
use Rattle.msi_pool.specs.Pool.{AreWritable, HaveUtf8Texts, Place, Pool}
use Rattle.msi_transform_applying.specs.Applying.{reads_back, texts_read_back}

bool_is : (a b : Bool) → (a ≡ true → b ≡ true) → (b ≡ true → a ≡ true) → a ≡ b
bool_is true b f g = sym (f refl)
bool_is false true f g = g refl
bool_is false false f g = refl

both : (a b : Bool) → (a && b) ≡ true → (a ≡ true) × (b ≡ true)
both true b e = (refl, e)
both false b e = absurd (true≢false (sym e))

compared : (text : List ℕ) (o : Option (List ℕ)) → (option_map_or (bytes_eq text) o false ≡ true → o ≡ Some text) × (o ≡ Some text → option_map_or (bytes_eq text) o false ≡ true)
compared text None = (λ e. absurd (true≢false (sym e)), λ e. cc)
compared text (Some other) = (λ e. ap Some (sym ((bytes_decides text other).0 e)), λ e. (bytes_decides text other).1 (sym (same_Some other text e)))

one_reads : (p : CodePage) (text : List ℕ) → IsUtf8 text → (reads_back p text ≡ true → IsWritable p text) × (IsWritable p text → reads_back p text ≡ true)
one_reads page.Utf8 text utf8 = (λ _. utf8_texts_come_back text utf8, λ _. refl)
one_reads page.Windows932 text utf8 = compared text (option_and_then (text_in page.Windows932) (bytes_in page.Windows932 text))
one_reads page.Windows936 text utf8 = compared text (option_and_then (text_in page.Windows936) (bytes_in page.Windows936 text))
one_reads page.Windows949 text utf8 = compared text (option_and_then (text_in page.Windows949) (bytes_in page.Windows949 text))
one_reads page.Windows950 text utf8 = compared text (option_and_then (text_in page.Windows950) (bytes_in page.Windows950 text))
one_reads page.Windows951 text utf8 = compared text (option_and_then (text_in page.Windows951) (bytes_in page.Windows951 text))
one_reads page.Windows1250 text utf8 = compared text (option_and_then (text_in page.Windows1250) (bytes_in page.Windows1250 text))
one_reads page.Windows1251 text utf8 = compared text (option_and_then (text_in page.Windows1251) (bytes_in page.Windows1251 text))
one_reads page.Windows1252 text utf8 = compared text (option_and_then (text_in page.Windows1252) (bytes_in page.Windows1252 text))
one_reads page.Windows1253 text utf8 = compared text (option_and_then (text_in page.Windows1253) (bytes_in page.Windows1253 text))
one_reads page.Windows1254 text utf8 = compared text (option_and_then (text_in page.Windows1254) (bytes_in page.Windows1254 text))
one_reads page.Windows1255 text utf8 = compared text (option_and_then (text_in page.Windows1255) (bytes_in page.Windows1255 text))
one_reads page.Windows1256 text utf8 = compared text (option_and_then (text_in page.Windows1256) (bytes_in page.Windows1256 text))
one_reads page.Windows1257 text utf8 = compared text (option_and_then (text_in page.Windows1257) (bytes_in page.Windows1257 text))
one_reads page.Windows1258 text utf8 = compared text (option_and_then (text_in page.Windows1258) (bytes_in page.Windows1258 text))
one_reads page.MacintoshRoman text utf8 = compared text (option_and_then (text_in page.MacintoshRoman) (bytes_in page.MacintoshRoman text))
one_reads page.MacintoshCyrillic text utf8 = compared text (option_and_then (text_in page.MacintoshCyrillic) (bytes_in page.MacintoshCyrillic text))
one_reads page.UsAscii text utf8 = compared text (option_and_then (text_in page.UsAscii) (bytes_in page.UsAscii text))
one_reads page.Iso88591 text utf8 = compared text (option_and_then (text_in page.Iso88591) (bytes_in page.Iso88591 text))
one_reads page.Iso88592 text utf8 = compared text (option_and_then (text_in page.Iso88592) (bytes_in page.Iso88592 text))
one_reads page.Iso88593 text utf8 = compared text (option_and_then (text_in page.Iso88593) (bytes_in page.Iso88593 text))
one_reads page.Iso88594 text utf8 = compared text (option_and_then (text_in page.Iso88594) (bytes_in page.Iso88594 text))
one_reads page.Iso88595 text utf8 = compared text (option_and_then (text_in page.Iso88595) (bytes_in page.Iso88595 text))
one_reads page.Iso88596 text utf8 = compared text (option_and_then (text_in page.Iso88596) (bytes_in page.Iso88596 text))
one_reads page.Iso88597 text utf8 = compared text (option_and_then (text_in page.Iso88597) (bytes_in page.Iso88597 text))
one_reads page.Iso88598 text utf8 = compared text (option_and_then (text_in page.Iso88598) (bytes_in page.Iso88598 text))

-- a place that is free may hold any text
counted : (n : ℕ) (b : Bool) → ((n == 0) || b) ≡ true → 0 < n → b ≡ true
counted n b e some = let used : (n == 0) ≡ false = grind (arith, nat_tests) in ap (λ c. c || b) (sym used) ∙ e

free_or : (n : ℕ) (b : Bool) → (0 < n → b ≡ true) → ((n == 0) || b) ≡ true
free_or n b f = elim (n == 0) as (λ c. (n == 0) ≡ c → (c || b) ≡ true) [
  | true ↦ λ _. refl
  | false ↦ λ e. let some : 0 < n = grind (arith, nat_tests) in f some
] refl

module _ (p : CodePage) where
  abbrev reads : Place → Bool
  reads place = (place.count == 0) || reads_back p place.text

  are_written : (places : List Place) → HaveUtf8Texts places → list_all reads places ≡ true → AllByRecursion (λ place. (0 < place.count) → IsWritable p place.text) places
  are_written [] utf8 e = tt
  are_written (x ∷ xs) utf8 e = let parts = both (reads x) (list_all reads xs) e in
      ((λ some. (one_reads p x.text utf8.0).0 (counted x.count (reads_back p x.text) parts.0 some)), are_written xs utf8.1 parts.1)

  are_read : (places : List Place) → HaveUtf8Texts places → AllByRecursion (λ place. (0 < place.count) → IsWritable p place.text) places → list_all reads places ≡ true
  are_read [] utf8 h = refl
  are_read (x ∷ xs) utf8 h = ap₂ ◌&&◌ (free_or x.count (reads_back p x.text) (λ some. (one_reads p x.text utf8.0).1 (h.0 some))) (are_read xs utf8.1 h.1)

pub texts_read : (pool : Pool) (b : Bool) → (b ≡ true → AreWritable pool) × (AreWritable pool → b ≡ true) → HaveUtf8Texts pool.places → b ≡ texts_read_back pool
texts_read pool b exact utf8 = bool_is b (texts_read_back pool)
    (λ e. are_read pool.page pool.places utf8 (exact.0 e))
    (λ e. exact.1 (are_written pool.page pool.places utf8 e))
