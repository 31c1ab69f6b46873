-- Whether a text that is written in a page is read back.
use Rattle.std.proofs.Common.{◌≡◌, ℕ, Bool, true, false, List, refl, sym, ap}
use Rattle.std.specs.Prelude.{IsUtf8, Option, Some, None, bytes_eq, option_and_then}
use Rattle.std.specs.Option.{option_map_or}
use Rattle.std.proofs.lemmas.Slice.Eq.{bytes_eq-Decides}
use Rattle.msi_base.specs.Pages.{IsWritable, bytes_in, text_in}
use Rattle.msi_base.specs.declared.codepage.CodePage.{CodePage}
use Rattle.msi_base.specs.declared.codepage.CodePage.TheVariants as page
use Rattle.msi_base.proofs.BoolLemmas.{by_test}
use Rattle.msi_base.proofs.PagesLemmas.{utf8_texts_come_back}
use Rattle.msi_transform_applying.specs.Applying.{reads_back}

came_back : (o : Option (List ℕ)) (text : List ℕ) (b : Bool) → (b ≡ true → o ≡ Some text) → (o ≡ Some text → b ≡ true) → b ≡ option_map_or (bytes_eq text) o false
came_back None text true f g = let h = f refl in cc
came_back None text false f g = refl
came_back (Some t) text true f g = let h = f refl in let e : text ≡ t = cc in sym ((bytes_eq-Decides text t).1 e)
came_back (Some t) text false f g = by_test (bytes_eq text t)
    (λ e. let h = g (ap Some (sym ((bytes_eq-Decides text t).0 e))) in cc)
    (λ e. sym e)

pub back_is : (p : CodePage) (text : List ℕ) (b : Bool) → IsUtf8 text → (b ≡ true → IsWritable p text) → (IsWritable p text → b ≡ true) → b ≡ reads_back p text
back_is page.Utf8 text b u f g = g (utf8_texts_come_back text u)
back_is page.Windows932 text b u f g = came_back (option_and_then (text_in page.Windows932) (bytes_in page.Windows932 text)) text b f g
back_is page.Windows936 text b u f g = came_back (option_and_then (text_in page.Windows936) (bytes_in page.Windows936 text)) text b f g
back_is page.Windows949 text b u f g = came_back (option_and_then (text_in page.Windows949) (bytes_in page.Windows949 text)) text b f g
back_is page.Windows950 text b u f g = came_back (option_and_then (text_in page.Windows950) (bytes_in page.Windows950 text)) text b f g
back_is page.Windows951 text b u f g = came_back (option_and_then (text_in page.Windows951) (bytes_in page.Windows951 text)) text b f g
back_is page.Windows1250 text b u f g = came_back (option_and_then (text_in page.Windows1250) (bytes_in page.Windows1250 text)) text b f g
back_is page.Windows1251 text b u f g = came_back (option_and_then (text_in page.Windows1251) (bytes_in page.Windows1251 text)) text b f g
back_is page.Windows1252 text b u f g = came_back (option_and_then (text_in page.Windows1252) (bytes_in page.Windows1252 text)) text b f g
back_is page.Windows1253 text b u f g = came_back (option_and_then (text_in page.Windows1253) (bytes_in page.Windows1253 text)) text b f g
back_is page.Windows1254 text b u f g = came_back (option_and_then (text_in page.Windows1254) (bytes_in page.Windows1254 text)) text b f g
back_is page.Windows1255 text b u f g = came_back (option_and_then (text_in page.Windows1255) (bytes_in page.Windows1255 text)) text b f g
back_is page.Windows1256 text b u f g = came_back (option_and_then (text_in page.Windows1256) (bytes_in page.Windows1256 text)) text b f g
back_is page.Windows1257 text b u f g = came_back (option_and_then (text_in page.Windows1257) (bytes_in page.Windows1257 text)) text b f g
back_is page.Windows1258 text b u f g = came_back (option_and_then (text_in page.Windows1258) (bytes_in page.Windows1258 text)) text b f g
back_is page.MacintoshRoman text b u f g = came_back (option_and_then (text_in page.MacintoshRoman) (bytes_in page.MacintoshRoman text)) text b f g
back_is page.MacintoshCyrillic text b u f g = came_back (option_and_then (text_in page.MacintoshCyrillic) (bytes_in page.MacintoshCyrillic text)) text b f g
back_is page.UsAscii text b u f g = came_back (option_and_then (text_in page.UsAscii) (bytes_in page.UsAscii text)) text b f g
back_is page.Iso88591 text b u f g = came_back (option_and_then (text_in page.Iso88591) (bytes_in page.Iso88591 text)) text b f g
back_is page.Iso88592 text b u f g = came_back (option_and_then (text_in page.Iso88592) (bytes_in page.Iso88592 text)) text b f g
back_is page.Iso88593 text b u f g = came_back (option_and_then (text_in page.Iso88593) (bytes_in page.Iso88593 text)) text b f g
back_is page.Iso88594 text b u f g = came_back (option_and_then (text_in page.Iso88594) (bytes_in page.Iso88594 text)) text b f g
back_is page.Iso88595 text b u f g = came_back (option_and_then (text_in page.Iso88595) (bytes_in page.Iso88595 text)) text b f g
back_is page.Iso88596 text b u f g = came_back (option_and_then (text_in page.Iso88596) (bytes_in page.Iso88596 text)) text b f g
back_is page.Iso88597 text b u f g = came_back (option_and_then (text_in page.Iso88597) (bytes_in page.Iso88597 text)) text b f g
back_is page.Iso88598 text b u f g = came_back (option_and_then (text_in page.Iso88598) (bytes_in page.Iso88598 text)) text b f g
