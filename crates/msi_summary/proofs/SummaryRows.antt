-- Worked examples of summaries, by computation.
use Rattle.std.specs.Prelude.{◌≡◌, [], ◌∷◌, refl, codes, map}
use Rattle.msi_summary_properties.specs.Properties.{Properties}
use Rattle.msi_summary.specs.Property.{all_properties, property_id, template_id}
use Rattle.msi_summary.specs.Summary.{new_summary, with_arch, with_languages, with_text, template_of, languages_of, keywords_of, with_keywords, keywords_in, without_braces}

ids : map property_id all_properties ≡ 1 ∷ 2 ∷ 3 ∷ 4 ∷ 5 ∷ 6 ∷ 7 ∷ 7 ∷ 8 ∷ 9 ∷ 11 ∷ 12 ∷ 13 ∷ 14 ∷ 15 ∷ 16 ∷ 18 ∷ 19 ∷ []
ids = refl

abbrev bare : Properties
bare = record (new_summary (codes "Installation Database")) { values = [] }

templates : template_of (with_languages (1033 ∷ 1031 ∷ []) (with_arch (codes "x64") bare)) ≡ codes "x64;1033,1031"
unfolding Rattle.std.specs.Fmt.digits
templates = refl

arch_alone : template_of (with_arch (codes "x64") bare) ≡ codes "x64;"
arch_alone = refl

languages : languages_of (with_text template_id (codes "x64;+9,abc,,1033") bare) ≡ 9 ∷ 1033 ∷ []
languages = refl

keywords : map keywords_in (codes "A ; B" ∷ codes "A; ; B" ∷ []) ≡ (codes "A" ∷ codes "B" ∷ []) ∷ (codes "A" ∷ [] ∷ codes "B" ∷ []) ∷ []
unfolding Rattle.std.specs.Str.trim_end Rattle.std.specs.Str.chars lib.Utf8.encode
keywords = refl

no_keyword : keywords_of (with_keywords ([] ∷ []) bare) ≡ []
no_keyword = refl

braces : without_braces (codes "{{a}b}") ≡ codes "a}b"
braces = refl
