-- Under pages that are UTF-8 each text can be written.
use Rattle.std.proofs.Common.{◌≡◌, ◌<◌, ℕ, Bool, ◌&&◌, List, [], ◌∷◌, subst, sym}
use Rattle.std.specs.Prelude.{◌↔◌, IsTrue}
use Rattle.std.specs.List.{AllByRecursion}
use Rattle.std.proofs.lemmas.Bool.{and_parts, and_from}
use Rattle.msi_base.specs.declared.codepage.CodePage.{CodePage}
use Rattle.msi_base.specs.declared.codepage.CodePage.TheVariants.{Utf8}
use Rattle.msi_base.specs.Pages.{IsWritable}
use Rattle.msi_base.proofs.PagesLemmas.{utf8_texts_come_back}
use Rattle.msi_pool.specs.Pool as pools
use Rattle.msi_summary.specs.PropertyValue.{PropertyValue}
use Rattle.msi_summary.specs.PropertyValue.TheVariants.{LpStr}
use Rattle.msi_summary.specs.Properties.{Properties, page_of}
use Rattle.msi_summary.specs.PropertyStream as properties
use Rattle.msi.specs.Writable.{Utf8TextsAreWritable}

places_writable : (places : List pools.Place) → pools.HaveUtf8Texts places → AllByRecursion (λ (p : pools.Place). (0 < p.count) → IsWritable Utf8 p.text) places
places_writable [] h = tt
places_writable (p ∷ ps) h = (λ used. utf8_texts_come_back p.text h.0, places_writable ps h.1)

value_writable : (v : PropertyValue) → properties.IsUtf8Value v → properties.IsWritableValue Utf8 v
value_writable (LpStr text) h = utf8_texts_come_back text h
value_writable _ h = tt

values_writable : (values : List (ℕ × PropertyValue)) → properties.HaveUtf8Texts values → AllByRecursion (λ (e : ℕ × PropertyValue). properties.IsWritableValue Utf8 e.1) values
values_writable [] h = tt
values_writable (e ∷ es) h = (value_writable e.1 h.0, values_writable es h.1)

pub pool_writable : (pool : pools.Pool) → pool.page ≡ Utf8 → pools.HaveUtf8Texts pool.places → pools.AreWritable pool
pool_writable pool utf8 texts = subst (λ (page : CodePage). AllByRecursion (λ (p : pools.Place). (0 < p.count) → IsWritable page p.text) pool.places) (sym utf8) (places_writable pool.places texts)

pub set_writable : (set : Properties) → page_of set ≡ Utf8 → properties.HaveUtf8Texts set.values → properties.AreWritable set
set_writable set utf8 texts = subst (λ (page : CodePage). AllByRecursion (λ (e : ℕ × PropertyValue). properties.IsWritableValue page e.1) set.values) (sym utf8) (values_writable set.values texts)

pub utf8_texts_are_writable : Utf8TextsAreWritable
utf8_texts_are_writable s pages texts = (pool_writable s.kept.database.pool pages.0 texts.0, set_writable s.summary pages.1 texts.1)

-- two tests that pass together
pub both_pass : {A B : Type 0} (a b : Bool) → IsTrue a ↔ A → IsTrue b ↔ B → IsTrue (a && b) ↔ (A × B)
both_pass a b first second = (
  λ h. let parts = and_parts a b h in (first.0 parts.0, second.0 parts.1),
  λ h. and_from a b (first.1 h.0) (second.1 h.1),
)
