use Rattle.std.proofs.Common.{rules, Ok, Err, ap, sym, ◌∙◌}
use Rattle.std.proofs.lemmas.List.Sorted.{answers_always}
use Rattle.msi_categories.specs.Languages.{sub_language, tag_of}
use Rattle.msi_categories.proofs.LanguageRowsLemmas.{searched}
use Rattle.msi_categories.proofs.language.LanguageId.tag.Goals as goal

-- the closure gives a row's id
pub returns-in-Ok : goal.returns-in-Ok
returns-in-Ok c =
    let by_id = c.in-Ok.ensures.position (λ row. row.0) (answers_always _ _ _ (λ f a r g called. search rules)) in
    searched _ _ c.rows_of_sub_language-rows.ensures _ (c.sub_language_id.ensures ∙ ap sub_language (sym c.self.view_is)) (Ok c.in-Ok.place) c.in-Ok.ensures.bound by_id _ ∙ ap tag_of c.self.view_is

pub returns-in-Err : goal.returns-in-Err
returns-in-Err c =
    let by_id = c.in-Err.ensures.position (λ row. row.0) (answers_always _ _ _ (λ f a r g called. search rules)) in
    searched _ _ c.rows_of_sub_language-rows.ensures _ (c.sub_language_id.ensures ∙ ap sub_language (sym c.self.view_is)) (Err c.in-Err.field-0) c.in-Err.ensures.bound by_id ∙ ap tag_of c.self.view_is
