use Rattle.std.proofs.Common.{◌≡◌, Some, None, ap, sym, ◌∙◌, eqb, length, take, arith, lit<}
use Rattle.std.specs.List.{list_any, before_first}
use Rattle.std.specs.Str.{str_eq_ignore_ascii_case, trim}
use Rattle.std.proofs.lemmas.List.{take_all}
use Rattle.std.proofs.lemmas.Str.Pattern.{split_once_first}
use Rattle.msipkg_safe_names.specs.SafeNames.{devices, is_name_of_device}
use Rattle.msipkg_safe_names.proofs.safe_names.names_device.Goals as goal

pub returns-in-Some : goal.returns-in-Some
unfolding is_name_of_device
returns-in-Some c =
    let parts = split_once_first 46 c.args.name.now (Some (c.in-Some.stem, c.in-Some.field-0-1)) c.in-Some.ensures.cases (lit< tt) in
    c.is_device.ensures ∙ ap (λ stem. list_any (λ device. str_eq_ignore_ascii_case device stem) devices) (c.trim.ensures.trim ∙ ap trim parts.1)

pub returns-in-None : goal.returns-in-None
unfolding is_name_of_device
returns-in-None c =
    let whole = split_once_first 46 c.args.name.now None c.in-None.ensures.cases (lit< tt) in
    let stem : before_first (λ b. eqb b 46) c.args.name.now ≡ c.args.name.now = ap (λ n. take n c.args.name.now) whole ∙ take_all (length c.args.name.now) c.args.name.now (omega arith) in
    c.is_device-in-None.ensures ∙ ap (λ stem. list_any (λ device. str_eq_ignore_ascii_case device stem) devices) (c.trim-in-None.ensures.trim ∙ ap trim (sym stem))
