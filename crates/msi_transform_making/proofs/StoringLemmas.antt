-- The records of tables, put under the tables' names from the last table on.
use Rattle.std.proofs.Common.{◌≡◌, ℕ, ◌+◌, ◌-◌, ◌<◌, Bool, List, [], ◌∷◌, map, refl, arith, drop, get_or, length, sym, ap, ◌∙◌}
use Rattle.std.specs.FinMap.{empty, entries, len-empty, len-entries, put}
use Rattle.msi_container_format.specs.Names.{name_cmp}
use Rattle.msi_base.specs.Lists.{list_cmp}
use Rattle.msi_transform_records.specs.declared.records.Record.{Record}
use Rattle.msi_transform_making.specs.Making.{ToldTable, by_names, table_records}
use Rattle.msi_transform_pair.proofs.ToldRowsLemmas.{last_rest}

pub table_put : (long : Bool) (xs : List (ToldTable × List Record)) (i : ℕ) (x : ToldTable × List Record) (before after : List (List ℕ × List ℕ)) → i < length xs
    → x ≡ get_or xs (length xs - 1 - i) x → before ≡ by_names (map (table_records long) (drop (length xs - i) xs)) → after ≡ put list_cmp x.0.name (table_records long x).1 before
    → after ≡ by_names (map (table_records long) (drop (length xs - (i + 1)) xs))
table_put long xs i x before after inside at so_far p =
    p ∙ ap (put list_cmp x.0.name (table_records long x).1) so_far
    ∙ ap (λ (ys : List (ToldTable × List Record)). by_names (map (table_records long) ys)) (sym (last_rest xs i x inside at))

nothing : (es : List (List ℕ × List ℕ)) → length es ≡ 0 → es ≡ []
nothing [] e = refl
nothing (x ∷ es) e = absurd (omega arith)

pub no_streams : entries (empty {X = List ℕ} {R = name_cmp}) ≡ []
no_streams = nothing (entries empty) (sym (len-entries empty) ∙ len-empty name_cmp (List ℕ))
