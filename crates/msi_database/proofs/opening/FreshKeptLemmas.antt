-- The parts of a new database are kept, and make `fresh`.
use Rattle.std.proofs.Common.{◌≡◌, ℕ, true, false, List, [], ◌∷◌, refl, sym, ap, subst, ◌∙◌}
use Rattle.std.specs.FinMap.{empty, entries, len, len-empty, len-entries}
use Rattle.std.proofs.lemmas.List.{nil_from_length}
use Rattle.msi_container_format.specs.Names.{name_cmp}
use Rattle.msi_container_format.specs.Streams as maps
use Rattle.msi_pool.specs.Pool.{Pool}
use Rattle.msi_table.specs.Tables.{TableDef}
use Rattle.msi_database_changes.specs.Database.{is_sound, columns_by_name}
use Rattle.msi_database_changes.specs.declared.storing.Stored.{Stored}
use Rattle.msi_database_changes.specs.Storing.{HaveOwnNames, stored_all}
use Rattle.msi_database_storage.specs.Storing.{stored_in}
use Rattle.msi_database_storage.specs.Streams.{Streams}
use Rattle.msi_database_storage.specs.Kept.{AreAsLong, Kept, schema_listed}
use Rattle.msi_database.specs.Keeping.{AreParts, IsKeptDatabase}
use Rattle.msi_database.specs.Fresh.{fresh, fresh_change}
use Rattle.msi_database.specs.FreshParts.{columns_table, fresh_pool, fresh_stored, tables_table, validation_table}
use Rattle.msi_database.proofs.calls.ChangingLemmas.{streams_stored}
use Rattle.msi_database_storage.proofs.EditLemmas.{tables_stored_in}
use Rattle.msi_database.proofs.opening.FreshLemmas.{fresh_is_kept}
use Rattle.msi_database.proofs.FreshMadeLemmas.{have_own_names}
use Rattle.msi_database.proofs.FreshStepLemmas.{columns_long, tables_long, validation_long}
use Rattle.msi_database.proofs.keeping.KeptPartsLemmas.{kept_parts}

abbrev system : List TableDef
system = columns_table ∷ tables_table ∷ validation_table ∷ []

-- BY COMPUTATION

whole : Kept
whole = fresh

whole_is : whole ≡ fresh
unfolding whole
whole_is = refl

whole_kept : IsKeptDatabase whole
unfolding whole
whole_kept = fresh_is_kept.kept

whole_sound : is_sound whole.database ≡ true
unfolding whole
whole_sound = fresh_is_kept.sound

whole_listed : schema_listed system ≡ columns_by_name whole.database
unfolding Rattle.std.specs.Str.chars whole columns_table tables_table validation_table
whole_listed = refl

whole_long : whole.database.pool.long ≡ false
unfolding Rattle.std.specs.Str.chars whole
whole_long = refl

whole_pool : fresh_pool ≡ whole.database.pool
unfolding whole fresh_pool
whole_pool = refl

whole_streams : stored_in fresh_stored [] ≡ whole.streams
unfolding whole fresh_stored
whole_streams = tables_stored_in fresh_change.database fresh_change.stored []

whole_as_long : AreAsLong whole.database.pool.long system
whole_as_long = subst (λ long. AreAsLong long system) (sym whole_long) (columns_long, (tables_long, (validation_long, tt)))

none_yet : (m : maps.Streams) → m ≡ empty → entries m ≡ []
none_yet m e = nil_from_length (entries m) (sym (len-entries m) ∙ ap len e ∙ len-empty name_cmp (List ℕ))

-- AS THE CALL HAS THEM

pub names_are_own : (items es : List Stored) → items ≡ es → es ≡ fresh_stored → HaveOwnNames items
names_are_own items es e f = subst HaveOwnNames (sym (e ∙ f)) have_own_names

pub fresh_parts : (pool : Pool) (tables : List TableDef) (m n : maps.Streams) (items : List Stored) → pool ≡ fresh_pool → tables ≡ columns_table ∷ tables_table ∷ validation_table ∷ []
    → m ≡ empty → items ≡ fresh_stored → n ≡ stored_all m items → AreParts fresh pool tables (entries n)
fresh_parts pool tables m n items pool_is tables_are none items_are stored =
    let streams : whole.streams ≡ entries n = sym (streams_stored m n fresh_stored items stored items_are ∙ ap (stored_in fresh_stored) (none_yet m none) ∙ whole_streams) in
    subst (λ (k : Kept). AreParts k pool tables (entries n)) whole_is
    (subst (λ (p : Pool). AreParts whole p tables (entries n)) (sym (pool_is ∙ whole_pool))
    (subst (λ (ts : List TableDef). AreParts whole whole.database.pool ts (entries n)) (sym tables_are)
    (subst (λ (s : Streams). AreParts whole whole.database.pool system s) streams (kept_parts whole system whole_kept whole_sound whole_listed whole_as_long))))
