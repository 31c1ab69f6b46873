-- What refuses a change with references of three bytes refuses one that may widen them.
use Rattle.std.proofs.Common.{◌≡◌, Bool, true, false, not, ◌&&◌, Option, Some, None, option_map, Result, Err, refl, sym, ap, subst, ◌∙◌, inl, inr}
use Rattle.std.specs.Prelude.{if◌then◌else◌}
use Rattle.std.proofs.lemmas.Option.{none-some}
use Rattle.msi_base.specs.declared.errors.ErrorKind.{ErrorKind}
use Rattle.msi_pool.specs.Pool.{Pool}
use Rattle.msi_table.specs.Tables.{TableDef, long_table_of}
use Rattle.msi_base.specs.Refusals.{IsRefusal}
use Rattle.msi_table_cells.specs.TableCells.{TableCells}
use Rattle.std.proofs.Common.{ℕ, List}
use Rattle.msi_database_changes.specs.Texts.{UsedPool}
use Rattle.msi_database_changes.specs.Database.{Database, is_sound, table_at}
use Rattle.msi_database_changes.specs.Changes.{Change}
use Rattle.msi_database_changes.specs.Widening.{needs_three_bytes, widened, widening}
use Rattle.msi_database.specs.Listed.{IsKnown}

-- what a call knows, of the widened database
abbrev pub long_pool : Pool → Pool
long_pool pool = record pool { long = true }

abbrev pub long_used : UsedPool → UsedPool
long_used used = record used { pool = long_pool used.pool }

known_by : (n : List ℕ) (l : Bool) (o : Option TableCells) (t : TableDef) → ◌≡◌ {A = Option TableDef} (option_map (λ (c : TableCells). record { name = n; columns = c.columns; long = l }) o) (Some t)
    → ◌≡◌ {A = Option TableDef} (option_map (λ (c : TableCells). record { name = n; columns = c.columns; long = true }) o) (Some (long_table_of t))
known_by n l None t e = absurd (none-some t e)
known_by n l (Some c) t e = ap (option_map long_table_of) e

pub known_widened : (d : Database) (name : List ℕ) (t : TableDef) → IsKnown d name t → IsKnown (widened d) name (long_table_of t)
known_widened d name t known = record {
  named = known.named;
  listed = known_by t.name d.pool.long (table_at t.name d) t known.listed;
  has_key = known.has_key;
  long = refl;
}

module _ (change : Database → Result Change ErrorKind) (d : Database) (k : ErrorKind) where
  same_wide : d.pool.long ≡ true → widened d ≡ d
  same_wide e i = record d { pool = record d.pool { long = sym e i } }

  refused_by : (l : Bool) → is_sound d ≡ true → d.pool.long ≡ l → change (widened d) ≡ Err k → widening change d ≡ Err k
  refused_by true sound long e =
      (λ i. if (sound i && not (long i)) && needs_three_bytes (change (widened d)) then change (widened d) else change d) ∙ ap change (sym (same_wide long)) ∙ e
  refused_by false sound long e = (λ i. if (sound i && not (long i)) && needs_three_bytes (e i) then change (widened d) else change d) ∙ e

  pub refused_widening : is_sound d ≡ true → IsRefusal (change (widened d)) k → IsRefusal (widening change d) k
  refused_widening sound (inl memory) = inl memory
  refused_widening sound (inr e) = inr (refused_by d.pool.long sound refl e)

  early_by : (b : Bool) → is_sound d ≡ b → IsRefusal (change d) k → (is_sound d ≡ true → IsRefusal (change (widened d)) k) → IsRefusal (widening change d) k
  early_by true sound same wide = refused_widening sound (wide sound)
  early_by false sound same wide =
      subst (λ (r : Result Change ErrorKind). IsRefusal r k) (λ i. if (sym sound i && not d.pool.long) && needs_three_bytes (change (widened d)) then change (widened d) else change d) same

  -- what refuses it at either width
  pub refused_either : IsRefusal (change d) k → (is_sound d ≡ true → IsRefusal (change (widened d)) k) → IsRefusal (widening change d) k
  refused_either same wide = early_by (is_sound d) refl same wide
