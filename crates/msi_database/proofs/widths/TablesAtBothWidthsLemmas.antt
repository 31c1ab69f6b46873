-- A change of tables that widens references where it has to: what is stored over which database.
use Rattle.std.proofs.Common.{◌≡◌, ◌≤◌, Bool, true, false, not, ◌&&◌, ◌||◌, List, length, nat_lt, Option, Some, None, Result, Ok, Err, refl, sym, ap, subst, ◌∙◌, arith}
use Rattle.std.specs.Prelude.{if◌then◌else◌}
use Rattle.std.proofs.lemmas.Bool.{true≢false}
use Rattle.std.proofs.lemmas.Bool.Decides.{nat_tests}
use Rattle.msi_base.specs.declared.errors.ErrorKind.{ErrorKind}
use Rattle.msi_pool.specs.FirstFit.{most_places}
use Rattle.msi_pool.specs.Pool.{Pool}
use Rattle.msi_table.specs.Tables.{TableDef}
use Rattle.msi_database_changes.specs.Texts.{UsedPool, settled}
use Rattle.msi_database_changes.specs.Database.{Database, is_sound}
use Rattle.msi_database_changes.specs.Changes.{Change}
use Rattle.msi_database_changes.specs.Widening.{needs_three_bytes, widened, widening}
use Rattle.msi_database_changes.specs.declared.storing.Stored.{Stored}
use Rattle.msi_database_storage.specs.Storing.{stored_in}
use Rattle.msi_database_storage.specs.Kept.{Kept, kept_widened, with_change}
use Rattle.msi_database.specs.Keeping.{AreParts}
use Rattle.msi_database.specs.Making.{Makes, TellsUse, base_with, wide_for}
use Rattle.msi_database.proofs.keeping.KeepingLemmas.{same_base, wide_base}

-- an accepted change of a sound database, with references of the width that it has, is made by this pool, these tables and these streams
abbrev pub MakesAt : Kept → Result Change ErrorKind → Pool → List TableDef → List Stored → Type 0
MakesAt old (Ok c) pool tables stored = AreParts (with_change old c) pool tables (stored_in stored old.streams) × (is_sound old.database ≡ true)
MakesAt old (Err kind) pool tables stored = ⊥

-- a pool that its places fit stays as it is
pub settled_same : (p : Pool) → length p.places ≤ most_places p.long → settled p ≡ p
settled_same p h = by_long p.long refl h where
  by_long : (l : Bool) → p.long ≡ l → length p.places ≤ most_places p.long → settled p ≡ p
  by_long true e h = λ i. record { page = p.page; long = same i; places = p.places } where
    same : (p.long || nat_lt 65535 (length p.places)) ≡ p.long
    same = ap (λ l. l || nat_lt 65535 (length p.places)) e ∙ sym e
  by_long false e h =
      let within : length p.places ≤ 65535 = subst (λ l. length p.places ≤ most_places l) e h in
      let none : nat_lt 65535 (length p.places) ≡ false = grind (arith, nat_tests) in
      let same : (p.long || nat_lt 65535 (length p.places)) ≡ p.long = (λ i. e i || none i) ∙ sym e in
      λ i. record { page = p.page; long = same i; places = p.places }

module _ (k : Kept) (pool : Pool) (tables : List TableDef) (es : List Stored) where
  pub lift_same : (r : Result Change ErrorKind) → ((c : Change) → r ≡ Ok c → c.database.pool.long ≡ k.database.pool.long) → MakesAt k r pool tables es → Makes k r k pool tables es
  lift_same (Ok c) long h =
      let base = same_base k c (long c refl) in
      (sym base, subst (λ (b : Kept). AreParts (with_change b c) pool tables (stored_in es k.streams)) (sym base) h.0, h.1)
  lift_same (Err kind) long h = absurd h

  pub lift_wide : (r : Result Change ErrorKind) → ((c : Change) → r ≡ Ok c → c.database.pool.long ≡ true) → k.database.pool.long ≡ false → MakesAt (kept_widened k) r pool tables es → Makes k r (kept_widened k) pool tables es
  lift_wide (Ok c) long short h =
      let base = wide_base k c (long c refl) short in
      (sym base, subst (λ (b : Kept). AreParts (with_change b c) pool tables (stored_in es (kept_widened k).streams)) (sym base) h.0, h.1)
  lift_wide (Err kind) long short h = absurd h

  pub needs_is : (r : Result Change ErrorKind) → MakesAt k r pool tables es → needs_three_bytes r ≡ nat_lt (most_places false) (length pool.places)
  needs_is (Ok c) h = ap (λ (k : Kept). nat_lt (most_places false) (length k.database.pool.places)) (sym h.0.0)
  needs_is (Err kind) h = absurd h

-- AT BOTH WIDTHS

module _ (k : Kept) (sound : is_sound k.database ≡ true) (change : Database → Result Change ErrorKind) (same_long : (c : Change) → change k.database ≡ Ok c → c.database.pool.long ≡ k.database.pool.long)
    (wide_long : (c : Change) → change (widened k.database) ≡ Ok c → c.database.pool.long ≡ true)
    (used : UsedPool) (page : used.pool.page ≡ k.database.pool.page) (long : used.pool.long ≡ k.database.pool.long) (few : length used.pool.places ≤ 16777215)
    (tables : Kept → List TableDef) (es : Kept → List Stored)
    (wide : MakesAt (kept_widened k) (change (widened k.database)) (record (widened k.database).pool { places = used.pool.places }) (tables (kept_widened k)) (es (kept_widened k)))
    (wide_uses : TellsUse (change (widened k.database)) used.is_used)
    (same : length used.pool.places ≤ most_places k.database.pool.long → MakesAt k (change k.database) (record k.database.pool { places = used.pool.places }) (tables k) (es k))
    (same_uses : length used.pool.places ≤ most_places k.database.pool.long → TellsUse (change k.database) used.is_used)
    (P : Kept → Type 0) (wide_holds : P (kept_widened k)) (same_holds : length used.pool.places ≤ most_places k.database.pool.long → P k) where
  abbrev d : Database
  d = k.database

  abbrev many : Bool
  many = nat_lt (most_places false) (length used.pool.places)

  settled_is : (l m : Bool) → d.pool.long ≡ l → many ≡ m → (settled used.pool).long ≡ (l || m)
  settled_is l m is_long is_many = λ i. (long ∙ is_long) i || is_many i

  wide_is : (l m : Bool) → d.pool.long ≡ l → many ≡ m → wide_for used k ≡ (if (l || m) && not l then Some (kept_widened k) else None)
  wide_is l m is_long is_many = λ i. if ((long ∙ is_long) i || is_many i) && not ((long ∙ is_long) i) then Some (kept_widened k) else None

  widens_is : (l m : Bool) → d.pool.long ≡ l → many ≡ m → widening change d ≡ (if (true && not l) && m then change (widened d) else change d)
  widens_is l m is_long is_many =
      let needs : needs_three_bytes (change (widened d)) ≡ m = needs_is (kept_widened k) (record (widened d).pool { places = used.pool.places }) (tables (kept_widened k)) (es (kept_widened k)) (change (widened d)) wide ∙ is_many in
      λ i. if (sound i && not (is_long i)) && needs i then change (widened d) else change d

  enough : (l m : Bool) → (l ≡ false → m ≡ false) → d.pool.long ≡ l → many ≡ m → length used.pool.places ≤ most_places d.pool.long
  enough true m short is_long is_many = subst (λ l. length used.pool.places ≤ most_places l) (sym is_long) few
  enough false m short is_long is_many =
      let none : nat_lt 65535 (length used.pool.places) ≡ false = is_many ∙ short refl in
      subst (λ l. length used.pool.places ≤ most_places l) (sym is_long) (grind (arith, nat_tests))

  pub record Anew : Type 0 where
    pub makes : Makes k (widening change d) (base_with (wide_for used k) k) (settled used.pool) (tables (base_with (wide_for used k) k)) (es (base_with (wide_for used k) k))
    pub uses : TellsUse (widening change d) used.is_used
    pub holds : P (base_with (wide_for used k) k)

  same_anew : widening change d ≡ change d → length used.pool.places ≤ most_places d.pool.long → (settled used.pool).long ≡ d.pool.long → wide_for used k ≡ None → Anew
  same_anew r_is suffices settles none =
      let pool : record d.pool { places = used.pool.places } ≡ settled used.pool = λ i. record { page = sym page i; long = sym settles i; places = used.pool.places } in
      let lifted = lift_same k (record d.pool { places = used.pool.places }) (tables k) (es k) (change d) same_long (same suffices) in record {
        makes = subst (λ (w : Option Kept). Makes k (widening change d) (base_with w k) (settled used.pool) (tables (base_with w k)) (es (base_with w k))) (sym none)
            (subst (λ (p : Pool). Makes k (widening change d) k p (tables k) (es k)) pool
            (subst (λ (r : Result Change ErrorKind). Makes k r k (record d.pool { places = used.pool.places }) (tables k) (es k)) (sym r_is) lifted));
        uses = subst (λ (r : Result Change ErrorKind). TellsUse r used.is_used) (sym r_is) (same_uses suffices);
        holds = subst (λ (w : Option Kept). P (base_with w k)) (sym none) (same_holds suffices);
      }

  wide_anew : d.pool.long ≡ false → many ≡ true → Anew
  wide_anew short is_many =
      let settles : (settled used.pool).long ≡ true = settled_is false true short is_many in
      let r_is : widening change d ≡ change (widened d) = widens_is false true short is_many in
      let pool : record (widened d).pool { places = used.pool.places } ≡ settled used.pool = λ i. record { page = sym page i; long = sym settles i; places = used.pool.places } in
      let lifted = lift_wide k (record (widened d).pool { places = used.pool.places }) (tables (kept_widened k)) (es (kept_widened k)) (change (widened d)) wide_long short wide in record {
        makes = subst (λ (w : Option Kept). Makes k (widening change d) (base_with w k) (settled used.pool) (tables (base_with w k)) (es (base_with w k))) (sym (wide_is false true short is_many))
            (subst (λ (p : Pool). Makes k (widening change d) (kept_widened k) p (tables (kept_widened k)) (es (kept_widened k))) pool
            (subst (λ (r : Result Change ErrorKind). Makes k r (kept_widened k) (record (widened d).pool { places = used.pool.places }) (tables (kept_widened k)) (es (kept_widened k))) (sym r_is) lifted));
        uses = subst (λ (r : Result Change ErrorKind). TellsUse r used.is_used) (sym r_is) wide_uses;
        holds = subst (λ (w : Option Kept). P (base_with w k)) (sym (wide_is false true short is_many)) wide_holds;
      }

  anew_by : (l m : Bool) → d.pool.long ≡ l → many ≡ m → Anew
  anew_by true m is_long is_many = same_anew (widens_is true m is_long is_many) (enough true m (λ e. absurd (true≢false e)) is_long is_many) (settled_is true m is_long is_many ∙ sym is_long) (wide_is true m is_long is_many)
  anew_by false true is_long is_many = wide_anew is_long is_many
  anew_by false false is_long is_many = same_anew (widens_is false false is_long is_many) (enough false false (λ e. refl) is_long is_many) (settled_is false false is_long is_many ∙ sym is_long) (wide_is false false is_long is_many)

  pub tables_anew : Anew
  tables_anew = anew_by d.pool.long many refl refl
