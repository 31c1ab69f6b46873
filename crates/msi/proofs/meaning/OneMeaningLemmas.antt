-- Contents mean one package at most.
use Rattle.std.proofs.Common.{◌≡◌, ℕ, Bool, true, false, List, [], ◌∷◌, map, slice_index, Option, Some, None, unwrap_or, refl, sym, ap, subst, ◌∙◌, arith}
use Rattle.std.specs.Prelude.{MatchBool, IsSomeAnd}
use Rattle.std.specs.List.{AllByRecursion}
use Rattle.std.specs.FinMap.{entries}
use Rattle.std.proofs.lemmas.Option.{same_Some}
use Rattle.msi_base.proofs.ListLemmas.{same_head, same_tail}
use Rattle.msi_pool.specs.Pool.{Pool}
use Rattle.msi_pool.specs.Pool as pools
use Rattle.msi_pool.proofs.ReadStreamLemmas.{one_pool}
use Rattle.msi_summary.specs.Properties.{Properties}
use Rattle.msi_summary.specs.Summary.{SpellsSummary}
use Rattle.msi_summary.proofs.ReadBackLemmas.{only_one_set}
use Rattle.msi_table.specs.ValueRef.{ValueRef}
use Rattle.msi_table_values.specs.Columns.{ColumnDef}
use Rattle.msi_table.specs.TableCells.{TableCells}
use Rattle.msi_container_format.specs.declared.contents.Contents.{Contents}
use Rattle.msi_database_schema.specs.Keys.{table_key, summary_key, string_pool_name, string_data_name}
use Rattle.msi_database_schema.specs.System.{validation_name, validation_columns}
use Rattle.msi_database.specs.Database.{Database, Tables, has_table, columns_by_name}
use Rattle.msi_database.proofs.ShownTablesLemmas.{columns_shown}
use Rattle.msi_database_storage.specs.Streams.{Streams, stream_at, stored_rows}
use Rattle.msi_database_storage.specs.Agreement.{TablesAre, UnlistedIs, is_shown, schema_rows, schema_in}
use Rattle.msi.specs.declared.kinds.PackageType.{PackageType}
use Rattle.msi.specs.declared.kinds.PackageType.TheVariants as kind
use Rattle.msi.specs.Kinds.{clsid_of}
use Rattle.msi.specs.State.{Parts, others_among}
use Rattle.msi.specs.Meaning.{PoolIs, ContentsMean, shown_pool}
use Rattle.msi.specs.Laws.{AreBytes}
use Rattle.msi.proofs.meaning.ShownPoolLemmas.{CoversSchema, schema_by_raw}
use Rattle.msi.proofs.meaning.ShownTextsLemmas.{covers_schema}

-- the CLSID tells the kind
first_differs : {P : Type 0} (k l : PackageType) → clsid_of k ≡ clsid_of l → (slice_index (clsid_of k) 0 ≡ slice_index (clsid_of l) 0 → ⊥) → P
first_differs k l e differ = absurd (differ (ap (λ bytes. slice_index bytes 0) e))

pub kinds_tell : (k l : PackageType) → clsid_of k ≡ clsid_of l → k ≡ l
kinds_tell kind.Installer kind.Installer e = refl
kinds_tell kind.Installer kind.Patch e = first_differs kind.Installer kind.Patch e (λ n. omega arith)
kinds_tell kind.Installer kind.Transform e = first_differs kind.Installer kind.Transform e (λ n. omega arith)
kinds_tell kind.Patch kind.Installer e = first_differs kind.Patch kind.Installer e (λ n. omega arith)
kinds_tell kind.Patch kind.Patch e = refl
kinds_tell kind.Patch kind.Transform e = first_differs kind.Patch kind.Transform e (λ n. omega arith)
kinds_tell kind.Transform kind.Installer e = first_differs kind.Transform kind.Installer e (λ n. omega arith)
kinds_tell kind.Transform kind.Patch e = first_differs kind.Transform kind.Patch e (λ n. omega arith)
kinds_tell kind.Transform kind.Transform e = refl

-- THE SUMMARY AND THE POOL

pub one_summary : (o : Option (List ℕ)) (a b : Properties) → AreBytes (unwrap_or o []) → IsSomeAnd o (λ bytes. SpellsSummary bytes a) → IsSomeAnd o (λ bytes. SpellsSummary bytes b) → a ≡ b
one_summary None a b small p q = absurd p
one_summary (Some bytes) a b small p q = only_one_set bytes a b small p.0 q.0

pub one_raw : (o p : Option (List ℕ)) (a b : Pool) → IsSomeAnd o (λ written. IsSomeAnd p (λ texts. pools.IsPool written texts a)) → IsSomeAnd o (λ written. IsSomeAnd p (λ texts. pools.IsPool written texts b)) → a ≡ b
one_raw None p a b h k = absurd h
one_raw (Some written) None a b h k = absurd h
one_raw (Some written) (Some texts) a b h k = one_pool written texts a b h k

-- TABLES with the same columns over the same streams are the same

no_head : {A : Type 0} {P : Type 0} (x : A) (xs : List A) → ◌≡◌ {A = List A} [] (x ∷ xs) → P
no_head x xs e = absurd cc

heads_name : (t u : List ℕ × TableCells) (ts us : List (List ℕ × List ColumnDef)) → columns_shown t ∷ ts ≡ columns_shown u ∷ us → t.0 ≡ u.0
heads_name t u ts us e = ap (λ (s : List ℕ × List ColumnDef). s.0) (same_head (columns_shown t) (columns_shown u) ts us e)

heads_columns : (t u : List ℕ × TableCells) (ts us : List (List ℕ × List ColumnDef)) → columns_shown t ∷ ts ≡ columns_shown u ∷ us → t.1.columns ≡ u.1.columns
heads_columns t u ts us e = ap (λ (s : List ℕ × List ColumnDef). s.1) (same_head (columns_shown t) (columns_shown u) ts us e)

tables_one : (streams : Streams) (long other : Bool) → long ≡ other → (ts us : Tables) → map columns_shown ts ≡ map columns_shown us
    → AllByRecursion (λ t. t.1.rows ≡ stored_rows streams long t.1.columns t.0) ts → AllByRecursion (λ t. t.1.rows ≡ stored_rows streams other t.1.columns t.0) us → ts ≡ us
tables_one streams long other same [] [] e h k = refl
tables_one streams long other same [] (u ∷ us) e h k = no_head (columns_shown u) (map columns_shown us) e
tables_one streams long other same (t ∷ ts) [] e h k = no_head (columns_shown t) (map columns_shown ts) (sym e)
tables_one streams long other same (t ∷ ts) (u ∷ us) e h k =
    let name : t.0 ≡ u.0 = heads_name t u (map columns_shown ts) (map columns_shown us) e in
    let columns : t.1.columns ≡ u.1.columns = heads_columns t u (map columns_shown ts) (map columns_shown us) e in
    let rows : t.1.rows ≡ u.1.rows = h.0 ∙ (λ i. stored_rows streams (same i) (columns i) (name i)) ∙ sym k.0 in
    λ i. (name i, record { columns = columns i; rows = rows i }) ∷ tables_one streams long other same ts us (same_tail (columns_shown t) (columns_shown u) (map columns_shown ts) (map columns_shown us) e) h.1 k.1 i

unlisted_one : (b : Bool) (rows others : List (List ValueRef)) (o p : Option (List (List ValueRef))) → o ≡ p
    → MatchBool b (rows ≡ []) (o ≡ Some rows) → MatchBool b (others ≡ []) (p ≡ Some others) → rows ≡ others
unlisted_one true rows others o p e h k = h ∙ sym k
unlisted_one false rows others o p e h k = same_Some rows others (sym h ∙ e ∙ k)

database_one : (streams : Streams) (d e : Database) → PoolIs streams d → PoolIs streams e → TablesAre streams d → TablesAre streams e → UnlistedIs streams d → UnlistedIs streams e
    → columns_by_name d ≡ columns_by_name e → d ≡ e
database_one streams d e p q t u v w shown_same =
    let raw : p.0 ≡ q.0 = one_raw (stream_at (table_key string_pool_name) streams) (stream_at (table_key string_data_name) streams) p.0 q.0 p.1 q.1 in
    let long : d.pool.long ≡ e.pool.long = ap (λ (x : Pool). x.long) p.2 ∙ ap (λ (x : Pool). x.long) raw ∙ ap (λ (x : Pool). x.long) (sym q.2) in
    let tables : d.tables ≡ e.tables = tables_one streams d.pool.long e.pool.long long d.tables e.tables shown_same t u in
    let unlisted : d.unlisted_validation ≡ e.unlisted_validation = unlisted_one (has_table validation_name d) d.unlisted_validation e.unlisted_validation
    (stored_rows streams d.pool.long validation_columns validation_name) (stored_rows streams e.pool.long validation_columns validation_name)
    (ap (λ (l : Bool). stored_rows streams l validation_columns validation_name) long) v
    (subst (λ (ts : Tables). MatchBool (has_table validation_name (record e { tables = ts })) (e.unlisted_validation ≡ []) (stored_rows streams e.pool.long validation_columns validation_name ≡ Some e.unlisted_validation)) (sym tables) w) in
    let pool : d.pool ≡ e.pool = p.2 ∙ (λ i. shown_pool (is_shown streams (record { pool = record d.pool { long = long i }; tables = tables i; unlisted_validation = unlisted i })) (raw i)) ∙ sym q.2 in
    λ i. record { pool = pool i; tables = tables i; unlisted_validation = unlisted i }

-- THE WHOLE

-- the schema is that which is read by the places as they are stored
pub schema_raw : (c : Contents) (p : Parts) (h : ContentsMean c p) → schema_in (entries c.streams) h.pool.0 ≡ Some (columns_by_name p.database)
schema_raw c p h =
    let covers : CoversSchema (entries c.streams) (is_shown (entries c.streams) p.database) h.pool.0 =
    covers_schema (entries c.streams) p.database h.database.tables (schema_rows (entries c.streams) p.database.pool) h.database.schema h.pool.0 (ap (λ (x : Pool). x.long) h.pool.2) in
    sym (schema_by_raw (entries c.streams) (is_shown (entries c.streams) p.database) h.pool.0 covers) ∙ ap (schema_in (entries c.streams)) (sym h.pool.2) ∙ h.database.schema

pub meaning_one : (c : Contents) (p q : Parts) → AreBytes (unwrap_or (stream_at summary_key (entries c.streams)) []) → ContentsMean c p → ContentsMean c q → p ≡ q
meaning_one c p q small h k =
    let raw : h.pool.0 ≡ k.pool.0 = one_raw (stream_at (table_key string_pool_name) (entries c.streams)) (stream_at (table_key string_data_name) (entries c.streams)) h.pool.0 k.pool.0 h.pool.1 k.pool.1 in
    let same : columns_by_name p.database ≡ columns_by_name q.database = same_Some (columns_by_name p.database) (columns_by_name q.database)
    (sym (schema_raw c p h) ∙ ap (schema_in (entries c.streams)) raw ∙ schema_raw c q k) in
    let kind : p.kind ≡ q.kind = kinds_tell p.kind q.kind (sym h.kind ∙ k.kind) in
    let summary : p.summary ≡ q.summary = one_summary (stream_at summary_key (entries c.streams)) p.summary q.summary small h.summary k.summary in
    let database : p.database ≡ q.database = database_one (entries c.streams) p.database q.database h.pool k.pool h.database.tables k.database.tables h.database.unlisted k.database.unlisted same in
    let others : p.streams ≡ q.streams = h.others ∙ ap (others_among (entries c.streams)) database ∙ sym k.others in
    let storages : p.has_storages ≡ q.has_storages = h.storages ∙ sym k.storages in
    λ i. record { kind = kind i; summary = summary i; database = database i; streams = others i; has_storages = storages i }
