-- The streams of a transform's file.
use Rattle.std.proofs.Common.{◌≡◌, ◌⊎◌, ℕ, List, Option, Some, None, Result, Ok, Err, Vec, Global, sym, ap, ◌∙◌, inl, inr}
use Rattle.std.specs.FinMap.{entries, entries-insert, insert}
use Rattle.std.specs.Option.{option_map_or}
use Rattle.std.specs.Prelude.{◌↔◌, IfErr, IfOk, IsErrOf, IsTrue, option_and_then, option_map}
use Rattle.msi_base.specs.declared.errors.ErrorKind.{ErrorKind}
use Rattle.msi_base.specs.declared.errors.ErrorKind.TheVariants.{InvalidInput, OutOfMemory}
use Rattle.msi_pool.specs.Pool.{Pool, data_stream, pool_stream}
use Rattle.msi_container_format.specs.Names.{named}
use Rattle.msi_container_format.specs.Container.{Holds}
use Rattle.msi_container_format.specs.Streams as maps
use Rattle.msi_container_format.specs.declared.contents.Contents.{Contents}
use Rattle.msi_container_format.proofs.NamesLemmas.{names_total}
use Rattle.msi_database_schema.specs.Keys.{table_key}
use Rattle.msi_database_storage.specs.Streams.{Streams, with_stream}
use Rattle.msi_transform.specs.StoredPools.{data_key, pool_key}
use Rattle.msi_transform.specs.Transforms.{TransformDef}
use Rattle.msi_container_write.specs.Layout.{refuses}
use Rattle.msi_transform.specs.WrittenTransforms.{AreWritten, HasNoFile, with_page_id, with_pool, with_table_stream}

-- a stream that is put, where the name isn't too long
pub inserted : (m n : maps.Streams) (key bytes : List ℕ) → n ≡ insert m key bytes → entries n ≡ with_stream key bytes (entries m)
inserted m n key bytes is = ap entries is ∙ entries-insert names_total m key bytes

pub table_put : (streams new : Streams) (name records key : List ℕ) (o : Option (List ℕ)) → o ≡ named (table_key name) → o ≡ Some key → new ≡ with_stream key records streams
    → new ≡ with_table_stream streams (name, records)
table_put streams new name records key o is some new_is =
    new_is ∙ ap (λ (o : Option (List ℕ)). option_map_or (λ k. with_stream k records streams) o streams) (sym some ∙ is)

pub table_not_put : (streams : Streams) (name records : List ℕ) (o : Option (List ℕ)) → o ≡ named (table_key name) → o ≡ None → streams ≡ with_table_stream streams (name, records)
table_not_put streams name records o is none =
    ap (λ (o : Option (List ℕ)). option_map_or (λ k. with_stream k records streams) o streams) (sym none ∙ is)

-- the pool's streams
pub pool_put : (page_id : ℕ) (pool : Pool) (streams first new : Streams) (listed paged texts : List ℕ) → pool_stream pool ≡ Some listed → data_stream pool ≡ Some texts
    → paged ≡ with_page_id page_id pool.long listed → first ≡ with_stream pool_key paged streams → new ≡ with_stream data_key texts first → with_pool page_id pool streams ≡ Some new
pool_put page_id pool streams first new listed paged texts l t p first_is new_is =
    ap (λ (o : Option (List ℕ)). option_and_then (λ listed. option_map (λ texts.
    with_stream data_key texts (with_stream pool_key (with_page_id page_id pool.long listed) streams)) (data_stream pool)) o) l
    ∙ ap (λ (o : Option (List ℕ)). option_map (λ texts. with_stream data_key texts (with_stream pool_key (with_page_id page_id pool.long listed) streams)) o) t
    ∙ ap (λ (b : List ℕ). Some (with_stream data_key texts (with_stream pool_key b streams))) (sym p)
    ∙ ap (λ (s : Streams). Some (with_stream data_key texts s)) (sym first_is) ∙ ap Some (sym new_is)

-- the bytes hold what is written
pub bytes_hold : (t : TransformDef) (c : Contents) (r : Result (Vec ℕ Global) ErrorKind) → AreWritten t c → IfOk r (λ image. Holds image.items c)
    → IfOk r (λ image. (x : Contents) × AreWritten t x × Holds image.items x)
bytes_hold t c (Ok image) are holds = (c, are, holds)
bytes_hold t c (Err kind) are holds = tt

-- a file that isn't written for another reason than memory
pub no_file : {A : Type 0} (t : TransformDef) (c : Contents) (r : Result A ErrorKind) → AreWritten t c → (IsErrOf r InvalidInput ↔ IsTrue (refuses c 0))
    → IfErr r (λ kind. (kind ≡ InvalidInput) ⊎ (kind ≡ OutOfMemory)) → IfErr r (λ kind. (kind ≡ OutOfMemory) ⊎ (kind ≡ InvalidInput) × HasNoFile t)
no_file t c (Ok x) written refused kinds = tt
no_file t c (Err k) written refused (inl is) = inr (is, inr (c, written, refused.0 (ap Err is)))
no_file t c (Err k) written refused (inr is) = inl is
