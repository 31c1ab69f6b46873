-- The file of a transform: which contents of a compound file are which transform, and why others are none.
use Rattle.std.specs.Prelude.{◌≡◌, ℕ, ◌⊎◌, Bool, true, not, List, [], ◌∷◌, ◌++◌, map, filter, ◌&&◌, ◌||◌, bytes_eq}
use Rattle.std.specs.Prelude.{length}
use Rattle.std.specs.Prelude.{encode_utf8_all, take, Result, Ok, Err, ◌==◌}
use Rattle.std.specs.Char.Utf16.{utf16_lossy_chars}
use Rattle.std.specs.FinMap.{entries, put}
use Rattle.std.specs.List.{flat_map}
use Rattle.std.specs.Option.{option_map_or}
use Rattle.msi_base.specs.declared.codepage.CodePage.{CodePage}
use Rattle.msi_base.specs.declared.codepage.CodePage.TheVariants.{Utf8}
use Rattle.msi_base.specs.declared.errors.ErrorKind.{ErrorKind}
use Rattle.msi_base.specs.declared.errors.ErrorKind.TheVariants.{InvalidData, OutOfMemory}
use Rattle.msi_base.specs.Lists.{list_cmp}
use Rattle.msi_base.specs.Pages.{page_id}
use Rattle.msi_pool.specs.Pool.{Place, Pool}
use Rattle.msi_container_format.specs.declared.contents.Contents.{Contents}
use Rattle.msi_container_format.specs.Container.{Holds}
use Rattle.msi_container_format.specs.StreamNames.{decoded_name}
use Rattle.msi_database_schema.specs.Keys.{is_pool_name, table_key}
use Rattle.msi_database_storage.specs.Streams.{Streams, stream_at}
use Rattle.msi_transform.specs.ReadSteps.{FailsFirst, StopsAmong}
use Rattle.msi_transform.specs.StoredPools.{PoolIs, PoolStep, PassesPool, data_key, pool_step_kind, pool_steps}
use Rattle.msi_transform.specs.StoredPools.{stored_page_id}
use Rattle.msi_transform.specs.Transforms.{TransformDef}

-- the CLSID 000C1082-0000-0000-C000-000000000046 in the bytes of a file
abbrev pub transform_clsid : List ℕ
transform_clsid = 0x82 ∷ 0x10 ∷ 0x0C ∷ 0 ∷ 0 ∷ 0 ∷ 0 ∷ 0 ∷ 0xC0 ∷ 0 ∷ 0 ∷ 0 ∷ 0 ∷ 0 ∷ 0 ∷ 0x46 ∷ []

-- the text that a container's name stands for
abbrev pub text_of_key : List ℕ → List ℕ
text_of_key key = encode_utf8_all (decoded_name (utf16_lossy_chars key)).0

-- the name of some table's stream; and that of a stream of records, which is none of the pool's
abbrev pub is_table_key : List ℕ → Bool
is_table_key key = bytes_eq (table_key (text_of_key key)) key

abbrev pub is_records_key : List ℕ → Bool
is_records_key key = is_table_key key && not (is_pool_name (text_of_key key))

-- in the order of names
abbrev pub by_names : List (List ℕ × List ℕ) → List (List ℕ × List ℕ)
by_names [] = []
by_names (e ∷ es) = put list_cmp e.0 e.1 (by_names es)

-- the records of each table, and the streams that aren't those of tables
abbrev pub records_among : Streams → List (List ℕ × List ℕ)
records_among streams = by_names (map (λ s. (text_of_key s.0, s.1)) (filter (λ s. is_records_key s.0) streams))

abbrev pub others_among : Streams → Streams
others_among streams = filter (λ s. not (is_table_key s.0)) streams

-- the texts, one behind another, are what the bytes begin with
abbrev pub begin_with_texts : List Place → List ℕ → Bool
begin_with_texts places bytes =
    let texts = flat_map (λ (p : Place). p.text) places in bytes_eq (take (length texts) bytes) texts

-- In UTF-8 bytes that encode no character read as U+FFFD, by which a transform would change texts: so its stream of
-- texts has to begin with them as they are
abbrev pub is_utf8 : CodePage → Bool
is_utf8 page = page_id page == page_id Utf8

abbrev pub keeps_texts : Pool → Streams → Bool
keeps_texts pool streams =
    not (is_utf8 pool.page) || option_map_or (begin_with_texts pool.places) (stream_at data_key streams) true

-- the transform that streams hold beside this pool
abbrev pub transform_in : Pool → Streams → TransformDef
transform_in pool streams = record {
  page_id = stored_page_id streams;
  pool = pool;
  tables = records_among streams;
  streams = others_among streams;
}

-- the contents are this transform
pub record IsTransform (c : Contents) (t : TransformDef) : Type 0 where
  pub clsid : c.clsid ≡ transform_clsid
  pub pool : PoolIs (entries c.streams) t.pool
  pub texts : keeps_texts t.pool (entries c.streams) ≡ true
  pub parts : t ≡ transform_in t.pool (entries c.streams)

-- the steps of reading a transform, the first of which that fails decides
pub data ReadStep : Type 0 where
  knows_clsid : ReadStep
  of_pool : PoolStep → ReadStep
  keeps_each_text : ReadStep

abbrev pub pool_read_steps : List ReadStep
pool_read_steps = map of_pool pool_steps ++ keeps_each_text ∷ []

abbrev pub read_steps : List ReadStep
read_steps = knows_clsid ∷ pool_read_steps

abbrev pub PassesRead : Contents → ReadStep → Type 0
PassesRead c knows_clsid = c.clsid ≡ transform_clsid
PassesRead c (of_pool step) = PassesPool (entries c.streams) step
PassesRead c keeps_each_text = (pool : Pool) × PoolIs (entries c.streams) pool
    × (keeps_texts pool (entries c.streams) ≡ true)

abbrev pub read_step_kind : ReadStep → ErrorKind
read_step_kind knows_clsid = InvalidData
read_step_kind (of_pool step) = pool_step_kind step
read_step_kind keeps_each_text = InvalidData

-- why contents aren't read
abbrev pub ReadStopsAmong : Contents → List ReadStep → ErrorKind → Type 0
ReadStopsAmong c steps kind = StopsAmong (PassesRead c) read_step_kind steps kind

-- what reading the bytes answers, where memory suffices
abbrev pub ReadsTo : List ℕ → Result TransformDef ErrorKind → Type 0
ReadsTo bytes (Ok t) = (c : Contents) × Holds bytes c × IsTransform c t
ReadsTo bytes (Err kind) = (((c : Contents) → Holds bytes c → ⊥) × (kind ≡ InvalidData))
    ⊎ ((c : Contents) × Holds bytes c × FailsFirst (PassesRead c) read_step_kind read_steps kind)

-- why bytes aren't read
abbrev pub IsReadRefusal : List ℕ → ErrorKind → Type 0
IsReadRefusal bytes kind = (kind ≡ OutOfMemory) ⊎ ReadsTo bytes (Err kind)

-- contents are at most one transform, and then no step of reading fails
abbrev pub OneTransform : Type 0
OneTransform = (c : Contents) (a b : TransformDef) → IsTransform c a → IsTransform c b → a ≡ b

abbrev pub TransformsAreRead : Type 0
TransformsAreRead = (c : Contents) (t : TransformDef) (kind : ErrorKind) → IsTransform c t
    → FailsFirst (PassesRead c) read_step_kind read_steps kind → ⊥
