-- The streams that are written anew: the pool's two behind others.
use Rattle.std.proofs.Common.{◌≡◌, ℕ, false, List, [], ◌∷◌, ◌++◌, Some, None, refl, sym, ap, ◌∙◌}
use Rattle.std.specs.Prelude.{if◌then◌else◌, option_and_then, option_map}
use Rattle.msi_pool.specs.Pool.{Pool, data_stream, pool_stream}
use Rattle.msi_pool.specs.PoolWriting.{is_refused}
use Rattle.msi_database_schema.specs.Keys.{string_data_name, string_pool_name, table_key}
use Rattle.msi_database_storage.specs.Streams.{Streams, with_stream}
use Rattle.msi.specs.Renewing.{keys_in, pool_keys, pool_put, with_renewed}

-- one more
renewed_last : (rs : Streams) (name bytes : List ℕ) (m : Streams) → with_renewed (rs ++ (name, bytes) ∷ []) m ≡ with_stream name bytes (with_renewed rs m)
renewed_last [] name bytes m = refl
renewed_last (r ∷ rs) name bytes m = renewed_last rs name bytes (with_stream r.0 r.1 m)

-- the pool's two
pool_put_is : (pool : Pool) (m : Streams) (entries texts : List ℕ) → is_refused pool ≡ false → pool_stream pool ≡ Some entries → data_stream pool ≡ Some texts
    → pool_put pool m ≡ Some (with_stream (table_key string_pool_name) entries (with_stream (table_key string_data_name) texts m))
pool_put_is pool m entries texts told e t =
    ap (λ b. if b then None else option_and_then (λ written. option_map (λ texts. with_stream (table_key string_pool_name) written (with_stream (table_key string_data_name) texts m)) (data_stream pool)) (pool_stream pool)) told
    ∙ ap (option_and_then (λ written. option_map (λ texts. with_stream (table_key string_pool_name) written (with_stream (table_key string_data_name) texts m)) (data_stream pool))) e
    ∙ ap (option_map (λ texts. with_stream (table_key string_pool_name) entries (with_stream (table_key string_data_name) texts m))) t

pub pool_added : (pool : Pool) (old new : Streams) (entries texts data_key pool_key : List ℕ) → is_refused pool ≡ false → pool_stream pool ≡ Some entries → data_stream pool ≡ Some texts
    → data_key ≡ table_key string_data_name → pool_key ≡ table_key string_pool_name → new ≡ (old ++ (data_key, texts) ∷ []) ++ (pool_key, entries) ∷ []
    → (m : Streams) → pool_put pool (with_renewed old m) ≡ Some (with_renewed new m)
pool_added pool old new entries texts data_key pool_key told e t data_is pool_is new_is m =
    pool_put_is pool (with_renewed old m) entries texts told e t
    ∙ ap Some (sym (
    ap (λ rs. with_renewed rs m) new_is
    ∙ renewed_last (old ++ (data_key, texts) ∷ []) pool_key entries m
    ∙ ap (with_stream pool_key entries) (renewed_last old data_key texts m)
    ∙ (λ i. with_stream (pool_is i) entries (with_stream (data_is i) texts (with_renewed old m)))))

-- their names
keys_behind : (rs : Streams) (data_key texts pool_key entries : List ℕ)
    → keys_in ((rs ++ (data_key, texts) ∷ []) ++ (pool_key, entries) ∷ []) ≡ keys_in rs ++ data_key ∷ pool_key ∷ []
keys_behind [] data_key texts pool_key entries = refl
keys_behind (r ∷ rs) data_key texts pool_key entries = ap (λ (keys : List (List ℕ)). r.0 ∷ keys) (keys_behind rs data_key texts pool_key entries)

pub pool_keys_added : (old new : Streams) (entries texts data_key pool_key : List ℕ)
    → data_key ≡ table_key string_data_name → pool_key ≡ table_key string_pool_name → new ≡ (old ++ (data_key, texts) ∷ []) ++ (pool_key, entries) ∷ []
    → keys_in new ≡ keys_in old ++ pool_keys
pool_keys_added old new entries texts data_key pool_key data_is pool_is new_is =
    ap keys_in new_is
    ∙ keys_behind old data_key texts pool_key entries
    ∙ (λ i. keys_in old ++ data_is i ∷ pool_is i ∷ [])
