-- The stream of the summary among those of a transform.
use Rattle.std.proofs.Common.{◌≡◌, ℕ, false, List, Some, refl, sym, ap, subst, ◌∙◌}
use Rattle.std.specs.FinMap.{entries, insert}
use Rattle.msi_container_format.specs.Streams as maps
use Rattle.msi_pool.specs.Pool.{Pool}
use Rattle.msi_database_schema.specs.Keys.{summary_key}
use Rattle.msi_database_storage.specs.Streams.{Streams, with_stream}
use Rattle.msi_database_storage.proofs.StreamLemmas.{names_put, sorted_put}
use Rattle.msi_transform.specs.Transforms.{TransformDef}
use Rattle.msi_transform.specs.TransformFiles.{is_table_key}
use Rattle.msi_transform.specs.WrittenTransforms.{IsMade, with_summary}
use Rattle.msi_transform.proofs.WrittenLemmas.{inserted}

-- it is put among the other streams
pub summary_put : (m n : maps.Streams) (key bytes put : List ℕ) → n ≡ insert m key put → key ≡ summary_key → put ≡ bytes → entries n ≡ with_stream summary_key bytes (entries m)
summary_put m n key bytes put is named held = inserted m n key put is ∙ ap (λ k. with_stream k put (entries m)) named
    ∙ ap (λ (b : List ℕ). with_stream summary_key b (entries m)) held

-- its name is none of a table's
summary_no_table : is_table_key summary_key ≡ false
unfolding Rattle.std.specs.Str.chars
summary_no_table = refl

-- what is made stays so
pub summary_made : (t : TransformDef) (bytes : List ℕ) → IsMade t → IsMade (with_summary bytes t)
summary_made t bytes h = record {
  small_id = h.small_id;
  page = h.page;
  texts = h.texts;
  free = h.free;
  counts = h.counts;
  many = h.many;
  tables = h.tables;
  streams = sorted_put summary_key bytes t.streams h.streams;
  others = names_put (λ name. is_table_key name ≡ false) summary_key (Some bytes) t.streams summary_no_table h.others;
}

module _ (page_id : ℕ) (pool : Pool) (tables : List (List ℕ × List ℕ)) where
  abbrev parts : Streams → TransformDef
  parts streams = record { page_id = page_id; pool = pool; tables = tables; streams = streams }

  module _ (m n : maps.Streams) (t : TransformDef) (view : parts (entries m) ≡ t) (key bytes put : List ℕ) (is : n ≡ insert m key put) (named : key ≡ summary_key) (held : put ≡ bytes) where
    pub summary_set : parts (entries n) ≡ with_summary bytes t
    summary_set = ap parts (summary_put m n key bytes put is named held) ∙ ap (with_summary bytes) view

    pub set_made : IsMade t → IsMade (parts (entries n))
    set_made h = subst IsMade (sym summary_set) (summary_made t bytes h)
